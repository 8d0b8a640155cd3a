-- A source row is a line of the text: it holds no line feed, whatever its source is, and whether it is cut or not.
use Rattle.std.proofs.lemmas.Grind.{common_steps}
use Rattle.annotate_snippets.proofs.Common.{◌≡◌, ℕ, zero, suc, ◌+◌, ◌-◌, ◌<◌, ◌≤◌, ◌==◌, Bool, true, false, cond, Option, None}
use Rattle.annotate_snippets.proofs.Common.{Some, List, [], ◌∷◌, ◌++◌, All, length, take, drop, get_or, replicate, refl, sym, ap, subst, ◌∙◌}
use Rattle.annotate_snippets.proofs.Common.{arith, inl, inr, cow_str_bytes, option_map_or, cases_lt, get_or-drop, get_or-map, get_or-take, length-drop}
use Rattle.annotate_snippets.proofs.Common.{length-map, All-append, All-cons, All-drop, All-from_get_or, All-head, All-nil, All-replicate, All-tail, All-take}
use Rattle.annotate_snippets.proofs.Common.{All-weaker, row_text, Cell, SPACE, written, placeholder_of, separator_of, DecorStyle, Ascii, Unicode, norm}
use Rattle.annotate_snippets.proofs.Common.{decimal-all, AreReplaced, chars_at, covered_columns, inner_part, reaching, uncovered_part, window}
use Rattle.annotate_snippets.proofs.Common.{shown_number, LineNumbers, Anonymized, Hidden, Shown, Annotation, Snippet, Renderer, Layout, line_numbers}
use Rattle.annotate_snippets.proofs.Common.{number_text, ShowsSourceLine, cells_left, margin_in, HasNoFeed, each-fails, Margin}
use Rattle.annotate_snippets.proofs.MarginWords.{room_of}
use Rattle.annotate_snippets.proofs.OneLineTexts.{HoldsNoFeed, IsNoFeed}
use Rattle.annotate_snippets.proofs.FeedLaws.{at_any, bar_cell}
use Rattle.annotate_snippets.proofs.PathFeedLaws.{alone, cells_plain, digit_plain, norm-plain}

-- ---- windows

-- no character of what stands in place of a part of a line is one
pub placeholder_plain : (decor : DecorStyle) → All IsNoFeed (placeholder_of decor)
placeholder_plain Ascii = each-fails (λ c. c == 10) (placeholder_of Ascii) refl
placeholder_plain Unicode = each-fails (λ c. c == 10) (placeholder_of Unicode) refl

written_plain : (xs : List ℕ) (at : ℕ) (new : List ℕ) → All IsNoFeed xs → All IsNoFeed new → All IsNoFeed (written 32 xs at new)
unfolding written
written_plain xs at new plain own =
    let blanks : List ℕ = replicate (at - length xs) 32 in
    let before : All IsNoFeed (take at (xs ++ blanks)) = grind (arith, common_steps, All-take, blanks, All-append, All-replicate) in
    All-append IsNoFeed _ _ (All-append IsNoFeed (take at (xs ++ blanks)) new before own) (All-drop IsNoFeed (at + length new) xs plain)

begun_plain : (placeholder : List ℕ) (columns : Option ℕ) (text : List ℕ) → All IsNoFeed placeholder → All IsNoFeed text
    → All IsNoFeed (option_map_or (λ n. cond (length text == 0) placeholder (written 32 placeholder n text)) columns text)
begun_plain placeholder None text own plain = plain
begun_plain placeholder (Some columns) text own plain =
    either (length text == 0) placeholder (written 32 placeholder columns text) own (written_plain placeholder columns text own plain)
  where
    either : (b : Bool) (xs ys : List ℕ) → All IsNoFeed xs → All IsNoFeed ys → All IsNoFeed (cond b xs ys)
    either true xs ys one other = one
    either false xs ys one other = other

ended_plain : (placeholder : List ℕ) (at : Option ℕ) (text : List ℕ) → All IsNoFeed placeholder → All IsNoFeed text
    → All IsNoFeed (option_map_or (λ n. written 32 text n placeholder) at text)
ended_plain placeholder None text own plain = plain
ended_plain placeholder (Some at) text own plain = written_plain text at placeholder plain own

uncovered_plain : (left : ℕ) (placeholder inner : List ℕ) → All IsNoFeed inner → All IsNoFeed (uncovered_part left placeholder inner)
uncovered_plain left placeholder inner plain = either (left == 0) inner (drop (reaching _ inner) inner) plain (All-drop IsNoFeed _ inner plain)
  where
    either : (b : Bool) (xs ys : List ℕ) → All IsNoFeed xs → All IsNoFeed ys → All IsNoFeed (cond b xs ys)
    either true xs ys one other = one
    either false xs ys one other = other

-- the window of a text that holds no line feed holds none
pub window_plain : (placeholder : List ℕ) (room left right : ℕ) (text : List ℕ) → All IsNoFeed placeholder → All IsNoFeed text
    → All IsNoFeed (window placeholder room left right text)
window_plain placeholder room left right text own plain =
    let inner : List ℕ = inner_part room left right text in
    let kept : All IsNoFeed inner = All-take IsNoFeed _ _ (All-drop IsNoFeed _ text plain) in
    ended_plain placeholder _ _ own (begun_plain placeholder (covered_columns left placeholder inner) _ own (uncovered_plain left placeholder inner kept))

-- and neither does one of which stretches gave their place to a placeholder
pub replaced_plain : (placeholder : List ℕ) (n : ℕ) (before after : List ℕ) → All IsNoFeed placeholder → AreReplaced placeholder n before after
    → All IsNoFeed before → All IsNoFeed after
replaced_plain placeholder zero before after own is plain = subst (All IsNoFeed) (sym is) plain
replaced_plain placeholder (suc n) before after own (inl same) plain = subst (All IsNoFeed) (sym same) plain
replaced_plain placeholder (suc n) before after own (inr replaced) plain =
    let front : List ℕ = replaced.0 in
    let stretch : List ℕ = replaced.1 in
    let back : List ℕ = replaced.2 in
    let whole : All IsNoFeed (front ++ stretch ++ back) = subst (All IsNoFeed) replaced.3 plain in
    let first : All IsNoFeed front = left_of front stretch (left_of (front ++ stretch) back whole) in
    let last : All IsNoFeed back = right_of (front ++ stretch) back whole in
    let now : All IsNoFeed (front ++ placeholder ++ back) =
    All-append IsNoFeed (front ++ placeholder) back (All-append IsNoFeed front placeholder first own) last in
    replaced_plain placeholder n (front ++ placeholder ++ back) after own replaced.4 now
  where
    left_of : (xs ys : List ℕ) → All IsNoFeed (xs ++ ys) → All IsNoFeed xs
    left_of [] ys all = All-nil IsNoFeed
    left_of (x ∷ xs) ys all = All-cons IsNoFeed x xs (All-head IsNoFeed x (xs ++ ys) all) (left_of xs ys (All-tail IsNoFeed x (xs ++ ys) all))

    right_of : (xs ys : List ℕ) → All IsNoFeed (xs ++ ys) → All IsNoFeed ys
    right_of [] ys all = all
    right_of (x ∷ xs) ys all = right_of xs ys (All-tail IsNoFeed x (xs ++ ys) all)

-- ---- the row

-- nor of what the gutter shows beside a line
pub number_plain : (numbers : LineNumbers) (gutter n : ℕ) → All IsNoFeed (shown_number numbers gutter n)
number_plain Shown gutter n = grind (arith, common_steps, All-append, All-replicate, All-weaker, digit_plain, decimal-all)
number_plain Anonymized gutter n = grind (arith, common_steps, All-append, All-replicate, All-cons)
number_plain Hidden gutter n = All-replicate IsNoFeed gutter 32 refl

separator_plain : (decor : DecorStyle) → All IsNoFeed (separator_of decor ∷ [])
separator_plain Ascii = alone (separator_of Ascii) refl
separator_plain Unicode = alone (separator_of Unicode) refl

left_plain : (decor : DecorStyle) (gutter : ℕ) (shown : List ℕ) → All IsNoFeed shown → HasNoFeed (cells_left decor gutter shown)
left_plain decor gutter shown plain = grind (arith, common_steps, All-append, cells_plain, All-replicate, separator_plain)

-- a row whose characters from a cell on hold none has none there
code_plain : (code : ℕ) (row : List Cell) → All IsNoFeed (row_text (drop code row)) → (c : ℕ) → code ≤ c → c < length row → HoldsNoFeed (get_or row c SPACE)
code_plain code row plain c right within =
    let n : ℕ = c - code in
    let inside : n < length (drop code row) = omega (arith, within, right, length-drop code row) in
    let Ch : Cell → ℕ = λ cell. cell.ch in
    let holds : IsNoFeed (get_or (row_text (drop code row)) n 32) = plain n 32 (omega (arith, inside, length-map (drop code row) Ch)) in
    let same : get_or (row_text (drop code row)) n 32 ≡ Ch (get_or (drop code row) n SPACE) = get_or-map Ch (drop code row) n SPACE 32 inside in
    let there : get_or (drop code row) n SPACE ≡ get_or row (code + n) SPACE = get_or-drop code row n SPACE in
    let at : code + n ≡ c = omega (arith, right) in subst IsNoFeed (same ∙ ap Ch (there ∙ ap (λ i. get_or row i SPACE) at)) holds

-- a source row holds no line feed where the characters of its line hold none, and that is so where stretches gave their place to a
-- placeholder too
pub source_one_line : (r : Renderer) (layout : Layout) (s : Snippet Annotation) (k dropped : ℕ) (row : List Cell) → ShowsSourceLine r layout s k dropped row
    → All IsNoFeed (chars_at (cow_str_bytes s.source.text) k) → HasNoFeed row
source_one_line r layout s k dropped row shows plain =
    let placeholder : List ℕ = placeholder_of layout.decor in
    let room : ℕ = room_of r layout in
    let margin : Margin = margin_in r layout s in
    let line : List ℕ = norm (chars_at (cow_str_bytes s.source.text) k) in
    let shown : List ℕ = row_text (drop layout.code row) in
    let own : All IsNoFeed placeholder = placeholder_plain layout.decor in
    let windowed : All IsNoFeed (window placeholder margin.term_width margin.computed_left margin.computed_right line) =
    window_plain placeholder margin.term_width margin.computed_left margin.computed_right line own
    (norm-plain (chars_at (cow_str_bytes s.source.text) k) plain) in
    let text : All IsNoFeed shown = replaced_plain placeholder _ _ shown own shows.window.shown_is windowed in
    let number : List ℕ = number_text r s.line_numbering layout.gutter (s.line_start + k) in
    let left : HasNoFeed (cells_left layout.decor layout.gutter number) = left_plain layout.decor layout.gutter number
    (number_plain (line_numbers r s.line_numbering) layout.gutter (s.line_start + k)) in
    All-from_get_or HoldsNoFeed row SPACE (λ c within. elim (cases_lt c (layout.gutter + 2)) [
      | inl before ↦ subst HoldsNoFeed (ap (λ cells. get_or cells c SPACE) (sym shows.left) ∙ get_or-take (layout.gutter + 2) row c SPACE before)
          (at_any (cells_left layout.decor layout.gutter number) left c)
      | inr after ↦ elim (cases_lt c layout.code) [
        | inr right ↦ code_plain layout.code row text c (omega (arith, right)) within
        | inl bars ↦ elim (cases_lt c (layout.gutter + 3)) [
          | inl gap ↦ subst HoldsNoFeed (sym (ap (λ n. get_or row n SPACE) (at_gap c (omega (arith, after)) gap) ∙ shows.space)) refl
          | inr past ↦ bar_cell layout.decor (get_or row c SPACE) (shows.bars c (omega (arith, past)) bars)
        ]
      ]
    ])
  where
    at_gap : (c : ℕ) → layout.gutter + 2 ≤ c → c < layout.gutter + 3 → c ≡ layout.gutter + 2
    at_gap c from to = omega (arith, from, to)
