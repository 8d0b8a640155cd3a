-- The stretches of a line that take a role, one after another, and the walk that counts the tabs before them.
use Rattle.snippet_suggest.proofs.Common.{◌≡◌, ℕ, ◌+◌, ◌-◌, ◌^◌, ◌<◌, ◌≤◌, eqb, true, List, [], ◌∷◌, ◌++◌, length, min}
use Rattle.snippet_suggest.proofs.Common.{take, drop, get_or, refl, sym, ap, ◌∙◌, arith, subst, count_by, count_by_more_no, count_by_more_yes}
use Rattle.snippet_suggest.proofs.Common.{IsUtf8-past_char, chars-nil, chars_past_char, IsUtf8, chars_rest, encode_utf8, ElementStyle, Cell, changed_within}
use Rattle.snippet_suggest.proofs.Common.{restyled, cells_restyled, SubstitutionHighlight, capped, TabCursor, stretch_cell, with_stretches, IsCursor}
use Rattle.snippet_suggest.proofs.Common.{length-drop, places, same_lists, take_more, set, get_or_at, length-append, changed_within_one, common_steps}
use Rattle.std.proofs.Common.{chars}
use mir.Val.{bool_byte}

-- ---- the last row of some

set_last : (above : List (List Cell)) (row new : List Cell) → set (above ++ row ∷ []) (length above) new ≡ above ++ new ∷ []
set_last [] row new = refl
set_last (x ∷ above) row new = ap (λ t. x ∷ t) (set_last above row new)

-- the last row of some
changed_last : (f : List Cell → List Cell) (above : List (List Cell)) (row : List Cell)
    → changed_within f (length above) (length above + 1) (above ++ row ∷ []) ≡ above ++ f row ∷ []
changed_last f above row =
    let rows = above ++ row ∷ [] in
    let r = length above in
    let within : r < length rows = omega (arith, length-append above (row ∷ [])) in
    changed_within_one f r rows row within ∙ ap (λ x. set rows r (f x)) (get_or_at above row [] row r refl) ∙ set_last above row (f row)

-- ---- the walk

-- it begins before the line
pub cursor_begins : (t : TabCursor) → IsUtf8 t.line.now → chars_rest t.rest ≡ t.line.now → t.passed ≡ 0 → t.tabs ≡ 0 → IsCursor t
cursor_begins t text rest none zeros = grind (arith, common_steps)

-- the character that it comes to
first_left : (cs left : List ℕ) (n c : ℕ) → c ∷ left ≡ drop n cs → (n < length cs) × (get_or cs n 0 ≡ c) × (left ≡ drop (n + 1) cs)
first_left cs left n c is =
    let long : length (c ∷ left) ≡ length cs - n = ap length is ∙ length-drop n cs in
    let within : n < length cs = omega (arith, long) in
    let here : n + 0 ≡ n = omega arith in
    let next : drop n cs ≡ get_or cs n 0 ∷ drop (n + 1) cs = same_lists _ _ (grind (arith, places)) (λ k d h. grind (arith, places)) in
    let both : c ∷ left ≡ get_or cs n 0 ∷ drop (n + 1) cs = is ∙ next in
    (within, cc, cc)

-- one tab more, or none
one_more : (cs : List ℕ) (n c tabs more now : ℕ) → n < length cs → get_or cs n 0 ≡ c → tabs ≡ capped (count_by (λ d. eqb d 9) (take n cs))
    → more ≡ bool_byte (eqb c 9) → now ≡ min (tabs + more) (2 ^ 64 - 1) → now ≡ capped (count_by (λ d. eqb d 9) (take (n + 1) cs))
one_more cs n c tabs more now within at counted adds sums = grind (arith, common_steps, count_by_more_yes, count_by_more_no)

-- a cursor that passes one more character counts it where it is a tab
pub cursor_next : (t now : TabCursor) (c more : ℕ) → IsCursor t → now.line.now ≡ t.line.now → chars_rest t.rest ≡ encode_utf8 c ++ chars_rest now.rest
    → now.passed ≡ t.passed + 1 → more ≡ bool_byte (eqb c 9) → now.tabs ≡ min (t.tabs + more) (2 ^ 64 - 1) → IsCursor now
cursor_next t now c more at line rest passed adds sums =
    let cs : List ℕ = chars t.line.now in
    let stands : chars (chars_rest t.rest) ≡ c ∷ chars (chars_rest now.rest) = chars_past_char (chars_rest t.rest) (chars_rest now.rest) c at.left_text rest in
    let is = first_left cs (chars (chars_rest now.rest)) t.passed c (sym stands ∙ at.left) in
    let same : chars now.line.now ≡ cs = ap chars line in
    record {
      text = subst IsUtf8 (sym line) at.text;
      left_text = IsUtf8-past_char (chars_rest t.rest) (chars_rest now.rest) c at.left_text rest;
      within = omega (arith, is.0, passed, ap length same);
      left = is.2 ∙ ap (λ n. drop n cs) (sym passed) ∙ ap (λ t. drop now.passed t) (sym same);
      counted = grind (arith, common_steps, cs, is, same, t.passed, t.tabs, now.tabs, is.0, is.1, at.counted, now.passed);
    }

-- what it counted before a character that it has come to, or at the line's end
pub cursor_there : (t : TabCursor) (k : ℕ) → IsCursor t → t.passed ≡ k → t.tabs ≡ capped (count_by (λ c. eqb c 9) (take k (chars t.line.now)))
cursor_there t k at there = grind arith

-- a cursor at the end has counted all tabs
pub cursor_ended : (t : TabCursor) (k : ℕ) → IsCursor t → t.passed ≤ k → length (chars_rest t.rest) ≡ 0
    → t.tabs ≡ capped (count_by (λ c. eqb c 9) (take k (chars t.line.now)))
cursor_ended t k at few ended = grind (arith, common_steps, chars-nil, length-drop)

-- ---- the stretches

-- a row without stretches stays
pub with_none : (role : ElementStyle) (gutter : ℕ) (cs : List ℕ) (row : List Cell) → with_stretches role gutter cs [] row ≡ row
unfolding with_stretches
with_none role gutter cs row = refl

-- and one more stretch at the end
pub with_append : (role : ElementStyle) (gutter : ℕ) (cs : List ℕ) (ss : List SubstitutionHighlight) (s : SubstitutionHighlight) (row : List Cell)
    → with_stretches role gutter cs (ss ++ s ∷ []) row ≡ changed_within (restyled role true) (stretch_cell gutter cs s.start)
    (stretch_cell gutter cs s.end) (with_stretches role gutter cs ss row)
unfolding with_stretches
with_append role gutter cs [] s row = refl
with_append role gutter cs (t ∷ ss) s row =
    with_append role gutter cs ss s (changed_within (restyled role true) (stretch_cell gutter cs t.start) (stretch_cell gutter cs t.end) row)

-- one that is empty changes nothing
pub empty_stretch : (f : Cell → Cell) (at : ℕ) (row : List Cell) → changed_within f at at row ≡ row
unfolding changed_within
empty_stretch f at row = same_lists _ _ (grind (arith, places)) (λ k d h. grind (arith, places))

-- so far, and one more
pub painted_begun : (role : ElementStyle) (gutter : ℕ) (cs : List ℕ) (ss : List SubstitutionHighlight) (above : List (List Cell)) (last : List Cell)
    (now : List (List Cell)) → now ≡ above ++ last ∷ [] → now ≡ above ++ with_stretches role gutter cs (take 0 ss) last ∷ []
painted_begun role gutter cs ss above last now is = grind (arith, with_none)

-- with one more stretch painted the stretches so far are painted
pub painted_next : (role : ElementStyle) (gutter : ℕ) (cs : List ℕ) (ss : List SubstitutionHighlight) (i : ℕ) (d : SubstitutionHighlight)
    (above : List (List Cell)) (last : List Cell) (now new : List (List Cell)) (row start end : ℕ) → i < length ss → row ≡ length above
    → now ≡ above ++ with_stretches role gutter cs (take i ss) last ∷ [] → start ≡ stretch_cell gutter cs (get_or ss i d).start
    → end ≡ stretch_cell gutter cs (get_or ss i d).end → new ≡ cells_restyled now row start end role true
    → new ≡ above ++ with_stretches role gutter cs (take (i + 1) ss) last ∷ []
painted_next role gutter cs ss i d above last now new row start end within here is starts ends paints =
    grind (arith, common_steps, changed_last, with_append, take_more)

-- an empty stretch is passed, and paints nothing
pub passed_next : (role : ElementStyle) (gutter : ℕ) (cs : List ℕ) (ss : List SubstitutionHighlight) (i : ℕ) (d : SubstitutionHighlight)
    (above : List (List Cell)) (last : List Cell) (now : List (List Cell)) → i < length ss
    → now ≡ above ++ with_stretches role gutter cs (take i ss) last ∷ [] → (get_or ss i d).start ≡ (get_or ss i d).end
    → now ≡ above ++ with_stretches role gutter cs (take (i + 1) ss) last ∷ []
passed_next role gutter cs ss i d above last now within is empty = grind (arith, common_steps, empty_stretch, with_append, take_more)
