-- The rows of a suggestion hold a line feed only where its path does.
use Rattle.std.proofs.lemmas.Grind.{common_steps}
use Rattle.annotate_snippets.proofs.Common.{◌≡◌, ℕ, zero, suc, ◌+◌, ◌-◌, ◌<◌, ◌≤◌, ◌==◌, Bool, true, false, Option, None, Some}
use Rattle.annotate_snippets.proofs.Common.{List, [], ◌∷◌, ◌++◌, All, take, drop, map, length, get_or, refl, sym, ap, subst, ◌∙◌, arith, inl}
use Rattle.annotate_snippets.proofs.Common.{inr, cow_str_bytes, AllZip, list_any, slice_index_or, IsUtf8, cases_Bool, cases_eq, cases_lt, eqb-true}
use Rattle.annotate_snippets.proofs.Common.{false≢true, nat_tests, get_or-drop, get_or-take, All-append, All-cons, All-from_get_or, All-head, All-nil}
use Rattle.annotate_snippets.proofs.Common.{All-tail, Line, lines_of, text_at, shown_number, LineNumbers, Anonymized, Hidden, Shown, Patch, Snippet, texts_of}
use Rattle.annotate_snippets.proofs.Common.{Cell, SPACE, text_cells, DecorStyle, Ascii, Unicode, ElementStyle, Addition, LineNumber, NoStyle, norm}
use Rattle.annotate_snippets.proofs.Common.{primary_start, each-fails, All-unmapped, line_cells, offered_cells, put, sign_of, first_given}
use Rattle.annotate_snippets.proofs.Common.{given_lines, given_text, shown_kind, suggestion_glyph_of, suggestion_role_of, Begins, Empty, Ends, Offers, Removes}
use Rattle.annotate_snippets.proofs.Common.{Skips, SuggestionRow, rows_of_suggestion, IsBareRow, IsMarkOrSpace, IsRemovedRow, is_stroke, Shows, IsBeforeSign}
use Rattle.annotate_snippets.proofs.Common.{IsLeftOver, body_cells, new_on, SuggestionLayout, SuggestionStart, SuggestionGlyph, Leading, Closing, Kept, Changed}
use Rattle.annotate_snippets.proofs.Common.{Added, body_all, same_ch, without_role, with_same, Renderer, ElementContext, Layout, path_bytes, suggestion_rows}
use Rattle.annotate_snippets.proofs.Common.{suggestion_layout, suggestion_lines, HasNoFeed, origin_layout, path_row, suggestion_head, capped_sum}
use Rattle.std.proofs.Common.{chars}
use Rattle.snippet_suggest.specs.Suggested.{suggested_cells as row_cells}
use Rattle.snippet_suggest.specs.declared.SuggestionStart.TheVariants as start
use Rattle.snippet_style.specs.declared.glyphs.SuggestionGlyph.TheVariants.{Opening, Next, Alone}
use Rattle.snippet_suggest.proofs.OrderLaws.{IsRowOf}
use Rattle.annotate_snippets.proofs.AreTexts.{IsTextSuggestion}
use Rattle.annotate_snippets.proofs.PageWords.{patch_place, suggestion_head_at, under_of}
use Rattle.annotate_snippets.proofs.OneLineTexts.{HoldsNoFeed, IsNoFeed, IsOneLineText}
use Rattle.annotate_snippets.proofs.FeedLaws.{at_any}
use Rattle.annotate_snippets.proofs.LineFeedLaws.{line_plain, row_written}
use Rattle.annotate_snippets.proofs.PathFeedLaws.{cells_plain, norm-plain, row_plain}
use Rattle.annotate_snippets.proofs.SourceFeedLaws.{number_plain}
use Rattle.annotate_snippets.proofs.SuggestionLines.{lines_each}

-- ---- characters

-- what stands left of the lines in a row that shows none is no line feed
stroke_plain : (decor : DecorStyle) (c : ℕ) → is_stroke decor c ≡ true → IsNoFeed c
stroke_plain decor c is =
    elim (cases_Bool (c == 10)) [
      | inl feed ↦ absurd (false≢true (sym (none decor) ∙ sym (ap (is_stroke decor) (eqb-true c 10 feed)) ∙ is))
      | inr other ↦ other
    ]
  where
    none : (decor : DecorStyle) → is_stroke decor 10 ≡ false
    none Ascii = refl
    none Unicode = refl

-- nor is a mark
mark_plain : (decor : DecorStyle) (c : ℕ) → IsMarkOrSpace decor c → IsNoFeed c
mark_plain decor c (inl space) = subst IsNoFeed (sym space) refl
mark_plain decor c (inr (inl plus)) = subst IsNoFeed (sym plus) refl
mark_plain Ascii c (inr (inr changed)) = subst IsNoFeed (sym changed) refl
mark_plain Unicode c (inr (inr changed)) = subst IsNoFeed (sym changed) refl

digit_or_mark : (decor : DecorStyle) (c : ℕ) → IsLeftOver decor c → IsNoFeed c
digit_or_mark decor c (inl mark) = mark_plain decor c mark
digit_or_mark decor c (inr digit) = grind (arith, nat_tests)

before_plain : (numbers : LineNumbers) (decor : DecorStyle) (c : ℕ) → IsBeforeSign numbers decor c → IsNoFeed c
before_plain numbers decor c (inl stroke) = stroke_plain decor c stroke
before_plain Shown decor c (inr digit) = grind (arith, nat_tests)
before_plain Anonymized decor c (inr letter) = subst IsNoFeed (sym letter) refl
before_plain Hidden decor c (inr none) = absurd none

glyph_plain : (decor : DecorStyle) (glyph : SuggestionGlyph) → All IsNoFeed (suggestion_glyph_of decor glyph)
glyph_plain decor glyph = each-fails (λ c. c == 10) (suggestion_glyph_of decor glyph) (none decor glyph)
  where
    none : (decor : DecorStyle) (glyph : SuggestionGlyph) → list_any (λ c. c == 10) (suggestion_glyph_of decor glyph) ≡ false
    none Ascii Opening = refl
    none Ascii Next = refl
    none Ascii Leading = refl
    none Ascii Closing = refl
    none Ascii Kept = refl
    none Ascii Alone = refl
    none Ascii Changed = refl
    none Ascii Added = refl
    none Unicode Opening = refl
    none Unicode Next = refl
    none Unicode Leading = refl
    none Unicode Closing = refl
    none Unicode Kept = refl
    none Unicode Alone = refl
    none Unicode Changed = refl
    none Unicode Added = refl

-- ---- rows that show no line, and those of removed lines

bare_one_line : (decor : DecorStyle) (gutter : ℕ) (row : List Cell) → IsBareRow decor gutter row → HasNoFeed row
bare_one_line decor gutter row bare =
    All-from_get_or HoldsNoFeed row SPACE (λ c within. elim (cases_lt c (gutter + 3)) [
      | inl left ↦ stroke_plain decor _ (bare.strokes c left)
      | inr right ↦ mark_plain decor _ (bare.marks c (omega (arith, right)))
    ])

removed_one_line : (numbers : LineNumbers) (decor : DecorStyle) (gutter : ℕ) (number text : List ℕ) (row : List Cell)
    → IsRemovedRow numbers decor gutter number text row → All IsNoFeed text → HasNoFeed row
removed_one_line numbers decor gutter number text row removed plain =
    All-from_get_or HoldsNoFeed row SPACE (λ c within. elim (cases_lt c (gutter + 1)) [
      | inl left ↦ before_plain numbers decor _ (removed.before c (omega (arith, left)))
      | inr right ↦ elim (cases_lt c (gutter + 3)) [
        | inl sign ↦ beside c (omega (arith, right)) sign
        | inr after ↦ elim (cases_lt c (gutter + 3 + length text)) [
          | inl inside ↦ in_text c (omega (arith, after)) inside
          | inr past ↦ digit_or_mark decor _ (removed.after c (omega (arith, past)))
        ]
      ]
    ])
  where
    shown : List Cell
    shown = take (length text) (drop (gutter + 3) row)

    shown_plain : HasNoFeed shown
    shown_plain = All-unmapped IsNoFeed (λ (cell : Cell). cell.ch) shown (subst (All IsNoFeed) (sym removed.begins) plain)

    in_text : (c : ℕ) → gutter + 3 ≤ c → c < gutter + 3 + length text → HoldsNoFeed (get_or row c SPACE)
    in_text c after inside =
        let n : ℕ = c - (gutter + 3) in
        let fits : n < length text = omega (arith, after, inside) in
        let here : gutter + 3 + n ≡ c = omega (arith, after) in
        subst HoldsNoFeed (get_or-take (length text) (drop (gutter + 3) row) n SPACE fits ∙ get_or-drop (gutter + 3) row n SPACE
        ∙ ap (λ i. get_or row i SPACE) here) (at_any shown shown_plain n)

    beside : (c : ℕ) → gutter + 1 ≤ c → c < gutter + 3 → HoldsNoFeed (get_or row c SPACE)
    beside c right sign =
        elim (cases_eq c (gutter + 1)) [
          | inl minus ↦ subst (λ i. HoldsNoFeed (get_or row i SPACE)) (sym minus) (subst IsNoFeed (sym removed.minus) refl)
          | inr other ↦
              let space : c ≡ gutter + 2 = omega (arith, right, sign, other) in
              subst (λ i. HoldsNoFeed (get_or row i SPACE)) (sym space) (subst IsNoFeed (sym removed.space) refl)
        ]

-- ---- rows that offer a line

put_plain : (role : ElementStyle) (cs : List ℕ) (at : ℕ) (row : List Cell) → HasNoFeed row → All IsNoFeed cs → HasNoFeed (put role cs at row)
unfolding put
put_plain role [] at row plain own = plain
put_plain role (c ∷ cs) at row plain own = row_written row at (text_cells role (c ∷ cs)) plain (cells_plain role (c ∷ cs) own)

-- nor does a row that holds the same characters
same_plain : (now row : List Cell) → map without_role now ≡ map without_role row → HasNoFeed row → HasNoFeed now
same_plain now row same plain = All-from_get_or HoldsNoFeed now SPACE (λ c within. subst IsNoFeed (sym (same_ch c now row same)) (at_any row plain c))

line_row_plain : (suggested : SuggestionLayout) (glyph : SuggestionGlyph) (number : ℕ) (line : List ℕ) → All IsNoFeed (chars line)
    → HasNoFeed (line_cells suggested glyph number line)
unfolding line_cells
line_row_plain suggested glyph number line plain =
    let g : ℕ = suggested.base.gutter in
    let signed : List Cell = put (suggestion_role_of glyph) (suggestion_glyph_of suggested.base.decor glyph) (g + 1) [] in
    let digits : List ℕ = shown_number suggested.numbers g number in
    let signed_plain : HasNoFeed signed = grind (arith, common_steps, put_plain, g, All-nil, glyph_plain, suggested.base.decor) in
    let numbered_plain = put_plain LineNumber digits 0 signed signed_plain (number_plain suggested.numbers g number) in
    put_plain NoStyle (norm (chars line)) (g + 3) (put LineNumber digits 0 signed) numbered_plain (norm-plain (chars line) plain)

-- a row that offers a line holds none
abbrev IsPlainOffer : SuggestionRow → List Cell → Type 0
IsPlainOffer (Begins at) row = Unit {0}
IsPlainOffer (Offers k) row = HasNoFeed row
IsPlainOffer Skips row = Unit {0}
IsPlainOffer (Removes i number text) row = Unit {0}
IsPlainOffer Empty row = Unit {0}
IsPlainOffer (Ends follows) row = Unit {0}

-- so it does in other roles
offer_kept : (shown : SuggestionRow) (now row : List Cell) → map without_role now ≡ map without_role row → IsPlainOffer shown row → IsPlainOffer shown now
offer_kept (Begins at) now row same plain = tt
offer_kept (Offers k) now row same plain = same_plain now row same plain
offer_kept Skips now row same plain = tt
offer_kept (Removes i number text) now row same plain = tt
offer_kept Empty now row same plain = tt
offer_kept (Ends follows) now row same plain = tt

-- the lines that are given, by number
given_line : (ls : List Line) (k : ℕ) → slice_index_or (texts_of ls) k [] ≡ text_at ls k
given_line [] k = refl
given_line (l ∷ ls) zero = refl
given_line (l ∷ ls) (suc k) = given_line ls k

-- no line of a text holds one
text_line_plain : (text : List ℕ) (k : ℕ) → IsUtf8 text → All IsNoFeed (chars (slice_index_or (texts_of (lines_of text)) k []))
text_line_plain [] k utf8 = line_plain [] 1 utf8
text_line_plain (b ∷ bs) k utf8 = subst (λ line. All IsNoFeed (chars line)) (sym (given_line (lines_of (b ∷ bs)) k)) (line_plain (b ∷ bs) k utf8)

module _ (suggested : SuggestionLayout) (s : Snippet Patch) (utf8 : IsUtf8 (given_text s)) where
  offer_plain : (under : List Cell) (shown : SuggestionRow) → IsPlainOffer shown (row_cells suggested s under shown)
  unfolding row_cells offered_cells
  offer_plain under (Begins at) = tt
  offer_plain under (Offers k) =
      let line : List ℕ = slice_index_or (given_lines s) k [] in
      let glyph : SuggestionGlyph = sign_of (shown_kind s) (length (given_lines s)) line (new_on s k) in
      let number : ℕ = capped_sum (s.line_start + first_given s) k in
      let row : List Cell = line_cells suggested glyph number line in
      same_plain _ row (with_same Addition suggested.base.gutter (chars line) (new_on s k) row)
      (line_row_plain suggested glyph number line (text_line_plain (given_text s) k utf8))
  offer_plain under Skips = tt
  offer_plain under (Removes i number text) = tt
  offer_plain under Empty = tt
  offer_plain under (Ends follows) = tt

  offers_body : (at : SuggestionStart) (under : List Cell) → AllZip IsPlainOffer (rows_of_suggestion at s) (body_cells suggested at s under)
  offers_body at under = body_all suggested s IsPlainOffer offer_kept at under offer_plain

-- ---- all rows

module _ (r : Renderer) (layout : Layout) (around : ElementContext) (found : List Cell) (s : Snippet Patch) where
  abbrev own_layout : SuggestionLayout
  own_layout = suggestion_layout r layout s

  abbrev IsShown : SuggestionRow → List Cell → Type 0
  IsShown = Shows own_layout (s.line_start + first_given s) (given_lines s)

  one_row : (shown : SuggestionRow) (row : List Cell) → IsUtf8 (cow_str_bytes s.source.text) → IsShown shown row → IsPlainOffer shown row → IsRowOf s shown
      → HasNoFeed row
  one_row (Begins at) row utf8 is offer own = bare_one_line own_layout.base.decor own_layout.base.gutter row is.bare
  one_row (Offers k) row utf8 is offer own = offer
  one_row Skips row utf8 is offer own = bare_one_line own_layout.base.decor own_layout.base.gutter row is.bare
  one_row (Removes i number text) row utf8 is offer own =
      let plain : All IsNoFeed (chars text) = subst (λ t. All IsNoFeed (chars t)) (sym own.1) (line_plain (cow_str_bytes s.source.text) i utf8) in
      removed_one_line own_layout.numbers own_layout.base.decor own_layout.base.gutter _ _ row is (norm-plain (chars text) plain)
  one_row Empty row utf8 is offer own = bare_one_line own_layout.base.decor own_layout.base.gutter row is.bare
  one_row (Ends follows) row utf8 is offer own = bare_one_line own_layout.base.decor own_layout.base.gutter row is.bare

  all_rows : (shown : List SuggestionRow) (rows : List (List Cell)) → IsUtf8 (cow_str_bytes s.source.text) → AllZip IsShown shown rows
      → AllZip IsPlainOffer shown rows → All (IsRowOf s) shown → All HasNoFeed rows
  all_rows [] [] utf8 are offers own = All-nil HasNoFeed
  all_rows [] (row ∷ rows) utf8 are offers own = elim are [ ]
  all_rows (x ∷ shown) [] utf8 are offers own = elim are [ ]
  all_rows (x ∷ shown) (row ∷ rows) utf8 are offers own =
      All-cons HasNoFeed row rows (one_row x row utf8 are.0 offers.0 (All-head (IsRowOf s) x shown own))
      (all_rows shown rows utf8 are.1 offers.1 (All-tail (IsRowOf s) x shown own))

  path_plain : (first : Bool) (path : Option (List ℕ)) → IsOneLineText path → All HasNoFeed (path_row r layout first s path)
  path_plain first None plain = All-nil HasNoFeed
  path_plain first (Some path) plain =
      All-cons HasNoFeed _ [] (row_plain (origin_layout r layout) (primary_start first) path (patch_place s) plain) (All-nil HasNoFeed)

  head_plain : (at : SuggestionStart) (first : Bool) → IsOneLineText (path_bytes s.path) → All HasNoFeed (suggestion_head_at at r layout first s)
  head_plain start.Opening first plain = All-nil HasNoFeed
  head_plain start.Next first plain = All-nil HasNoFeed
  head_plain start.Path first plain = path_plain first (path_bytes s.path) plain

  -- where its path holds no line feed, no row of a suggestion holds one
  pub suggestion_one_line : IsTextSuggestion s → AllZip IsShown (suggestion_rows around s) (suggestion_lines r layout around found s)
      → All (IsRowOf s) (suggestion_rows around s) → IsOneLineText (path_bytes s.path)
      → All HasNoFeed (suggestion_head r layout around s ++ suggestion_lines r layout around found s)
  suggestion_one_line texts are own plain =
      let lines : List (List Cell) = suggestion_lines r layout around found s in
      let offers : AllZip IsPlainOffer (suggestion_rows around s) lines = lines_each r layout around found s IsPlainOffer
      (offers_body own_layout s texts.given_utf8 around.start (under_of r layout around.start found)) tt in
      All-append HasNoFeed _ lines (head_plain around.start around.first plain) (all_rows (suggestion_rows around s) lines texts.utf8 are offers own)
