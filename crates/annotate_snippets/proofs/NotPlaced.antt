-- What does not stand there: rows of suggestions in another order, with another number, or of another kind, contradict the definitions.
use Rattle.annotate_snippets.proofs.Common.{◌≡◌, ℕ, ◌≤◌, ◌==◌, not, true, false, if◌then◌else◌, List, [], ◌∷◌, ◌++◌, Vec, codes, get_or, length, map, take}
use Rattle.annotate_snippets.proofs.Common.{refl, sym, ap, subst, ◌∙◌, arith, append_cancel_left, All-head, All-tail, added_mark_of, char_of, placeholder_of}
use Rattle.annotate_snippets.proofs.Common.{removed_sign_of, separator_of, Cell, SPACE, text_cells, Ascii, Unicode, LineNumber, Quotation, Removal, Patch}
use Rattle.annotate_snippets.proofs.Common.{Snippet, start_of, line_of, trimmed_edit, kept_before, sandwich, Begins, Ends, Offers, Removes, SuggestionRow}
use Rattle.annotate_snippets.proofs.Common.{removed_number, Opening, one_word, one_word_gives, Global, decimal_digit, row_text, set_right}
use Rattle.annotate_snippets.proofs.Common.{DecorStyle, is_end, suggestion_rows, number_text, Renderer, NamedRow, RemovedLine, Other, RowName, others}
use Rattle.annotate_snippets.proofs.Common.{suggestion_head, plain_settings, Layout, ElementContext, HasStrokes, IsSuggestionRow, ShowsSuggestion, name_of_row}
use Rattle.std.specs.List.{All}
use Rattle.std.specs.Str.{chars}
use Rattle.snippet_splice.specs.ShownText.{shown_text}
use Rattle.annotate_snippets.proofs.NotOffered.{offering_row}

-- ---- rows in another order, with another number, or of another kind

-- the number of the removed line `foo`
foo_number : (v : Vec Patch Global) → removed_number (one_word v) 0 ≡ 1
unfolding shown_text trimmed_edit sandwich kept_before start_of line_of chars
foo_number v = refl

-- `foo` with `bar` in its place, in a suggestion that begins in a row of its own and whose gutter has one cell:
--
--       |
--     1 - foo
--     1 + bar
--       |
module _ (v : Vec Patch Global) (layout : Layout) (narrow : layout.gutter ≡ 1) (around : ElementContext) (opens : around.start ≡ Opening) where
  abbrev foo : Snippet Patch
  foo = one_word v

  -- so it has these rows
  abbrev foo_rows : List SuggestionRow
  foo_rows =
      Begins Opening ∷ Removes 0 1 (codes "foo") ∷ Offers 0 ∷ (if around.shared then [] else Ends (not (is_end around.next)) ∷ [])

  foo_rows_are : suggestion_rows around foo ≡ foo_rows
  foo_rows_are = cc (opens, (one_word_gives v).rows_are)

  -- rows that show it, after the row of its path: the second is that of the removed line, whatever it holds
  second_removed : {found : List Cell} → layout.decor ≡ Ascii → (first row : NamedRow) (rest : List NamedRow)
      → ShowsSuggestion plain_settings layout around found foo (others (suggestion_head plain_settings layout around foo) ++ (first ∷ row ∷ rest))
      → IsSuggestionRow plain_settings Ascii 1 foo (RemovedLine 0) row.cells
  second_removed ascii first row rest shown =
      let rows : List NamedRow = first ∷ row ∷ rest in
      let same : shown.after ≡ rows = append_cancel_left (others (suggestion_head plain_settings layout around foo)) shown.after rows (sym shown.rows_are) in
      let Named : DecorStyle → ℕ → NamedRow → Type 0 = λ decor gutter r. IsSuggestionRow plain_settings decor gutter foo r.name r.cells in
      let named : All (Named Ascii 1) rows = subst (λ gutter. All (Named Ascii gutter) rows) narrow
      (subst (λ decor. All (Named decor layout.gutter) rows) ascii (subst (All (Named layout.decor layout.gutter)) same shown.named)) in
      let names : map (λ (r : NamedRow). r.name) rows ≡ map (name_of_row foo) foo_rows = cc (same, shown.order, foo_rows_are) in
      let name : row.name ≡ RemovedLine 0 = ap (λ (ns : List RowName). get_or ns 1 Other) names in
      subst (λ n. IsSuggestionRow plain_settings Ascii 1 foo n row.cells) name
      (All-head (Named Ascii 1) row rest (All-tail (Named Ascii 1) first (row ∷ rest) named))

  -- so no rows show it in which the new line stands above the removed one:
  --
  --       |
  --     1 + bar
  --     1 - foo
  --       |
  new_line_above_removed : {found : List Cell} → layout.decor ≡ Ascii → (first row : NamedRow) (rest : List NamedRow) → row.cells ≡ offering_row (codes "bar")
      → ShowsSuggestion plain_settings layout around found foo (others (suggestion_head plain_settings layout around foo) ++ (first ∷ row ∷ rest)) → ⊥
  new_line_above_removed ascii first row rest is shown =
      let P : List Cell → Type 0 = λ cells. (get_or cells 2 SPACE).ch ≡ char_of (removed_sign_of Ascii) in
      let minus : added_mark_of Ascii ≡ char_of (removed_sign_of Ascii) = subst P is (second_removed ascii first row rest shown).minus in
      let same_sign : false ≡ true = ap (λ c. c == char_of (removed_sign_of Ascii)) minus in cc

  -- nor in which the removed line has another number:
  --
  --       |
  --     2 - foo
  --     1 + bar
  --       |
  removed_number_wrong : {found : List Cell} → layout.decor ≡ Ascii → (first row : NamedRow) (rest : List NamedRow)
      → row.cells ≡ text_cells LineNumber (codes "2") ++ SPACE ∷ text_cells Removal (codes "- ") ++ text_cells Quotation (codes "foo")
      → ShowsSuggestion plain_settings layout around found foo (others (suggestion_head plain_settings layout around foo) ++ (first ∷ row ∷ rest)) → ⊥
  removed_number_wrong ascii first row rest is shown =
      let one : number_text plain_settings true 1 1 ≡ codes "1" = ap (set_right 1) (decimal_digit 1 (omega arith)) in
      let number : number_text plain_settings true 1 (removed_number foo 0) ≡ codes "1" = ap (number_text plain_settings true 1) (foo_number v) ∙ one in
      let Begins_with : List ℕ → Type 0 = λ n. length n ≤ 2 → row_text (take (length n) row.cells) ≡ n in
      let begins : row_text (take 1 row.cells) ≡ codes "1" = subst Begins_with number (second_removed ascii first row rest shown).numbered (omega arith) in
      let digit : ◌≡◌ {A = ℕ} 50 49 = ap (λ (cs : List ℕ). get_or cs 0 0) (sym (ap (λ cells. row_text (take 1 cells)) is) ∙ begins) in
      absurd (omega (arith, digit))

  -- the first is that which it begins with
  first_begins : {found : List Cell} (r : Renderer) (first : NamedRow) (rest : List NamedRow)
      → ShowsSuggestion r layout around found foo (others (suggestion_head r layout around foo) ++ (first ∷ rest))
      → HasStrokes layout.decor 1 (Begins Opening) first.cells
  first_begins r first rest shown = grind (arith, append_cancel_left, foo_rows_are, shown.after, shown.rows_are, shown.strokes, first.cells)

  -- so nothing stands over it, as what stands for lines that are left out:
  --
  --     ...
  --     1 - foo
  --     1 + bar
  --       |
  gap_row_over_separator : {found : List Cell} → layout.decor ≡ Ascii → (first : NamedRow) (rest : List NamedRow)
      → first.cells ≡ text_cells LineNumber (codes "...")
      → ShowsSuggestion plain_settings layout around found foo (others (suggestion_head plain_settings layout around foo) ++ (first ∷ rest)) → ⊥
  gap_row_over_separator ascii first rest is shown =
      let P : List Cell → Type 0 = λ cells. (get_or cells 2 SPACE).ch ≡ separator_of Ascii in
      let dot : char_of (placeholder_of Ascii) ≡ separator_of Ascii = subst P is (subst (λ d. HasStrokes d 1 (Begins Opening) first.cells) ascii
      (first_begins plain_settings first rest shown) 2 (omega arith)) in
      let same_sign : false ≡ true = ap (λ c. c == separator_of Ascii) dot in cc

  -- nor does it close there:
  --
  --       ╰╴
  --     1 - foo
  --     1 + bar
  --       ╰╴
  suggestion_closes_the_wrong_way : {found : List Cell} (r : Renderer) → layout.decor ≡ Unicode → (first : NamedRow) (rest : List NamedRow)
      → first.cells ≡ SPACE ∷ SPACE ∷ text_cells LineNumber (codes "╰╴")
      → ShowsSuggestion r layout around found foo (others (suggestion_head r layout around foo) ++ (first ∷ rest)) → ⊥
  suggestion_closes_the_wrong_way r decor first rest is shown =
      let Begun : DecorStyle → Type 0 = λ d. HasStrokes d 1 (Begins Opening) first.cells in
      let P : List Cell → Type 0 = λ cells. (get_or cells 2 SPACE).ch ≡ char_of (codes "╭") in
      let corner : char_of (codes "╰") ≡ char_of (codes "╭") = subst P is (subst Begun decor (first_begins r first rest shown) 2 (omega arith)) in
      absurd (omega (arith, corner))
