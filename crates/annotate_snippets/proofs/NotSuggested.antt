-- Rows of suggestions with a wrong sign or a mark in a wrong place, on small reports, contradict the definitions of what rows show.
use Rattle.std.proofs.Common.{arith}
use Rattle.annotate_snippets.proofs.Common.{◌≡◌, ◌∙◌, ℕ, ◌==◌, not, false, true, refl, List, [], ◌∷◌, ◌++◌, Vec, codes, get_or}
use Rattle.annotate_snippets.proofs.Common.{replicate, sym, ap, Global, row_at, Cell, SPACE, text_cells, added_mark_of, changed_mark_of, separator_of, Ascii}
use Rattle.annotate_snippets.proofs.Common.{Addition, LineNumber, NoStyle, Removal, ElementStyle, Patch, Snippet, Opening, suggestion_cells, ascii}
use Rattle.annotate_snippets.proofs.Common.{put_in_cells, stroke, unfolded_cells, text_put_in, third_unfolded, is_end, suggestion_layout, suggestion_lines}
use Rattle.annotate_snippets.proofs.Common.{NamedRow, cells_of, plain_settings, ShowsSuggestion, Layout, ElementContext}

-- a suggestion that stands alone: it begins in a row of its own, and its last row is its own
record StandsAlone (around : ElementContext) : Type 0 where
  start : around.start ≡ Opening
  own : around.shared ≡ false

-- its rows are those of its value, over nothing
rows_alone : (layout : Layout) (around : ElementContext) (found : List Cell) (s : Snippet Patch) (lines : List (List Cell))
    → suggestion_layout plain_settings layout s ≡ ascii layout.code → StandsAlone around → lines ≡ suggestion_lines plain_settings layout around found s
    → lines ≡ suggestion_cells (ascii layout.code) Opening (not (is_end around.next)) s []
unfolding suggestion_cells
rows_alone layout around found s lines layout_is alone shown = grind (arith, around.next, around.start, alone.start, around.shared, layout.code, alone.own)

-- with a gutter of one cell its rows stand as in ASCII
narrow_layout : (layout : Layout) (s : Snippet Patch) → layout.gutter ≡ 1 → layout.decor ≡ Ascii → layout.label_lines ≡ false → layout.label_end ≡ 0
    → s.line_numbering ≡ true
    → suggestion_layout plain_settings layout s ≡ ascii layout.code
narrow_layout layout s narrow plain uncut unbroken numbered = grind (arith, layout.gutter, layout.code, layout.label_lines, layout.label_end, s.line_numbering)

-- ---- a mark beside what it belongs to

-- of `foo()`, with `x` put in before the bracket, no rows show the mark one cell to the right of `x`:
--
--     1 | foo(x)
--       |      +
marks_one_right : (v : Vec Patch Global) (layout : Layout) (around : ElementContext) (found : List Cell) (rows : List NamedRow) → layout.gutter ≡ 1
    → layout.decor ≡ Ascii → layout.label_lines ≡ false → layout.label_end ≡ 0 → StandsAlone around
    → (shown : ShowsSuggestion plain_settings layout around found (text_put_in v) rows)
    → row_at (cells_of shown.after) 2 ≡ stroke ++ replicate 6 SPACE ++ text_cells Addition (codes "+") → ⊥
marks_one_right v layout around found rows narrow plain uncut unbroken alone shown wrong =
    let s : Snippet Patch = text_put_in v in
    let all = rows_alone layout around found s (cells_of shown.after) (narrow_layout layout s narrow plain uncut unbroken refl) alone shown.cells
    ∙ put_in_cells layout.code v (not (is_end around.next)) in
    let At : List Cell → ℕ = λ row. (get_or row 8 SPACE).ch in
    let mark : ◌≡◌ {A = ℕ} 32 (added_mark_of Ascii) = sym (ap At wrong) ∙ ap (λ (rs : List (List Cell)). At (row_at rs 2)) all in
    let same_mark : false ≡ true = ap (λ c. c == added_mark_of Ascii) mark in
    cc

-- ---- a sign beside a line that no edit touches

-- of `a`, `b` and `c`, with `x` in place of `c`, unfolded, no rows show the first line as changed:
--
--     1 ~ a
--     2 | b
--     3 + x
kept_shown_as_changed : (v : Vec Patch Global) (layout : Layout) (around : ElementContext) (found : List Cell) (rows : List NamedRow) → layout.gutter ≡ 1
    → layout.decor ≡ Ascii → layout.label_lines ≡ false → layout.label_end ≡ 0
    → StandsAlone around → (shown : ShowsSuggestion plain_settings layout around found (third_unfolded v) rows)
    → row_at (cells_of shown.after) 1 ≡ text_cells LineNumber (codes "1") ++ SPACE ∷ text_cells Addition (codes "~ ")
    ++ text_cells NoStyle (codes "a") → ⊥
kept_shown_as_changed v layout around found rows narrow plain uncut unbroken alone shown wrong =
    let s : Snippet Patch = third_unfolded v in
    let all = rows_alone layout around found s (cells_of shown.after) (narrow_layout layout s narrow plain uncut unbroken refl) alone shown.cells
    ∙ unfolded_cells layout.code v (not (is_end around.next)) in
    let At : List Cell → ℕ = λ row. (get_or row 2 SPACE).ch in
    let sign : changed_mark_of Ascii ≡ separator_of Ascii = sym (ap At wrong) ∙ ap (λ (rs : List (List Cell)). At (row_at rs 1)) all in
    let same_sign : false ≡ true = ap (λ c. c == separator_of Ascii) sign in
    cc

-- nor in another role: what is put in place of `c` isn't shown as removed
--
--     3 + x
removal_for_addition : (v : Vec Patch Global) (layout : Layout) (around : ElementContext) (found : List Cell) (rows : List NamedRow) → layout.gutter ≡ 1
    → layout.decor ≡ Ascii → layout.label_lines ≡ false → layout.label_end ≡ 0 → StandsAlone around
    → (shown : ShowsSuggestion plain_settings layout around found (third_unfolded v) rows)
    → (get_or (row_at (cells_of shown.after) 3) 4 SPACE).role ≡ Removal → ⊥
removal_for_addition v layout around found rows narrow plain uncut unbroken alone shown wrong =
    let s : Snippet Patch = third_unfolded v in
    let all = rows_alone layout around found s (cells_of shown.after) (narrow_layout layout s narrow plain uncut unbroken refl) alone shown.cells
    ∙ unfolded_cells layout.code v (not (is_end around.next)) in
    let Role : List (List Cell) → ElementStyle = λ rs. (get_or (row_at rs 3) 4 SPACE).role in
    let role : Removal ≡ Addition = sym wrong ∙ ap Role all in
    cc
