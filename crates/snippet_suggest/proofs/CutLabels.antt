-- The rows of a suggestion are the same whether labels are cut or not: of a layout they take the gutter and the glyphs alone.
use Rattle.snippet_suggest.proofs.Common.{◌≡◌, ℕ, ◌-◌, Bool, false, List, [], ◌∷◌, ◌++◌, map, refl, ap, ◌∙◌}
use Rattle.snippet_grid.specs.Layout.{Layout}
use Rattle.snippet_style.specs.Cell.{Cell}
use Rattle.snippet_model.specs.declared.snippet.Patch.{Patch}
use Rattle.snippet_model.specs.declared.snippet.Snippet.{Snippet}
use Rattle.snippet_parts.specs.Numbered.{numbered_source}
use Rattle.snippet_lines.specs.Lines.{Source}
use Rattle.snippet_lines.specs.declared.number.LineNumbers.{LineNumbers}
use Rattle.snippet_splice.specs.Edits.{Edit}
use Rattle.snippet_splice.specs.declared.stretches.SubstitutionHighlight.{SubstitutionHighlight}
use Rattle.snippet_suggest.specs.Cells.{begin_cells, end_cells, gap_cells, line_cells, offered_cells, removed_cells}
use Rattle.snippet_suggest.specs.Given.{first_given, given_lines, shown_kind, trimmed_of}
use Rattle.snippet_suggest.specs.Marks.{edit_columns, mark_glyph_of, mark_start, patch_mark_end, with_mark, with_marks}
use Rattle.snippet_suggest.specs.RowOrder.{Begins, Empty, Ends, Offers, Removes, Skips, SuggestionRow, rows_of_suggestion}
use Rattle.snippet_suggest.specs.Suggested.{body_cells, cells_over, marked_edits, removed_in, suggested_cells, suggested_stretches, with_left_out}
use Rattle.snippet_suggest.specs.declared.layout.SuggestionLayout.{SuggestionLayout}
use Rattle.snippet_suggest.specs.declared.layout.SuggestionStart.{SuggestionStart}
use Rattle.snippet_suggest.specs.declared.layout.SuggestionStart.TheVariants as start
use Rattle.snippet_suggest.specs.declared.marks.PatchColumns.{PatchColumns}

module _ (layout : Layout) (numbers : LineNumbers) (cut : Bool) (s : Snippet Patch) where
  -- where it stands, where labels are cut or aren't
  abbrev S : Bool → SuggestionLayout
  S b = record { base = record layout { label_lines = b }; numbers = numbers }

  marks_same : (source : Source) (earlier : List PatchColumns) (es : List Edit) (row : List Cell)
      → with_marks (S cut) source earlier es row ≡ with_marks (S false) source earlier es row
  unfolding with_marks with_mark
  marks_same source earlier [] row = refl
  marks_same source earlier (e ∷ es) row =
      let c : PatchColumns = edit_columns source e in
      marks_same source (earlier ++ c ∷ []) es (with_mark (S cut) (mark_glyph_of layout.decor source.text e) (mark_start earlier c e.text)
      (patch_mark_end earlier c e.text) row)

  removed_same : (given : List (List ℕ)) (replaced : List SubstitutionHighlight) (number : ℕ) (text : List ℕ) (under : List Cell)
      → removed_in (S cut) given replaced number text under ≡ removed_in (S false) given replaced number text under
  unfolding removed_cells
  removed_same [] replaced number text under = refl
  removed_same (line ∷ given) replaced number text under = refl

  pub row_same : (under : List Cell) (row : SuggestionRow) → suggested_cells (S cut) s under row ≡ suggested_cells (S false) s under row
  unfolding suggested_cells begin_cells offered_cells line_cells gap_cells end_cells
  row_same under (Begins start.Opening) = refl
  row_same under (Begins start.Next) = refl
  row_same under (Begins start.Path) = refl
  row_same under (Offers k) = refl
  row_same under Skips = refl
  row_same under (Removes i number text) = removed_same (given_lines s) (suggested_stretches s (i - first_given s)) number text under
  row_same under Empty = refl
  row_same under (Ends follows) = marks_same (numbered_source s) [] (marked_edits (shown_kind s) (trimmed_of s)) (end_cells (S cut) follows)

  rows_same : (rows : List SuggestionRow) → map (suggested_cells (S cut) s []) rows ≡ map (suggested_cells (S false) s []) rows
  rows_same [] = refl
  rows_same (row ∷ rows) =
      ap (λ cells. cells ∷ map (suggested_cells (S cut) s []) rows) (row_same [] row)
      ∙ ap (λ below. suggested_cells (S false) s [] row ∷ below) (rows_same rows)

  over_same : (under : List Cell) (rows : List SuggestionRow)
      → cells_over (suggested_cells (S cut) s) under rows ≡ cells_over (suggested_cells (S false) s) under rows
  over_same under [] = refl
  over_same under (row ∷ rows) =
      ap (λ cells. cells ∷ map (suggested_cells (S cut) s []) rows) (row_same under row)
      ∙ ap (λ below. suggested_cells (S false) s under row ∷ below) (rows_same rows)

  left_out_same : (given : List (List ℕ)) (rows : List (List Cell)) → with_left_out (S cut) s given rows ≡ with_left_out (S false) s given rows
  left_out_same [] rows = refl
  left_out_same (line ∷ given) rows = refl

  pub body_same : (begin : SuggestionStart) (under : List Cell) → body_cells (S cut) begin s under ≡ body_cells (S false) begin s under
  unfolding body_cells
  body_same begin under =
      ap (with_left_out (S cut) s (given_lines s)) (over_same under (rows_of_suggestion begin s))
      ∙ left_out_same (given_lines s) (cells_over (suggested_cells (S false) s) under (rows_of_suggestion begin s))
