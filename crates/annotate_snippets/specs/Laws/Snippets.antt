-- What the rows of an annotated snippet show.
use Rattle.std.specs.Prelude.{◌≡◌, ℕ, ◌==◌, ◌&&◌, Bool, true, false, List, [], ◌∷◌, ◌++◌, All, Contains, Some, length, ◌-◌}
use Rattle.std.specs.List.{list_any}
use Rattle.std.specs.Cow.{cow_str_bytes}
use Rattle.std.specs.Option.{option_map}
use Rattle.snippet_grid.specs.Grid.{row_at}
use Rattle.snippet_style.specs.Cell.{Cell}
use Rattle.snippet_model.specs.declared.snippet.Snippet.{Snippet}
use Rattle.snippet_model.specs.declared.snippet.Annotation.{Annotation}
use Rattle.snippet_parts.specs.Annotated.{is_long}
use Rattle.snippet_parts.specs.Entries.{Ascends}
use Rattle.snippet_parts.specs.Kept.{shown_lines}
use Rattle.snippet_parts.specs.Marked.{first_line, last_line}
use Rattle.snippet_parts.specs.Mark.{is_marking, qualifies_for_marks}
use Rattle.snippet_style.specs.Glyphs.{placeholder_of}
use Rattle.snippet_strokes.specs.StrokeRows.{IsElisionRow}
use Rattle.annotate_snippets.specs.declared.renderer.Renderer.{Renderer}
use Rattle.snippet_grid.specs.Layout.{Layout}
use Rattle.annotate_snippets.specs.declared.renderer.element_context.ElementContext.{ElementContext}
use Rattle.annotate_snippets.specs.ElementContext.{closes_with}
use Rattle.annotate_snippets.specs.GraphicForm.{rows_of_lines}
use Rattle.annotate_snippets.specs.Page.{RowName, SourceRow, Elision, Other, NamedRow, lines_named, cells_of, rows_below, others}
use Rattle.annotate_snippets.specs.Laws.Bars.{ShowsBars}
use Rattle.annotate_snippets.specs.RowsWithoutSource.{cause_head, rows_after_cause}
use Rattle.annotate_snippets.specs.Laws.Lines.{is_uncut_line, ShowsSourceLine, IsRowBelow}
use Rattle.annotate_snippets.specs.Laws.Marks.{ShowsMarksOf}
use Rattle.annotate_snippets.specs.Laws.Labels.{ShowsLabels}
use Rattle.annotate_snippets.specs.Laws.Paths.{NamesLocation}

-- a source row of line k, with the row right below it, and all rows that belong to it: it shows the line, and where the line
-- qualifies for the promise on marks the row below has its marks. Where no entry of the line is cut, no label is lost
pub record ShowsLineAndMarks (r : Renderer) (layout : Layout) (s : Snippet Annotation) (k : ℕ) (row below : List Cell) (rows : List (List Cell)) : Type 0 where
  pub dropped : ℕ
  pub line : ShowsSourceLine r layout s k dropped row
  pub marks : qualifies_for_marks (r.term_width - layout.code) (length (placeholder_of layout.decor)) (cow_str_bytes s.source.text) s.markers.items k ≡ true
      → ShowsMarksOf layout.decor layout s k dropped below
  pub labels : is_uncut_line r layout s k dropped ≡ true → ShowsLabels layout.decor layout s k dropped rows

-- a row of an annotated snippet's lines, with the rows below it, is what its name says; the group's window may close with the
-- last one. A row in place of lines that are left out has, up to the bars, just the cells of what stands for such lines, so that it can't
-- be taken for the row of a line; bars that run past them, and nothing more
abbrev pub IsRowOf : Renderer → Layout → Bool → Snippet Annotation → RowName → List Cell → List NamedRow → Type 0
IsRowOf r layout closes s (SourceRow k) row rows = ShowsLineAndMarks r layout s k row (row_at (cells_of rows) 0) (rows_below rows)
IsRowOf r layout closes s Elision row rows = IsElisionRow layout row
IsRowOf r layout closes s Other row rows = IsRowBelow layout.decor layout (closes && length rows == 0) row
IsRowOf r layout closes s name row rows = ⊥

-- each row is what its name says
abbrev pub AreRowsOf : Renderer → Layout → Bool → Snippet Annotation → List NamedRow → Type 0
AreRowsOf r layout closes s [] = Unit {0}
AreRowsOf r layout closes s (row ∷ rows) =
    IsRowOf r layout closes s row.name row.cells rows × AreRowsOf r layout closes s rows

-- the rows show an annotated snippet: after the rows that it begins with stand the source rows of the lines that are shown,
-- each once and in order, those that are kept and each single line between two of them, with a row between where lines are
-- left out, and each row is what its name says; and below them what sets off a message, or closes the group. So each line on which
-- a span begins or ends has one source row, and source rows of greater lines stand lower. Where the snippet is of the group's
-- primary file and has a path and spans that are marked, none of several lines, the first row names the first of their places.
-- All rows of a line are what its entries, and the bars that are open above it, make of the row that holds the line alone; and no other
-- row stands there, neither above the first line nor below a row in place of lines. So beside each row between the first and the last
-- line of a span of several lines stands its bar
pub record ShowsSnippet (r : Renderer) (layout : Layout) (around : ElementContext) (s : Snippet Annotation) (rows : List NamedRow) : Type 0 where
  pub after : List NamedRow
  pub rows_are : rows ≡ others (cause_head r layout around s) ++ (after ++ others (rows_after_cause r layout around))
  pub origin : around.primary ≡ true → (path : List ℕ) → option_map cow_str_bytes s.path ≡ Some path → list_any (λ a. is_marking a.kind) s.markers.items ≡ true
      → All (λ a. is_long (cow_str_bytes s.source.text) a ≡ false) s.markers.items → NamesLocation r layout s path (row_at (cells_of rows) 0)
  pub lines : lines_named after ≡ shown_lines s.fold (cow_str_bytes s.source.text) s.markers.items
  pub ends : All (λ a. Contains (lines_named after) (first_line (cow_str_bytes s.source.text) a)
      × Contains (lines_named after) (last_line (cow_str_bytes s.source.text) a)) s.markers.items
  pub ordered : Ascends (lines_named after)
  pub named : AreRowsOf r layout (closes_with around) s after
  pub are : after ≡ rows_of_lines r layout (closes_with around) s [] (shown_lines s.fold (cow_str_bytes s.source.text) s.markers.items)
  pub bars : ShowsBars layout s after
