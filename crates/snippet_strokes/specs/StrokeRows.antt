-- The rows of a line that is shown: its source row with what stands in it, and the rows of its strokes below it.
use Rattle.std.specs.Prelude.{◌≡◌, ℕ, ◌+◌, ◌-◌, ◌<◌, ◌≤◌, ◌&&◌, nat_le, nat_lt, Bool, List, ◌++◌, length, map, max, replicate, if◌then◌else◌}
use Rattle.std.specs.List.{slice_index_or, list_any, range_with_len}
use Rattle.snippet_parts.specs.declared.entries.LineAnnotation.{LineAnnotation}
use Rattle.snippet_style.specs.declared.glyphs.DecorStyle.{DecorStyle}
use Rattle.snippet_style.specs.declared.glyphs.DecorStyle.TheVariants.{Ascii, Unicode}
use Rattle.snippet_style.specs.declared.role.ElementStyle.{ElementStyle}
use Rattle.snippet_style.specs.declared.role.ElementStyle.TheVariants.{LineNumber, UnderlinePrimary, UnderlineSecondary}
use Rattle.snippet_style.specs.Glyphs.{elision_of}
use Rattle.snippet_style.specs.Cell.{Cell, SPACE, text_cells, gives_way}
use Rattle.snippet_grid.specs.Layout.{Layout}
use Rattle.snippet_strokes.specs.EntryMarks.{IsBarCell}
use Rattle.snippet_model.specs.AnnotationKind.{is_primary}
use Rattle.snippet_model.specs.FreeRows.{IsFree}

-- what stands in place of lines that are left out, before any bar is drawn beside it
abbrev pub bare_elision_row : DecorStyle → ℕ → List Cell
bare_elision_row Ascii gutter = text_cells LineNumber (elision_of Ascii)
bare_elision_row Unicode gutter = replicate (gutter + 1) SPACE ++ text_cells LineNumber (elision_of Unicode)

-- the row that stands for lines that are left out, with the bars that run past them; it ends left of the code
pub record IsElisionRow (layout : Layout) (row : List Cell) : Type 0 where
  pub left : (c : ℕ) → c < layout.gutter + 3 → slice_index_or row c SPACE ≡ slice_index_or (bare_elision_row layout.decor layout.gutter) c SPACE
  pub bar_cells : (c : ℕ) → layout.gutter + 3 ≤ c → c < layout.code → IsBarCell layout.decor (slice_index_or row c SPACE)
  pub ends : length row ≤ layout.code
  pub free : IsFree row

-- whether an entry asks to highlight the character at this cell, where so many columns are dropped: the cell is that of one of the entry's
-- characters. No cell left of the code is
abbrev pub highlights : ℕ → ℕ → ℕ → LineAnnotation → Bool
highlights code dropped c e =
    e.highlight_source && (nat_le (max code (code + e.start.char - dropped)) c && nat_lt c (code + e.end.char - dropped))

-- a source row with the characters highlighted that entries ask for: a cell has the role of primary marks where a primary entry asks for it,
-- else that of marks for context where an entry asks and the cell's role gives way
abbrev pub highlighted_row : ℕ → ℕ → List LineAnnotation → List Cell → List Cell
highlighted_row code dropped es plain =
    let role_at : ℕ → ElementStyle → ElementStyle = λ c role. if list_any (λ e. is_primary e.kind && highlights code dropped c e) es then UnderlinePrimary
    else (if list_any (highlights code dropped c) es && gives_way role then UnderlineSecondary else role) in
    map (λ c. let cell = slice_index_or plain c SPACE in record cell { role = role_at c cell.role }) (range_with_len 0 (length plain))
