-- Where the parts of a group's rows stand.
use Rattle.std.specs.Prelude.{ℕ, ◌+◌, Bool}
use Rattle.snippet_style.specs.declared.glyphs.DecorStyle.{DecorStyle}

-- where the parts of a group's rows stand, in cells from 0: line numbers are right-aligned in the cells of the gutter, and the source's
-- column 0 stands at the cell `code`; the glyphs of its strokes; whether a mark's label is cut at its line feeds; and the cell before which
-- the pieces of labels are to end, which are broken where they would not: 0 where none is
pub record Layout : Type 0 where
  pub gutter : ℕ
  pub code : ℕ
  pub decor : DecorStyle
  pub label_lines : Bool
  pub label_end : ℕ

-- the cell of the separator, one right of the gutter
abbrev pub separator_cell : Layout → ℕ
separator_cell layout = layout.gutter + 1

-- the cell of the space after the separator
abbrev pub space_cell : Layout → ℕ
space_cell layout = layout.gutter + 2

-- the first cell right of the separator and the space after it
abbrev pub inner_cell : Layout → ℕ
inner_cell layout = layout.gutter + 3

-- the cell of a bar of this depth: that of depth 1 is the first right of the separator and its space
abbrev pub bar_cell : Layout → ℕ → ℕ
bar_cell layout depth = layout.gutter + 2 + depth

-- the cell of a column of the source
abbrev pub code_cell : Layout → ℕ → ℕ
code_cell layout column = layout.code + column
