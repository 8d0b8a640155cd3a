-- Rows that set parts of a report off from each other.
use Rattle.std.specs.Prelude.{ℕ, ◌+◌, List, [], ◌∷◌, ◌++◌, replicate}
use Rattle.snippet_style.specs.declared.glyphs.DecorStyle.{DecorStyle}
use Rattle.snippet_style.specs.declared.role.ElementStyle.TheVariants.{LineNumber}
use Rattle.snippet_style.specs.Glyphs.{separator_of, closing_of}
use Rattle.snippet_style.specs.Cell.{Cell, SPACE, text_cells}

-- the row that sets others off: the separator at cell gutter + 1, and nothing else
abbrev pub separator_row : DecorStyle → ℕ → List Cell
separator_row decor gutter = replicate (gutter + 1) SPACE ++ text_cells LineNumber (separator_of decor ∷ [])

-- the row that closes a group's window: in place of the separator, the closing glyph, and nothing else
abbrev pub closing_row : DecorStyle → ℕ → List Cell
closing_row decor gutter = replicate (gutter + 1) SPACE ++ text_cells LineNumber (closing_of decor)
