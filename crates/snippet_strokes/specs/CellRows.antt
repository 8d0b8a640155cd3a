-- Rows that are kept cell by cell.
use Rattle.std.specs.Prelude.{List, map}
use Rattle.std.specs.Global.{Vec}
use Rattle.snippet_grid.specs.StyledChars.{cell_of}
use Rattle.snippet_grid.specs.declared.styled_char.StyledChar.{StyledChar}
use Rattle.snippet_style.specs.Cell.{Cell}

-- a row of characters in their roles, as cells
abbrev pub cells_of : Vec StyledChar → List Cell
cells_of row = map cell_of row.items
