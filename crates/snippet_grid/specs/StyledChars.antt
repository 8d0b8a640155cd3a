-- Characters in their roles.
use Rattle.std.specs.Prelude.{ℕ}
use Rattle.snippet_grid.specs.declared.styled_char.StyledChar.{StyledChar}
use Rattle.snippet_style.specs.Cell.{Cell, unlinked_cell}

-- the character
abbrev pub ch_of : StyledChar → ℕ
ch_of c = c.ch

-- the cell of a character in its role, with no link
abbrev pub cell_of : StyledChar → Cell
cell_of c = unlinked_cell c.role c.ch
