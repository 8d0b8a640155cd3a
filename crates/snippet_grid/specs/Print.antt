-- The text of a grid.
use Rattle.std.specs.Prelude.{ℕ, List, [], ◌∷◌, ◌++◌, map}
use Rattle.std.specs.List.{flat_map}
use Rattle.snippet_style.specs.Cell.{Cell}

-- the characters of a row's cells, in order
abbrev pub row_text : List Cell → List ℕ
row_text cells = map (λ cell. cell.ch) cells

-- the characters of some rows, each of which stands after a line feed
abbrev pub further_text : List (List Cell) → List ℕ
further_text rows = flat_map (λ row. 10 ∷ row_text row) rows

-- the characters of a grid's rows, joined by line feeds
abbrev pub plain_text : List (List Cell) → List ℕ
plain_text [] = []
plain_text (row ∷ rows) = row_text row ++ further_text rows
