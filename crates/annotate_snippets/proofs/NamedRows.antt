-- Rows with their names, and their cells.
use Rattle.annotate_snippets.proofs.Common.{◌≡◌, ℕ, List, [], ◌∷◌, ◌++◌, refl, ap, map-append, Cell, named_line, NamedRow, cells_of, lines_named, others}

-- rows that aren't named by a line
pub cells_of-others : (rows : List (List Cell)) → cells_of (others rows) ≡ rows
cells_of-others [] = refl
cells_of-others (row ∷ rows) = ap (λ rs. row ∷ rs) (cells_of-others rows)

pub lines_named-others : (rows : List (List Cell)) (more : List NamedRow) → lines_named (others rows ++ more) ≡ lines_named more
lines_named-others [] more = refl
lines_named-others (row ∷ rows) more = lines_named-others rows more

-- the cells of rows one after the other are those of both
pub cells_of-append : (xs ys : List NamedRow) → cells_of (xs ++ ys) ≡ cells_of xs ++ cells_of ys
cells_of-append xs ys = map-append (λ (row : NamedRow). row.cells) xs ys

-- and those of a line's rows are the rows
pub cells_of-line : (k : ℕ) (rows : List (List Cell)) → cells_of (named_line k rows) ≡ rows
cells_of-line k [] = refl
cells_of-line k (row ∷ below) = ap (λ rs. row ∷ rs) (cells_of-others below)
