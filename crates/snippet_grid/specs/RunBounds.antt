-- How many runs show rows of cells: the fewest that can, and the most.
use Rattle.std.specs.Prelude.{ℕ, nat_eq, ◌+◌, ◌==◌, Bool, true, false, not, ◌&&◌, ◌||◌, if◌then◌else◌, List, [], ◌∷◌, Option, None, Some}
use Rattle.std.specs.Option.{option_eq}
use lib.Pointwise.{pointwise}
use Rattle.snippet_style.specs.Cell.{Cell, SPACE}
use Rattle.snippet_style.specs.declared.role.ElementStyle.{ElementStyle}
use Rattle.snippet_style.specs.declared.role.ElementStyle.TheVariants.{MainHeaderMsg, HeaderMsg, LineAndColumn, Quotation, NoStyle, LineNumber}
use Rattle.snippet_style.specs.declared.role.ElementStyle.TheVariants.{UnderlinePrimary, LabelPrimary, UnderlineSecondary, LabelSecondary, Level, Addition}
use Rattle.snippet_style.specs.declared.role.ElementStyle.TheVariants.{Removal}
use Rattle.snippet_style.specs.declared.role.LevelInner.{LevelInner}
use Rattle.snippet_style.specs.declared.role.LevelInner.TheVariants.{Error, Warning, Info, Note, Help}

-- what all cells of a run have in common: their role and their link
pub record Look : Type 0 where
  pub role : ElementStyle
  pub link : Option (List ℕ)

-- the look of a cell
abbrev pub look_of : Cell → Look
look_of cell = record { role = cell.role; link = cell.link }

-- whether two levels are the same, and two roles
abbrev pub same_level : LevelInner → LevelInner → Bool
same_level Error Error = true
same_level Warning Warning = true
same_level Info Info = true
same_level Note Note = true
same_level Help Help = true
same_level one other = false

abbrev pub same_role : ElementStyle → ElementStyle → Bool
same_role MainHeaderMsg MainHeaderMsg = true
same_role HeaderMsg HeaderMsg = true
same_role LineAndColumn LineAndColumn = true
same_role Quotation Quotation = true
same_role NoStyle NoStyle = true
same_role LineNumber LineNumber = true
same_role UnderlinePrimary UnderlinePrimary = true
same_role LabelPrimary LabelPrimary = true
same_role UnderlineSecondary UnderlineSecondary = true
same_role LabelSecondary LabelSecondary = true
same_role (Level one) (Level other) = same_level one other
same_role Addition Addition = true
same_role Removal Removal = true
same_role one other = false

-- whether two looks are the same
abbrev pub same_look : Look → Look → Bool
same_look one other = same_role one.role other.role && option_eq (pointwise nat_eq) one.link other.link

-- whether a run that reaches up to a cell, and has this look, can hold the cell too; without one, none can
abbrev pub goes_on : Option Look → Cell → Bool
goes_on None cell = false
goes_on (Some look) cell = same_look look (look_of cell)

-- whether a cell is an unstyled space without a link: it needs no run, since it is what stands where no run does
abbrev pub is_bare : Cell → Bool
is_bare cell = cell.ch == 32 && same_look (look_of cell) (look_of SPACE)

-- the fewest runs that can begin in the rest of a row, if a run of this look, or none, reaches up to it. A run goes on for as
-- long as the cells have its look; where it can't, each cell but a bare space begins one
abbrev pub fewest_after : Option Look → List Cell → ℕ
fewest_after before [] = 0
fewest_after before (cell ∷ cells) =
    (if goes_on before cell || is_bare cell then 0 else 1)
    + fewest_after (if not (goes_on before cell) && is_bare cell then None else Some (look_of cell)) cells

-- the most runs that can. Runs that touch differ in their look, so that one of the same look begins only after a bare space
-- that no run holds: where a run could go on over one, it ends before it, and the next cell, whatever it is, begins another
abbrev pub most_after : Option Look → List Cell → ℕ
most_after before [] = 0
most_after before (cell ∷ cells) =
    (if goes_on before cell then 0 else 1)
    + most_after (if goes_on before cell && is_bare cell then None else Some (look_of cell)) cells

-- the fewest runs that can show some rows
abbrev pub fewest_runs : List (List Cell) → ℕ
fewest_runs [] = 0
fewest_runs (row ∷ rows) = fewest_after None row + fewest_runs rows

-- the most runs that can show some rows
abbrev pub most_runs : List (List Cell) → ℕ
most_runs [] = 0
most_runs (row ∷ rows) = most_after None row + most_runs rows
