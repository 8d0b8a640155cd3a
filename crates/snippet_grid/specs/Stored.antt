-- What is kept of a grid.
use Rattle.std.specs.Prelude.{ℕ, List, length}
use Rattle.snippet_grid.specs.Runs.{grid_shown}
use Rattle.snippet_grid.specs.declared.runs.Run.{Run}
use Rattle.snippet_style.specs.Cell.{Cell}

-- its rows of cells, and how many runs show them
pub record Stored : Type 0 where
  pub rows : List (List Cell)
  pub num_runs : ℕ

-- what runs store in rows of these lengths
abbrev pub stored : List ℕ → List Run → List ℕ → Stored
stored text runs widths = record { rows = grid_shown text runs widths; num_runs = length runs }
