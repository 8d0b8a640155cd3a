-- A run that is put after all others.
use Rattle.snippet_grid.proofs.Common.{common_steps, ℕ, ◌≤◌, All, List, arith, set, get_or_past, FitIn, IsLast, IsRun, IsWidened, Precedes, Run}

-- each of the others stands before it
pub last_before : (text widths : List ℕ) (runs : List Run) (run : Run) → All (λ x. IsRun text x) runs → FitIn widths runs → IsLast widths run
    → All (λ x. Precedes x run) runs
last_before text widths runs run are fit last = grind (arith, common_steps, last.row, last.cell, run.row, get_or_past)

-- its row reaches to its end
pub last_widened : (widths : List ℕ) (run : Run) (end : ℕ) → IsLast widths run → run.cell ≤ end
    → IsWidened widths (set widths run.row end) run.row end
last_widened widths run end last after = grind (arith, common_steps, run.row, last.row, last.cell)
