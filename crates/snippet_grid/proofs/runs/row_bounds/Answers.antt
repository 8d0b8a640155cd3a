use Rattle.snippet_grid.proofs.Common.{ℕ, arith, inl, inr, cases_lt}
use Rattle.snippet_grid.proofs.RunLemmas.{none}
use Rattle.snippet_grid.proofs.runs.row_bounds.Goals as goal

-- of two places in a list, where all runs before the second are in later rows than those after the first, none stands between
pub returns-else-row-eq0-clause-bounds : goal.returns-else-row-eq0-clause-bounds
returns-else-row-eq0-clause-bounds c =
    let start : ℕ = c.rows_end-start.result in
    let end : ℕ = c.rows_end-end.result in (
      elim (cases_lt end start) [
        | inl wrong ↦ absurd (omega (
          arith,
          c.rows_end-end.ensures.below end none (omega arith)
              (omega (arith, c.rows_end-start.ensures.within)),
          c.rows_end-start.ensures.above end none wrong,
        ))
        | inr low ↦ low
      ],
      c.rows_end-end.ensures.within,
    )
