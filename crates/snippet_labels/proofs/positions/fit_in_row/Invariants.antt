use Rattle.snippet_labels.proofs.Common.{◌-◌, ◌^◌, All, drop, StandInRow}
use Rattle.snippet_labels.specs.Placing.{SharesRow}
use Rattle.snippet_labels.proofs.positions.fit_in_row.Given as goal

-- the entries need one row if those from here on do, left of what is still free
abbrev pub invariant-loop-entry : goal.invariant-loop-entry
invariant-loop-entry l = All SharesRow l.entries → StandInRow l.free (drop l.entry-index l.entries) → StandInRow (2 ^ 64 - 1) l.entries
