use Rattle.snippet_labels.proofs.Common.{◌-◌, ◌^◌, drop, BeginLeftOf}
use Rattle.snippet_labels.proofs.positions.begin_apart.Given as goal

-- the entries begin so if those from here on do, left of where the one before them begins
abbrev pub invariant-loop-entry : goal.invariant-loop-entry
invariant-loop-entry l = BeginLeftOf l.column (drop l.entry-index l.entries) → BeginLeftOf (2 ^ 64 - 1) l.entries
