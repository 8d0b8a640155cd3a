use Rattle.snippet_parts.proofs.Common.{◌≤◌}
use Rattle.snippet_parts.proofs.snippet_map.reached.Given as goal

abbrev pub invariant-loop-marker : goal.invariant-loop-marker
invariant-loop-marker g l = l.start ≤ l.end
