use Rattle.std.proofs.Common.{All}
use Rattle.annotate_snippets.specs.Fits.{GroupFits}
use Rattle.alloc_failures.proofs.refusals.refused_groups.Given as goal

abbrev pub invariant-loop-kind : goal.invariant-loop-kind
invariant-loop-kind l = All GroupFits l.groups.items
