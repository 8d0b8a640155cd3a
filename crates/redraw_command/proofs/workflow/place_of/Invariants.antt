use Rattle.std.proofs.Common.{◌≡◌, drop}
use Rattle.redraw_command.specs.Workflow.{first_primary}
use Rattle.redraw_command.proofs.workflow.place_of.Given as goal

-- none of the places so far is the one
abbrev pub invariant-loop-span : goal.invariant-loop-span
invariant-loop-span l = first_primary (drop l.span-index l.spans) ≡ first_primary l.spans
