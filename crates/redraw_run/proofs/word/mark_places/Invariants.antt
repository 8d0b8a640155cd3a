use Rattle.redraw_command.proofs.Shortening.{front_so}
use Rattle.redraw_run.specs.Marked.{IsPlaceMarked}
use Rattle.redraw_run.proofs.word.mark_places.Given as goal

-- those so far are marked, and those from here on are as they were
abbrev pub invariant-loop-span : goal.invariant-loop-span
invariant-loop-span g l = front_so IsPlaceMarked l.span-index l.initial.spans l.spans
