use Rattle.redraw_command.specs.Shortened.{IsPlaceFrom}
use Rattle.redraw_command.proofs.Shortening.{front_so}
use Rattle.redraw_command.proofs.relative.make_places_relative.Given as goal

-- those so far have their paths shown, and those from here on are as they were
abbrev pub invariant-loop-span : goal.invariant-loop-span
invariant-loop-span l = front_so (IsPlaceFrom l.folder) l.span-index l.initial.spans l.spans
