use Rattle.redraw_command.specs.Shortened.{IsChildFrom}
use Rattle.redraw_command.proofs.Shortening.{front_so}
use Rattle.redraw_command.proofs.relative.make_relative.Given as goal

-- the children so far have their paths shown, and those from here on are as they were
abbrev pub invariant-loop-child : goal.invariant-loop-child
invariant-loop-child l = front_so (IsChildFrom l.folder) l.child-index l.initial.child-items l.child-items
