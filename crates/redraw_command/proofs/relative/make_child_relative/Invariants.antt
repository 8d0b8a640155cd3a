use Rattle.redraw_command.specs.Shortened.{AreEditsFrom}
use Rattle.redraw_command.proofs.Shortening.{front_so}
use Rattle.redraw_command.proofs.relative.make_child_relative.Given as goal

-- the alternatives so far have their paths shown, and those from here on are as they were
abbrev pub invariant-loop-edits : goal.invariant-loop-edits
invariant-loop-edits l = front_so (AreEditsFrom l.folder) l.edits-index l.initial.edits-items l.edits-items
