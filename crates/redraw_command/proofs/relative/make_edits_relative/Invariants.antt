use Rattle.redraw_command.specs.Shortened.{IsEditFrom}
use Rattle.redraw_command.proofs.Shortening.{front_so}
use Rattle.redraw_command.proofs.relative.make_edits_relative.Given as goal

-- those so far have their paths shown, and those from here on are as they were
abbrev pub invariant-loop-edit : goal.invariant-loop-edit
invariant-loop-edit l = front_so (IsEditFrom l.folder) l.edit-index l.initial.edits l.edits
