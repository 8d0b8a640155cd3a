use Rattle.redraw_command.proofs.Shortening.{front_so}
use Rattle.redraw_run.specs.Marked.{IsChildMarked}
use Rattle.redraw_run.proofs.word.mark_words.Given as goal

-- the children so far are marked, and those from here on are as they were
abbrev pub invariant-loop-child : goal.invariant-loop-child
invariant-loop-child g l = front_so IsChildMarked l.child-index l.initial.child-items l.child-items
