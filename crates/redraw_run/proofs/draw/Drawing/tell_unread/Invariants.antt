use Rattle.redraw_run.specs.Telling.{TellsMany}
use Rattle.output_stream.specs.Standing.{known}
use Rattle.redraw_run.proofs.draw.Drawing.tell_unread.Given as goal

-- one message is told of each name so far
abbrev pub invariant-loop-name : goal.invariant-loop-name
invariant-loop-name g l = TellsMany l.name-index (known g.V.Write.contents l.fn.err) (known g.V.Write.contents l.err)
