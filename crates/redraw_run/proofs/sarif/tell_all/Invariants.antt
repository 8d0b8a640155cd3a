use Rattle.redraw_run.specs.Deeds.{TellsAll}
use Rattle.output_stream.specs.Standing.{known}
use Rattle.redraw_run.proofs.sarif.tell_all.Given as goal

-- what is told so far
abbrev pub invariant-loop-line : goal.invariant-loop-line
invariant-loop-line g l = TellsAll (known g.V.Write.contents l.fn.err) (known g.V.Write.contents l.err)
