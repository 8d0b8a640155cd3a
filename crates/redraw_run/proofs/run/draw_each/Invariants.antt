use Rattle.std.proofs.Common.{take}
use Rattle.redraw_run.specs.Deeds.{standing}
use Rattle.program.specs.Inputs.{held_by}
use Rattle.redraw_run.specs.Inputs.{AreDrawn}
use Rattle.redraw_run.proofs.Named.{texts}
use Rattle.output_stream.specs.Standing.{known}
use Rattle.redraw_run.proofs.run.draw_each.Given as goal

-- the inputs so far are gone through
abbrev pub invariant-loop-name : goal.invariant-loop-name
invariant-loop-name g l =
    AreDrawn g.row.R-File.Denot g.row.R-Reader.Denot (held_by g.R.File.Read.remaining g.R.Reader.Read.remaining) (texts (take l.name-index l.names))
    l.is_whole (standing l.fn.drawing (known g.W.Write.contents l.fn.out) (known g.V.Write.contents l.fn.err))
    (standing l.drawing (known g.W.Write.contents l.out) (known g.V.Write.contents l.err))
