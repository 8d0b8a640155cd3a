use Rattle.redraw_command.specs.LookAhead.{left_of}
use Rattle.redraw_run.specs.Deeds.{standing}
use Rattle.redraw_run.proofs.Lined.{ReadSoFar}
use Rattle.output_stream.specs.Standing.{known}
use Rattle.redraw_run.proofs.input.draw_pieces.Given as goal

-- what becomes of the pieces so far
abbrev pub invariant-loop-number : goal.invariant-loop-number
invariant-loop-number g l =
    ReadSoFar (left_of g.B.Read.remaining l.fn.ahead) (left_of g.B.Read.remaining l.ahead) l.number
    (standing l.fn.drawing (known g.W.Write.contents l.fn.out) (known g.V.Write.contents l.fn.err))
    (standing l.drawing (known g.W.Write.contents l.out) (known g.V.Write.contents l.err))
