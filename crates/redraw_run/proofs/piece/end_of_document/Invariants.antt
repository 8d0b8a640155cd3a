use Rattle.redraw_command.specs.LookAhead.{ahead_of, left_of}
use Rattle.redraw_run.proofs.Pieced.{Scanned}
use Rattle.redraw_run.proofs.piece.end_of_document.Given as goal

-- what was left stays, more is ahead, and all that was ahead was scanned
abbrev pub invariant-loop : goal.invariant-loop
invariant-loop g l =
    Scanned (left_of g.B.Read.remaining l.fn.ahead) (ahead_of l.fn.ahead) (left_of g.B.Read.remaining l.ahead) (ahead_of l.ahead) l.seen
