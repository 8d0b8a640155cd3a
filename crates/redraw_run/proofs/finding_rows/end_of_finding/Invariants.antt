use Rattle.redraw_command.specs.LookAhead.{ahead_of, left_of}
use Rattle.redraw_run.proofs.Pieced.{GoesOn}
use Rattle.redraw_run.proofs.finding_rows.end_of_finding.Given as goal

-- what was left stays, more is ahead, and the finding goes on to within it
abbrev pub invariant-loop : goal.invariant-loop
invariant-loop g l =
    GoesOn (left_of g.B.Read.remaining l.fn.ahead) (ahead_of l.fn.ahead) (left_of g.B.Read.remaining l.ahead) (ahead_of l.ahead) l.first l.end
