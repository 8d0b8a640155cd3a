use Rattle.redraw_command.specs.LookAhead.{ahead_of, left_of}
use Rattle.redraw_run.proofs.Pieced.{found_next}
use Rattle.redraw_run.proofs.piece.JsonReader.next_piece.Goals as goal

pub returns-in-Some-clause-found : goal.returns-in-Some-clause-found
returns-in-Some-clause-found g c =
    found_next (ahead_of c.document.new.ahead) c.in_ok-piece.field-0 c.in-Some.piece c.in-Some.is c.in_ok-piece.ensures.found
    (left_of g.B.Read.remaining c.args.ahead.now)
