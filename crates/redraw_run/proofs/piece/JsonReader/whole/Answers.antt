use Rattle.redraw_command.specs.LookAhead.{ahead_of}
use Rattle.redraw_run.proofs.Pieced.{piece_stays}
use Rattle.redraw_run.proofs.piece.JsonReader.whole.Goals as goal

pub returns-in-None-clause-found : goal.returns-in-None-clause-found
returns-in-None-clause-found g c = λ left h.
    piece_stays left (ahead_of c.args.ahead.now) (ahead_of c.document.new.ahead) c.args.line c.in_ok-piece.ensures.grows h
