use Rattle.redraw_run.proofs.piece.JsonReader.object.Goals as goal

pub returns-in-Some : goal.returns-in-Some
returns-in-Some c = record { form = λ begins. (begins, rw c.in-Some.is at c.in_ok-log.ensures.reads) }
