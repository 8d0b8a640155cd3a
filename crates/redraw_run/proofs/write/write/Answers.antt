use Rattle.redraw_run.proofs.write.write.Goals as goal

pub returns-in-Err : goal.returns-in-Err
returns-in-Err g c = record { writes = (tt, c.in-Err.ensures.cut.broken) }
