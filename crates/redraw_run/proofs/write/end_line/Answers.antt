use Rattle.std.proofs.Common.{[], ◌∷◌, ◌++◌, ap, sym}
use Rattle.redraw_run.proofs.Done.{writes_cut, writes_then}
use Rattle.redraw_run.proofs.write.end_line.Goals as goal

pub returns-in-Ok : goal.returns-in-Ok
returns-in-Ok g c =
    record {
      writes = writes_then _ _ _ c.pass.result _ (10 ∷ []) _
          (ap (λ l. l ++ 10 ∷ []) (sym c.as_bytes.ensures.value)) c.in-Ok.ensures.writes
          c.pass.ensures.writes;
    }

pub returns-in-Err : goal.returns-in-Err
returns-in-Err g c =
    record {
      writes = (
        c.in-Err.ensures.writes.0,
        writes_cut _ _ _ (10 ∷ []) _ (ap (λ l. l ++ 10 ∷ []) (sym c.as_bytes.ensures.value)) c.in-Err.ensures.writes.1,
      );
    }
