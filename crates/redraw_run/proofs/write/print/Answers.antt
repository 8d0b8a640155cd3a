use Rattle.std.proofs.Common.{[], ◌∷◌, ◌++◌, ap, sym}
use Rattle.redraw_run.proofs.Done.{ok_written, writes_cut, writes_then}
use Rattle.redraw_run.proofs.write.print.Goals as goal

pub returns-in-Ok-clause-writes : goal.returns-in-Ok-clause-writes
returns-in-Ok-clause-writes g c =
    writes_then _ _ _ c.end_line.result _ _ _
    (ap (λ l. l ++ (c.args.ending.now ++ 10 ∷ [])) (sym c.as_bytes.ensures.value)) c.in-Ok.ensures.writes c.end_line.ensures.writes

pub returns-in-Ok-clause-printed : goal.returns-in-Ok-clause-printed
returns-in-Ok-clause-printed g c =
    ok_written _ _ c.end_line.result _
    (writes_then _ _ _ c.end_line.result _ _ _
    (ap (λ l. l ++ (c.args.ending.now ++ 10 ∷ [])) (sym c.as_bytes.ensures.value)) c.in-Ok.ensures.writes c.end_line.ensures.writes)

pub returns-in-Err-clause-writes : goal.returns-in-Err-clause-writes
returns-in-Err-clause-writes g c = (
  c.in-Err.ensures.writes.0,
  writes_cut _ _ _ (c.args.ending.now ++ 10 ∷ []) _
      (ap (λ l. l ++ (c.args.ending.now ++ 10 ∷ [])) (sym c.as_bytes.ensures.value)) c.in-Err.ensures.writes.1,
)
