use Rattle.std.proofs.Common.{◌++◌, ap, sym}
use Rattle.redraw_run.specs.HtmlDocument.{page_end}
use Rattle.redraw_run.proofs.Done.{prints_then, writes_cut}
use Rattle.redraw_run.proofs.html.print_ending.Goals as goal

pub returns-in-Ok : goal.returns-in-Ok
returns-in-Ok g c =
    record {
      prints = prints_then _ _ _ c.print_index.result _ (c.args.index.now ++ page_end) _
          (ap (λ l. l ++ (c.args.index.now ++ page_end)) (sym c.as_bytes.ensures.value)) c.in-Ok.ensures.whole c.print_index.ensures.prints;
    }

pub returns-in-Err : goal.returns-in-Err
returns-in-Err g c =
    record {
      prints = writes_cut _ _ _ (c.args.index.now ++ page_end) _ (ap (λ l. l ++ (c.args.index.now ++ page_end)) (sym c.as_bytes.ensures.value))
          c.in-Err.ensures.cut.broken;
    }
