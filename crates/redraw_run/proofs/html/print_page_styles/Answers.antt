use Rattle.std.proofs.Common.{◌++◌, ap, sym}
use Rattle.redraw_run.specs.HtmlDocument.{body, page_styles}
use Rattle.redraw_run.proofs.Done.{prints_then, writes_cut}
use Rattle.redraw_run.proofs.html.print_page_styles.Goals as goal

pub returns-in-Ok : goal.returns-in-Ok
unfolding page_styles body
returns-in-Ok g c =
    record {
      prints = prints_then _ _ _ c.print.result _ body _ (ap (λ l. l ++ body) (sym c.as_bytes.ensures.value)) c.in-Ok.ensures.whole
          c.print.ensures.prints;
    }

pub returns-in-Err : goal.returns-in-Err
unfolding page_styles body
returns-in-Err g c =
    record { prints = writes_cut _ _ _ body _ (ap (λ l. l ++ body) (sym c.as_bytes.ensures.value)) c.in-Err.ensures.cut.broken }
