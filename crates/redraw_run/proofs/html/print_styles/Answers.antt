use Rattle.std.proofs.Common.{◌++◌, ap, sym}
use Rattle.redraw_run.specs.HtmlDocument.{page_styles, styles}
use Rattle.redraw_run.proofs.Done.{prints_then, writes_cut}
use Rattle.redraw_run.proofs.html.print_styles.Goals as goal

pub returns-in-Ok : goal.returns-in-Ok
unfolding styles
returns-in-Ok g c =
    record {
      prints = prints_then _ _ _ c.print_page_styles.result _ page_styles _ (ap (λ l. l ++ page_styles) (sym c.as_bytes.ensures.value)) c.in-Ok.ensures.whole
          c.print_page_styles.ensures.prints;
    }

pub returns-in-Err : goal.returns-in-Err
unfolding styles
returns-in-Err g c =
    record { prints = writes_cut _ _ _ page_styles _ (ap (λ l. l ++ page_styles) (sym c.as_bytes.ensures.value)) c.in-Err.ensures.cut.broken }
