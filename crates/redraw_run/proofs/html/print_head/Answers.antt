use Rattle.std.proofs.Common.{◌++◌, ap, sym}
use Rattle.redraw_run.specs.HtmlDocument.{head, rules, styles}
use Rattle.redraw_run.proofs.Done.{prints_then, writes_cut}
use Rattle.redraw_run.proofs.html.print_head.Goals as goal

pub returns-in-Ok : goal.returns-in-Ok
unfolding head rules
returns-in-Ok g c =
    record {
      prints = prints_then _ _ _ c.print_styles.result _ styles _ (ap (λ l. l ++ styles) (sym c.as_bytes.ensures.value)) c.in-Ok.ensures.whole
          c.print_styles.ensures.prints;
    }

pub returns-in-Err : goal.returns-in-Err
unfolding head rules
returns-in-Err g c =
    record { prints = writes_cut _ _ _ styles _ (ap (λ l. l ++ styles) (sym c.as_bytes.ensures.value)) c.in-Err.ensures.cut.broken }
