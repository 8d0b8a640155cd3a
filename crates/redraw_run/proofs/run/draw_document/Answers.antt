use Rattle.std.proofs.Common.{inr, refl}
use Rattle.program.specs.Inputs.{held_by}
use Rattle.redraw_run.specs.Inputs.{asked_names}
use Rattle.redraw_run.specs.Run.{ArePartlyPrinted}
use Rattle.redraw_run.proofs.Gone.{if_err_any}
use Rattle.redraw_run.proofs.run.draw_document.Goals as goal

pub returns-in_err-end-clause-cut : goal.returns-in_err-end-clause-cut
returns-in_err-end-clause-cut g c =
    if_err_any (ArePartlyPrinted (held_by g.R.File.Read.remaining g.R.Reader.Read.remaining) (asked_names c.args.names) _ _)
    c.from_residual-in_err-end.result (inr (inr record {
      opened = _;
      opens = c.in_ok-begin.ensures.prints;
      is_whole = c.in_ok-is_whole.is_whole;
      last = _;
      drawn = c.in_ok-is_whole.ensures.drawn;
      files = c.draw_inputs.new.drawing.page.files.entries;
      closes = c.in_err-end.ensures.ends;
      is = refl;
    }))
