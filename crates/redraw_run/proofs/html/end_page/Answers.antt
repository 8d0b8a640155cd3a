use Rattle.std.proofs.Common.{◌++◌, ◌∙◌, ap}
use Rattle.redraw_run.specs.HtmlDocument.{main_end, page_end}
use Rattle.redraw_run.proofs.Ending.{ends_printed}
use Rattle.redraw_run.proofs.html.end_page.Goals as goal

pub returns-in-Ok : goal.returns-in-Ok
returns-in-Ok g c =
    record {
      ends = ends_printed _ _ c.print_ending.result _ _
          (ap (λ l. main_end ++ (l ++ page_end)) (c.as_str.ensures.value ∙ c.in-Ok.ensures.value)) c.print_ending.ensures.prints;
    }
