use Rattle.std.proofs.Common.{◌∙◌, ◌++◌, ap, map, sym}
use Rattle.std.proofs.lemmas.Result.{on_ok_weaker}
use Rattle.redraw_report.specs.declared.finding.MarkedSpan.{MarkedSpan}
use Rattle.redraw_report.specs.Report.{content_parts}
use Rattle.redraw_report.specs.View.{part_view}
use Rattle.redraw_report.proofs.OneMark.{one_place}
use Rattle.redraw_report.proofs.marks.add_marks.Goals as goal

pub returns-in-len1 : goal.returns-in-len1
returns-in-len1 c =
    let old = map part_view c.args.elements.now.items in
    let marks = c.args.marks.now in
    let one = one_place marks c.mark-item.result c.in-len1.len_at_least c.in-len1.len_below
    ∙ ap (λ (m : MarkedSpan). content_parts marks m.source m.source.content) (sym c.mark-item.is) in
    record { added = on_ok_weaker c.add_source.result (λ is. is ∙ ap (λ parts. old ++ parts) (sym one)) c.add_source.ensures.added }
