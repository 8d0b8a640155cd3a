use Rattle.std.proofs.Common.{◌∷◌, ◌++◌, ◌+◌, ◌∙◌, List, ap, drop, map, sym}
use Rattle.std.proofs.lemmas.List.{at_drop_more}
use Rattle.redraw_report.specs.declared.finding.Remark.{Remark}
use Rattle.redraw_report.specs.Report.{sections_from}
use Rattle.redraw_report.specs.View.{section_view}
use Rattle.redraw_report.proofs.report.add_remarks.Goals as goal

pub loop-remark-preserved : goal.loop-remark-preserved
loop-remark-preserved c =
    let remarks = c.args.remarks.now in
    let i = c.loop-remark.remark-index in
    let gone = c.args.shows_gone in
    let before = map section_view c.loop-remark.groups.items in
    let last = section_view c.loop-remark.group in
    c.in_ok-group.ensures.taken (drop (i + 1) remarks)
    ∙ ap (λ (r : Remark). before ++ sections_from gone last (r ∷ drop (i + 1) remarks)) c.remark-item.is
    ∙ sym (at_drop_more (λ (rest : List Remark). before ++ sections_from gone last rest) remarks i c.remark-item.result c.loop-remark-test.true)
    ∙ c.loop-remark.invariant
