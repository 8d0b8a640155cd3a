use Rattle.std.proofs.Common.{List, ◌++◌, ◌∙◌, ap, map}
use Rattle.std.proofs.lemmas.Result.{on_ok_weaker}
use Rattle.redraw_report.specs.Report.{content_parts}
use Rattle.redraw_report.specs.SourceKey.{places_in}
use Rattle.redraw_report.specs.View.{part_view}
use Rattle.redraw_report.specs.declared.finding.MarkedSpan.{MarkedSpan}
use Rattle.redraw_report.proofs.marks.add_group.Goals as goal

pub returns-in-Some : goal.returns-in-Some
returns-in-Some c =
    let old = map part_view c.args.elements.now.items in
    let source = c.args.source.now in
    record {
      added = on_ok_weaker c.add_source.result
          (λ is. is ∙ ap (λ (ms : List MarkedSpan). old ++ content_parts ms source source.content)
          (c.as_slice.ensures.value ∙ ap places_in c.in-Some.ensures.value ∙ c.requires.grouped c.key_of-key.result source c.key_of-key.ensures.of))
          c.add_source.ensures.added;
    }

pub returns-in-None : goal.returns-in-None
returns-in-None c =
    let old = map part_view c.args.elements.now.items in
    let source = c.args.source.now in
    record {
      added = on_ok_weaker c.add_source-in-None.result
          (λ is. is ∙ ap (λ (ms : List MarkedSpan). old ++ content_parts ms source source.content)
          (ap places_in c.in-None.ensures.value ∙ c.requires.grouped c.key_of-key.result source c.key_of-key.ensures.of))
          c.add_source-in-None.ensures.added;
    }
