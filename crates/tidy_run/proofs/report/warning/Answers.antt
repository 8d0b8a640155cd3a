use Rattle.std.proofs.Common.{false, map, ap, subst}
use Rattle.std.specs.Cow.{cow_str_bytes}
use Rattle.std.proofs.lemmas.Result.{IfOk-weaker}
use Rattle.annotate_snippets.specs.declared.snippet.Element.{Element}
use Rattle.tidy_run.specs.Findings.{finding_of}
use Rattle.tidy_run.specs.Report.{IsGroupOf, IsWarning}
use Rattle.annotate_snippets.specs.Levels.{warning_level}
use Rattle.tidy_run.proofs.ToldLemmas.{group_of}
use Rattle.tidy_run.proofs.report.warning.Goals as goal

pub returns : goal.returns
returns c =
    let snippet = c.in_ok-snippet.snippet in
    let title = c.primary_title.ensures in
    let is = group_of c.element.result warning_level c.args.title.now false c.primary_title.result c.from.result
    c.element.ensures.title c.element.ensures.level c.element.ensures.elements title.level (ap cow_str_bytes title.text) title.id title.untrusted in
    record {
      told = IfOk-weaker c.element.result (IsGroupOf warning_level c.args.title.now false c.from.result)
          (IsWarning c.args.path.now c.args.source.now c.args.title.now (map finding_of c.args.edits.now))
          (λ g of. record {
            snippet = snippet;
            of_file = c.in_ok-snippet.ensures.of_file;
            marks = c.in_ok-snippet.ensures.marks;
            is = subst (λ (e : Element). IsGroupOf warning_level c.args.title.now false e g) c.from.ensures of;
          }) is;
    }
