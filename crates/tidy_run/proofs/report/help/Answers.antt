use Rattle.std.proofs.Common.{true, codes, map, ap, subst}
use Rattle.std.specs.Cow.{cow_str_bytes}
use Rattle.std.proofs.lemmas.Result.{IfOk-weaker}
use Rattle.annotate_snippets.specs.declared.snippet.Element.{Element}
use Rattle.tidy_run.specs.Findings.{finding_of}
use Rattle.tidy_run.specs.Report.{IsGroupOf, IsHelp}
use Rattle.annotate_snippets.specs.Levels.{help_level}
use Rattle.tidy_run.proofs.OfferLaws.{patched-mended}
use Rattle.tidy_run.proofs.ToldLemmas.{group_of}
use Rattle.tidy_run.proofs.report.help.Goals as goal

pub returns : goal.returns
returns c =
    let snippet = c.in_ok-snippet.snippet in
    let title = c.secondary_title.ensures in
    let is = group_of c.element.result help_level (codes "apply this") true c.secondary_title.result c.from.result
    c.element.ensures.title c.element.ensures.level c.element.ensures.elements title.level (ap cow_str_bytes title.text) title.id title.trusted in
    record {
      told = IfOk-weaker c.element.result (IsGroupOf help_level (codes "apply this") true c.from.result)
          (IsHelp c.args.path.now c.args.source.now (map finding_of c.args.edits.now))
          (λ g of. record {
            snippet = snippet;
            of_file = c.in_ok-snippet.ensures.of_file;
            patches = c.in_ok-snippet.ensures.patches;
            mends = patched-mended c.args.source.now (map finding_of c.args.edits.now) snippet.markers.items c.in_ok-snippet.ensures.patches c.requires.inside;
            is = subst (λ (e : Element). IsGroupOf help_level (codes "apply this") true e g) c.from.ensures of;
          }) is;
    }
