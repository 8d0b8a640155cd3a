use Rattle.std.proofs.Common.{ℕ, List}
use Rattle.std.specs.List.{flat_map}
use Rattle.annotate_snippets.specs.declared.snippet.Group.{Group}
use Rattle.tidy_run.specs.Findings.{findings_of}
use Rattle.tidy_run.specs.Report.{Told, told_of}
use Rattle.tidy_run.proofs.WrittenLemmas.{texts_of_told}
use Rattle.tidy_run.proofs.run.rendered.Goals as goal

pub returns : goal.returns
returns g c =
    let told : List ℕ → List Told = λ s. flat_map (λ rule. let dyn = goal.Rule-dyn g (rule.vtable, rule.value) in told_of (dyn.title_of rule.value)
    (findings_of (dyn.finds rule.value s) s)) c.args.rules.now in
    let groups : List Group = c.in_ok-groups.groups.items in
    record {
      shows = texts_of_told c.args.path.now c.args.source.now (told c.args.source.now) groups c.args.sheets.now c.drawn.result
          c.in_ok-groups.ensures.told c.drawn.ensures.none c.drawn.ensures.shows c.drawn.ensures.laws;
    }
