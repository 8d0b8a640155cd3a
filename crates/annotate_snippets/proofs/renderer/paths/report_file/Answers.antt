use Rattle.annotate_snippets.proofs.Common.{◌∙◌, ap, sym, option_copied, primary_path}
use Rattle.annotate_snippets.proofs.WalkLemmas.{filter_map-none, filter_map-passed, report_path-first}
use Rattle.annotate_snippets.proofs.renderer.paths.report_file.Goals as goal

pub returns-in-Some : goal.returns-in-Some
returns-in-Some c =
    record {
      value = report_path-first c.args.groups.now c.loop-group.group-index c.group-item.result c.in-Some.path.now c.loop-group.invariant
          c.loop-group-test.true c.group-item.is (sym c.primary_path.ensures.value ∙ ap option_copied c.in-Some.is);
    }

pub loop-group-preserved : goal.loop-group-preserved
loop-group-preserved c =
    filter_map-passed primary_path c.args.groups.now c.loop-group.group-index c.group-item.result c.loop-group.invariant c.loop-group-test.true c.group-item.is
    (sym c.primary_path.ensures.value ∙ ap option_copied c.in_default.is)

pub returns : goal.returns
returns c = record { value = sym (filter_map-none primary_path c.args.groups.now c.loop-group.group-index c.loop-group.invariant c.loop-group-test.false) }
