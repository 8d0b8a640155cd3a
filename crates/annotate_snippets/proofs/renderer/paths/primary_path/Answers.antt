use Rattle.std.proofs.lemmas.Grind.{common_steps}
use Rattle.annotate_snippets.proofs.Common.{file_of_element, arith}
use Rattle.annotate_snippets.proofs.WalkLemmas.{filter_map-passed, no_file, primary_path-first, primary_path-none}
use Rattle.annotate_snippets.proofs.renderer.paths.primary_path.Goals as goal

pub returns-in-Cause : goal.returns-in-Cause
returns-in-Cause c = grind (arith, common_steps, primary_path-first)

pub returns-in-Origin : goal.returns-in-Origin
returns-in-Origin c = grind (arith, common_steps, primary_path-first)

pub loop-element-preserved : goal.loop-element-preserved
loop-element-preserved c =
    filter_map-passed file_of_element c.deref-element-items.result.now c.loop-element.element-index c.element-item.result c.loop-element.invariant
    c.loop-element-test.true c.element-item.is (no_file c.element-item.result c.in_default.not-Cause c.in_default.not-Origin)

pub returns : goal.returns
returns c =
    record {
      value = primary_path-none c.args.group.now c.deref-element-items.result.now c.loop-element.element-index c.deref-element-items.ensures.value
          c.loop-element.invariant c.loop-element-test.false;
    }
