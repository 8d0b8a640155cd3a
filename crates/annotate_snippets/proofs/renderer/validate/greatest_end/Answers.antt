use Rattle.std.proofs.lemmas.Grind.{common_steps}
use Rattle.annotate_snippets.proofs.Common.{ap, arith, length, take_all, length-source_lines, newline_count-le}
use Rattle.annotate_snippets.proofs.FaultLemmas.{added_more}
use Rattle.annotate_snippets.proofs.renderer.validate.greatest_end.Goals as goal

pub loop-patch-init : goal.loop-patch-init
loop-patch-init c = grind (arith, common_steps, length-source_lines, newline_count-le)

pub loop-patch-preserved : goal.loop-patch-preserved
loop-patch-preserved c =
    let more = added_more c.args.patches.now c.loop-patch.patch-index c.patch-item.result c.loop-patch-test.true c.patch-item.is in
    let most = c.in_ok-most-2.ensures in
    (omega (arith, more, c.loop-patch.invariant.0, most.1, ap length c.as_str.ensures.value), omega (arith, most.0, most.1))

pub returns : goal.returns
returns c = grind (arith, take_all, c.loop-patch.patch-index, c.args.patches.now, c.loop-patch.invariant.0, c.loop-patch.invariant.1)
