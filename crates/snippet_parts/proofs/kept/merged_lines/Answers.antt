use Rattle.snippet_parts.proofs.Common.{common_steps, arith}
use Rattle.snippet_parts.proofs.KeptLemmas.{merged-all, merged-step}
use Rattle.snippet_parts.proofs.kept.merged_lines.Goals as goal

pub loop-stretch-preserved : goal.loop-stretch-preserved
loop-stretch-preserved c =
    merged-step c.args.stretches.now c.args.count c.loop-stretch.stretch-index (record { first = 0; last = 0 }) c.loop-stretch.next c.max.result
    c.min-from.result c.saturating_add.result c.min.result c.max-next.result c.loop-stretch.lines.items c.push_lines.new.lines.items c.loop-stretch-test.true
    c.requires.sorted c.loop-stretch.invariant c.max.ensures c.min-from.ensures c.saturating_add.ensures c.min.ensures c.max-next.ensures
    c.ranges.count.fits c.in_ok-push_lines.ensures.value

pub returns : goal.returns
returns c = grind (arith, common_steps, merged-all, c.loop-stretch.stretch-index, c.loop-stretch.next, c.loop-stretch-test.false, c.loop-stretch.invariant)
