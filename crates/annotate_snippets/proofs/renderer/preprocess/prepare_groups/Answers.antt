use Rattle.std.proofs.Common.{arith}
use Rattle.annotate_snippets.proofs.Common.{take_all, All-nil, All-same}
use Rattle.annotate_snippets.proofs.PreparedLemmas.{ArePrepared-push}
use Rattle.annotate_snippets.proofs.renderer.preprocess.prepare_groups.Goals as goal

pub loop-group-init : goal.loop-group-init
loop-group-init c = grind (arith, All-same, All-nil, c.in_ok-prepared.ensures.items, c.in_ok-prepared.prepared.items)

pub prepare_group-requires : goal.prepare_group-requires
prepare_group-requires c = grind (arith, c.group-item.is, c.requires.drawable, c.loop-group.group-index, c.group-item.result, c.loop-group-test.true)

pub loop-group-preserved : goal.loop-group-preserved
loop-group-preserved c =
    ArePrepared-push _ _ _ _ _ _ c.in_ok-push.ensures.items c.loop-group-test.true c.group-item.is c.in_ok-prepare_group.ensures.group c.loop-group.invariant
    c.in_ok-prepare_group.ensures.prepared

pub returns : goal.returns
returns c = grind (arith, take_all, c.loop-group.invariant, c.loop-group.group-index, c.args.groups.now, c.loop-group-test.false)
