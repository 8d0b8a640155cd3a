use Rattle.snippet_shown.proofs.Common.{◌<◌, length, arith, IsGroupAsSet, all_zip_more}
use Rattle.snippet_shown.proofs.as_set.groups.groups_as_set.Goals as goal

pub loop-group-preserved : goal.loop-group-preserved
loop-group-preserved c =
    let within : c.loop-group.group-index < length c.args.groups.now = grind arith in
    all_zip_more (IsGroupAsSet c.args.feeds) c.args.groups.now c.loop-group.group-index c.loop-group.set.items _ c.group-item.result
    c.in_ok-group_as_set.field-0 within c.in_ok-push.ensures.items c.loop-group.invariant c.group-item.is c.in_ok-group_as_set.ensures.set
