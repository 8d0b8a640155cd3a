use Rattle.snippet_shown.proofs.Common.{◌<◌, length, arith, IsElementAsSet, all_zip_more}
use Rattle.snippet_shown.proofs.as_set.groups.elements_as_set.Goals as goal

pub loop-element-preserved : goal.loop-element-preserved
loop-element-preserved c =
    let within : c.loop-element.element-index < length c.args.elements.now = grind arith in
    all_zip_more (IsElementAsSet c.args.feeds) c.args.elements.now c.loop-element.element-index c.loop-element.set.items _ c.element-item.result
    c.in_ok-element_as_set.field-0 within c.in_ok-push.ensures.items c.loop-element.invariant c.element-item.is c.in_ok-element_as_set.ensures.set
