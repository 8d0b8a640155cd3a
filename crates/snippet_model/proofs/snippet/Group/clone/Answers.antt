use Rattle.std.proofs.Common.{◌<◌, length, arith}
use Rattle.snippet_model.specs.Copies.{SameElement}
use Rattle.snippet_model.proofs.ZipLemmas.{all_zip_more}
use Rattle.snippet_model.proofs.snippet.Group.clone.Goals as goal

pub loop-element-preserved : goal.loop-element-preserved
loop-element-preserved c =
    let within : c.loop-element.element-index < length c.args.self.now.elements.items = grind arith in
    all_zip_more SameElement c.args.self.now.elements.items c.loop-element.element-index c.loop-element.elements.items _ c.element-item.result
    c.in_ok-clone.field-0 within c.in_ok-push.ensures.items c.loop-element.invariant (rw c.deref-element-items.ensures.value at c.element-item.is)
    c.in_ok-clone.ensures.same
