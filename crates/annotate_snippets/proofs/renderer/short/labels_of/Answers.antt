use Rattle.std.proofs.Common.{arith, chars}
use Rattle.annotate_snippets.proofs.Common.{◌∙◌, ap, take, take_all, chars-nil, joined_labels, primary_labels}
use Rattle.annotate_snippets.proofs.ShortLemmas.{primary_labels-more}
use Rattle.annotate_snippets.proofs.renderer.short.labels_of.Goals as goal

pub loop-annotation-init : goal.loop-annotation-init
loop-annotation-init c = ap chars c.new-text.ensures.bytes ∙ chars-nil

pub loop-annotation-preserved : goal.loop-annotation-preserved
loop-annotation-preserved c =
    let marks = c.args.annotations.now in
    let i = c.loop-annotation.annotation-index in
    c.in_ok-push_label.ensures.added (primary_labels (take i marks)) c.loop-annotation.invariant
    ∙ ap joined_labels (primary_labels-more marks i c.annotation-item.result c.loop-annotation-test.true c.annotation-item.is)

pub returns : goal.returns
returns c = grind (arith, take_all, c.loop-annotation.invariant, c.loop-annotation.annotation-index, c.args.annotations.now, c.loop-annotation-test.false)
