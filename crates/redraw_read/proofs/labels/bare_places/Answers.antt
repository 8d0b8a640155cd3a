use Rattle.std.proofs.lemmas.Grind.{common_steps}
use Rattle.std.proofs.Common.{arith, sym, take}
use Rattle.std.proofs.lemmas.List.{length-take-le, take_all}
use Rattle.redraw_read.proofs.Targeted.{none-yet, places-next}
use Rattle.redraw_read.proofs.labels.bare_places.Goals as goal

pub loop-index-init : goal.loop-index-init
loop-index-init c = none-yet c.new-bare.result c.new-bare.ensures.empty

pub loop-index-preserved : goal.loop-index-preserved
loop-index-preserved c =
    let spans = c.args.spans.now in
    let i = c.loop-index.index in
    places-next c.add_bare.new.bare spans i c.index-spans-index.result c.loop-index-test.true c.index-spans-index.is
    (c.in_ok-add_bare.ensures.added (take i spans) c.loop-index.invariant (sym (length-take-le i spans (omega (arith, c.loop-index-test.true)))))

pub returns : goal.returns
returns c = grind (arith, common_steps, take_all, c.loop-index-test.false, c.loop-index.invariant)
