use Rattle.snippet_strokes.proofs.Common.{◌-◌, arith, inl, inr, cases_lt}
use Rattle.snippet_strokes.proofs.BarLemmas.{beside_itself, beside_next}
use Rattle.snippet_strokes.proofs.bars.side_end.Goals as goal

pub loop-to-init : goal.loop-to-init
loop-to-init c =
    (omega arith, omega (arith, c.requires.some), λ k d low high. beside_itself c.args.bars.now c.args.from k d (omega (arith, low, high)))

pub loop-to-preserved : goal.loop-to-preserved
loop-to-preserved c =
    let inv = c.loop-to.invariant in
    let bars = c.args.bars.now in
    let to = c.loop-to.to in (
      omega (arith, inv.0),
      omega (arith, c.loop-to-test.true),
      λ k d low high. elim (cases_lt k to) [
        | inl before ↦ inv.2 k d low before
        | inr past ↦ beside_next bars c.args.from to k d _ inv.0 (omega (arith, past, high)) (omega (arith, c.loop-to-test.true))
            (inv.2 (to - 1) d (omega (arith, inv.0)) (omega (arith, inv.0))) (c.is_next.ensures.yes c.if-is_next.true)
      ],
    )
