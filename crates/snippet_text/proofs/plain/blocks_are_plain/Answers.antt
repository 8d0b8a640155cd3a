use Rattle.std.proofs.Common.{◌+◌, ◌-◌, ◌≡◌, All, arith, drop, length, subst, take}
use Rattle.snippet_text.specs.Plain.{IsPlain}
use Rattle.snippet_text.proofs.PlainLemmas.{plain_further, plain_overlapping}
use Rattle.snippet_text.proofs.plain.blocks_are_plain.Goals as goal

-- the block after the plain bytes is plain too
pub loop-at-preserved : goal.loop-at-preserved
loop-at-preserved c =
    let at = c.loop-at.at in
    let bytes = c.args.bytes.now in
    let count : at + 32 - at ≡ 32 = omega arith in
    let block : All IsPlain (take 32 (drop at bytes)) = subst (λ n. All IsPlain (take n (drop at bytes))) count
    (c.are_plain.ensures.yes c.if-not-are_plain.false) in
    (omega (arith, c.loop-at-test.true), plain_further bytes at 32 c.loop-at.invariant.0 c.loop-at.invariant.1 block)

pub returns : goal.returns
returns c =
    let bytes = c.args.bytes.now in
    record {
      yes = λ is. plain_overlapping bytes c.loop-at.at (length bytes - 32) (length bytes - (length bytes - 32))
          (omega (arith, c.loop-at-test.false)) (omega arith) c.loop-at.invariant.1 (c.are_plain-2.ensures.yes is);
    }
