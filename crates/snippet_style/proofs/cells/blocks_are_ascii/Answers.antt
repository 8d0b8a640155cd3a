use Rattle.std.proofs.Common.{◌+◌, ◌-◌, ◌≡◌, ◌<◌, All, arith, drop, length, subst, take}
use Rattle.snippet_style.proofs.ByteLemmas.{All-further, All-overlapping}
use Rattle.snippet_style.proofs.cells.blocks_are_ascii.Goals as goal

-- the block after bytes that are ASCII is ASCII too
pub loop-at-preserved : goal.loop-at-preserved
loop-at-preserved c =
    let at = c.loop-at.at in
    let bytes = c.args.bytes.now in
    let count : at + 32 - at ≡ 32 = omega arith in
    let block : All (λ b. b < 128) (take 32 (drop at bytes)) = subst (λ n. All (λ b. b < 128) (take n (drop at bytes))) count
    (c.are_ascii.ensures.yes c.if-not-are_ascii.false) in
    (omega (arith, c.loop-at-test.true), All-further (λ b. b < 128) bytes at 32 c.loop-at.invariant.0 c.loop-at.invariant.1 block)

pub returns : goal.returns
returns c =
    let bytes = c.args.bytes.now in
    record {
      yes = λ is. All-overlapping (λ b. b < 128) bytes c.loop-at.at (length bytes - 32) (length bytes - (length bytes - 32))
          (omega (arith, c.loop-at-test.false)) (omega arith) c.loop-at.invariant.1 (c.are_ascii-2.ensures.yes is);
    }
