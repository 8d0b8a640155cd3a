use Rattle.std.proofs.Common.{arith, ap, subst, List, All, take, drop, length, ◌≤◌, ◌≡◌, ◌+◌, ◌-◌}
use Rattle.snippet_text.specs.Plain.{IsPlain}
use Rattle.snippet_text.proofs.PlainLemmas.{plain_further}
use Rattle.snippet_text.proofs.plain.plain_prefix.Goals as goal

-- the block after the plain bytes is plain too
pub loop-at-preserved : goal.loop-at-preserved
loop-at-preserved c =
    let at = c.loop-at.at in
    let bytes = c.as_bytes-bytes.result.now in
    let is = c.as_bytes-bytes.ensures.value in
    let count : at + 64 - at ≡ 64 = omega arith in
    let within : at ≤ length c.args.text.now = omega (arith, c.loop-at.invariant.0, c.min-most.ensures, ap length is) in
    let block : All IsPlain (take 64 (drop at bytes)) = subst (λ n. All IsPlain (take n (drop at bytes))) count
    (c.are_plain.ensures.yes c.if-not-are_plain.false) in
    let more = subst (λ (l : List _). All IsPlain (take 64 (drop at l))) is block in
    (omega (arith, c.loop-at.invariant.0, c.loop-at-test.true), plain_further c.args.text.now at 64 within c.loop-at.invariant.1 more)
