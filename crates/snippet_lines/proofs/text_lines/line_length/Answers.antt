use Rattle.snippet_lines.proofs.Common.{arith, take_rest}
use Rattle.snippet_lines.proofs.Walk.{line-next}
use Rattle.snippet_lines.proofs.text_lines.line_length.Goals as goal

pub loop-at-preserved : goal.loop-at-preserved
loop-at-preserved c =
    grind (arith, c.loop-at.at, take_rest, c.ends_line.ensures.value, c.if-ends_line.false, line-next, c.loop-at-test.true, c.loop-at.invariant)
