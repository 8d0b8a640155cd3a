use Rattle.snippet_lines.proofs.Common.{arith}
use Rattle.snippet_lines.proofs.Borders.{last_border}
use Rattle.snippet_lines.proofs.Walk.{no-border}
use Rattle.snippet_lines.proofs.clamp.border_before.Goals as goal

pub overflow_sub-at : goal.overflow_sub-at
overflow_sub-at c = no-border c.args.text.now c.loop-at.at c.is_char_boundary.result c.utf8.text c.is_char_boundary.ensures.test.1 c.loop-at-test.true

pub loop-at-smaller : goal.loop-at-smaller
loop-at-smaller c = grind (arith, no-border, c.loop-at.at, c.utf8.text, c.is_char_boundary.ensures.test.1, c.loop-at-test.true)

pub returns-clause-value : goal.returns-clause-value
returns-clause-value c =
    grind (arith, last_border, c.loop-at.at, c.loop-at.invariant.before, c.is_char_boundary.ensures.test.0, c.loop-at-test.false, c.loop-at.invariant.none)
