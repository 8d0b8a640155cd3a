use Rattle.snippet_parts.proofs.Common.{common_steps, arith}
use Rattle.snippet_parts.proofs.KeptLemmas.{range-pushed}
use Rattle.snippet_parts.proofs.kept.push_lines.Goals as goal

pub loop-line-preserved : goal.loop-line-preserved
loop-line-preserved c = grind (arith, common_steps, c.loop-line.line, c.loop-line.invariant, range-pushed, c.loop-line.auto.line)
