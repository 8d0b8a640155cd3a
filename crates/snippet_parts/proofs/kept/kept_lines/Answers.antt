use Rattle.snippet_parts.proofs.Common.{common_steps, arith}
use Rattle.snippet_parts.proofs.kept.kept_lines.Goals as goal

pub returns-then-fold : goal.returns-then-fold
returns-then-fold c = grind (arith, common_steps, c.if-fold.true, c.folded_lines.ensures.value, c.folded_lines.ensures.within)

pub returns-else-fold : goal.returns-else-fold
returns-else-fold c = grind (arith, common_steps, c.if-fold.false, c.all_lines.ensures.value, c.all_lines.ensures.within)
