use Rattle.snippet_parts.proofs.Common.{common_steps, arith}
use Rattle.snippet_parts.proofs.annotated_lines.located_lines.Goals as goal

pub returns-in-Some : goal.returns-in-Some
returns-in-Some c = grind (arith, common_steps, c.one_line.ensures.deepest, c.in-Some.ensures.folded, c.one_line.ensures.lines)
