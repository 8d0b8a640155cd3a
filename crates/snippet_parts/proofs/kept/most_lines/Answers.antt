use Rattle.snippet_parts.proofs.Common.{common_steps, arith, length-source_lines, newline_count-le}
use Rattle.snippet_parts.proofs.kept.most_lines.Goals as goal

pub returns : goal.returns
returns c = grind (arith, common_steps, length-source_lines, newline_count-le, c.source.ensures.value)
