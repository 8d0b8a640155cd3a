use Rattle.std.proofs.lemmas.Grind.{common_steps}
use Rattle.annotate_snippets.proofs.Common.{arith, length-source_lines, newline_count-le}
use Rattle.annotate_snippets.proofs.renderer.validate.end_fault.Goals as goal

pub returns-then-len-line_start : goal.returns-then-len-line_start
returns-then-len-line_start c = grind (arith, common_steps, length-source_lines, newline_count-le)
