use Rattle.std.proofs.lemmas.Grind.{common_steps}
use Rattle.annotate_snippets.proofs.Common.{IfOk-weaker, arith}
use Rattle.annotate_snippets.proofs.WriteLemmas.{rows_printed}
use Rattle.annotate_snippets.proofs.renderer.report_writer.group_text.Goals as goal

pub returns : goal.returns
returns c = grind (arith, common_steps, IfOk-weaker, rows_printed)
