use Rattle.snippet_shown.proofs.Common.{common_steps, arith}
use Rattle.snippet_shown.proofs.SpanLemmas.{line_starts-start_of, starts-length}
use Rattle.snippet_shown.proofs.context.spans.span_around.Goals as goal

pub returns : goal.returns
returns c = grind (arith, common_steps, starts-length, c.requires.starts, line_starts-start_of, c.close_of.ensures.value)
