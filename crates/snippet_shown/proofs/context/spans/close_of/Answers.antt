use Rattle.snippet_shown.proofs.Common.{arith}
use Rattle.snippet_shown.proofs.SpanLemmas.{closes-inner, closes-last, start-some}
use Rattle.snippet_shown.proofs.context.spans.close_of.Goals as goal

pub overflow_sub-result : goal.overflow_sub-result
overflow_sub-result c = start-some c.args.source.now c.args.starts.now c.args.line c.requires.starts (omega arith)

pub returns-then-line-last : goal.returns-then-line-last
returns-then-line-last c =
    record { value = closes-inner c.args.source.now c.args.starts.now c.args.line c.requires.starts (omega arith) }

pub returns-else-line-last : goal.returns-else-line-last
returns-else-line-last c =
    record { value = closes-last c.args.source.now c.args.starts.now c.args.line c.requires.starts (omega arith) }
