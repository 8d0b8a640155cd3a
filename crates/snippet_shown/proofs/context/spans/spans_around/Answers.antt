use Rattle.snippet_shown.proofs.Common.{common_steps, arith, kept-within}
use Rattle.snippet_shown.proofs.SpanLemmas.{around-parts}
use Rattle.snippet_shown.proofs.context.spans.spans_around.Goals as goal

pub returns-in-Some-clause-parts : goal.returns-in-Some-clause-parts
returns-in-Some-clause-parts c =
    grind (arith, common_steps, c.in_ok-map.ensures.ok, c.in_ok-map.ensures.utf8, around-parts, kept-within, c.spans_of.ensures.value)

pub returns-clause-parts : goal.returns-clause-parts
returns-clause-parts c =
    grind (arith, common_steps, c.in_ok-map.ensures.ok, c.in_ok-map.ensures.utf8, around-parts, kept-within, c.spans_of-in-None.ensures.value)
