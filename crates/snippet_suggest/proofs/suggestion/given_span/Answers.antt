use Rattle.snippet_suggest.proofs.SpanLemmas.{whole_span}
use Rattle.snippet_suggest.proofs.suggestion.given_span.Goals as goal

pub returns-in_default-clause-span : goal.returns-in_default-clause-span
returns-in_default-clause-span c =
    whole_span c.args.map.now.text c.source.result.now c.source.utf8 c.source.ensures.value
