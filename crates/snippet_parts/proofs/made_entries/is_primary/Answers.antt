use Rattle.snippet_parts.proofs.Common.{rules}
use Rattle.snippet_parts.proofs.EntryLemmas.{primary-near}
use Rattle.snippet_parts.proofs.made_entries.is_primary.Goals as goal

pub returns-else-eq : goal.returns-else-eq
returns-else-eq c = record {
  value = primary-near c.args.span c.args.before.now c.starting_on.result.now c.is_place_of_primary.result
      c.starting_on.ensures.value c.is_place_of_primary.ensures.value (λ same. search rules);
}
