use Rattle.snippet_parts.proofs.EntryLemmas.{place-near}
use Rattle.snippet_parts.proofs.made_entries.stands_among.Goals as goal

pub returns : goal.returns
returns c = record {
  value = place-near c.args.span c.args.others.now c.starting_on.result.now c.is_place_of_any.result c.starting_on.ensures.value
      c.is_place_of_any.ensures.value;
}
