use Rattle.snippet_parts.proofs.Common.{◌∙◌}
use Rattle.snippet_parts.proofs.KeptLemmas.{among-found}
use Rattle.snippet_parts.proofs.kept.is_among.Goals as goal

pub returns : goal.returns
returns c = record {
  value = c.is_ok.ensures.value ∙ among-found c.args.lines.now c.args.line c.binary_search.result c.binary_search.ensures.position c.requires.ascending;
}
