use Rattle.snippet_parts.proofs.TableLemmas.{table-all}
use Rattle.snippet_parts.proofs.source_map.SourceMap.with_starts.Goals as goal

pub invariant_of-result : goal.invariant_of-result
invariant_of-result c = table-all c.args.source.now c.args.starts.now c.args.line_start c.requires.starts c.utf8.source c.requires.fits c.requires.numbers
