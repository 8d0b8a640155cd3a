use Rattle.snippet_parts.proofs.Common.{common_steps, arith}
use Rattle.snippet_parts.proofs.source_map.SourceMap.splice_lines.Goals as goal

pub returns-clause-splice : goal.returns-clause-splice
returns-clause-splice c = grind (arith, common_steps, c.source.ensures.value, c.spliced_lines.ensures.splice)
