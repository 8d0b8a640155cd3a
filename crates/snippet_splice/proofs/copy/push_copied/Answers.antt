use Rattle.snippet_splice.proofs.Common.{count_by, arith}
use Rattle.snippet_splice.proofs.WriteLemmas.{count-with_line_feeds}
use Rattle.snippet_splice.proofs.copy.push_copied.Goals as goal

pub returns-clause-feeds : goal.returns-clause-feeds
returns-clause-feeds c = grind (arith, count_by, count-with_line_feeds)
