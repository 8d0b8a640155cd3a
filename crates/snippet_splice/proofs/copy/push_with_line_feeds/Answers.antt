use Rattle.snippet_splice.proofs.Common.{arith, eq-eqb}
use Rattle.snippet_splice.proofs.WriteLemmas.{with_line_feeds-none}
use Rattle.snippet_splice.proofs.copy.push_with_line_feeds.Goals as goal

pub returns-in_ok-push_str-in-None : goal.returns-in_ok-push_str-in-None
returns-in_ok-push_str-in-None c = grind (arith, eq-eqb, with_line_feeds-none)
