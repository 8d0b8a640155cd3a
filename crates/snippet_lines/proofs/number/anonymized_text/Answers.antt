use Rattle.snippet_lines.proofs.Common.{arith}
use Rattle.snippet_lines.proofs.NumberLemmas.{repeat-one_space}
use Rattle.snippet_lines.proofs.number.anonymized_text.Goals as goal

pub returns : goal.returns
returns c = grind (arith, c.in_ok-push_str.ensures.bytes, c.in_ok-text.ensures.bytes, repeat-one_space, c.saturating_sub.ensures)
