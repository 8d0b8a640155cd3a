use Rattle.snippet_lines.proofs.Common.{arith}
use Rattle.snippet_lines.proofs.number.digits_text.Goals as goal

pub returns : goal.returns
returns c = grind (arith, c.format-digits.ensures.text, c.saturating_sub.ensures, c.in_ok-push_str.ensures.bytes, c.in_ok-text.ensures.text)
