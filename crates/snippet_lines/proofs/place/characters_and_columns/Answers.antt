use Rattle.snippet_lines.proofs.Common.{ap, length, sym, chars-plain, width_of-plain}
use Rattle.snippet_lines.proofs.place.characters_and_columns.Goals as goal

pub returns-then-is_plain-clause-characters : goal.returns-then-is_plain-clause-characters
returns-then-is_plain-clause-characters c = ap length (sym (chars-plain c.args.text.now (c.is_plain.ensures.yes c.if-is_plain.true)))

pub returns-then-is_plain-clause-columns : goal.returns-then-is_plain-clause-columns
returns-then-is_plain-clause-columns c = width_of-plain c.args.text.now (c.is_plain.ensures.yes c.if-is_plain.true)
