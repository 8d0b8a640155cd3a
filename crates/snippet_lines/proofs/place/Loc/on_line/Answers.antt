use Rattle.snippet_lines.proofs.Common.{arith, take_min, length-chars_le}
use Rattle.snippet_lines.proofs.place.Loc.on_line.Goals as goal

pub returns-clause-char : goal.returns-clause-char
returns-clause-char c = grind (arith, take_min, c.characters_and_columns-char.ensures.characters)

pub returns-clause-char_bound : goal.returns-clause-char_bound
returns-clause-char_bound c = grind (arith, c.characters_and_columns-char.ensures.characters, length-chars_le)
