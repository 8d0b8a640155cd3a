use Rattle.snippet_lines.proofs.Common.{◌≡◌, ◌+◌, ◌-◌, ◌*◌, ◌≤◌, ◌++◌, ℕ, List, length, take, arith, common_steps, length-take, sum_by-append, width_of-chars}
use Rattle.snippet_lines.proofs.Common.{width_of, length-chars_le}
use Rattle.std.proofs.Common.{chars}
use Rattle.snippet_lines.proofs.PlaceLemmas.{chars-later}
use Rattle.snippet_lines.proofs.place.Loc.later_on_line.Goals as goal

-- what stands before the byte is what stands before the earlier one, and what is walked
walked : (c : goal.After-struct_known-3-1)
    → chars (take (c.args.byte - c.args.start) c.args.text.now) ≡ chars (take (c.args.self.byte - c.args.start) c.args.text.now)
    ++ chars c.range-between.result.now
walked c =
    grind (arith, c.requires.later, chars-later, c.utf8.text, c.requires.here_border, c.min-from.ensures, c.min-to.ensures, c.range-between.ensures.value)

characters : (c : goal.After-struct_known-3-1)
    → c.args.self.char + c.characters_and_columns-char.result.0 ≡ length (chars (take (c.args.byte - c.args.start) c.args.text.now))
characters c = grind (arith, common_steps, walked, c.requires.here_char, c.characters_and_columns-char.ensures.characters)

columns : (c : goal.After-struct_known-3-1)
    → c.args.self.display + c.characters_and_columns-char.result.1 ≡ width_of (chars (take (c.args.byte - c.args.start) c.args.text.now))
columns c = grind (arith, walked, sum_by-append, c.requires.here_display, c.characters_and_columns-char.ensures.columns)

-- what stands before a byte of a text has no more characters than the text has bytes, and at most four columns for each
short : (n : ℕ) (text : List ℕ) → length (chars (take n text)) ≤ length text
short n text = omega (arith, length-chars_le (take n text), length-take n text)

narrow : (n : ℕ) (text : List ℕ) → width_of (chars (take n text)) ≤ 4 * length text
narrow n text = omega (arith, width_of-chars (take n text), length-take n text)

pub overflow_add-result : goal.overflow_add-result
overflow_add-result c = grind (arith, c.requires.fits, c.requires.here_char, c.characters_and_columns-char.ensures.characters, short, length-chars_le)

pub overflow_add-result-2 : goal.overflow_add-result-2
overflow_add-result-2 c = grind (arith, c.requires.fits, c.requires.here_display, c.characters_and_columns-char.ensures.bound, narrow)

pub returns-clause-char : goal.returns-clause-char
returns-clause-char c = characters c

pub returns-clause-display : goal.returns-clause-display
returns-clause-display c = columns c

pub returns-clause-char_bound : goal.returns-clause-char_bound
returns-clause-char_bound c =
    omega (arith, characters c, short (c.args.byte - c.args.start) c.args.text.now)

pub returns-clause-display_bound : goal.returns-clause-display_bound
returns-clause-display_bound c =
    omega (arith, columns c, narrow (c.args.byte - c.args.start) c.args.text.now)
