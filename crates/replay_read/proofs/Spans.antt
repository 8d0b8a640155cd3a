-- Where the numbers and places of small sources lie, and the readings that these rule out.
use Rattle.std.proofs.Common.{◌≡◌, ℕ, List, [], ◌∷◌, Some, None, refl}
use Rattle.std.specs.Str.{chars}
use Rattle.replay_read.specs.MarkerSpan.{span_between, counted, placed}
use Rattle.snippet_lines.specs.declared.columns.Position.{Position}
use Rattle.replay_read.specs.declared.span.SpanUnit.TheVariants.{Byte, Char, Utf16}

-- `aé😀`, a line feed, `b`
abbrev text : List ℕ
text = 97 ∷ 195 ∷ 169 ∷ 240 ∷ 159 ∷ 152 ∷ 128 ∷ 10 ∷ 98 ∷ []

abbrev at : ℕ → ℕ → Position
at line column = record { line = line; column = column }

-- three characters, or four units of UTF-16, stand before the line feed, which is byte 7; the source has five of the ones and six of the
-- others
pub after_three : counted text (Some Char) 3 ≡ Some 7
unfolding chars
after_three = refl

pub after_four_units : counted text (Some Utf16) 4 ≡ Some 7
unfolding chars
after_four_units = refl

pub after_all : counted text (Some Char) 5 ≡ Some 9
unfolding chars
after_all = refl

pub past_all : counted text (Some Char) 6 ≡ None
unfolding chars
past_all = refl

-- the second unit of a pair begins within its character: `render` refuses a span there
pub within_pair : counted text (Some Utf16) 3 ≡ Some 4
unfolding chars
within_pair = refl

-- bytes are taken as they are, also past the end
pub bytes_kept : counted text None 99 ≡ Some 99
bytes_kept = refl

-- columns count characters where no unit is said: the emoji is column 3, byte 3, and the line's end column 4
pub emoji : placed text None (at 1 3) ≡ Some 3
unfolding chars
emoji = refl

pub line_end : placed text None (at 1 4) ≡ Some 7
unfolding chars
line_end = refl

-- a column after that is no place, though the source goes on; nor is column 0, line 0, or a third line
pub past_line : placed text None (at 1 5) ≡ None
unfolding chars
past_line = refl

pub column_zero : placed text None (at 1 0) ≡ None
column_zero = refl

pub line_zero : placed text None (at 0 1) ≡ None
line_zero = refl

pub third_line : placed text None (at 3 1) ≡ None
third_line = refl

-- the second line begins after the line feed, and ends with the source
pub second_line : placed text None (at 2 1) ≡ Some 8
unfolding chars
second_line = refl

pub source_end : placed text (Some Utf16) (at 2 2) ≡ Some 9
unfolding chars
source_end = refl

-- in bytes, and in units of UTF-16, the line's end is another column
pub column_of_bytes : placed text (Some Byte) (at 1 8) ≡ Some 7
column_of_bytes = refl

pub column_of_units : placed text (Some Utf16) (at 1 5) ≡ Some 7
unfolding chars
column_of_units = refl

-- a span of which one end is no place lies past the source's end as a whole, so that it is refused as one
pub half_a_place : span_between text (placed text None (at 1 1)) (placed text None (at 1 9)) ≡ record { start = 11; end = 11 }
unfolding chars
half_a_place = refl
