-- How many columns characters and texts take.
use Rattle.std.specs.Prelude.{ℕ, ◌==◌, ◌||◌, Bool, false, List, sum_by, unwrap_or, if◌then◌else◌}
use Rattle.std.specs.Int.{is_in_range}
use Rattle.unicode_width.specs.Width as unicode
use Rattle.snippet_text.specs.Normalized.{has_control_picture, is_bidirectional_control}

-- a space, and the characters that are shown in place of listed ones: each takes one column
abbrev pub is_replacement : ℕ → Bool
is_replacement c = (c == 0x20) || is_in_range 0x2400 0x241F c || (c == 0x2421) || (c == 0xFFFD)

-- the columns of a character: a listed one takes those of what is shown for it, any other what `unicode_width` gives,
-- or one where that gives none
unfoldable pub char_width : ℕ → ℕ
char_width c =
    if c == 0x9 then 4
    else if c == 0x200D then 0
    else if has_control_picture c || (c == 0x7F) || is_bidirectional_control c then 1
    else if is_replacement c then 1
    else unwrap_or (unicode.char_width false c) 1

-- the columns of a text: the sum over its characters
abbrev pub width_of : List ℕ → ℕ
width_of cs = sum_by char_width cs
