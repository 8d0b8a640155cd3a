-- Controls that are drawn as they are, unless they are masked.
use Rattle.std.specs.Prelude.{ℕ, ◌==◌, ◌||◌, Bool}
use Rattle.std.specs.Int.{is_in_range}

-- whether a character is masked: a control from U+0080 to U+009F, a mark of direction, U+061C, U+200E or U+200F, or a separator of lines or
-- of paragraphs, U+2028 or U+2029
abbrev pub is_masked : ℕ → Bool
is_masked c = is_in_range 0x80 0x9F c || c == 0x61C || is_in_range 0x200E 0x200F c || is_in_range 0x2028 0x2029 c
