-- The listed characters, and the text that is shown in place of each.
use Rattle.std.specs.Prelude.{ℕ, ◌+◌, Bool, ◌==◌, ◌||◌, List, [], ◌∷◌, Option, None, Some, chars, if◌then◌else◌}
use Rattle.std.specs.List.{flat_map}
use Rattle.std.specs.Int.{is_in_range}

-- the nine controls that change the direction of text: U+202A to U+202E and U+2066 to U+2069
abbrev pub is_bidirectional_control : ℕ → Bool
is_bidirectional_control c = is_in_range 0x202A 0x202E c || is_in_range 0x2066 0x2069 c

-- the control characters that have a picture 0x2400 above them: U+0000 to U+001F but for tab and line feed
abbrev pub has_control_picture : ℕ → Bool
has_control_picture c = is_in_range 0x0 0x8 c || is_in_range 0xB 0x1F c

-- the 42 listed characters, which could change how a terminal shows the text around them:
-- tab, the other control characters but for the line feed, delete, the zero width joiner, and those nine controls
abbrev pub is_listed : ℕ → Bool
is_listed c = (c == 0x9) || has_control_picture c || (c == 0x7F) || (c == 0x200D) || is_bidirectional_control c

-- what is shown for a character: four spaces for a tab, a control picture for a control character, nothing for the
-- zero width joiner, U+FFFD for a bidirectional control, and the character itself for one that isn't listed
abbrev pub shown : ℕ → List ℕ
shown c =
    if c == 0x9 then 32 ∷ 32 ∷ 32 ∷ 32 ∷ []
    else if has_control_picture c then (0x2400 + c) ∷ []
    else if c == 0x7F then 0x2421 ∷ []
    else if c == 0x200D then []
    else if is_bidirectional_control c then 0xFFFD ∷ []
    else c ∷ []

-- the normalised text: what is shown for each of its characters, in order
unfoldable pub norm : List ℕ → List ℕ
norm cs = flat_map shown cs

-- the characters that a text shows, none where there is no text
abbrev pub normalized_chars : Option (List ℕ) → List ℕ
normalized_chars None = []
normalized_chars (Some text) = norm (chars text)
