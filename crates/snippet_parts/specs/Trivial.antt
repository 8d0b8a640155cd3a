-- How a line is read until it is known whether it says little.
use Rattle.std.specs.Prelude.{ℕ, Bool, true, false, ◌==◌, ◌||◌, [], ◌∷◌, if◌then◌else◌}
use Rattle.std.specs.Char.{is_whitespace}
use Rattle.snippet_parts.specs.declared.trivial_lines.Seen.{Seen}
use Rattle.snippet_parts.specs.declared.trivial_lines.Seen.TheVariants.{Nothing, Bracket, Slash, Slashes, Comment, Telling}
use Rattle.snippet_parts.specs.Kept.{is_bracket}

-- what was read with one more character
abbrev pub step : Seen → ℕ → Seen
step Nothing c =
    if is_whitespace c then Nothing else if is_bracket (c ∷ []) then Bracket else if c == 47 then Slash else Telling
step Bracket c = if is_whitespace c then Bracket else Telling
step Slash c = if c == 47 then Slashes else Telling
step Slashes c = if c == 47 || c == 33 then Telling else Comment
step Comment c = Comment
step Telling c = Telling

-- whether a line says little of which this is all
abbrev pub is_trivial_whole : Seen → Bool
is_trivial_whole Nothing = true
is_trivial_whole Bracket = true
is_trivial_whole Slash = false
is_trivial_whole Slashes = true
is_trivial_whole Comment = true
is_trivial_whole Telling = false
