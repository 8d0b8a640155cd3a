-- A line that passes through among workflow commands: it may not be taken for one.
use Rattle.std.specs.Prelude.{ℕ, ◌==◌, ◌&&◌, ◌||◌, Bool, true, false, List, [], ◌∷◌, ◌++◌, chars, codes, encode_utf8_all, if◌then◌else◌, nat_lt, not}

-- a byte that ends a line for whoever looks for commands: a line feed or a carriage return
abbrev pub ends_line : ℕ → Bool
ends_line b = b == 10 || b == 13

-- a character of ASCII that is seen; any other byte may be a part of one that isn't
abbrev pub is_seen : ℕ → Bool
is_seen b = nat_lt 32 b && nat_lt b 127

-- whether a text begins with a colon
abbrev pub begins_colon : List ℕ → Bool
begins_colon [] = false
begins_colon (b ∷ text) = b == 58

-- whether a text begins with two colons, but for what isn't seen of its first line: so begins a command
abbrev pub begins_command : List ℕ → Bool
begins_command [] = false
begins_command (b ∷ text) = if b == 58 then begins_colon text else (not (is_seen b || ends_line b) && begins_command text)

-- what is put before a line that would be a command, where this is the start of a line
abbrev pub mark_before : Bool → List ℕ → List ℕ
mark_before starts text = if starts && begins_command text then codes "| " else []

-- what is put before a byte that follows so many hashes: a space before a bracket after two, with which a command of the older form begins
abbrev pub gap_before : ℕ → ℕ → List ℕ
gap_before hashes b = if b == 91 && nat_lt 1 hashes then codes " " else []

-- so many hashes there are when one more byte is read, of which no more than two are counted
abbrev pub hashes_after : ℕ → ℕ → ℕ
hashes_after hashes b = if b == 35 then (if hashes == 0 then 1 else 2) else 0

-- the rest of a text, where this is the start of a line or not and follows so many hashes
abbrev pub unheeded_from : Bool → ℕ → List ℕ → List ℕ
unheeded_from starts hashes [] = []
unheeded_from starts hashes (b ∷ text) =
    mark_before starts (b ∷ text) ++ (gap_before hashes b ++ (b ∷ unheeded_from (ends_line b) (hashes_after hashes b) text))

-- a text no line of which is taken for a command
abbrev pub unheeded : List ℕ → List ℕ
unheeded text = unheeded_from true 0 text

-- the rest of some characters that follow so many hashes
abbrev pub apart_from : ℕ → List ℕ → List ℕ
apart_from hashes [] = []
apart_from hashes (c ∷ cs) = gap_before hashes c ++ (c ∷ apart_from (hashes_after hashes c) cs)

-- a text without the start of a command of the older form
abbrev pub apart : List ℕ → List ℕ
apart text = encode_utf8_all (apart_from 0 (chars text))
