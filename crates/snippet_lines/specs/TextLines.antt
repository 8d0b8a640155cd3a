-- Where the lines of a text start, and how far each goes. A line ends with a line feed, or with a carriage return and that; after the
-- last line feed there is a line too, which may be empty.
use Rattle.std.specs.Prelude.{ℕ, suc, ◌+◌, Bool, true, false, ◌==◌, ◌&&◌, ◌||◌, List, [], ◌∷◌, ◌++◌, take, if◌then◌else◌}

-- the byte after this one, if this is a line feed
abbrev pub line_start_after : ℕ → ℕ → List ℕ
line_start_after at b = if b == 10 then (at + 1) ∷ [] else []

-- the bytes after line feeds, in some bytes that begin at byte `at`
abbrev pub starts_after : ℕ → List ℕ → List ℕ
starts_after at [] = []
starts_after at (b ∷ bs) = line_start_after at b ++ starts_after (at + 1) bs

-- the bytes at which the lines of a text start: 0, and each byte after a line feed
abbrev pub start_bytes : List ℕ → List ℕ
start_bytes text = 0 ∷ starts_after 0 text

-- whether some bytes begin with a line feed
abbrev pub begins_with_feed : List ℕ → Bool
begins_with_feed [] = false
begins_with_feed (b ∷ bs) = b == 10

-- whether a line ends before these bytes: there are none, or they begin with a line feed, or with a carriage return and that
abbrev pub ends_line : List ℕ → Bool
ends_line [] = true
ends_line (b ∷ bs) = b == 10 || b == 13 && begins_with_feed bs

-- how many bytes the first line of some bytes has, its end not counted
abbrev pub line_length : List ℕ → ℕ
line_length [] = 0
line_length (b ∷ bs) = if ends_line (b ∷ bs) then 0 else suc (line_length bs)

-- the first line of some bytes, without its end
abbrev pub before_line_end : List ℕ → List ℕ
before_line_end bytes = take (line_length bytes) bytes
