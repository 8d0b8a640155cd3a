-- Where a byte of a source stands: its line, and its character and column there.
use Rattle.std.specs.Prelude.{ℕ, ◌+◌, ◌-◌, ◌<◌, ◌≤◌, nat_lt, ◌==◌, List, [], ◌∷◌, length, take, chars, if◌then◌else◌}
use Rattle.snippet_text.specs.Width.{width_of}
use Rattle.snippet_lines.specs.declared.place.Loc.{Loc}
use Rattle.snippet_lines.specs.Lines.{Line, line_bytes, source_lines, text_at, start_of, Source}

-- line k holds byte b: b lies in its bytes, line end counted; the last line holds each byte after its start
pub record HoldsByte (ls : List Line) (b k : ℕ) : Type 0 where
  pub within : k < length ls
  pub from : start_of ls k ≤ b
  pub to : k + 1 < length ls → b < start_of ls (k + 1)

-- the line that holds byte b, from 0
unfoldable pub line_of : List Line → ℕ → ℕ
line_of [] b = 0
line_of (l ∷ []) b = 0
line_of (l ∷ m ∷ ls) b =
    if nat_lt b (length (line_bytes l)) then 0 else line_of (m ∷ ls) (b - length (line_bytes l)) + 1

-- what stands before byte b in the text of line k: at most the whole text
abbrev pub prefix_at : List Line → ℕ → ℕ → List ℕ
prefix_at ls k b = take (b - start_of ls k) (text_at ls k)

-- a place: a line, and the number of characters and of columns that stand before it there; each counts from 0
pub record Place : Type 0 where
  pub line : ℕ
  pub character : ℕ
  pub column : ℕ

-- the place of byte b
unfoldable pub place_of : List ℕ → ℕ → Place
place_of source b =
    let ls = source_lines source in
    let k = line_of ls b in
    let before = chars (prefix_at ls k b) in
    record { line = k; character = length before; column = width_of before }

-- the location of byte b: its place, by the number of its line
unfoldable pub location_of : Source → ℕ → Loc
location_of s b =
    let p = place_of s.text b in
    record { line = s.first + p.line; char = p.character; display = p.column; byte = b }

-- 1 where byte b lies strictly after the end of its line's text, else 0
unfoldable pub steps_after_text : List ℕ → ℕ → ℕ
steps_after_text source b =
    let ls = source_lines source in
    let k = line_of ls b in
    if nat_lt (start_of ls k + length (text_at ls k)) b then 1 else 0

-- where a span starts: after the end of a line's text the character is one more
unfoldable pub start_location : Source → ℕ → Loc
start_location s start =
    let l = location_of s start in
    record l { char = l.char + steps_after_text s.text start }

-- where a span that isn't empty ends: after the end of a line's text, if the span starts on another line, both the
-- character and the column are one more
unfoldable pub end_location : Source → ℕ → ℕ → Loc
end_location s start end =
    let l = location_of s end in
    let more = if (location_of s start).line == l.line then 0 else steps_after_text s.text end in
    record l { char = l.char + more; display = l.display + more }

-- where a span starts and ends: an empty span ends where it starts
unfoldable pub locations_of : Source → ℕ → ℕ → Loc × Loc
locations_of s start end =
    (start_location s start, if start == end then start_location s start else end_location s start end)
