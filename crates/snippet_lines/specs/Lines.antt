-- The lines of a text: how a text is cut into lines, and where each of them stands.
use Rattle.std.specs.Prelude.{◌≡◌, ℕ, ◌-◌, Bool, ◌==◌, nat_lt, nat_le, ◌&&◌, Option, Some, None, List, [], ◌∷◌, ◌++◌, count_by}
use Rattle.std.specs.Prelude.{length}
use Rattle.std.specs.Prelude.{take, drop, slice_index, slice_index_or, if◌then◌else◌}
use Rattle.std.specs.List.{flat_map}
use Rattle.snippet_lines.specs.declared.lines.EndLine.{EndLine}
use Rattle.snippet_lines.specs.declared.lines.EndLine.TheVariants.{Eof, Lf, Crlf}

-- a line: the bytes of its text, and how it ends
abbrev pub Line : Type 0
Line = List ℕ × EndLine

-- the bytes of a line end: LF is 10, CR is 13, and at the end of the text there may be none
abbrev pub end_bytes : EndLine → List ℕ
end_bytes Eof = []
end_bytes Lf = 10 ∷ []
end_bytes Crlf = 13 ∷ 10 ∷ []

-- the bytes of a line: its text, then its end
abbrev pub line_bytes : Line → List ℕ
line_bytes l = l.0 ++ end_bytes l.1

-- the bytes of some lines, one after another
abbrev pub joined : List Line → List ℕ
joined ls = flat_map line_bytes ls

-- the last byte of a text, or 0 of an empty one
abbrev pub last_byte : List ℕ → ℕ
last_byte text = slice_index text (length text - 1)

-- a byte other than LF in front of a line: a CR in front of an LF alone becomes part of the line end
abbrev pub line_with_byte : ℕ → List ℕ → EndLine → Line
line_with_byte b [] Lf = if b == 13 then ([], Crlf) else (b ∷ [], Lf)
line_with_byte b text ending = (b ∷ text, ending)

-- such a byte in front of some lines: it joins the first of them
abbrev pub with_first_byte : ℕ → List Line → List Line
with_first_byte b [] = (b ∷ [], Eof) ∷ []
with_first_byte b (l ∷ ls) = line_with_byte b l.0 l.1 ∷ ls

-- the cut of a text into lines, from its last byte to its first: an LF in front makes an empty line
abbrev pub lines_of : List ℕ → List Line
lines_of [] = []
lines_of (b ∷ bs) = if b == 10 then ([], Lf) ∷ lines_of bs else with_first_byte b (lines_of bs)

-- the lines of a source
abbrev pub source_lines : List ℕ → List Line
source_lines [] = ([], Eof) ∷ []
source_lines (b ∷ bs) = lines_of (b ∷ bs)

-- whether a byte is an LF
abbrev pub is_lf : ℕ → Bool
is_lf b = b == 10

-- the number of LF in a text, not counting one that ends it
unfoldable pub newline_count : List ℕ → ℕ
newline_count text = count_by is_lf text - (if is_lf (last_byte text) then 1 else 0)

-- the text of line k, from 0
abbrev pub text_at : List Line → ℕ → List ℕ
text_at ls k = (slice_index_or ls k ([], Eof)).0

-- a part of a source stands there from byte `at` on
abbrev pub StandsAt : List ℕ → List ℕ → ℕ → Type 0
StandsAt source part at = part ≡ take (length part) (drop at source)

-- the byte at which line k begins
unfoldable pub start_of : List Line → ℕ → ℕ
start_of ls k = length (joined (take k ls))

-- a source of which the first line has a number
pub record Source : Type 0 where
  pub text : List ℕ
  pub first : ℕ

-- the text of the line of a number, if there is such a line
abbrev pub line_at : Source → ℕ → Option (List ℕ)
line_at s number =
    if nat_le s.first number && nat_lt (number - s.first) (length (source_lines s.text)) then Some (text_at (source_lines s.text) (number - s.first))
    else None
