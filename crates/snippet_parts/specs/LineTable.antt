-- The table of a source's lines.
use Rattle.std.specs.Prelude.{◌≡◌, ℕ, ◌+◌, ◌-◌, ◌<◌, List, length, map, take, drop}
use Rattle.std.specs.List.{range_with_len}
use Rattle.std.specs.Str.{IsUtf8}
use Rattle.snippet_parts.specs.declared.source_map.LineInfo.{LineInfo}
use Rattle.snippet_lines.specs.Lines.{Line, source_lines, text_at, start_of, Source}
use Rattle.snippet_lines.specs.Place.{line_of}
use Rattle.snippet_lines.specs.Starts.{starts_from}
use Rattle.snippet_text.specs.TextBounds.{TextFits}
use Rattle.snippet_style.specs.Bounds.{IsUsize}

-- what the table says of a line: its text, its number, where it starts and where the next one does
pub record LineEntry : Type 0 where
  pub text : List ℕ
  pub number : ℕ
  pub start : ℕ
  pub next : ℕ

-- the entry that a line's information is
abbrev pub table_entry : LineInfo → LineEntry
table_entry info = record { text = info.line.now; number = info.line_index; start = info.start_byte; next = info.end_byte }

-- the entry of line k of some lines, of which the first has a number
abbrev pub entry_at : ℕ → List Line → ℕ → LineEntry
entry_at first ls k = record { text = text_at ls k; number = first + k; start = start_of ls k; next = start_of ls (k + 1) }

-- the entries of the lines that a span touches, in order: from the one that holds its start to the one that holds its end
abbrev pub touched_entries : Source → ℕ → ℕ → List LineEntry
touched_entries s start end =
    let ls = source_lines s.text in
    map (entry_at s.first ls) (range_with_len (line_of ls start) (line_of ls end + 1 - line_of ls start))

-- some lines of a source, one or more that follow those that are skipped: they stand between these two bytes, and start at these, counted
-- from the first of them; the source is UTF-8, and the numbers of its lines and of its bytes fit
pub record IsLineTable (source : List ℕ) (first skipped from end : ℕ) (starts : List ℕ) : Type 0 where
  pub starts_are : starts ≡ starts_from 0 (take (length starts) (drop skipped (source_lines source)))
  pub some : 0 < length starts
  pub from_is : from ≡ start_of (source_lines source) skipped
  pub end_is : end ≡ start_of (source_lines source) (skipped + length starts)
  pub utf8 : IsUtf8 source
  pub short : TextFits source
  pub numbers : IsUsize (first + length (source_lines source))
