-- The lines that an edit takes out, where the lines that it puts in don't tell.
use Rattle.std.specs.Prelude.{ℕ, ◌+◌, ◌-◌, ◌==◌, ◌&&◌, ◌||◌, Bool, List, Option, Some, None, drop, eqb, length, nat_le, nat_lt, not, take, if◌then◌else◌}
use Rattle.std.specs.List.{ends_with, list_any, slice_range, starts_with}
use Rattle.snippet_lines.specs.Lines.{is_lf, last_byte, source_lines, start_of}
use Rattle.snippet_lines.specs.Place.{line_of}
use Rattle.snippet_lines.specs.TextLines.{line_length}
use Rattle.redraw_report.specs.declared.finding.Replacement.{Replacement}

-- what an edit takes out of a text
abbrev pub gone : List ℕ → Replacement → List ℕ
gone text c = slice_range text c.start c.end

-- whether some bytes end with a line feed
abbrev pub ends_with_feed : List ℕ → Bool
ends_with_feed bytes = is_lf (last_byte bytes)

abbrev pub has_feed : List ℕ → Bool
has_feed bytes = list_any is_lf bytes

-- what comes, without the line feed at its end that what goes has too
abbrev pub before_end : List ℕ → List ℕ → List ℕ
before_end gone comes = if ends_with_feed gone && ends_with_feed comes then take (length comes - 1) comes else comes

-- whether a byte is no blank and no line end
abbrev pub is_seen : ℕ → Bool
is_seen b = not (b == 9 || b == 10 || b == 12 || b == 13 || b == 32)

-- whether several lines come in place of a text that is at neither end of them, and that can be seen
abbrev pub is_replaced : List ℕ → List ℕ → Bool
is_replaced gone comes =
    list_any is_seen gone && has_feed (before_end gone comes) && not (starts_with eqb comes gone || ends_with eqb comes gone)

abbrev pub hides_gone : List ℕ → Replacement → Bool
hides_gone text c = nat_lt c.start c.end && nat_le c.end (length text) && is_replaced (gone text c) c.text.now

-- a byte of the last line that goes: the last one of what goes, or the one after it, if its line is joined to the last one that comes
abbrev pub last_gone : List ℕ → Replacement → ℕ
last_gone text c = if ends_with_feed (gone text c) && not (ends_with_feed c.text.now) then c.end else c.end - 1

-- from where to where the lines are that an edit takes out and that those which come don't tell, the end of the last line not counted
abbrev pub gone_lines : List ℕ → Replacement → Option (ℕ × ℕ)
gone_lines text c =
    let first = start_of (source_lines text) (line_of (source_lines text) c.start) in
    let last = start_of (source_lines text) (line_of (source_lines text) (last_gone text c)) in
    if hides_gone text c then Some (first, last + line_length (drop last text)) else None
