-- Lines and other parts of a source, and how many units stand before a byte of it.
use Rattle.std.specs.Prelude.{◌≡◌, ℕ, ◌+◌, ◌≤◌, nat_lt, List, Option, chars, drop, length, slice_get, sum_by, take, option_map, if◌then◌else◌}
use Rattle.std.specs.Char.{len_utf8}
use Rattle.std.specs.Str.{IsCharBoundary}
use Rattle.std.specs.declared.ops.Range.{Range}
use Rattle.snippet_lines.specs.TextLines.{start_bytes}
use Rattle.replay_read.specs.MarkerSpan.{until_feed}
use Rattle.replay_read.specs.declared.ruler.Stop.{Stop}
use Rattle.replay_read.specs.declared.span.SpanUnit.{SpanUnit}
use Rattle.replay_read.specs.declared.span.SpanUnit.TheVariants.{Byte, Char, Utf16}

-- how many units a character has
abbrev pub size_of : SpanUnit → ℕ → ℕ
size_of Byte c = len_utf8 c
size_of Char c = 1
size_of Utf16 c = if nat_lt c 0x1_0000 then 1 else 2

-- how many units a text has
abbrev pub units_in : SpanUnit → List ℕ → ℕ
units_in unit text = sum_by (size_of unit) (chars text)

-- a stop in a source: a border of its characters, with the number of units that stand before it
abbrev pub IsStop : SpanUnit → List ℕ → Stop → Type 0
IsStop unit source stop = IsCharBoundary source stop.byte × (stop.units ≡ units_in unit (take stop.byte source))

-- a part of a source, from one border of its characters to another
abbrev pub IsPart : List ℕ → Range ℕ → Type 0
IsPart source part = (part.start ≤ part.end) × IsCharBoundary source part.start × IsCharBoundary source part.end

-- the line of an index, from 0, without its line feed; none where the source has fewer
abbrev pub line_range : List ℕ → ℕ → Option (Range ℕ)
line_range source index =
    option_map (λ start. record { start = start; end = start + length (until_feed (drop start source)) }) (slice_get (start_bytes source) index)
