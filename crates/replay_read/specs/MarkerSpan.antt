-- Where the span of a marker lies in its source: its bytes, by numbers that count units, or by lines and columns. Where lines start, and how
-- units are counted, is as in `snippet_lines`, which takes what comes closest; here there is none where the source has no such place.
use Rattle.std.specs.Prelude.{◌≡◌, ◌⊎◌, ℕ, ◌+◌, ◌-◌, nat_le, nat_lt, ◌==◌, ◌||◌, List, [], ◌∷◌, Option, Some, None, chars, codes, drop, length, slice_get}
use Rattle.std.specs.Prelude.{option_and_then, option_map, if◌then◌else◌}
use Rattle.std.specs.declared.ops.Range.{Range}
use Rattle.serde_json.specs.Data.{Data}
use Rattle.serde_json.specs.Find.{as_str}
use Rattle.json_lines.specs.Field.{SaysAt, given, number_field}
use Rattle.snippet_lines.specs.Places.{place_from}
use Rattle.snippet_lines.specs.TextLines.{start_bytes}
use Rattle.snippet_lines.specs.declared.clamp.Place.{Place}
use Rattle.snippet_lines.specs.declared.columns.ColumnUnit.TheVariants as column
use Rattle.snippet_lines.specs.declared.columns.Position.{Position}
use Rattle.replay_read.specs.Shape.{HasShape}
use Rattle.replay_read.specs.declared.shape.Shape.TheVariants as shape
use Rattle.replay_read.specs.declared.span.SpanUnit.{SpanUnit}
use Rattle.replay_read.specs.declared.span.SpanUnit.TheVariants.{Byte, Char, Utf16}

-- how a unit is written
abbrev pub unit_name : SpanUnit → List ℕ
unit_name Byte = codes "byte"
unit_name Char = codes "char"
unit_name Utf16 = codes "utf16"

-- a value names a unit
abbrev pub IsUnit : Data → SpanUnit → Type 0
IsUnit d unit = as_str d ≡ Some (unit_name unit)

-- the byte of a place that was looked for in a text: where the text has fewer units there is none, and a place between the units of one
-- character is the second byte of it
abbrev pub byte_of : List ℕ → Place → Option ℕ
byte_of text place =
    if place.exact then Some place.byte else if nat_lt place.byte (length text) then Some (place.byte + 1) else None

-- the byte before which so many units of a text stand; none where it has fewer
abbrev pub byte_after : SpanUnit → List ℕ → ℕ → Option ℕ
byte_after Byte text units = if nat_le units (length text) then Some units else None
byte_after Char text units = byte_of text (place_from column.Chars 0 (chars text) units)
byte_after Utf16 text units = byte_of text (place_from column.Utf16 0 (chars text) units)

-- what stands before the first line feed
abbrev pub until_feed : List ℕ → List ℕ
until_feed [] = []
until_feed (b ∷ bs) = if b == 10 then [] else b ∷ until_feed bs

-- the byte before which so many units stand in the line that starts at a byte of a source; none where the line has fewer
abbrev pub byte_in_line : SpanUnit → List ℕ → ℕ → ℕ → Option ℕ
byte_in_line unit source units start =
    option_map (λ byte. start + byte) (byte_after unit (until_feed (drop start source)) units)

-- the byte of a line and a column, each counted from 1; none where the source has no such place. The column after a line's last is one,
-- and a carriage return before a line feed is a column too
abbrev pub byte_at : SpanUnit → List ℕ → Position → Option ℕ
byte_at unit source place =
    if place.line == 0 || place.column == 0 then None
    else option_and_then (byte_in_line unit source (place.column - 1)) (slice_get (start_bytes source) (place.line - 1))

-- the byte of a number, which counts bytes where no unit is said
abbrev pub counted : List ℕ → Option SpanUnit → ℕ → Option ℕ
counted source None number = Some number
counted source (Some Byte) number = Some number
counted source (Some Char) number = byte_after Char source number
counted source (Some Utf16) number = byte_after Utf16 source number

-- the byte of a place, whose column counts characters where no unit is said
abbrev pub placed : List ℕ → Option SpanUnit → Position → Option ℕ
placed source None place = byte_at Char source place
placed source (Some unit) place = byte_at unit source place

-- a span past the end of a source, by more than the one byte after it that may be marked: a report is refused for it
abbrev pub past_end : List ℕ → Range ℕ
past_end source = record { start = length source + 2; end = length source + 2 }

-- the span between two bytes, and one past the end where the source has one of them not
abbrev pub span_between : List ℕ → Option ℕ → Option ℕ → Range ℕ
span_between source (Some start) (Some end) = record { start = start; end = end }
span_between source (Some start) None = past_end source
span_between source None end = past_end source

-- a place: its line and its column
pub record IsPlaceOf (d : Data) (place : Position) : Type 0 where
  pub only : HasShape shape.Place d
  pub line : number_field (codes "line") d ≡ Some place.line
  pub column : number_field (codes "column") d ≡ Some place.column

-- a span by numbers: neither `from` nor `to` is given beside them
pub record IsCountedSpan (source : List ℕ) (unit : Option SpanUnit) (d : Data) (span : Range ℕ) : Type 0 where
  pub no_from : given (codes "from") d ≡ None
  pub no_to : given (codes "to") d ≡ None
  pub start : ℕ
  pub end : ℕ
  pub start_is : number_field (codes "start") d ≡ Some start
  pub end_is : number_field (codes "end") d ≡ Some end
  pub span_is : span ≡ span_between source (counted source unit start) (counted source unit end)

-- a span by places: neither `start` nor `end` is given beside them
pub record IsPlacedSpan (source : List ℕ) (unit : Option SpanUnit) (d : Data) (span : Range ℕ) : Type 0 where
  pub no_start : given (codes "start") d ≡ None
  pub no_end : given (codes "end") d ≡ None
  pub from : Position
  pub to : Position
  pub from_is : SaysAt IsPlaceOf (codes "from") d from
  pub to_is : SaysAt IsPlaceOf (codes "to") d to
  pub span_is : span ≡ span_between source (placed source unit from) (placed source unit to)

-- the span of a marker
abbrev pub IsSpanOf : List ℕ → Option SpanUnit → Data → Range ℕ → Type 0
IsSpanOf source unit d span = IsCountedSpan source unit d span ⊎ IsPlacedSpan source unit d span
