-- Where in a source a place is that is named by line and column, and what is returned where the source doesn't hold it.
use Rattle.std.specs.Prelude.{◌≡◌, ℕ, zero, suc, ◌+◌, ◌-◌, ◌≤◌, nat_le, nat_lt, max, ◌==◌, ◌&&◌, ◌||◌, not, Bool, true, false, List, [], ◌∷◌, chars, drop}
use Rattle.std.specs.Prelude.{length}
use Rattle.std.specs.Prelude.{slice_get, slice_index_or, if◌then◌else◌}
use Rattle.std.specs.Char.{len_utf8}
use Rattle.std.specs.Option.{option_map_or}
use Rattle.std.specs.Str.{IsCharBoundary}
use Rattle.snippet_text.specs.Width.{char_width}
use Rattle.snippet_lines.specs.TextLines.{before_line_end, start_bytes}
use Rattle.snippet_lines.specs.declared.clamp.Place.{Place}
use Rattle.snippet_lines.specs.declared.clamp.SpanAt.{SpanAt}
use Rattle.snippet_lines.specs.declared.columns.ColumnUnit as unit_type
use Rattle.snippet_lines.specs.declared.columns.ColumnUnit.TheVariants.{Chars, Utf16, Columns}
use Rattle.snippet_lines.specs.declared.columns.Position.{Position}

-- how many units a character counts
abbrev pub units_of : unit_type.ColumnUnit → ℕ → ℕ
units_of Chars c = 1
units_of Utf16 c = if nat_lt c 0x1_0000 then 1 else 2
units_of Columns c = char_width c

-- the place after so many units of some characters, the first of which begins at byte `at`: the first that is no part of them. It isn't
-- exact where it lies inside of that character, or there are fewer units
abbrev pub place_from : unit_type.ColumnUnit → ℕ → List ℕ → ℕ → Place
place_from unit at [] units = record { byte = at; exact = units == 0 }
place_from unit at (c ∷ cs) units =
    if nat_lt units (units_of unit c) then record { byte = at; exact = units == 0 }
    else place_from unit (at + len_utf8 c) cs (units - units_of unit c)

-- the place of a column, counted from 1, in the line that starts at this byte of a source
abbrev pub place_on_its_line : unit_type.ColumnUnit → List ℕ → ℕ → ℕ → Place
place_on_its_line unit source zero start = record { byte = start; exact = false }
place_on_its_line unit source (suc units) start =
    let within = place_from unit 0 (chars (before_line_end (drop start source))) units in
    record { byte = start + within.byte; exact = within.exact }

-- the place of a column in the line of a number, counted from 1: before the first line it is the source's start, and after the last its
-- end, and isn't exact
abbrev pub place_in : unit_type.ColumnUnit → List ℕ → ℕ → ℕ → Place
place_in unit source column zero = record { byte = 0; exact = false }
place_in unit source column (suc index) =
    option_map_or (place_on_its_line unit source column) (slice_get (start_bytes source) index) record { byte = length source; exact = false }

-- the place of a position
abbrev pub place_of : unit_type.ColumnUnit → List ℕ → Position → Place
place_of unit source p = place_in unit source p.column p.line

-- whether a byte is the first of a character: it is one of ASCII, or the lead of more
abbrev pub begins_char : ℕ → Bool
begins_char b = nat_lt b 128 || nat_le 192 b

-- whether a place of a text is a border of characters: one begins there, or the text ends
abbrev pub is_border : List ℕ → ℕ → Bool
is_border text k = k == length text || nat_lt k (length text) && begins_char (slice_index_or text k 0)

-- the last border of characters of a text at this byte or before it; so for a byte after the text it is the text's end
abbrev pub border_before : List ℕ → ℕ → ℕ
border_before text zero = zero
border_before text (suc k) = if is_border text (suc k) then suc k else border_before text k

-- the span between two places of a text: from the last border at the one or before it to the last border at the other or before it, or
-- to its own start where that is later; and whether it differs from what was asked for
abbrev pub clamped_between : List ℕ → Place → Place → SpanAt
clamped_between text from to =
    let start = border_before text from.byte in
    let end = max (border_before text to.byte) start in
    record { span = record { start = start; end = end }; clamped = not (from.exact && to.exact && start == from.byte && end == to.byte) }

-- a place that a text holds: it was found as it was asked for, and lies between characters
pub record IsHeld (text : List ℕ) (p : Place) : Type 0 where
  pub exact : p.exact ≡ true
  pub border : IsCharBoundary text p.byte

-- what is returned for two places: a part of the text between characters, from the one to the other where the text holds both, in that
-- order; and only where it is said not to be does it differ
pub record IsSpanBetween (text : List ℕ) (from to : Place) (r : SpanAt) : Type 0 where
  pub ordered : r.span.start ≤ r.span.end
  pub starts : IsCharBoundary text r.span.start
  pub ends : IsCharBoundary text r.span.end
  pub held : IsHeld text from → IsHeld text to → from.byte ≤ to.byte
      → r ≡ record { span = record { start = from.byte; end = to.byte }; clamped = false }
  pub told : r.clamped ≡ false → IsHeld text from × IsHeld text to × (r.span.start ≡ from.byte) × (r.span.end ≡ to.byte)
