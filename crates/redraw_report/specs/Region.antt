-- Where in a text a region lies that a tool counted by lines and columns, by characters or by bytes.
use Rattle.std.specs.Prelude.{ℕ, zero, suc, ◌+◌, ◌-◌, ◌*◌, ◌%◌, Bool, true, false, nat_lt, nat_le, ◌==◌, ◌&&◌, ◌||◌, not, List, [], ◌∷◌, Option, Some, None}
use Rattle.std.specs.Prelude.{drop, length, slice_get, slice_index_or, if◌then◌else◌}
use Rattle.std.specs.Option.{option_map_or}
use Rattle.redraw_report.specs.declared.diagnostic.LineRegion.{LineRegion}
use Rattle.redraw_report.specs.declared.diagnostic.Region.{Region}
use Rattle.redraw_report.specs.declared.diagnostic.Region.TheVariants as region
use Rattle.redraw_report.specs.declared.diagnostic.Unit as unit_type
use Rattle.redraw_report.specs.declared.diagnostic.Unit.TheVariants.{Utf16, CodePoints, Bytes, Display, Unsaid}
use Rattle.redraw_report.specs.declared.locate.OnLine.{OnLine}
use Rattle.redraw_report.specs.declared.locate.OnLine.TheVariants as on_line
use Rattle.snippet_lines.specs.declared.clamp.Place.{Place}
use Rattle.snippet_text.specs.Width.{char_width}
pub use Rattle.snippet_lines.specs.Places.{IsHeld, IsSpanBetween}
pub use Rattle.snippet_lines.specs.TextLines.{line_start_after, starts_after, start_bytes, begins_with_feed, ends_line, line_length, before_line_end}

-- whether some bytes are a line's end and nothing else
abbrev pub is_line_end : List ℕ → Bool
is_line_end [] = false
is_line_end (b ∷ []) = b == 10
is_line_end (b ∷ c ∷ []) = b == 13 && c == 10
is_line_end (b ∷ c ∷ d ∷ bs) = false

-- the bytes in which columns of the first line of some bytes count: the line, and of the last line of a text its end too, so that a
-- column may be the one after it
abbrev pub counted_line : List ℕ → List ℕ
counted_line bytes = if is_line_end (drop (line_length bytes) bytes) then bytes else before_line_end bytes

-- whether a byte is one of a character that began before it
abbrev pub goes_on : ℕ → Bool
goes_on b = nat_le 128 b && nat_lt b 192

-- what such a byte says of its character: its lowest six bits
abbrev pub low_bits : List ℕ → ℕ → ℕ
low_bits bytes k = slice_index_or bytes k 0 % 64

-- the number of the character that begins with this byte and goes on with these, by UTF-8
abbrev pub code_at : ℕ → List ℕ → ℕ
code_at b bs =
    if nat_lt b 128 then b
    else if nat_lt b 224 then b % 32 * 64 + low_bits bs 0
    else if nat_lt b 240 then b % 16 * 4096 + low_bits bs 0 * 64 + low_bits bs 1
    else b % 8 * 262144 + low_bits bs 0 * 4096 + low_bits bs 1 * 64 + low_bits bs 2

-- whether a number is one of a character: a Unicode scalar value
abbrev pub is_scalar : ℕ → Bool
is_scalar c = nat_lt c 0xD800 || nat_le 0xE000 c && nat_lt c 0x11_0000

-- how many columns of a terminal a character takes that stands after so many: a tab goes on to the next multiple of eight, a wide one
-- takes two
abbrev pub columns_at : ℕ → ℕ → List ℕ → ℕ
columns_at before b bs = if b == 9 then 8 - before % 8 else if is_scalar (code_at b bs) then char_width (code_at b bs) else 1

-- how many units of UTF-16 a character is, told at its first byte: two if it is written with four bytes in UTF-8
abbrev pub utf16_at : ℕ → ℕ
utf16_at b = if goes_on b then 0 else if nat_le 240 b then 2 else 1

-- how many units a character counts that stands after so many, told at its first byte; its other bytes count none, unless each byte
-- does
abbrev pub units_at : unit_type.Unit → ℕ → ℕ → List ℕ → ℕ
units_at Utf16 before b bs = utf16_at b
units_at Unsaid before b bs = utf16_at b
units_at CodePoints before b bs = if goes_on b then 0 else 1
units_at Bytes before b bs = 1
units_at Display before b bs = if goes_on b then 0 else columns_at before b bs

-- the place after so many units of some bytes that begin at byte `at` and after so many units `before`: the first byte before which
-- they are counted and at which a character begins that counts. It isn't exact where it lies inside of a character, or there are fewer
abbrev pub place_in_bytes : unit_type.Unit → ℕ → ℕ → List ℕ → ℕ → Place
place_in_bytes unit at before [] units = record { byte = at; exact = units == 0 }
place_in_bytes unit at before (b ∷ bs) units =
    if nat_lt units (units_at unit before b bs) then record { byte = at; exact = units == 0 }
    else place_in_bytes unit (at + 1) (before + units_at unit before b bs) bs (units - units_at unit before b bs)

-- the place of a column, counted from 1, in a line
abbrev pub column_in : unit_type.Unit → List ℕ → ℕ → Place
column_in unit line zero = record { byte = 0; exact = false }
column_in unit line (suc units) = place_in_bytes unit 0 0 line units

-- the place that comes so many bytes after another
abbrev pub moved : ℕ → Place → Place
moved bytes p = record { byte = bytes + p.byte; exact = p.exact }

-- how many blanks some bytes begin with: spaces and tabs
abbrev pub blanks_before : List ℕ → ℕ
blanks_before [] = 0
blanks_before (b ∷ bs) = if b == 32 || b == 9 then suc (blanks_before bs) else 0

-- the place of a column in the line that starts at this byte of a text, of the first character there that isn't a blank, or of the end
-- of the line's text
abbrev pub on_line_from : unit_type.Unit → List ℕ → OnLine → ℕ → Place
on_line_from unit text (on_line.Column column) start = moved start (column_in unit (counted_line (drop start text)) column)
on_line_from unit text on_line.Text start = record { byte = start + blanks_before (drop start text); exact = true }
on_line_from unit text on_line.End start = record { byte = start + line_length (drop start text); exact = true }

-- the same in the line of a number: of a text of which the first line has a number, and its lines start at these bytes.
-- Before the first line it is the text's start, and after the last its end, and isn't exact
abbrev pub place_on : unit_type.Unit → List ℕ → List ℕ → ℕ → ℕ → OnLine → Place
place_on unit text starts first number at =
    if nat_lt number first then record { byte = 0; exact = false }
    else option_map_or (on_line_from unit text at) (slice_get starts (number - first)) record { byte = length text; exact = false }

-- where on its line a region with this start column and this end column starts: without any, at the first character that isn't a blank
abbrev pub start_on_line : Option ℕ → Option ℕ → OnLine
start_on_line (Some column) end = on_line.Column column
start_on_line None (Some end) = on_line.Column 1
start_on_line None None = on_line.Text

-- where on its line a region with this end column ends
abbrev pub end_on_line : Option ℕ → OnLine
end_on_line (Some column) = on_line.Column column
end_on_line None = on_line.End

-- where a region starts
abbrev pub start_place : List ℕ → List ℕ → ℕ → Region → Place
start_place text starts first (region.Bytes start end) = record { byte = start; exact = true }
start_place text starts first (region.Chars start end unit) = place_in_bytes unit 0 0 text start
start_place text starts first (region.Lines r) =
    place_on r.unit text starts first r.start_line (start_on_line r.start_column r.end_column)

-- where it ends
abbrev pub end_place : List ℕ → List ℕ → ℕ → Region → Place
end_place text starts first (region.Bytes start end) = record { byte = end; exact = true }
end_place text starts first (region.Chars start end unit) = place_in_bytes unit 0 0 text end
end_place text starts first (region.Lines r) = place_on r.unit text starts first r.end_line (end_on_line r.end_column)

-- whether a region lies in a text where it does if its columns count in this unit
abbrev pub lies_alike : List ℕ → List ℕ → ℕ → LineRegion → unit_type.Unit → Bool
lies_alike text starts first r unit =
    let other = region.Lines (record r { unit = unit }) in
    ((start_place text starts first (region.Lines r)).byte == (start_place text starts first other).byte)
    && ((end_place text starts first (region.Lines r)).byte == (end_place text starts first other).byte)

-- whether nothing says what the columns of a region count
abbrev pub is_unsaid : unit_type.Unit → Bool
is_unsaid Unsaid = true
is_unsaid Utf16 = false
is_unsaid CodePoints = false
is_unsaid Bytes = false
is_unsaid Display = false

-- whether it is settled where in a text a region lies: it is said what its columns count, or that makes no difference
abbrev pub is_settled : List ℕ → List ℕ → ℕ → Region → Bool
is_settled text starts first (region.Bytes start end) = true
is_settled text starts first (region.Chars start end unit) = true
is_settled text starts first (region.Lines r) =
    not (is_unsaid r.unit)
    || (lies_alike text starts first r CodePoints && (lies_alike text starts first r Bytes && lies_alike text starts first r Display))
