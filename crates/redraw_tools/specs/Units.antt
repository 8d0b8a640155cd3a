-- What the columns of a SARIF log's run count, in this order: what is asked for, what its tool is known to count, what the run says, what
-- fits a snippet. Else nothing says it.
use Rattle.std.specs.Prelude.{ℕ, ◌-◌, ◌==◌, ◌&&◌, ◌||◌, Bool, true, false, nat_le, nat_lt, List, [], ◌∷◌, Option, Some, None, codes, length, map, unwrap_or}
use Rattle.std.specs.Prelude.{bytes_eq, if◌then◌else◌, option_and_then, option_map}
use Rattle.std.specs.Char.{to_ascii_lowercase}
use Rattle.std.specs.Option.{option_or}
use Rattle.serde_json.specs.Data.{Data}
use Rattle.serde_json.specs.Find.{get}
use Rattle.json_lines.specs.Lenient.{field_in, from_one, list_at, text_at, text_in}
use Rattle.redraw_report.specs.Region.{before_line_end, is_unsaid, place_in_bytes}
use Rattle.redraw_report.specs.declared.diagnostic.LineRegion.{LineRegion}
use Rattle.redraw_report.specs.declared.diagnostic.Unit.{Unit}
use Rattle.redraw_report.specs.declared.diagnostic.Unit.TheVariants.{Utf16, CodePoints, Bytes, Display, Unsaid}

-- ---- what tools are known to count

-- whether a name is this one, whatever the case of letters
abbrev pub is_named : List ℕ → List ℕ → Bool
is_named name known = bytes_eq (map to_ascii_lowercase name) (map to_ascii_lowercase known)

-- whether a byte is this letter, small or capital
abbrev pub is_letter : ℕ → ℕ → Bool
is_letter b letter = to_ascii_lowercase b == letter

-- whether a name begins as those of GCC's parts do, as `GNU C23`: with `GNU` and a blank
abbrev pub begins_as_gnu : List ℕ → Bool
begins_as_gnu (g ∷ n ∷ u ∷ blank ∷ name) = blank == 32 && (is_letter g 103 && is_letter n 110 && is_letter u 117)
begins_as_gnu name = false

-- whether the tool of a name counts bytes
abbrev pub counts_bytes : List ℕ → Bool
counts_bytes name = is_named name (codes "Cppcheck") || is_named name (codes "Staticcheck") || is_named name (codes "Bandit")

-- what the tool of a name is known to count, whatever its logs say: GCC columns of a terminal, ruff and Flawfinder characters
abbrev pub unit_of_tool : List ℕ → Option Unit
unit_of_tool name =
    if begins_as_gnu name then Some Display
    else if is_named name (codes "ruff") || is_named name (codes "Flawfinder") then Some CodePoints
    else if counts_bytes name then Some Bytes
    else None

abbrev pub known_unit : Option (List ℕ) → Option Unit
known_unit name = option_and_then unit_of_tool name

-- the name of the tool that wrote a run
abbrev pub driver_name : Data → Option (List ℕ)
driver_name run = text_in (codes "name") (field_in (codes "driver") (get (codes "tool") run))

-- ---- what a run says

-- what columns of this kind count
abbrev pub unit_by_kind : List ℕ → Option Unit
unit_by_kind kind =
    if bytes_eq kind (codes "unicodeCodePoints") then Some CodePoints
    else if bytes_eq kind (codes "utf16CodeUnits") then Some Utf16
    else None

abbrev pub said_unit : Data → Option Unit
said_unit run = option_and_then unit_by_kind (text_at (codes "columnKind") run)

-- what the columns of a run count: what is asked for, else what its tool is known to count, else what it says
abbrev pub run_unit : Option Unit → Data → Unit
run_unit asked run = unwrap_or (option_or (option_or asked (known_unit (driver_name run))) (said_unit run)) Unsaid

-- what offsets of characters count there: units of UTF-16 where columns count these, or nothing is said; else characters
abbrev pub offset_unit : Unit → Unit
offset_unit Utf16 = Utf16
offset_unit Unsaid = Utf16
offset_unit CodePoints = CodePoints
offset_unit Bytes = CodePoints
offset_unit Display = CodePoints

-- ---- what fits a snippet

-- whether a text is as long as a part of a line from one column to before another
abbrev pub fits : List ℕ → ℕ → ℕ → Unit → Bool
fits text start end unit =
    let end_place = place_in_bytes unit 0 (start - 1) text (end - start) in end_place.exact && end_place.byte == length text

-- the one of the units that fits, if there is just one
abbrev pub only_unit : (utf16 chars bytes display : Bool) → Unit
only_unit true false false false = Utf16
only_unit false true false false = CodePoints
only_unit false false true false = Bytes
only_unit false false false true = Display
only_unit utf16 chars bytes display = Unsaid

-- the one unit by which columns of a line fit the text between them, if there is just one
abbrev pub fitting : List ℕ → (one_line : Bool) → (start end : Option ℕ) → Unit
fitting text one_line (Some start) (Some end) =
    if one_line && (nat_le start end && nat_lt 0 start)
    then only_unit (fits text start end Utf16) (fits text start end CodePoints) (fits text start end Bytes) (fits text start end Display)
    else Unsaid
fitting text one_line (Some start) None = Unsaid
fitting text one_line None end = Unsaid

abbrev pub unit_by_snippet : LineRegion → List ℕ → Unit
unit_by_snippet r snippet = fitting (before_line_end snippet) (r.start_line == r.end_line) r.start_column r.end_column

-- what the columns of a region count: what those of its run do, else what fits its snippet
abbrev pub region_unit : LineRegion → Option (List ℕ) → Unit
region_unit r None = r.unit
region_unit r (Some snippet) = if is_unsaid r.unit then unit_by_snippet r snippet else r.unit

-- the text of a region's snippet
abbrev pub snippet_at : Data → Option (List ℕ)
snippet_at region = text_in (codes "text") (get (codes "snippet") region)

-- the lines and columns of a region that begins on this line. Where it names no line to end with, it ends on this one
abbrev pub lines_from : Data → ℕ → Unit → LineRegion
lines_from region start_line unit = record {
  start_line = start_line;
  start_column = from_one (codes "startColumn") region;
  end_line = unwrap_or (from_one (codes "endLine") region) start_line;
  end_column = from_one (codes "endColumn") region;
  unit = unit;
}

-- what columns count by the snippet of a region
abbrev pub unit_by_region : Data → Unit
unit_by_region region =
    unwrap_or (option_map (λ line. region_unit (lines_from region line Unsaid) (snippet_at region)) (from_one (codes "startLine") region)) Unsaid

abbrev pub unit_by_place : Data → Unit
unit_by_place location =
    unwrap_or (option_map unit_by_region (field_in (codes "region") (get (codes "physicalLocation") location))) Unsaid

-- the same by the first of some places that says it
abbrev pub unit_by_places : List Data → Unit
unit_by_places [] = Unsaid
unit_by_places (location ∷ locations) =
    if is_unsaid (unit_by_place location) then unit_by_places locations else unit_by_place location

-- what the columns of a result count: what those of its run do, else what its own places say
abbrev pub result_unit : Unit → Data → Unit
result_unit unit result = if is_unsaid unit then unit_by_places (list_at (codes "locations") result) else unit
