-- What some lines of a compiler report: the finding of the first, with what each line after it says.
use Rattle.std.specs.Prelude.{ℕ, ◌+◌, ◌-◌, ◌^◌, ◌==◌, ◌&&◌, Bool, true, false, List, [], ◌∷◌, ◌++◌, Option, Some, None, is_some, min, nat_lt, not}
use Rattle.std.specs.Prelude.{if◌then◌else◌, option_map, unwrap_or}
use Rattle.std.specs.Option.{option_map_or}
use Rattle.std.specs.Str.Lines.{lines}
use Rattle.redraw_report.specs.declared.diagnostic.Region.{Region}
use Rattle.redraw_report.specs.declared.diagnostic.Region.TheVariants as region
use Rattle.redraw_report.specs.declared.diagnostic.Severity.{Severity}
use Rattle.redraw_report.specs.declared.diagnostic.Severity.TheVariants.{Error, Warning, Info, Note, Help, Plain}
use Rattle.redraw_report.specs.declared.diagnostic.Unit.{Unit}
use Rattle.redraw_tools.specs.Cut.{Parts, before, parted}
use Rattle.redraw_tools.specs.Excerpt.{marked_width}
use Rattle.redraw_tools.specs.Found.{Found, Place, Remark, place}
use Rattle.redraw_tools.specs.Heading.{Line, heading_of}
use Rattle.redraw_tools.specs.Said.{Says, said_of}

-- one more, as far as that fits in 64 bits
abbrev pub next : ℕ → ℕ
next n = min (n + 1) (2 ^ 64 - 1)

-- the column as it is counted from 1: by pylint from 0, and 0 of another tool is none
abbrev pub column_of : Option ℕ → Bool → Option ℕ
column_of None is_from_zero = None
column_of (Some column) true = Some (next column)
column_of (Some column) false = if column == 0 then None else Some column

-- the point of a line at a column; all of its text where there is none
abbrev pub point : ℕ → Option ℕ → Unit → Region
point line column unit = region.Lines record {
  start_line = line;
  start_column = column;
  end_line = line;
  end_column = column;
  unit = unit;
}

-- the point that a line names, and the start of the file where it is of no line
abbrev pub region_at : Line → Bool → Unit → Region
region_at l is_from_zero unit =
    if l.line == 0 then region.Bytes 0 0 else point l.line (column_of l.column is_from_zero) unit

-- the file, with its drive
abbrev pub file_by : Option (List ℕ) → List ℕ → List ℕ
file_by None file = file
file_by (Some drive) file = drive ++ 58 ∷ file

-- the place of a line, as the point of a report of which nothing is said
abbrev pub places_of : Line → Says → Unit → List Place
places_of l s unit = place (file_by l.drive l.file) (region_at l s.is_from_zero unit) None true ∷ []

-- the finding that a line tells of
abbrev pub finding_by : Unit → Line → Says → Found
finding_by unit l s = record {
  severity = s.severity;
  message = s.message;
  name = option_map (λ id. (id, None)) s.id;
  places = places_of l s unit;
  remarks = [];
  homes = [];
  shows_gone = false;
}

abbrev pub finding_of : Unit → Line → Found
finding_of unit l = finding_by unit l (said_of l.text)

-- a line is a note that belongs to what comes before it: it says `note`, and names no rule
abbrev pub is_note_level : Severity → Bool
is_note_level Note = true
is_note_level Error = false
is_note_level Warning = false
is_note_level Info = false
is_note_level Help = false
is_note_level Plain = false

abbrev pub says_note : Says → Bool
says_note s = is_note_level s.severity && not (is_some s.id)

abbrev pub tells_note : Line → Bool
tells_note l = says_note (said_of l.text)

abbrev pub remark_by : Unit → Line → Says → Remark
remark_by unit l s = record {
  severity = s.severity;
  message = s.message;
  places = places_of l s unit;
  alternatives = [];
  goes_on = false;
}

abbrev pub remark_of : Unit → Line → Remark
remark_of unit l = remark_by unit l (said_of l.text)

-- a point with a width of more than one column
abbrev pub wide_column : Option ℕ → ℕ → Option ℕ
wide_column column width = option_map (λ n. min (n + width) (2 ^ 64 - 1)) column

abbrev pub is_point : Option ℕ → Option ℕ → Bool
is_point None None = true
is_point None (Some end) = false
is_point (Some start) None = false
is_point (Some start) (Some end) = start == end

abbrev pub widened : Region → ℕ → Region
widened (region.Bytes start end) width = region.Bytes start end
widened (region.Chars start end unit) width = region.Chars start end unit
widened (region.Lines r) width =
    if nat_lt 1 width && is_point r.start_column r.end_column
    then region.Lines (record r { end_column = wide_column r.start_column width })
    else region.Lines r

-- some things, of which the last is changed
abbrev pub change_last : {X : Type 0} → (X → X) → List X → List X
change_last f [] = []
change_last f (x ∷ []) = f x ∷ []
change_last f (x ∷ y ∷ xs) = x ∷ change_last f (y ∷ xs)

-- the last of some places, if it is a point, with a width
abbrev pub widen_place : ℕ → Place → Place
widen_place width p = record p { region = widened p.region width }

abbrev pub widen_last : List Place → ℕ → List Place
widen_last places width = change_last (widen_place width) places

-- the same of what is said last of a finding: its last remark, else itself
abbrev pub widen_remark : ℕ → Remark → Remark
widen_remark width r = record r { places = widen_last r.places width }

abbrev pub widen_by : Found → List Remark → ℕ → Found
widen_by f [] width = record f { places = widen_last f.places width }
widen_by f (r ∷ rs) width = record f { remarks = change_last (widen_remark width) (r ∷ rs) }

abbrev pub widen : Found → Option ℕ → Found
widen f None = f
widen f (Some width) = widen_by f f.remarks width

-- a finding with what one more line says: a note joins it, and a row of marks says how wide the last place is
abbrev pub with_note : Unit → Found → Line → Found
with_note unit f l = record f { remarks = f.remarks ++ remark_of unit l ∷ [] }

abbrev pub is_note_in : Option Line → Bool
is_note_in l = option_map_or tells_note l false

-- the first line of a text, without its end, and what it says of a place
abbrev pub line_by : List ℕ → Option Parts → List ℕ
line_by text None = text
line_by text (Some p) = unwrap_or (before (13 ∷ []) p.0) p.0

abbrev pub first_line : List ℕ → List ℕ
first_line text = line_by text (parted (10 ∷ []) text)

abbrev pub first_heading : List ℕ → Option Line
first_heading text = heading_of (first_line text)

abbrev pub add_line : Unit → Found → List ℕ → Found
add_line unit f line =
    if is_note_in (heading_of line)
    then option_map_or (with_note unit f) (heading_of line) f
    else widen f (marked_width line)

abbrev pub with_lines : Unit → Found → List (List ℕ) → Found
with_lines unit f [] = f
with_lines unit f (line ∷ more) = with_lines unit (add_line unit f line) more

-- what some lines report, if the first tells of a finding
abbrev pub reported_by : Unit → List (List ℕ) → Option Found
reported_by unit [] = None
reported_by unit (line ∷ more) = option_map (λ l. with_lines unit (finding_of unit l) more) (heading_of line)

-- what a text of lines tells: what its first line begins, with the others
abbrev pub reported : Unit → List ℕ → Option Found
reported unit text = reported_by unit (lines text)
