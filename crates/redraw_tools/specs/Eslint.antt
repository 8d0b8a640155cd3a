-- What a message in ESLint's log reports of its file.
use Rattle.std.specs.Prelude.{ℕ, ◌==◌, List, [], ◌∷◌, ◌++◌, Option, Some, None, codes, is_some, true, unwrap_or}
use Rattle.std.specs.Prelude.{if◌then◌else◌, option_and_then, option_map}
use Rattle.std.specs.List.{filter_map}
use Rattle.std.specs.Option.{option_or}
use Rattle.serde_json.specs.Data.{Data}
use Rattle.serde_json.specs.Find.{as_object}
use Rattle.json_lines.specs.Field.{as_whole}
use Rattle.json_lines.specs.Lenient.{from_one, list_at, number_at, object_at, text_at}
use Rattle.redraw_report.specs.declared.diagnostic.LineRegion.{LineRegion}
use Rattle.redraw_report.specs.declared.diagnostic.Region.{Region}
use Rattle.redraw_report.specs.declared.diagnostic.Region.TheVariants as region
use Rattle.redraw_report.specs.declared.diagnostic.Severity.{Severity}
use Rattle.redraw_report.specs.declared.diagnostic.Severity.TheVariants.{Error, Warning}
use Rattle.redraw_report.specs.declared.diagnostic.Unit.TheVariants.{Utf16}
use Rattle.redraw_tools.specs.Found.{Change, Found, Place, Remark, help, place}

-- `severity`: 2 is an error
abbrev pub severity_by : Option ℕ → Severity
severity_by None = Warning
severity_by (Some number) = if number == 2 then Error else Warning

-- `line`, `column`, `endLine` and `endColumn`, in units of UTF-16 from 1: without an end a point, and without a line the start of the file
abbrev pub lines_from : Data → ℕ → LineRegion
lines_from d line = record {
  start_line = line;
  start_column = from_one (codes "column") d;
  end_line = unwrap_or (from_one (codes "endLine") d) line;
  end_column = option_or (from_one (codes "endColumn") d) (from_one (codes "column") d);
  unit = Utf16;
}

abbrev pub region_in : Data → Region
region_in d = unwrap_or (option_map (λ line. region.Lines (lines_from d line)) (from_one (codes "line") d)) (region.Bytes 0 0)

-- the place of a message in the file of a path
abbrev pub places_in : Option (List ℕ) → Data → List Place
places_in None d = []
places_in (Some path) d = place path (region_in d) None true ∷ []

-- `range`: two offsets in units of UTF-16
abbrev pub range_by : Option ℕ → Option ℕ → Option Region
range_by (Some start) (Some end) = Some (region.Chars start end Utf16)
range_by (Some start) None = None
range_by None end = None

abbrev pub range_of : List Data → Option Region
range_of (start ∷ end ∷ []) = range_by (as_whole start) (as_whole end)
range_of ds = None

-- the edit of `range` and `text`
abbrev pub change : List ℕ → Region → List ℕ → Change
change path r text = record { file = path; region = r; text = text; carried = None }

abbrev pub fix_by : (path message : List ℕ) → Option Region → Option (List ℕ) → Option Remark
fix_by path message (Some r) (Some text) = Some (help message (change path r text ∷ []))
fix_by path message (Some r) None = None
fix_by path message None text = None

abbrev pub fix_of : (path message : List ℕ) → Data → Option Remark
fix_of path message fix = fix_by path message (range_of (list_at (codes "range") fix)) (text_at (codes "text") fix)

-- the `fix` of a message or of one of its suggestions
abbrev pub fix_in : (path message : List ℕ) → Data → Option Remark
fix_in path message d = option_and_then (fix_of path message) (object_at (codes "fix") d)

abbrev pub suggestion_in : List ℕ → Data → Option Remark
suggestion_in path d = fix_in path (unwrap_or (text_at (codes "desc") d) (codes "apply this fix")) d

abbrev pub suggestions_in : List ℕ → Data → List Remark
suggestions_in path d = filter_map (suggestion_in path) (list_at (codes "suggestions") d)

abbrev pub remarks_in : Option (List ℕ) → Data → List Remark
remarks_in None d = []
remarks_in (Some path) d =
    filter_map (fix_in path (codes "apply this fix")) (d ∷ []) ++ suggestions_in path d

-- what a message says, in the file of a path
abbrev pub finding_by : Option (List ℕ) → Data → Found
finding_by path d = record {
  severity = severity_by (number_at (codes "severity") d);
  message = unwrap_or (text_at (codes "message") d) (codes "there is no message");
  name = option_map (λ id. (id, None)) (text_at (codes "ruleId") d);
  places = places_in path d;
  remarks = remarks_in path d;
  homes = [];
  shows_gone = true;
}

-- the same of a message that is an object, in the file of `filePath`
abbrev pub finding_in : Data → Data → Option Found
finding_in file d = if is_some (as_object d) then Some (finding_by (text_at (codes "filePath") file) d) else None
