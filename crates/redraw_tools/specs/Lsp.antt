-- What a diagnostic of a language server reports of its document.
use Rattle.std.specs.Prelude.{ℕ, ◌==◌, List, [], ◌∷◌, ◌++◌, Option, Some, None, codes, false, is_some, true, unwrap_or}
use Rattle.std.specs.Prelude.{if◌then◌else◌, option_and_then, option_map}
use Rattle.std.specs.Fmt.{signed_decimal}
use Rattle.std.specs.List.{filter_map}
use Rattle.std.specs.Option.{option_or}
use Rattle.serde_json.specs.Data.{Data}
use Rattle.serde_json.specs.Find.{as_i64, as_number, as_object, get}
use Rattle.json_lines.specs.Field.{text_field}
use Rattle.json_lines.specs.Lenient.{list_at, number_at, object_at, text_at, text_in}
use Rattle.redraw_report.specs.declared.diagnostic.Region.{Region}
use Rattle.redraw_report.specs.declared.diagnostic.Region.TheVariants as region
use Rattle.redraw_report.specs.declared.diagnostic.Severity.{Severity}
use Rattle.redraw_report.specs.declared.diagnostic.Severity.TheVariants.{Error, Warning, Info, Help}
use Rattle.redraw_report.specs.declared.diagnostic.Unit.TheVariants.{Utf16}
use Rattle.redraw_tools.specs.Found.{Found, Place, place}
use Rattle.redraw_tools.specs.Path.{path_of}
use Rattle.redraw_tools.specs.Rule.{Named}
use Rattle.redraw_tools.specs.Told.{next}

-- `severity`: 1 is an error, 3 an information, 4 a hint, and else it is a warning
abbrev pub severity_by : Option ℕ → Severity
severity_by None = Warning
severity_by (Some number) = if number == 1 then Error else if number == 3 then Info else if number == 4 then Help else Warning

-- `code`, a number or a text, else `source`; with the address of `codeDescription`
abbrev pub id_in : Data → Option (List ℕ)
id_in d =
    option_or (option_map signed_decimal (option_and_then as_i64 (option_and_then as_number (get (codes "code") d))))
    (option_or (text_field (codes "code") d) (text_field (codes "source") d))

abbrev pub name_in : Data → Option Named
name_in d = option_map (λ id. (id, text_in (codes "href") (get (codes "codeDescription") d))) (id_in d)

-- a position: `line` and `character`, from 0, and here from 1
abbrev pub Position : Type 0
Position = ℕ × ℕ

abbrev pub position_by : Option ℕ → Option ℕ → Option Position
position_by (Some line) (Some column) = Some (next line, next column)
position_by (Some line) None = None
position_by None column = None

abbrev pub position_of : Data → Option Position
position_of d = position_by (number_at (codes "line") d) (number_at (codes "character") d)

abbrev pub position_in : Option Data → Option Position
position_in d = option_and_then position_of d

-- from `start` to before `end`, in units of UTF-16; the start of the file where one of these isn't there
abbrev pub region_by : Option Position → Option Position → Region
region_by (Some start) (Some end) = region.Lines record {
  start_line = start.0;
  start_column = Some start.1;
  end_line = end.0;
  end_column = Some end.1;
  unit = Utf16;
}
region_by (Some start) None = region.Bytes 0 0
region_by None end = region.Bytes 0 0

abbrev pub region_of : Data → Region
region_of range = region_by (position_in (object_at (codes "start") range)) (position_in (object_at (codes "end") range))

-- the `range` of an object; the start of the file where it has none
abbrev pub region_in : Data → Region
region_in d = unwrap_or (option_map region_of (object_at (codes "range") d)) (region.Bytes 0 0)

-- the place of a diagnostic, in the file of the document's `uri`
abbrev pub own_place : Data → Data → Option Place
own_place d document = option_map (λ uri. place (path_of uri) (region_in d) None true) (text_at (codes "uri") document)

-- a place that it relates to, with its message
abbrev pub place_at : Option (List ℕ) → Data → Option Place
place_at message location =
    option_map (λ uri. place (path_of uri) (region_in location) message false) (text_at (codes "uri") location)

abbrev pub related_place : Data → Option Place
related_place d = option_and_then (place_at (text_at (codes "message") d)) (object_at (codes "location") d)

abbrev pub related_places : Data → List Place
related_places d = filter_map related_place (list_at (codes "relatedInformation") d)

abbrev pub places_in : Data → Data → List Place
places_in document d = filter_map (own_place d) (document ∷ []) ++ related_places d

-- what a diagnostic of a document says
abbrev pub finding_by : Data → Data → Found
finding_by document d = record {
  severity = severity_by (number_at (codes "severity") d);
  message = unwrap_or (text_at (codes "message") d) (codes "there is no message");
  name = name_in d;
  places = places_in document d;
  remarks = [];
  homes = [];
  shows_gone = false;
}

-- the same of one that is an object
abbrev pub finding_in : Data → Data → Option Found
finding_in document d = if is_some (as_object d) then Some (finding_by document d) else None
