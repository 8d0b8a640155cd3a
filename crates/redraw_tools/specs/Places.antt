-- Which places a result of a SARIF log has: of each the part of its file, whether it is the point of the report, and its label.
use Rattle.std.specs.Prelude.{◌≡◌, ⊤, ℕ, Bool, true, List, [], ◌∷◌, ◌++◌, Option, Some, None, codes, false, is_some, string_bytes, unwrap_or}
use Rattle.std.specs.Prelude.{IfSome, IsSomeAnd, MatchOption, if◌then◌else◌, option_and_then, option_map}
use Rattle.std.specs.List.{AllZip, filter_map, flat_map}
use Rattle.serde_json.specs.Data.{Data}
use Rattle.serde_json.specs.Find.{get}
use Rattle.json_lines.specs.Field.{as_whole}
use Rattle.json_lines.specs.Lenient.{field_in, item_in, list_at, object_at, text_in}
use Rattle.redraw_report.specs.declared.diagnostic.FileSpan.{FileSpan}
use Rattle.redraw_report.specs.declared.diagnostic.Region.{Region}
use Rattle.redraw_report.specs.declared.diagnostic.Region.TheVariants as region
use Rattle.redraw_report.specs.declared.diagnostic.Unit.{Unit}
use Rattle.redraw_tools.specs.Message.{MaySay}
use Rattle.redraw_tools.specs.Path.{Address, path_at}
use Rattle.redraw_tools.specs.Primary.{chosen}
use Rattle.redraw_tools.specs.Region.{region_in}

-- a place as it is marked: its file, the part of it, and whether it is the point of the report
pub record Marked : Type 0 where
  pub file : List ℕ
  pub region : Region
  pub is_primary : Bool

abbrev pub marked : List ℕ → Region → Marked
marked file r = record { file = file; region = r; is_primary = false }

abbrev pub span_view : FileSpan → Marked
span_view span = record { file = string_bytes span.file; region = span.region; is_primary = span.is_primary }

-- a place and the message that is its label, if there is one
abbrev pub Labelled : Type 0
Labelled = Marked × Option Data

-- whether a place is marked and labelled so, by a result with this rule, of this part of the tool
abbrev pub IsMarked : (part rule : Option Data) → Labelled → FileSpan → Type 0
IsMarked part rule place span = (span_view span ≡ place.0) × MaySay part rule place.1 (option_map string_bytes span.label)

abbrev pub IsMarkedIf : (part rule : Option Data) → Option Labelled → Option FileSpan → Type 0
IsMarkedIf part rule place span = MatchOption place (span ≡ None) (λ p. IsSomeAnd span (IsMarked part rule p))

-- the same places, and after them those that are marked so
abbrev pub Adds : (part rule : Option Data) → List Labelled → (old new : List FileSpan) → Type 0
Adds part rule places old new = (added : List FileSpan) × (new ≡ old ++ added) × AllZip (IsMarked part rule) places added

-- whether a label still says what was said, perhaps after the number of a step
abbrev pub StillSays : Option (List ℕ) → Option (List ℕ) → Type 0
StillSays said label = IfSome said (λ text. (number : List ℕ) × (label ≡ Some (number ++ text)))

-- whether a place has no label, or this one
abbrev pub SaysNoMore : FileSpan → Option (List ℕ) → Type 0
SaysNoMore span said = IfSome span.label (λ label. said ≡ Some (string_bytes label))

-- a place that stays, with what is said of it
abbrev pub Stays : FileSpan → FileSpan → Type 0
Stays old new = (span_view new ≡ span_view old) × StillSays (option_map string_bytes old.label) (option_map string_bytes new.label)

-- the same places, and more after them
abbrev pub GoesOn : List FileSpan → List FileSpan → Type 0
GoesOn [] new = ⊤
GoesOn (span ∷ old) [] = ⊥
GoesOn (span ∷ old) (place ∷ new) = Stays span place × GoesOn old new

-- the location of the artifact whose number an artifact's location has
abbrev pub numbered_by : Option Data → Option ℕ → Option Data
numbered_by artifacts (Some index) = field_in (codes "location") (item_in index artifacts)
numbered_by artifacts None = None

abbrev pub numbered : Data → Data → Option Data
numbered run location =
    numbered_by (get (codes "artifacts") run) (option_and_then as_whole (get (codes "index") location))

-- the address that an artifact's location has, with the name of its base: its own, or that of the artifact with its number
abbrev pub addressed : Data → Data → Option Data
addressed run location = if is_some (get (codes "uri") location) then Some location else numbered run location

abbrev pub address_of : Data → Data → Option Address
address_of run location =
    option_map (λ uri. (uri, text_in (codes "uriBaseId") (addressed run location))) (text_in (codes "uri") (addressed run location))

-- the file that an object names, by its `artifactLocation`
abbrev pub file_in : Data → Data → Option (List ℕ)
file_in run d = option_map (path_at run) (option_and_then (address_of run) (object_at (codes "artifactLocation") d))

-- the part of its file that a physical location is: its region, or the start of the file
abbrev pub part_in : Unit → Option Data → Region
part_in unit None = region.Bytes 0 0
part_in unit (Some d) = unwrap_or (region_in d unit) (region.Bytes 0 0)

abbrev pub part_of : Unit → Data → Region
part_of unit physical = part_in unit (object_at (codes "region") physical)

-- the part of a file that a location is, if it has a file
abbrev pub placed_in : Data → Unit → Data → Option Marked
placed_in run unit physical = option_map (λ file. marked file (part_of unit physical)) (file_in run physical)

abbrev pub placed : Data → Unit → Data → Option Marked
placed run unit location = option_and_then (placed_in run unit) (object_at (codes "physicalLocation") location)

-- the place of a location, with its message as label
abbrev pub with_message : Data → Marked → Labelled
with_message d place = (place, object_at (codes "message") d)

abbrev pub as_primary : Bool → Marked → Marked
as_primary is_primary place = record place { is_primary = is_primary }

abbrev pub place_in : Data → Unit → Bool → Data → Option Labelled
place_in run unit is_primary location =
    option_map (λ place. with_message location (as_primary is_primary place)) (placed run unit location)

-- the places that a location has beside its own: its annotations, in the same file
abbrev pub with_part : Option Region → Marked → Option Marked
with_part part place = option_map (λ r. record place { region = r }) part

abbrev pub annotation_in : Data → Unit → Data → Data → Option Labelled
annotation_in run unit location d =
    option_map (with_message d) (option_and_then (with_part (region_in d unit)) (placed run unit location))

abbrev pub annotations_of : Data → Unit → Data → List Labelled
annotations_of run unit location = filter_map (annotation_in run unit location) (list_at (codes "annotations") location)

-- the places of a result: its locations, of which some are the point of the report; then their annotations; then the related ones
pub record ArePlaces (run : Data) (unit : Unit) (part rule : Option Data) (result : Data) (spans : List FileSpan) : Type 0 where
  pub own : List FileSpan
  pub own_are : AllZip (IsMarked part rule) (filter_map (place_in run unit true) (list_at (codes "locations") result)) own
  pub others : Adds part rule (flat_map (annotations_of run unit) (list_at (codes "locations") result)
      ++ filter_map (place_in run unit false) (list_at (codes "relatedLocations") result)) (chosen own) spans
