-- What the edits of a SARIF log's fix change: the part that goes, and the text that comes.
use Rattle.std.specs.Prelude.{ℕ, ◌-◌, ◌==◌, ◌&&◌, Bool, false, nat_lt, List, [], ◌∷◌, Option, Some, None, codes, is_some, string_bytes}
use Rattle.std.specs.Prelude.{if◌then◌else◌, option_and_then, option_map}
use Rattle.std.specs.List.{filter_map, flat_map}
use Rattle.std.specs.Option.{option_map_or, option_or}
use Rattle.serde_json.specs.Data.{Data}
use Rattle.json_lines.specs.Field.{given}
use Rattle.json_lines.specs.Lenient.{list_at, object_at, text_at}
use Rattle.redraw_report.specs.declared.diagnostic.Region.{Region}
use Rattle.redraw_report.specs.declared.diagnostic.Region.TheVariants as region
use Rattle.redraw_report.specs.declared.diagnostic.SuggestedEdit.{SuggestedEdit}
use Rattle.redraw_report.specs.declared.diagnostic.Unit.{Unit}
use Rattle.redraw_tools.specs.Places.{file_in}
use Rattle.redraw_tools.specs.Region.{region_in}

-- the part that goes: without columns all of its lines, with the blanks that they begin with
abbrev pub with_blanks : Region → Region
with_blanks (region.Bytes start end) = region.Bytes start end
with_blanks (region.Chars start end unit) = region.Chars start end unit
with_blanks (region.Lines r) = region.Lines (record r { start_column = option_or r.start_column (Some 1) })

abbrev pub deleted_in : Data → Unit → Option Region
deleted_in d unit = option_map with_blanks (region_in d unit)

-- whether a column is the first
abbrev pub is_first : Option ℕ → Bool
is_first None = false
is_first (Some column) = column == 1

-- lines that go whole, up to where the line after them begins, go to before the end of the last, which stays: so a line that is removed
-- is shown alone. Another part is as it was
abbrev pub before_line_end : Region → Region
before_line_end (region.Bytes start end) = region.Bytes start end
before_line_end (region.Chars start end unit) = region.Chars start end unit
before_line_end (region.Lines r) =
    if is_first r.start_column && is_first r.end_column && nat_lt r.start_line r.end_line
    then region.Lines (record r { end_line = r.end_line - 1; end_column = None })
    else region.Lines r

-- the text that is put in: none where only something goes
abbrev pub inserted_in : Data → Option (List ℕ)
inserted_in d =
    if is_some (given (codes "insertedContent") d) then option_and_then (text_at (codes "text")) (object_at (codes "insertedContent") d)
    else Some []

-- an edit: its file, the part that goes, and the text that comes
pub record Edit : Type 0 where
  pub file : List ℕ
  pub region : Region
  pub text : List ℕ

abbrev pub edit_view : SuggestedEdit → Edit
edit_view e = record { file = string_bytes e.file; region = e.region; text = string_bytes e.replacement }

abbrev pub region_for : List ℕ → Region → Region
region_for [] r = before_line_end r
region_for (b ∷ bs) r = r

abbrev pub edit_with : (file text : List ℕ) → Region → Edit
edit_with file text r = record { file = file; region = region_for text r; text = text }

-- the edit of a replacement: of its `deletedRegion` and its `insertedContent`; none where one of them is wrong
abbrev pub edit_by : List ℕ → Option Region → Option (List ℕ) → Option Edit
edit_by file (Some r) (Some text) = Some (edit_with file text r)
edit_by file (Some r) None = None
edit_by file None text = None

abbrev pub edit_in : Unit → List ℕ → Data → Option Edit
edit_in unit file d =
    edit_by file (option_and_then (λ deleted. deleted_in deleted unit) (object_at (codes "deletedRegion") d)) (inserted_in d)

-- the edits of a change, which names one file
abbrev pub edits_of_change : Unit → Data → List ℕ → List Edit
edits_of_change unit change file = filter_map (edit_in unit file) (list_at (codes "replacements") change)

-- the edits of a fix: of each of its changes that names a file
abbrev pub edits_if_named : Data → Unit → Data → List Edit
edits_if_named run unit change = option_map_or (edits_of_change unit change) (file_in run change) []

abbrev pub edits_of_fix : Data → Unit → Data → List Edit
edits_of_fix run unit fix = flat_map (edits_if_named run unit) (list_at (codes "artifactChanges") fix)
