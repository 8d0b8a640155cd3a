-- What rustc's JSON tells of a place: its file, its lines and columns, its label, and whether it is the point of the report.
use Rattle.std.specs.Prelude.{◌≡◌, ℕ, Bool, List, Option, Some, codes, string_bytes}
use Rattle.std.specs.Option.{option_map}
use Rattle.json_lines.specs.Field.{number_field, text_field}
use Rattle.serde_json.specs.Data.{Data}
use Rattle.redraw_report.specs.declared.diagnostic.FileSpan.{FileSpan}
use Rattle.redraw_report.specs.declared.diagnostic.LineRegion.{LineRegion}
use Rattle.redraw_report.specs.declared.diagnostic.Region.TheVariants as region
use Rattle.redraw_report.specs.declared.diagnostic.Unit.TheVariants.{CodePoints}
use Rattle.redraw_read.specs.Told.{said_label}

-- a value says these lines and columns, which count characters
pub record IsRegionOf (d : Data) (r : LineRegion) : Type 0 where
  pub start_line : number_field (codes "line_start") d ≡ Some r.start_line
  pub start_column : number_field (codes "column_start") d ≡ r.start_column
  pub end_line : number_field (codes "line_end") d ≡ Some r.end_line
  pub end_column : number_field (codes "column_end") d ≡ r.end_column
  pub unit : r.unit ≡ CodePoints

-- a place is in this file and region, with this label and of this kind
pub record IsSpanIn (name : List ℕ) (r : LineRegion) (said : Option (List ℕ)) (is_point : Bool) (s : FileSpan) : Type 0 where
  pub file : string_bytes s.file ≡ name
  pub in_region : s.region ≡ region.Lines r
  pub label : option_map string_bytes s.label ≡ said_label said
  pub primary : s.is_primary ≡ is_point

-- a value says the file and the region of a place
pub record SaysPlace (d : Data) (s : FileSpan) : Type 0 where
  pub file : text_field (codes "file_name") d ≡ Some (string_bytes s.file)
  pub within : LineRegion
  pub said : IsRegionOf d within
  pub in_region : s.region ≡ region.Lines within
