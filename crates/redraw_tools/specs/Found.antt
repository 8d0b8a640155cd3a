-- What findings are made of, as it can be seen: texts by their bytes, and lists by their items.
use Rattle.std.specs.Prelude.{ℕ, Bool, false, List, [], ◌∷◌, Option, None, map, option_map, string_bytes}
use Rattle.std.specs.Global.{Vec}
use Rattle.redraw_report.specs.declared.diagnostic.Carried.{Carried}
use Rattle.redraw_report.specs.declared.diagnostic.Child.{Child}
use Rattle.redraw_report.specs.declared.diagnostic.Diagnostic.{Diagnostic}
use Rattle.redraw_report.specs.declared.diagnostic.FileSpan.{FileSpan}
use Rattle.redraw_report.specs.declared.diagnostic.Region.{Region}
use Rattle.redraw_report.specs.declared.diagnostic.Severity.{Severity}
use Rattle.redraw_report.specs.declared.diagnostic.Severity.TheVariants.{Help}
use Rattle.redraw_report.specs.declared.diagnostic.SuggestedEdit.{SuggestedEdit}
use Rattle.redraw_tools.specs.Rule.{Named, code_view}

-- a place: its file, the part of it, what is said of it, whether it is the point of the report, and the lines that the input has of it
pub record Place : Type 0 where
  pub file : List ℕ
  pub region : Region
  pub label : Option (List ℕ)
  pub is_primary : Bool
  pub carried : Option Carried

abbrev pub place_view : FileSpan → Place
place_view s = record {
  file = string_bytes s.file;
  region = s.region;
  label = option_map string_bytes s.label;
  is_primary = s.is_primary;
  carried = s.carried;
}

-- a place of which the input has no lines
abbrev pub place : List ℕ → Region → Option (List ℕ) → Bool → Place
place file region label is_primary = record {
  file = file;
  region = region;
  label = label;
  is_primary = is_primary;
  carried = None;
}

-- an edit: its file, the part that goes, the text that comes, and the lines that the input has
pub record Change : Type 0 where
  pub file : List ℕ
  pub region : Region
  pub text : List ℕ
  pub carried : Option Carried

abbrev pub change_view : SuggestedEdit → Change
change_view e = record {
  file = string_bytes e.file;
  region = e.region;
  text = string_bytes e.replacement;
  carried = e.carried;
}

abbrev pub changes_view : Vec SuggestedEdit → List Change
changes_view edits = map change_view edits.items

-- what is said beside a finding's message: with places, with edits of which one list is to be made, or with neither
pub record Remark : Type 0 where
  pub severity : Severity
  pub message : List ℕ
  pub places : List Place
  pub alternatives : List (List Change)
  pub goes_on : Bool

abbrev pub remark_view : Child → Remark
remark_view c = record {
  severity = c.severity;
  message = string_bytes c.message;
  places = map place_view c.spans.items;
  alternatives = map changes_view c.alternatives.items;
  goes_on = c.goes_on;
}

-- a finding
pub record Found : Type 0 where
  pub severity : Severity
  pub message : List ℕ
  pub name : Option Named
  pub places : List Place
  pub remarks : List Remark
  pub homes : List (List ℕ)
  pub shows_gone : Bool

abbrev pub found_view : Diagnostic → Found
found_view d = record {
  severity = d.severity;
  message = string_bytes d.message;
  name = code_view d.code;
  places = map place_view d.spans.items;
  remarks = map remark_view d.children.items;
  homes = map string_bytes d.homes.items;
  shows_gone = d.shows_gone;
}

-- the help that suggests some edits, all of which are to be made
abbrev pub help : List ℕ → List Change → Remark
help message changes = record {
  severity = Help;
  message = message;
  places = [];
  alternatives = changes ∷ [];
  goes_on = false;
}
