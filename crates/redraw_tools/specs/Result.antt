-- What a report of a SARIF log's result has: its level, its name, its message, and its places.
use Rattle.std.specs.Prelude.{◌≡◌, ℕ, List, Option, codes, map, string_bytes, true}
use Rattle.serde_json.specs.Data.{Data}
use Rattle.json_lines.specs.Lenient.{list_at, object_at}
use Rattle.redraw_report.specs.declared.diagnostic.Diagnostic.{Diagnostic}
use Rattle.redraw_report.specs.declared.diagnostic.FileSpan.{FileSpan}
use Rattle.redraw_report.specs.declared.diagnostic.Unit.{Unit}
use Rattle.redraw_tools.specs.Fixes.{AddsFixes, note, remarks}
use Rattle.redraw_tools.specs.Found.{Remark}
use Rattle.redraw_tools.specs.Message.{message_of}
use Rattle.redraw_tools.specs.Places.{ArePlaces, GoesOn}
use Rattle.redraw_tools.specs.Rule.{code_view, level_of, name_of, part_with_rule, rule_in}
use Rattle.redraw_tools.specs.Units.{result_unit}

-- the places of a result come first, and those of the steps of its code flow after them
abbrev pub ArePlacesAndSteps : Data → Unit → (part rule : Option Data) → Data → List FileSpan → Type 0
ArePlacesAndSteps run unit part rule result spans =
    (own : List FileSpan) × ArePlaces run unit part rule result own × GoesOn own spans

-- notes on the steps come first beside its message, and its fixes after them
abbrev pub IsAdvised : Data → Unit → (part rule : Option Data) → Data → List Remark → Type 0
IsAdvised run unit part rule result told =
    (texts : List (List ℕ)) × AddsFixes run unit part rule (list_at (codes "fixes") result) (map note texts) told

-- the same and its level, name and message, by its rule, if it has one; the lines that its fixes take out are shown too
pub record IsTold (run : Data) (unit : Unit) (result : Data) (told : Diagnostic) : Type 0 where
  pub level : told.severity ≡ level_of result (rule_in run result)
  pub name : code_view told.code ≡ name_of told.severity result (rule_in run result)
  pub message : string_bytes told.message
      ≡ message_of (part_with_rule run result) (rule_in run result) (object_at (codes "message") result)
  pub places : ArePlacesAndSteps run unit (part_with_rule run result) (rule_in run result) result told.spans.items
  pub advised : IsAdvised run unit (part_with_rule run result) (rule_in run result) result (remarks told.children)
  pub gone : told.shows_gone ≡ true

-- the same where the columns of the run count in this unit
abbrev pub IsResultOf : Data → Unit → Data → Diagnostic → Type 0
IsResultOf run unit result told = IsTold run (result_unit unit result) result told
