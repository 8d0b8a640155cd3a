-- What is said beside the message of a SARIF log's result: notes on the steps of its code flow, and its fixes.
use Rattle.std.specs.Prelude.{◌≡◌, ◌⊎◌, ℕ, nat_eq, ◌&&◌, Bool, true, false, List, [], ◌∷◌, ◌++◌, Option, codes, map, unwrap_or}
use Rattle.std.specs.Prelude.{if◌then◌else◌}
use Rattle.std.specs.Global.{Vec}
use lib.Pointwise.{pointwise}
use Rattle.serde_json.specs.Data.{Data}
use Rattle.json_lines.specs.Lenient.{object_at}
use Rattle.redraw_report.specs.declared.diagnostic.Child.{Child}
use Rattle.redraw_report.specs.declared.diagnostic.Severity.{Severity}
use Rattle.redraw_report.specs.declared.diagnostic.Severity.TheVariants.{Error, Warning, Info, Note, Help, Plain}
use Rattle.redraw_report.specs.declared.diagnostic.Unit.{Unit}
use Rattle.redraw_tools.specs.Edits.{Edit, edits_of_fix}
use Rattle.redraw_tools.specs.Found.{Change, Remark, help, remark_view}
use Rattle.redraw_tools.specs.Message.{MaySay}
use Rattle.redraw_tools.specs.Told.{change_last}

abbrev pub remarks : Vec Child → List Remark
remarks children = map remark_view children.items

-- a note without places and edits; and the same remarks with such notes after them
abbrev pub note : List ℕ → Remark
note text = record {
  severity = Note;
  message = text;
  places = [];
  alternatives = [];
  goes_on = false;
}

abbrev pub AddsNotes : List Remark → List Remark → Type 0
AddsNotes old new = (texts : List (List ℕ)) × (new ≡ old ++ map note texts)

-- whether the last remark is a help that says this
abbrev pub is_help : Severity → Bool
is_help Error = false
is_help Warning = false
is_help Info = false
is_help Note = false
is_help Help = true
is_help Plain = false

abbrev pub says_last : List ℕ → List Remark → Bool
says_last text [] = false
says_last text (r ∷ []) = is_help r.severity && pointwise nat_eq r.message text
says_last text (r ∷ s ∷ rs) = says_last text (s ∷ rs)

-- the same remarks with a fix of this description more: one more way of the last help, if that says the same, else a help of its own
abbrev pub with_way : List Change → Remark → Remark
with_way changes r = record r { alternatives = r.alternatives ++ changes ∷ [] }

abbrev pub with_fix : List ℕ → List Change → List Remark → List Remark
with_fix text changes rs = if says_last text rs then change_last (with_way changes) rs else rs ++ help text changes ∷ []

-- whether a text is the description of a fix; where it has none, or one for which others took the room, something stands all the same
abbrev pub Describes : (part rule : Option Data) → Data → List ℕ → Type 0
Describes part rule fix text =
    (said : Option (List ℕ)) × MaySay part rule (object_at (codes "description") fix) said × (text ≡ unwrap_or said (codes "apply this fix"))

-- an edit, of whatever lines the input has
abbrev pub edit_of : Change → Edit
edit_of c = record { file = c.file; region = c.region; text = c.text }

-- the remarks once a fix is added: none new, where something is wrong in it, else what offers its edits
pub record IsAdded (run : Data) (unit : Unit) (part rule : Option Data) (fix : Data) (old new : List Remark) : Type 0 where
  pub text : List ℕ
  pub changes : List Change
  pub describes : Describes part rule fix text
  pub edits : map edit_of changes ≡ edits_of_fix run unit fix
  pub added : new ≡ with_fix text changes old

abbrev pub AddsFix : Data → Unit → (part rule : Option Data) → Data → List Remark → List Remark → Type 0
AddsFix run unit part rule fix old new = (new ≡ old) ⊎ IsAdded run unit part rule fix old new

-- the same of some fixes, one after another
abbrev pub AddsFixes : Data → Unit → (part rule : Option Data) → List Data → List Remark → List Remark → Type 0
AddsFixes run unit part rule [] old new = new ≡ old
AddsFixes run unit part rule (fix ∷ fixes) old new =
    (now : List Remark) × AddsFix run unit part rule fix old now × AddsFixes run unit part rule fixes now new
