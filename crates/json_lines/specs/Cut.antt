-- What is kept of a log of SARIF whose results are let go: the log with empty lists in their place, and where each stood in its text.
use Rattle.std.specs.Prelude.{◌≡◌, ℕ, Bool, true, false, List, Option, None, Some, MatchOption, codes, is_some, length, if◌then◌else◌}
use Rattle.std.specs.Global.{Vec}
use Rattle.std.specs.List.{AllZip}
use Rattle.std.specs.Option.{option_map_or}
use Rattle.std.specs.Str.{bytes_eq}
use Rattle.serde_json.specs.Data.{Data, array, object, Items, no_items, item, Members, no_members, member}
use Rattle.serde_json.specs.Find.{as_array, as_object, get}
use Rattle.serde_json.specs.View.{items_of, view}
use Rattle.json_lines.specs.Lenient.{list_at}
use Rattle.json_lines.specs.declared.cut.CutLog.{CutLog}
use Rattle.json_lines.specs.declared.cut.Stretch.{Stretch}

-- a value under a key, changed if the key is this name
abbrev pub changed_at : List ℕ → (Data → Data) → List ℕ → Data → Data
changed_at name change key d = if bytes_eq key name then change d else d

-- members, of which the one under this name is changed
abbrev pub members_with : List ℕ → (Data → Data) → Members → Members
members_with name change no_members = no_members
members_with name change (member key d ms) = member key (changed_at name change key d) (members_with name change ms)

-- an object whose field of this name is changed; another value stays
abbrev pub with_field : List ℕ → (Data → Data) → Data → Data
with_field name change d = option_map_or (λ ms. object (members_with name change ms)) (as_object d) d

-- items, each of which is changed
abbrev pub items_with : (Data → Data) → Items → Items
items_with change no_items = no_items
items_with change (item d ds) = item (change d) (items_with change ds)

-- a list whose items are changed; another value stays
abbrev pub with_items : (Data → Data) → Data → Data
with_items change d = option_map_or (λ ds. array (items_with change ds)) (as_array d) d

-- a list without items
abbrev pub empty_list : Data → Data
empty_list d = array no_items

-- a run whose list of results is empty
abbrev pub without_results : Data → Data
without_results run = with_field (codes "results") empty_list run

-- a log in whose runs the list of results is empty
abbrev pub without_all_results : Data → Data
without_all_results log = with_field (codes "runs") (with_items without_results) log

-- a run is an object, and as many stretches are kept of it as its list of results has items: none if it has no such list
pub record IsRunKept (run : Data) (stretches : Vec Stretch) : Type 0 where
  pub object : is_some (as_object run) ≡ true
  pub each : length stretches.items ≡ length (list_at (codes "results") run)

-- what is kept of a log: its field `runs` is a list of objects; the log without the results in these; and for each run, in order, a
-- stretch of the text for each of its results
pub record IsCutOf (d : Data) (cut : CutLog) : Type 0 where
  pub runs : List Data
  pub listed : get (codes "runs") d ≡ Some (array (items_of runs))
  pub value : view cut.value ≡ without_all_results d
  pub results : AllZip IsRunKept runs cut.results.items

-- ---- what is kept of a part

-- of a list of results a stretch is kept for each
abbrev pub AreResultsKept : Data → Vec Stretch → Type 0
AreResultsKept d stretches = (results : List Data) × (d ≡ array (items_of results)) × (length stretches.items ≡ length results)

-- of a list of runs the stretches of each are kept
abbrev pub AreRunsKept : Data → Vec (Vec Stretch) → Type 0
AreRunsKept d kept = (runs : List Data) × (d ≡ array (items_of runs)) × AllZip IsRunKept runs kept.items

-- a value is changed, of which something is kept, where nothing was before
pub record IsListKept {X : Type 0} (change : Data → Data) (Keeps : Data → X → Type 0) (d new : Data) (before after : Option X) : Type 0 where
  pub changed : new ≡ change d
  pub first : before ≡ None
  pub kept : X
  pub after_is : after ≡ Some kept
  pub keeps : Keeps d kept

-- a member of an object: if its key is the name it is changed, and something is kept of it; else it stays
abbrev pub IsMemberKept : {X : Type 0} → (Data → Data) → (Data → X → Type 0) → Bool → Data → Data → Option X → Option X → Type 0
IsMemberKept change Keeps true d new before after = IsListKept change Keeps d new before after
IsMemberKept change Keeps false d new before after = (new ≡ d) × (after ≡ before)

-- what is kept of an object: of its field of this name, if it has it
abbrev pub IsFieldKept : {X : Type 0} → List ℕ → (Data → X → Type 0) → Data → Option X → Type 0
IsFieldKept name Keeps d kept = MatchOption kept (get name d ≡ None) (λ x. (e : Data) × (get name d ≡ Some e) × Keeps e x)
