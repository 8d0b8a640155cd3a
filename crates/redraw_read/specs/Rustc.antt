-- The diagnostic that rustc's JSON describes: its heading, its places and its children, each by the fields of the value.
use Rattle.std.specs.Prelude.{◌≡◌, ◌≢◌, ◌⊎◌, ℕ, eqb, ◌++◌, ◌&&◌, ◌||◌, Bool, false, not, nat_lt, List, [], ◌∷◌, Option, Some, None, codes, is_some, length}
use Rattle.std.specs.Prelude.{string_bytes, if◌then◌else◌}
use Rattle.std.specs.Global.{Vec}
use Rattle.std.specs.List.{All, AllZip, ends_with, flat_map, list_any}
use Rattle.json_lines.specs.Field.{optional_at}
use Rattle.serde_json.specs.Data.{Data}
use Rattle.serde_json.specs.Find.{as_str, get}
use Rattle.redraw_report.specs.declared.diagnostic.Child.{Child}
use Rattle.redraw_report.specs.declared.diagnostic.Diagnostic.{Diagnostic}
use Rattle.redraw_report.specs.declared.diagnostic.FileSpan.{FileSpan}
use Rattle.redraw_report.specs.declared.diagnostic.Severity.TheVariants as severity
use Rattle.redraw_report.specs.declared.diagnostic.SuggestedEdit.{SuggestedEdit}
use Rattle.redraw_read.specs.AsShown.{IsAsShown, has_escape}
use Rattle.redraw_read.specs.Edits.{AreEditsOf}
use Rattle.redraw_read.specs.Places.{AreListed, ArePlacesOf}
use Rattle.redraw_read.specs.Told.{IsHeaded, IsHeading}
use Rattle.redraw_read.specs.declared.reading.Reader.{Reader}

-- the places of a child with these edits: none if it has edits
abbrev pub ArePlacesBeside : Reader → Data → List SuggestedEdit → List FileSpan → Type 0
ArePlacesBeside reader d [] spans = ArePlacesOf reader.named_by_children reader.puts_labels_first d spans
ArePlacesBeside reader d (e ∷ es) spans = spans ≡ []

-- a child: its level, its message, its edits, which alternatives share out in order, and its places
pub record IsChildOf (reader : Reader) (d : Data) (c : Child) : Type 0 where
  pub heading : IsHeading d c.severity (string_bytes c.message)
  pub edits : List SuggestedEdit
  pub are : AreEditsOf d edits
  pub shared_out : flat_map (λ (each : Vec SuggestedEdit). each.items) c.alternatives.items ≡ edits
  pub filled : All (λ (each : Vec SuggestedEdit). each.items ≢ []) c.alternatives.items
  pub places : ArePlacesBeside reader d edits c.spans.items
  pub goes_on : c.goes_on ≡ false

-- a child is a note without places and edits, as that on macros is
pub record IsNote (c : Child) : Type 0 where
  pub severity : c.severity ≡ severity.Note
  pub places : c.spans.items ≡ []
  pub edits : c.alternatives.items ≡ []
  pub goes_on : c.goes_on ≡ false

-- some children, and a note may stand among them
abbrev pub MayHaveNote : List Child → List Child → Type 0
MayHaveNote own children =
    (children ≡ own)
    ⊎ ((before : List Child) × (note : Child) × (after : List Child) × (own ≡ before ++ after) × IsNote note × (children ≡ before ++ note ∷ after))

-- the children of a diagnostic, in the order of its list; a note on macros may stand among them
pub record AreChildrenOf (reader : Reader) (d : Data) (children : List Child) : Type 0 where
  pub items : List Data
  pub listed : AreListed (codes "children") d items
  pub own : List Child
  pub are : AllZip (IsChildOf reader) items own
  pub noted : MayHaveNote own children

-- the diagnostic that a value describes, beside its text
pub record IsToldBy (reader : Reader) (d : Data) (diagnostic : Diagnostic) : Type 0 where
  pub headed : IsHeaded d diagnostic
  pub places : ArePlacesOf reader.named reader.puts_labels_first d diagnostic.spans.items
  pub children : AreChildrenOf reader d diagnostic.children.items

-- a text that shows all of a diagnostic: it ends with an empty line
abbrev pub if_whole : Option (List ℕ) → Option (List ℕ)
if_whole None = None
if_whole (Some text) = if ends_with eqb text (codes "\n\n") then Some text else None

-- rustc's own text of a diagnostic, which its field `rendered` has, if that shows all of it
abbrev pub IsOwnText : Data → Option (List ℕ) → Type 0
IsOwnText d text = (said : Option (List ℕ)) × (optional_at as_str (codes "rendered") d ≡ Some said) × (text ≡ if_whole said)

-- a diagnostic is as its own text shows it, without styles; it stays where there is no text. Labels may be put first
abbrev pub IsShownBy : Bool → Option (List ℕ) → Diagnostic → Diagnostic → Type 0
IsShownBy are_first None old new = new ≡ old
IsShownBy are_first (Some text) old new =
    (plain : List ℕ) × (has_escape text ≡ false → plain ≡ text) × IsAsShown plain are_first old new

-- whether some places are several, one of them without lines
abbrev pub are_several : List FileSpan → Bool
are_several spans = nat_lt 1 (length spans) && list_any (λ (s : FileSpan). not (is_some s.carried)) spans

-- whether a diagnostic or one of its children has several places, one of them without lines: their order only its text tells
abbrev pub has_several : Diagnostic → Bool
has_several d = are_several d.spans.items || list_any (λ (c : Child). are_several c.spans.items) d.children.items

-- what a value of rustc's JSON is read as: it has the level, the message and the code that the value says, and is the diagnostic that it
-- describes, as its own text shows it. Where places are several, one of them without lines, the level, message and code alone are told
pub record IsReadAs (d : Data) (result : Diagnostic) : Type 0 where
  pub headed : IsHeaded d result
  pub reader : Reader
  pub told : Diagnostic
  pub tells : IsToldBy reader d told
  pub text : Option (List ℕ)
  pub own : IsOwnText d text
  pub shown : Diagnostic
  pub shows : IsShownBy reader.puts_labels_first text told shown
  pub apart : has_several shown ≡ false → result ≡ shown

-- what a message of cargo is read as: what the value of its field `message` is
abbrev pub IsPackagedAs : Data → Diagnostic → Type 0
IsPackagedAs d result = (message : Data) × (get (codes "message") d ≡ Some message) × IsReadAs message result
