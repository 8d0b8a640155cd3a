-- What rustc's own text of a diagnostic changes of it: the columns of its places, its children, and which places are its point.
use Rattle.std.specs.Prelude.{◌≡◌, ℕ, ◌-◌, ◌++◌, ◌==◌, ◌&&◌, nat_lt, Bool, false, List, [], ◌∷◌, Option, Some, None, codes, drop, is_some, map}
use Rattle.std.specs.Prelude.{string_bytes, if◌then◌else◌}
use Rattle.std.specs.Fmt.{decimal}
use Rattle.std.specs.Global.{Vec}
use Rattle.std.specs.List.{before_first, flat_map, list_any, position_or_len, slice_split}
use Rattle.std.specs.Str.{bytes_eq, chars, encode_utf8_all}
use Rattle.snippet_text.specs.Normalized.{norm}
use Rattle.redraw_report.specs.contracts.diagnostic.RegionPartialEq.TheImpl as equality
use Rattle.redraw_report.specs.declared.diagnostic.Carried.{Carried}
use Rattle.redraw_report.specs.declared.diagnostic.Child.{Child}
use Rattle.redraw_report.specs.declared.diagnostic.Diagnostic.{Diagnostic}
use Rattle.redraw_report.specs.declared.diagnostic.SuggestedEdit.{SuggestedEdit}
use Rattle.redraw_report.specs.declared.diagnostic.FileSpan.{FileSpan}
use Rattle.redraw_report.specs.declared.diagnostic.Region.{Region}
use Rattle.redraw_report.specs.declared.diagnostic.Region.TheVariants as region
use Rattle.redraw_report.specs.declared.diagnostic.Severity.{Severity}
use Rattle.redraw_read.specs.Labels.{LabelSeen, label_for, label_seen, with_labels}
use Rattle.redraw_read.specs.Rendered.{Way, Group, Message, Label, Nowhere, after_first, way}
use Rattle.redraw_read.specs.ShownLines.{is_there}
use Rattle.redraw_read.specs.declared.labels.EditLabel.{EditLabel}
use Rattle.redraw_read.specs.declared.rendered.Stand.TheVariants as stand

-- ---- columns

-- how a text names a place: by its file, its line and its column
abbrev pub named_place : List ℕ → (line column : ℕ) → List ℕ
named_place file line column = file ++ (codes ":" ++ (decimal line ++ (codes ":" ++ decimal column)))

-- whether a text names a place: after the first word of one of its lines stands the place, and nothing else
abbrev pub names_place : List ℕ → List ℕ → (line column : ℕ) → Bool
names_place text file line column = list_any (is_there stand.Origin (named_place file line column)) (slice_split (λ b. b == 10) text)

-- the column that is shown for one: the column before it, where the text names that
abbrev pub column_shown : List ℕ → List ℕ → ℕ → Option ℕ → Option ℕ
column_shown text file line None = None
column_shown text file line (Some column) =
    if nat_lt 0 column && names_place text file line (column - 1) then Some (column - 1) else Some column

-- the region that is shown for one: from the column that is shown, where no lines came with the place
abbrev pub region_shown : List ℕ → List ℕ → Option Carried → Region → Region
region_shown text file (Some lines) r = r
region_shown text file None (region.Lines r) = region.Lines (record r { start_column = column_shown text file r.start_line r.start_column })
region_shown text file None (region.Bytes start end) = region.Bytes start end
region_shown text file None (region.Chars start end unit) = region.Chars start end unit

-- a place as a text shows it: in the region that is shown
abbrev pub place_shown : List ℕ → FileSpan → FileSpan
place_shown text s = record s { region = region_shown text (string_bytes s.file) s.carried s.region }

-- ---- children

-- what a child says
pub record ChildSeen : Type 0 where
  pub severity : Severity
  pub message : List ℕ
  pub spans : List FileSpan
  pub alternatives : List (Vec SuggestedEdit)

abbrev pub child_seen : Child → ChildSeen
child_seen c =
    record { severity = c.severity; message = string_bytes c.message; spans = c.spans.items; alternatives = c.alternatives.items }

-- the first line of a message, as it is drawn
abbrev pub message_line : List ℕ → List ℕ
message_line message = encode_utf8_all (norm (chars (before_first (λ b. b == 10) message)))

-- a message with this in place of its first line
abbrev pub with_first_line : List ℕ → List ℕ → List ℕ
with_first_line line message = line ++ drop (position_or_len (λ b. b == 10) message) message

-- what a suggestion becomes that is shown in this way: a child with the title that is shown; or a message without edits. Of one that is
-- shown as a label, or nowhere, no child is left
abbrev pub suggestion_shown : Way → ChildSeen → List ChildSeen
suggestion_shown (Group title) c = record c { message = with_first_line title c.message } ∷ []
suggestion_shown (Message said) c = record c { message = with_first_line said c.message; spans = []; alternatives = [] } ∷ []
suggestion_shown (Label label) c = []
suggestion_shown Nowhere c = []

-- what a child with these alternatives becomes: one without any stays, with its places as they are shown; a suggestion is shown as the
-- text shows the first line of its message
abbrev pub shown_with : List ℕ → List (Vec SuggestedEdit) → ChildSeen → List ChildSeen
shown_with text [] c = record c { spans = map (place_shown text) c.spans } ∷ []
shown_with text (edits ∷ more) c = suggestion_shown (way (message_line c.message) text) c

-- what a child becomes, as the text shows it: by its alternatives
abbrev pub child_shown : List ℕ → ChildSeen → List ChildSeen
child_shown text c = shown_with text c.alternatives c

-- the labels that a suggestion with these alternatives is told by, which is shown in this way
abbrev pub told_by : Way → (message : List ℕ) → List (Vec SuggestedEdit) → List LabelSeen
told_by (Group title) message alternatives = []
told_by (Message said) message alternatives = []
told_by (Label row) message alternatives = label_for row message alternatives
told_by Nowhere message alternatives = []

-- the labels that are told of a child: of one that has edits, the label that it is shown as, if it is
abbrev pub labels_of : List ℕ → ChildSeen → List LabelSeen
labels_of text c = told_by (way (message_line c.message) text) (message_line c.message) c.alternatives

-- ---- roles

-- whether two places are the same part of the same file
abbrev pub are_one : FileSpan → FileSpan → Bool
are_one a b = (equality.ghosts).eq a.region b.region && bytes_eq (string_bytes a.file) (string_bytes b.file)

-- whether one of some places is primary that lies where this one does
abbrev pub is_at_primary : List FileSpan → FileSpan → Bool
is_at_primary spans s = list_any (λ (other : FileSpan). other.is_primary && are_one other s) spans

-- some places with these roles, in order; those past the last role aren't primary
abbrev pub with_roles : List Bool → List FileSpan → List FileSpan
with_roles roles [] = []
with_roles [] (s ∷ spans) = record s { is_primary = false } ∷ with_roles [] spans
with_roles (is ∷ roles) (s ∷ spans) = record s { is_primary = is } ∷ with_roles roles spans

-- some places, each primary exactly where a primary one of them lies
abbrev pub settled : List FileSpan → List FileSpan
settled spans = map (λ (s : FileSpan). record s { is_primary = is_at_primary spans s }) spans

-- ---- a diagnostic

-- whether an escape stands in a text, which begins what a terminal doesn't show
abbrev pub has_escape : List ℕ → Bool
has_escape text = is_some (after_first (27 ∷ []) text)

-- a diagnostic is as a text shows it: its children are what the text makes of them, and its places are those that were given, as the text
-- shows them, with the labels that children become, each primary where a primary one lies. Labels may be put first
pub record IsAsShown (text : List ℕ) (are_first : Bool) (old new : Diagnostic) : Type 0 where
  pub children : map child_seen new.children.items ≡ flat_map (child_shown text) (map child_seen old.children.items)
  pub labels : List EditLabel
  pub told : map label_seen labels ≡ flat_map (labels_of text) (map child_seen old.children.items)
  pub places : new.spans.items ≡ settled (with_labels are_first labels (map (place_shown text) old.spans.items))
