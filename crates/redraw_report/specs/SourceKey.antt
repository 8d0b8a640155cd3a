-- Keys by which sources are looked up.
use Rattle.std.specs.Prelude.{◌≡◌, List, [], Option}
use Rattle.std.specs.List.{list_any}
use Rattle.std.specs.Option.{option_map_or}
use Rattle.std.specs.Global.{Vec}
use Rattle.std.specs.BTreeMap as tree
use Rattle.std.specs.BTreeMap.{BTreeMap}
use Rattle.std.specs.BTreeSet as sorted
use Rattle.std.specs.BTreeSet.{BTreeSet}
use Rattle.std.specs.declared.cmp.Ordering.{Ordering}
use Rattle.redraw_report.specs.contracts.source_key.SourceKeyOrd.TheImpl as order
use Rattle.redraw_report.specs.declared.finding.MarkedSpan.{MarkedSpan}
use Rattle.redraw_report.specs.declared.finding.Shown.{Shown}
use Rattle.redraw_report.specs.declared.source_key.ContentKey.{ContentKey}
use Rattle.redraw_report.specs.declared.source_key.ContentKey.TheVariants as content_key
use Rattle.redraw_report.specs.declared.source_key.SourceKey.{SourceKey}
use Rattle.redraw_report.specs.Report.{marks_in}
use Rattle.redraw_report.specs.SameSource.{same_source}
use Rattle.redraw_report.specs.Sight.{Sight, Lines, Nothing, Blank, sight_of}

-- what is shown of a source with a key
abbrev pub key_sight : ContentKey → Sight
key_sight (content_key.Lines first_line text) = Lines text.now first_line
key_sight (content_key.Nothing line column) = Nothing line column
key_sight (content_key.Blank line column) = Blank line column

-- a key is that of a source: it has its path, and what is shown of it
pub record IsKeyOf (k : SourceKey) (s : Shown) : Type 0 where
  pub path : k.path.now ≡ s.path.now
  pub content : key_sight k.content ≡ sight_of s.content

-- the order of keys
abbrev pub key_cmp : SourceKey → SourceKey → Ordering
key_cmp = (order.ghosts).cmp

-- keys are those of these sources
abbrev pub AreKeysOf : BTreeSet SourceKey → List Shown → Type 0
AreKeysOf keys sources =
    (q : SourceKey) (t : Shown) → IsKeyOf q t → sorted.contains key_cmp keys q ≡ list_any (λ known. same_source known t) sources

-- places that were found, or none
abbrev pub places_in : Option (Vec MarkedSpan) → List MarkedSpan
places_in found = option_map_or (λ (v : Vec MarkedSpan). v.items) found []

-- some places are grouped by their sources: at the key of a source stand those that are in it
abbrev pub AreGroupsOf : BTreeMap SourceKey (Vec MarkedSpan) → List MarkedSpan → Type 0
AreGroupsOf groups marks =
    (q : SourceKey) (t : Shown) → IsKeyOf q t
    → places_in (tree.get key_cmp groups q) ≡ marks_in t marks
