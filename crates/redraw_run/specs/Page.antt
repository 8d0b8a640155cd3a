-- What a page keeps of the reports in it.
use Rattle.std.specs.Prelude.{◌≡◌, ◌||◌, ℕ, Bool, true, false, List, Option, None, Some, is_some, nat_lt, string_bytes}
use Rattle.std.specs.BTreeMap.{BTreeMap, get_by_text, insert_entry}
use Rattle.std.specs.BTreeMap as map
use Rattle.std.specs.Cmp.Lexicographic.{slice_cmp}
use Rattle.std.specs.Global.{Global}
use Rattle.std.specs.Prelude.{String}
use Rattle.std.specs.Ordering.{nat_cmp}
use Rattle.std.specs.declared.cmp.Ordering.{Ordering}
use Rattle.redraw_run.specs.Counts.{counted, no_counts, one_more}
use Rattle.redraw_run.specs.Id.{digest}
use Rattle.redraw_run.specs.declared.counts.Kind.{Kind}
use Rattle.redraw_run.specs.declared.id.ReportId.{ReportId}
use Rattle.redraw_run.specs.declared.page.ListedFile.{ListedFile}
use Rattle.redraw_run.specs.declared.page.Page.{Page}

-- bytes are in order as in a dictionary, and so are names
abbrev pub byte_order : List ℕ → List ℕ → Ordering
byte_order = slice_cmp nat_cmp

abbrev pub name_order : String Global → String Global → Ordering
name_order a b = byte_order (string_bytes a) (string_bytes b)

-- how often something was there, if that is kept
abbrev pub times : Option ℕ → ℕ
times None = 0
times (Some n) = n

-- the most digests that a page keeps
abbrev pub most_kept : ℕ
most_kept = 16384

-- whether a page keeps this digest, or has room for it
abbrev pub has_room : Page → List ℕ → Bool
has_room page digest = is_some (map.get byte_order page.reports digest) || nat_lt (map.btree_map_len page.reports) most_kept

-- a report with this id is one more with its digest, and that is kept
abbrev pub IsKept : ReportId → Page → Page → Type 0
IsKept id old new =
    (id.number ≡ one_more (times (map.get byte_order old.reports id.digest)))
    × (new.reports.entries ≡ insert_entry byte_order old.reports.entries id.digest id.number)
    × (new.later ≡ old.later)

-- a report with this id has a number that no other has, and its digest isn't kept
abbrev pub IsLater : ReportId → Page → Page → Type 0
IsLater id old new = (id.number ≡ one_more old.later) × (new.later ≡ id.number) × (new.reports ≡ old.reports)

-- a report has this id in a page: its digest, and a number, which is that of the reports with this digest as long as there is room for digests
pub record Numbers (report : List ℕ) (id : ReportId) (old new : Page) : Type 0 where
  pub digest_is : id.digest ≡ digest report
  pub kept : has_room old id.digest ≡ true → IsKept id old new
  pub later : has_room old id.digest ≡ false → IsLater id old new

-- a listed file, or one that this report is the first in
abbrev pub first_or : Option ListedFile → ReportId → ListedFile
first_or None id = record { first = id; counts = no_counts }
first_or (Some file) id = file

-- a file with a report more
abbrev pub with_report : ListedFile → Kind → ListedFile
with_report file kind = record { first = file.first; counts = counted file.counts kind }

-- a report is counted in the file of this name
pub record Lists (name : List ℕ) (id : ReportId) (kind : Kind) (old new : BTreeMap (String Global) ListedFile) : Type 0 where
  pub key : String Global
  pub named : string_bytes key ≡ name
  pub kept : new.entries ≡ insert_entry name_order old.entries key (with_report (first_or (get_by_text old name) id) kind)

-- in the file of this name, if it lies in one
abbrev pub ListsIn : Option (List ℕ) → ReportId → Kind → BTreeMap (String Global) ListedFile → BTreeMap (String Global) ListedFile → Type 0
ListsIn None id kind old new = new ≡ old
ListsIn (Some name) id kind old new = Lists name id kind old new

-- a report is taken into a page: it gets an id, and is counted in its file
pub record Takes (report : List ℕ) (file : Option (List ℕ)) (kind : Kind) (id : ReportId) (old new : Page) : Type 0 where
  pub numbered : Numbers report id old new
  pub counted_in : ListsIn file id kind old.files new.files
