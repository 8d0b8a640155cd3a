-- The parts of files where primary places lie.
use Rattle.std.specs.Prelude.{◌≡◌, ℕ, List, string_bytes}
use Rattle.std.specs.Borrow.{Bor}
use Rattle.std.specs.BTreeSet as sorted
use Rattle.std.specs.BTreeSet.{BTreeSet}
use Rattle.std.specs.Cmp.Lexicographic.{slice_cmp}
use Rattle.std.specs.Ordering.{nat_cmp, ordering_then}
use Rattle.std.specs.declared.cmp.Ordering.{Ordering}
use Rattle.redraw_report.specs.contracts.diagnostic.RegionOrd.TheImpl as order
use Rattle.redraw_report.specs.declared.diagnostic.FileSpan.{FileSpan}
use Rattle.redraw_report.specs.declared.diagnostic.Region.{Region}
use Rattle.redraw_read.specs.AsShown.{is_at_primary}

-- a part of a file, by its region and by the file
abbrev pub FilePart : Type 0
FilePart = Region × Bor (List ℕ)

-- it is the part that a place is
abbrev pub IsPartOf : FilePart → FileSpan → Type 0
IsPartOf part s = (part.0 ≡ s.region) × (part.1.now ≡ string_bytes s.file)

-- the order of parts
abbrev pub part_cmp : FilePart → FilePart → Ordering
part_cmp a b = ordering_then ((order.ghosts).cmp a.0 b.0) (slice_cmp nat_cmp a.1.now b.1.now)

-- these are the parts where primary ones of some places lie
abbrev pub ArePrimaryParts : BTreeSet FilePart → List FileSpan → Type 0
ArePrimaryParts parts spans =
    (q : FilePart) (s : FileSpan) → IsPartOf q s → sorted.contains part_cmp parts q ≡ is_at_primary spans s
