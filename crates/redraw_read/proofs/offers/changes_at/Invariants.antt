use Rattle.std.proofs.Common.{◌≡◌, ◌++◌, drop, map}
use Rattle.redraw_report.specs.Report.{edited_of}
use Rattle.redraw_read.specs.Placed.{edits_at}
use Rattle.redraw_read.proofs.offers.changes_at.Given as goal

-- the changes so far, and those of the edits that are left, are all
abbrev pub invariant-loop-index : goal.invariant-loop-index
invariant-loop-index l =
    map edited_of l.changes.items ++ edits_at (drop l.index l.spots) (drop l.index l.edits) ≡ edits_at l.spots l.edits
