use Rattle.std.proofs.Common.{◌≡◌, map, take}
use Rattle.redraw_report.specs.Report.{edited_of}
use Rattle.redraw_report.specs.View.{edited_view}
use Rattle.redraw_report.proofs.offers.patches_of.Given as goal

-- the patches so far
abbrev pub invariant-loop-change : goal.invariant-loop-change
invariant-loop-change l = map edited_view l.patches.items ≡ map edited_of (take l.change-index l.changes)
