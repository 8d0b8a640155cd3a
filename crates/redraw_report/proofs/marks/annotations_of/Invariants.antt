use Rattle.std.proofs.Common.{◌≡◌, map, take}
use Rattle.redraw_report.specs.Report.{marked_of}
use Rattle.redraw_report.specs.View.{marked_view}
use Rattle.redraw_report.proofs.marks.annotations_of.Given as goal

-- the annotations so far
abbrev pub invariant-loop-mark : goal.invariant-loop-mark
invariant-loop-mark l = map marked_view l.annotations.items ≡ map marked_of (take l.mark-index l.marks)
