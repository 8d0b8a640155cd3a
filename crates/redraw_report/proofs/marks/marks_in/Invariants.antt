use Rattle.std.proofs.Common.{◌≡◌, take}
use Rattle.redraw_report.specs.Report as spec
use Rattle.redraw_report.proofs.marks.marks_in.Given as goal

-- those of the places so far
abbrev pub invariant-loop-mark : goal.invariant-loop-mark
invariant-loop-mark l = l.within.items ≡ spec.marks_in l.source (take l.mark-index l.marks)
