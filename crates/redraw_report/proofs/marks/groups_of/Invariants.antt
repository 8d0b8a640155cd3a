use Rattle.std.proofs.Common.{take}
use Rattle.redraw_report.specs.SourceKey.{AreGroupsOf}
use Rattle.redraw_report.proofs.marks.groups_of.Given as goal

-- the places so far
abbrev pub invariant-loop-mark : goal.invariant-loop-mark
invariant-loop-mark l = AreGroupsOf l.groups (take l.mark-index l.marks)
