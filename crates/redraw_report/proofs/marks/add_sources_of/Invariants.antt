use Rattle.std.proofs.Common.{◌≡◌, take}
use Rattle.redraw_report.specs.Report.{with_sources}
use Rattle.redraw_report.specs.SourceKey.{AreKeysOf}
use Rattle.redraw_report.proofs.marks.add_sources_of.Given as goal

-- the sources so far, and their keys
abbrev pub invariant-loop-mark : goal.invariant-loop-mark
invariant-loop-mark l =
    (l.order.items ≡ with_sources l.primary l.initial.order.items (take l.mark-index l.marks)) × AreKeysOf l.keys l.order.items
