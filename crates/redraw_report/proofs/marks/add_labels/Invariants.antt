use Rattle.std.proofs.Common.{◌≡◌, ◌++◌, map, take}
use Rattle.std.specs.List.{flat_map}
use Rattle.redraw_report.specs.Report.{said_of_mark}
use Rattle.redraw_report.specs.View.{part_view}
use Rattle.redraw_report.proofs.marks.add_labels.Given as goal

-- what was added so far
abbrev pub invariant-loop-mark : goal.invariant-loop-mark
invariant-loop-mark l =
    map part_view l.elements.items ≡ map part_view l.initial.elements.items ++ flat_map said_of_mark (take l.mark-index l.marks)
