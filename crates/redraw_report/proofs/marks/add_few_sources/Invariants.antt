use Rattle.std.proofs.Common.{◌≡◌, ◌++◌, map, take}
use Rattle.std.specs.List.{flat_map}
use Rattle.redraw_report.specs.Report.{source_parts}
use Rattle.redraw_report.specs.View.{part_view}
use Rattle.redraw_report.proofs.marks.add_few_sources.Given as goal

-- what was added so far
abbrev pub invariant-loop-source : goal.invariant-loop-source
invariant-loop-source l =
    map part_view l.elements.items ≡ map part_view l.initial.elements.items ++ flat_map (source_parts l.marks) (take l.source-index l.order)
