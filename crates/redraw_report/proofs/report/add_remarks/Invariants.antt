use Rattle.std.proofs.Common.{◌≡◌, ◌++◌, map, drop}
use Rattle.redraw_report.specs.Report.{sections_from}
use Rattle.redraw_report.specs.View.{section_view}
use Rattle.redraw_report.proofs.report.add_remarks.Given as goal

-- the groups so far, and those of the last of them and the remarks that are left, are all
abbrev pub invariant-loop-remark : goal.invariant-loop-remark
invariant-loop-remark l =
    map section_view l.groups.items ++ sections_from l.shows_gone (section_view l.group) (drop l.remark-index l.remarks)
    ≡ map section_view l.initial.groups.items ++ sections_from l.shows_gone (section_view l.initial.group) l.remarks
