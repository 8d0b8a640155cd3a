use Rattle.std.proofs.Common.{All, take}
use Rattle.std.specs.List.{flat_map}
use Rattle.annotate_snippets.specs.Drawable.{IsGroupWithinBounds}
use Rattle.tidy_run.specs.Findings.{findings_of}
use Rattle.tidy_run.specs.Report.{IsReportOf, told_of}
use Rattle.tidy_run.proofs.report.report.Given as goal

abbrev pub invariant-loop-i : goal.invariant-loop-i
invariant-loop-i g l =
    record {
      told : IsReportOf l.path l.source
          (flat_map (λ rule. let dyn = goal.Rule-dyn g (rule.vtable, rule.value) in told_of (dyn.title_of rule.value)
          (findings_of (dyn.finds rule.value l.source) l.source)) (take l.i l.rules))
          l.groups.items;
      within : All IsGroupWithinBounds l.groups.items;
    }
