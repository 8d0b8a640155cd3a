use Rattle.std.proofs.Common.{map, ◌-◌, length}
use Rattle.tidy_run.specs.Findings.{finding_of}
use Rattle.tidy_run.proofs.FoundSoFar.{FoundSoFar, ReachesTo}
use Rattle.tidy_run.proofs.lint.findings.Given as goal

abbrev pub invariant-loop-edit : goal.invariant-loop-edit
invariant-loop-edit g l =
    record {
      so_far : FoundSoFar ((goal.Rule-dyn g l.rule.now).finds l.rule.now.1 l.source) l.source (map finding_of l.found.items) l.from;
      reach : ReachesTo l.source (map finding_of l.found.items) l.from;
    }

abbrev pub decreases-loop-edit : goal.decreases-loop-edit
decreases-loop-edit g l = length l.source - l.from
