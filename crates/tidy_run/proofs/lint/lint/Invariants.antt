use Rattle.std.proofs.Common.{◌≡◌, All, map, take}
use Rattle.tidy_run.specs.Findings.{AreInside, finding_of, findings_of}
use Rattle.tidy_run.proofs.lint.lint.Given as goal

abbrev pub invariant-loop-rule : goal.invariant-loop-rule
invariant-loop-rule g l =
    record {
      value : map (λ edits. map finding_of edits.items) l.all.items
          ≡ map (λ rule. findings_of ((goal.Rule-dyn g (rule.vtable, rule.value)).finds rule.value l.source) l.source) (take l.rule-index l.rules);
      inside : All (λ edits. AreInside l.source 0 (map finding_of edits.items)) l.all.items;
    }
