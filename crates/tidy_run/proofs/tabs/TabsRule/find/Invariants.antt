-- No tab stands before byte `at`.
use Rattle.std.proofs.Common.{◌≡◌}
use Rattle.tidy_run.specs.Rules.{first_from, tab_at}
use Rattle.tidy_run.proofs.tabs.TabsRule.find.Given as goal

abbrev pub invariant-loop-at : goal.invariant-loop-at
invariant-loop-at l = first_from tab_at l.source l.from ≡ first_from tab_at l.source l.at
