-- No blanks that end a line begin before byte `at`.
use Rattle.std.proofs.Common.{◌≡◌}
use Rattle.tidy_run.specs.Rules.{first_from, trailing_blanks_at}
use Rattle.tidy_run.proofs.trailing_blanks.TrailingBlanksRule.find.Given as goal

abbrev pub invariant-loop-at : goal.invariant-loop-at
invariant-loop-at l = first_from trailing_blanks_at l.source l.from ≡ first_from trailing_blanks_at l.source l.at
