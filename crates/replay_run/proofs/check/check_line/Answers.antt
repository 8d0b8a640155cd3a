use Rattle.serde_json.specs.View.{view}
use Rattle.replay_run.proofs.Checking.{ok_and}
use Rattle.replay_run.proofs.check.check_line.Goals as goal

pub returns-clause-checks : goal.returns-clause-checks
returns-clause-checks g c =
    ok_and c.args.answer (λ answer reads. ok_and c.args.line (λ line checks. record {
      said = view c.in_ok-value.value;
      reads = reads;
      expected = c.in_ok-expected.expected;
      expected_is = c.in_ok-expected.ensures.value;
      checks = checks;
    }) c.in_ok-passes.ensures.checks) c.in_ok-value.ensures.value
