use Rattle.serde_json.specs.View.{view}
use Rattle.replay_run.proofs.Checking.{ok_and}
use Rattle.replay_run.proofs.check.compare_line.Goals as goal

pub returns-clause-checks : goal.returns-clause-checks
returns-clause-checks g c =
    ok_and c.args.line (λ line reads. record {
      case = c.in_ok-case.case;
      outcome = c.in_ok-outcome.outcome;
      became = record {
        described = view c.in_ok-value.value;
        reads = reads;
        case_is = c.in_ok-case.ensures.value;
        became = c.in_ok-outcome.ensures.outcome;
      };
      verdict = c.in_ok-passes.ensures.passes;
    }) c.in_ok-value.ensures.value
