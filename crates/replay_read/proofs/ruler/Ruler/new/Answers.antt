use Rattle.std.proofs.Common.{All, ap, arith, length, subst}
use Rattle.std.proofs.lemmas.Str.{is_utf8-from_IsUtf8}
use Rattle.replay_read.specs.Stops.{IsStop}
use Rattle.replay_read.proofs.ruler.Ruler.new.Goals as goal

pub invariant_of-result : goal.invariant_of-result
invariant_of-result c =
    record {
      text = is_utf8-from_IsUtf8 c.args.source.now c.utf8.source;
      lined = λ some. absurd (omega (arith, some, ap length c.new.ensures.items));
      measured = λ k d below. absurd (omega (arith, below, ap length c.new-then-not-many.ensures.items));
    }

pub invariant_of-result-2 : goal.invariant_of-result-2
invariant_of-result-2 c =
    record {
      text = is_utf8-from_IsUtf8 c.args.source.now c.utf8.source;
      lined = λ some. c.in_ok-starts.ensures.value;
      measured =
          subst (λ unit. All (IsStop unit c.args.source.now) c.in_ok-stops.stops.items) c.unwrap_or.ensures c.in_ok-stops.ensures.stops;
    }
