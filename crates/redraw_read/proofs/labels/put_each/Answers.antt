use Rattle.std.proofs.Common.{arith}
use Rattle.std.proofs.lemmas.Iterator.Adapters.{YieldsList-from_vec}
use Rattle.std.proofs.lemmas.Iterator.Consumers.{YieldsList-turn}
use Rattle.std.proofs.lemmas.List.{length_push}
use Rattle.redraw_read.proofs.Targeted.{put_each-push}
use Rattle.redraw_read.proofs.labels.put_each.Goals as goal

pub loop-label-preserved : goal.loop-label-preserved
loop-label-preserved c =
    let turn = YieldsList-turn (YieldsList-from_vec c.args.labels.items (cc) (cc)) c.loop-label.yielded c.loop-label.label-iterator
    c.loop-label.yielded_by c.next.result c.next.new.self c.in-Some.label c.in-Some.is c.next.ensures.steps in
    let more = length_push c.loop-label.yielded c.in-Some.label in
    let put = put_each-push c.args.targets.now c.loop-label.yielded c.in-Some.label c.args.spans.now.items in
    record {
      count = omega (arith, turn.0, c.args.labels.ok, c.args.labels.small);
      put = cc (put, c.in_ok-put_label.ensures.put, c.target_at.ensures.value, c.loop-label.invariant.count, c.loop-label.invariant.put);
    }
