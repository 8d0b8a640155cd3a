use Rattle.redraw_read.proofs.Targeted.{put-targets}
use Rattle.redraw_read.proofs.labels.with_each.Goals as goal

pub returns : goal.returns
returns c =
    let all = put-targets c.args.labels.items c.args.spans.items in
    record {
      value = cc (all, c.in_ok-put_each.ensures.put, c.in_ok-targets.ensures.value, c.deref.ensures.value, c.deref-2.ensures.value, c.deref-3.ensures.value);
    }
