use Rattle.std.proofs.Common.{map}
use Rattle.serde_json.specs.View.{view}
use Rattle.redraw_read.proofs.Listed.{places_of}
use Rattle.redraw_read.proofs.spans.spans_of.Goals as goal

pub returns : goal.returns
returns c =
    let added = c.in_ok-add_calls.ensures.added in
    record {
      are =
          places_of c.args.named.now c.args.keeps_starts (view c.args.node.now.value.now) (map view c.in_ok-values.values.now) c.in_ok-own.own.items
          added.0 _ _ _ _ c.in_ok-values.ensures.value c.in_ok-own.ensures.are added.1 added.2 c.in_ok-settled.ensures.settled
          c.in_ok-ordered.ensures.is c.in_ok-drop_unsaid.ensures.value;
    }
