use Rattle.std.proofs.Common.{◌∙◌, sym}
use Rattle.serde_json.specs.View.{view}
use Rattle.redraw_read.proofs.Listed.{beside_none}
use Rattle.redraw_read.proofs.rustc.spans_beside.Goals as goal

pub returns : goal.returns
returns c =
    record {
      are =
          beside_none c.args.reader.now (view c.args.node.now.value.now) c.args.edits.now c.in_ok-spans.spans.items
          (sym c.if-not-is_empty.false ∙ c.is_empty.ensures) c.in_ok-spans.ensures.are;
    }
