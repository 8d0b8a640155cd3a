use Rattle.std.proofs.Common.{map}
use Rattle.serde_json.specs.View.{view}
use Rattle.redraw_read.proofs.rustc.children_of.Goals as goal

pub returns : goal.returns
returns c = record {
  are = record {
    items = map view c.in_ok-values.values.now;
    listed = c.in_ok-values.ensures.value;
    own = c.in_ok-children.children.items;
    are = c.in_ok-children.ensures.are;
    noted = c.in_ok-add_macro_note.ensures.noted;
  };
}
