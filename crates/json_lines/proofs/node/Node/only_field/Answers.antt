use Rattle.std.proofs.Common.{refl}
use Rattle.serde_json.specs.Data.{Data}
use Rattle.serde_json.specs.View.{view}
use Rattle.json_lines.proofs.Names.{found_only}
use Rattle.json_lines.specs.declared.node.Node.{Node}
use Rattle.json_lines.proofs.node.Node.only_field.Goals as goal

pub returns-then-has_one_field : goal.returns-then-has_one_field
returns-then-has_one_field c =
    let shows : Node → Data = λ field. view field.value.now in
    record {
      value = found_only c.optional.result shows _ _ (c.if-has_one_field.ensures.one refl) c.optional.ensures.value;
    }
