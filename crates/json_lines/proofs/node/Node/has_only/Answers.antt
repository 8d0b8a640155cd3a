use Rattle.std.proofs.Common.{refl}
use Rattle.serde_json.specs.View.{members_view}
use Rattle.json_lines.proofs.Names.{only_named}
use Rattle.json_lines.proofs.node.Node.has_only.Goals as goal

pub returns-in-None : goal.returns-in-None
returns-in-None c =
    record {
      only = only_named _ _ (members_view c.in-Some.fields.now.entries) c.in-Some.ensures (c.in-None.ensures.known refl);
    }
