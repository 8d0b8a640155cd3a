use Rattle.std.proofs.Common.{sym, ◌∙◌}
use Rattle.std.proofs.lemmas.Bool.{eqb-true}
use Rattle.json_lines.proofs.Names.{one_field}
use Rattle.json_lines.proofs.node.Node.has_one_field.Goals as goal

pub returns : goal.returns
returns c =
    record {
      one = λ is. one_field _ c.in-Some.fields.now.entries c.in-Some.ensures (sym c.len.ensures.len ∙ eqb-true c.len.result 1 is);
    }
