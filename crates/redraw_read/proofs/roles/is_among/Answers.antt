use Rattle.std.proofs.Common.{◌∙◌}
use Rattle.redraw_read.proofs.roles.is_among.Goals as goal

pub returns : goal.returns
returns c =
    record { value = λ spans are. c.contains.ensures ∙ are c.part_of-part.result c.args.span.now c.part_of-part.ensures.of }
