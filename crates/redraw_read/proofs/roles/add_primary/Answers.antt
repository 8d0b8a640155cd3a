use Rattle.redraw_read.proofs.PrimaryParts.{parts_push}
use Rattle.redraw_read.proofs.roles.add_primary.Goals as goal

pub returns-in_ok-insert : goal.returns-in_ok-insert
returns-in_ok-insert c =
    record {
      added = λ spans parts. parts_push c.args.parts.now c.insert.new.self c.part_of.result c.args.span.now spans
          c.part_of.ensures.of c.if-span.true c.in_ok-insert.ensures.updates parts;
    }
