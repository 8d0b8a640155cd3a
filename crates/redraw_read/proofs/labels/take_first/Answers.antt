use Rattle.std.proofs.Common.{◌∙◌, ap, arith, drop, refl}
use Rattle.redraw_read.specs.Roles.{FilePart}
use Rattle.redraw_read.proofs.Targeted.{first-kept, lead, lead-popped, taken-out}
use Rattle.redraw_read.proofs.labels.take_first.Goals as goal

pub returns : goal.returns
returns c =
    let k : FilePart = (c.args.label.now.edit.region, c.as_str.result) in
    let old = c.args.bare.now in
    let indices = c.indices_out-indices.result in
    record {
      taken = λ spans are. (
        lead-popped indices.items c.pop_front-first.new.self.items c.pop_front-first.result c.pop_front-first.ensures.items
            (λ less. c.pop_front-first.ensures.variant.1 (omega (arith, less, indices.ok)))
            ∙ ap lead c.indices_out-indices.ensures.value
            ∙ first-kept old k c.args.label.now spans (refl, c.as_str.ensures.value) are,
        taken-out old c.indices_out-indices.new.bare c.insert.new.self k c.pop_front-first.new.self c.args.label.now spans c.indices_out-indices.ensures.out
            c.in_ok-insert.ensures.updates (refl, c.as_str.ensures.value)
            (c.pop_front-first.ensures.rest ∙ ap (drop 1) c.indices_out-indices.ensures.value) are,
      );
    }
