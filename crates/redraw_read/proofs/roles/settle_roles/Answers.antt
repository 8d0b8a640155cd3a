use Rattle.std.proofs.Common.{◌∙◌, arith}
use Rattle.redraw_read.specs.AsShown.{is_at_primary}
use Rattle.redraw_read.proofs.GivenRoles.{settled_alone, with_roles-map}
use Rattle.redraw_read.proofs.roles.settle_roles.Goals as goal

pub returns-then-len-lt2 : goal.returns-then-len-lt2
returns-then-len-lt2 c = record { settled = settled_alone _ (omega (arith, c.len.ensures)) }

pub returns : goal.returns
returns c =
    let given = rw (c.deref-2.ensures.value, c.in_ok-roles.ensures.each, c.deref.ensures.value) at c.in_ok-found.ensures.each in
    record { settled = given ∙ with_roles-map (is_at_primary c.args.spans.items) c.args.spans.items }
