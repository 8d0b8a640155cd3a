use Rattle.std.proofs.Common.{◌≡◌, arith, length}
use Rattle.redraw_read.proofs.GivenRoles.{given-next}
use Rattle.redraw_read.proofs.roles.given_roles.Goals as goal

pub loop-span-preserved : goal.loop-span-preserved
loop-span-preserved c =
    let count : c.len.result ≡ length c.loop-span.found.items = omega (arith, c.len.ensures, c.loop-span.found.ok) in
    given-next _ _ _ _ _ _ _ _ c.loop-span.invariant count c.role_at-is_primary.ensures.value c.with_role.ensures.value c.in_ok-push.ensures.items
