use Rattle.std.proofs.Common.{ap}
use Rattle.serde_json.specs.View.{members_view}
use Rattle.json_lines.proofs.Kept.{members-done, members-next, members-none}
use Rattle.json_lines.proofs.cut.log_object.Goals as goal

pub loop-key-init : goal.loop-key-init
loop-key-init c = members-none _ _ _ _ _ _ _ (ap members_view c.new-members.ensures.empty) c.requires.first

pub returns-in_default-key : goal.returns-in_default-key
returns-in_default-key c =
    let e = rw c.in_default-key.is at c.in-Ok.ensures.value in
    record { takes = members-done _ _ _ _ _ _ _ _ _ c.loop-key.invariant e }

pub loop-key-preserved : goal.loop-key-preserved
loop-key-preserved c =
    let e = rw c.in-Some.is at c.in-Ok.ensures.value in
    let here = rw c.in-Some-2.is at c.in_ok-member.ensures.takes in
    members-next _ _ _ _ _ _ _ _ _ _ _ _ _ here.0 _ c.loop-key.invariant e here.1 here.2 c.in_ok-put.ensures.ok
