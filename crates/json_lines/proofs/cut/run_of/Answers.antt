use Rattle.json_lines.proofs.Kept.{run-kept}
use Rattle.json_lines.proofs.cut.run_of.Goals as goal

pub returns-in_ok-push-in-Some-BeginObject : goal.returns-in_ok-push-in-Some-BeginObject
returns-in_ok-push-in-Some-BeginObject c =
    let begins = rw c.in-Some-BeginObject.field-0-is at c.in-Some-BeginObject.ensures.value in
    let own = rw c.unwrap_or.ensures at c.in_ok-push-in-Some-BeginObject.ensures.items in
    record { takes = run-kept _ _ _ c.in_ok-run-in-Some-BeginObject.run' _ _ _ _ begins c.new.ensures.items own c.in_ok-run-in-Some-BeginObject.ensures.takes }
