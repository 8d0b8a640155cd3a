use Rattle.std.proofs.Common.{◌-◌, arith}
use Rattle.serde_json.specs.View.{items_view, members_view}
use Rattle.serde_json.proofs.Views.{view-Array, view-Object}
use Rattle.json_lines.proofs.Loops.{items-done, items-next, members-done, members-next}
use Rattle.json_lines.proofs.Taken.{found-array, found-bool, found-null, found-number, found-object, found-string}
use Rattle.json_lines.proofs.quick.+value.Goals as goal

pub array-loop-alloc-preserved : goal.array-loop-alloc-preserved
array-loop-alloc-preserved t c =
    rw c.in_ok-push.ensures.items
    (items-next _ _ _ _ _ _ c.loop-alloc.invariant c.loop-alloc-test.ensures.0 (rw (c.in-Some.is, c.loop-alloc-test.ensures.1) at c.in_ok-item.ensures.takes))

pub array-returns : goal.array-returns
array-returns t c = record {
  takes = (items_view c.loop-alloc.items.items, view-Array c.loop-alloc.items, items-done _ _ _ _ _ c.loop-alloc.invariant c.loop-alloc-test.ensures);
}

pub object-returns-in_default-key : goal.object-returns-in_default-key
object-returns-in_default-key t c =
    let e = rw c.in_default-key.is at c.in-Ok.ensures.value in
    record { takes = (members_view c.loop-key.members.entries, view-Object c.loop-key.members, members-done _ _ _ _ _ c.loop-key.invariant e) }

pub object-loop-key-preserved : goal.object-loop-key-preserved
object-loop-key-preserved t c =
    let e = rw c.in-Some.is at c.in-Ok.ensures.value in
    rw c.in_ok-put.ensures.ok (members-next _ _ _ _ _ _ _ _ c.loop-key.invariant e (rw c.in-Some-2.is at c.in_ok-member.ensures.takes))

pub value_of-returns-in-Some-Null : goal.value_of-returns-in-Some-Null
value_of-returns-in-Some-Null t c =
    record { takes = found-null _ _ _ (rw c.in-Some-Null.field-0-is at c.in-Some-Null.ensures.value) }

pub value_of-returns-in-Some-Bool : goal.value_of-returns-in-Some-Bool
value_of-returns-in-Some-Bool t c =
    record { takes = found-bool _ _ _ _ (rw c.in-Some-Bool.field-0-is at c.in-Some-Bool.ensures.value) }

pub value_of-returns-in-Some-Number : goal.value_of-returns-in-Some-Number
value_of-returns-in-Some-Number t c =
    record { takes = found-number _ _ _ _ _ (rw c.in-Some-Number.field-0-is at c.in-Some-Number.ensures.value) c.number_value.ensures.number }

pub value_of-returns-in_ok-from_str-in-Some-String : goal.value_of-returns-in_ok-from_str-in-Some-String
value_of-returns-in_ok-from_str-in-Some-String t c =
    record { takes = found-string _ _ _ _ _ (rw c.in-Some-String.field-0-is at c.in-Some-String.ensures.value) c.in_ok-from_str-in-Some-String.ensures.ok }

pub value_of-returns-in_ok-array-in-Some-BeginArray : goal.value_of-returns-in_ok-array-in-Some-BeginArray
value_of-returns-in_ok-array-in-Some-BeginArray t c =
    record {
      takes = found-array _ (c.args.depth - 1) _ _ _ _ (omega arith)
          (rw c.in-Some-BeginArray.field-0-is at c.in-Some-BeginArray.ensures.value) c.in_ok-array-in-Some-BeginArray.ensures.takes;
    }

pub value_of-returns-in_ok-object-in-Some-BeginObject : goal.value_of-returns-in_ok-object-in-Some-BeginObject
value_of-returns-in_ok-object-in-Some-BeginObject t c =
    record {
      takes = found-object _ (c.args.depth - 1) _ _ _ _ (omega arith)
          (rw c.in-Some-BeginObject.field-0-is at c.in-Some-BeginObject.ensures.value) c.in_ok-object-in-Some-BeginObject.ensures.takes;
    }
