use Rattle.json_lines.proofs.Kept.{log-kept}
use Rattle.json_lines.proofs.cut.log_of.Goals as goal

pub returns-in_ok-log_object-in-Some-BeginObject : goal.returns-in_ok-log_object-in-Some-BeginObject
returns-in_ok-log_object-in-Some-BeginObject c = record {
  takes = log-kept _ _ _ c.in_ok-log_object-in-Some-BeginObject.field-0 _
      (rw c.in-Some-BeginObject.field-0-is at c.in-Some-BeginObject.ensures.value) c.in_ok-log_object-in-Some-BeginObject.ensures.takes;
}
