use Rattle.std.proofs.Common.{refl}
use Rattle.json_lines.proofs.Kept.{none-first, runs-kept}
use Rattle.json_lines.proofs.cut.runs_of.Goals as goal

pub returns-in_ok-runs-in-Some-BeginArray : goal.returns-in_ok-runs-in-Some-BeginArray
returns-in_ok-runs-in-Some-BeginArray c =
    let begins = rw c.in-Some-BeginArray.field-0-is at c.in-Some-BeginArray.ensures.value in
    let first = none-first _ _ c.is_none.ensures c.if-is_none.true in
    record { takes = runs-kept _ _ _ c.in_ok-runs-in-Some-BeginArray.runs _ _ _ begins first refl c.in_ok-runs-in-Some-BeginArray.ensures.takes }
