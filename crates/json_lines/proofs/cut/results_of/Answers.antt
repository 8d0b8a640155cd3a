use Rattle.std.proofs.Common.{refl}
use Rattle.json_lines.proofs.Kept.{none-first, results-kept}
use Rattle.json_lines.proofs.cut.results_of.Goals as goal

pub returns-in-Some : goal.returns-in-Some
returns-in-Some c =
    let h = rw c.in-Some.is at c.in_ok-kept-in-Some-BeginArray.ensures.takes in
    let begins = rw c.in-Some-BeginArray.field-0-is at c.in-Some-BeginArray.ensures.value in
    let first = none-first _ _ c.is_none.ensures c.if-is_none.true in
    record { takes = results-kept _ _ _ h.0 _ _ _ _ begins h.1 h.2 c.new.ensures.items first refl }
