use Rattle.json_lines.proofs.Kept.{results-done, results-next, results-none}
use Rattle.json_lines.proofs.cut.result_list.Goals as goal

pub loop-alloc-init : goal.loop-alloc-init
loop-alloc-init c = results-none _ _ c.new-kept.ensures.items

pub loop-alloc-preserved : goal.loop-alloc-preserved
loop-alloc-preserved c =
    let here = rw (c.in-Some.is, c.loop-alloc-test.ensures.1) at c.in_ok-value_of.ensures.takes in
    results-next _ _ _ _ _ _ _ c.loop-alloc.invariant c.loop-alloc-test.ensures.0 here c.in_ok-push.ensures.items

pub returns : goal.returns
returns c = record { takes = results-done _ _ _ _ c.loop-alloc.invariant c.loop-alloc-test.ensures }
