use Rattle.json_lines.proofs.Kept.{runs-done, runs-next, runs-none}
use Rattle.json_lines.proofs.cut.run_list.Goals as goal

pub loop-alloc-init : goal.loop-alloc-init
loop-alloc-init c = runs-none _ _ _ c.new-runs.ensures.items c.requires.first

pub loop-alloc-preserved : goal.loop-alloc-preserved
loop-alloc-preserved c =
    let here = rw (c.in-Some.is, c.loop-alloc-test.ensures.1) at c.in_ok-run.ensures.takes in
    runs-next _ _ _ _ _ _ _ _ here.0 here.3 c.loop-alloc.invariant c.loop-alloc-test.ensures.0 here.1 here.2 here.4 c.in_ok-push.ensures.items here.5

pub returns : goal.returns
returns c = record { takes = runs-done _ _ _ _ _ c.loop-alloc.invariant c.loop-alloc-test.ensures }
