use Rattle.snippet_suggest.proofs.ShownLemmas.{run_step}
use Rattle.snippet_suggest.proofs.shown_lines.push_run.Goals as goal

pub loop-line-preserved : goal.loop-line-preserved
loop-line-preserved c =
    run_step c.loop-line.shown.items c.push-in-loop-line.new.self.items _ c.loop-line.line c.args.to c.loop-line-test.true c.in_ok-push-4.ensures.items
    c.loop-line.invariant
