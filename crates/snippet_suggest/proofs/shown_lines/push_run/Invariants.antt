use Rattle.snippet_suggest.proofs.Common.{◌≡◌, ◌++◌}
use Rattle.snippet_suggest.proofs.shown_lines.push_run.Given as goal
use Rattle.snippet_suggest.proofs.ShownLemmas.{run_of}

-- the lines so far and those to come are all
abbrev pub invariant-loop-line : goal.invariant-loop-line
invariant-loop-line l = l.shown.items ++ run_of l.line l.to ≡ l.initial.shown.items ++ run_of l.from l.to
