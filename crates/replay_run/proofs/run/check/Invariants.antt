use Rattle.std.proofs.Common.{◌≡◌}
use Rattle.replay_run.specs.Growth.{Grows}
use Rattle.replay_run.specs.Checked.{CountsFiles}
use Rattle.output_stream.specs.Standing.{known}
use Rattle.replay_run.proofs.run.check.Given as goal

-- the pairs so far are counted, and what is written was added
abbrev pub invariant-loop-pair : goal.invariant-loop-pair
invariant-loop-pair g l =
    CountsFiles _ g.R.File.Read.remaining l.pair l.counts
    × Grows (known g.W.Write.contents l.initial.out) (known g.W.Write.contents l.out)
    × (l.counts.failed ≡ 0 → l.out ≡ l.initial.out)
