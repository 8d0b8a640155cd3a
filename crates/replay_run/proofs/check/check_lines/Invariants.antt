use Rattle.std.proofs.Common.{◌≡◌, ◌+◌}
use Rattle.std.specs.Io.Iter.{lines_known_bytes}
use Rattle.replay_run.specs.Growth.{Grows}
use Rattle.replay_run.proofs.Checking.{HaveCheckedKnown}
use Rattle.output_stream.specs.Standing.{known}
use Rattle.replay_run.proofs.check.check_lines.Given as goal

-- each line so far is checked and counted, and what is written was added
abbrev pub invariant-loop-number : goal.invariant-loop-number
invariant-loop-number g l =
    (l.counts.passed + l.counts.failed + 1 ≡ l.number)
    × HaveCheckedKnown (g.B.Read.remaining l.fn.expected) (g.C.Read.remaining l.fn.cases) (lines_known_bytes g.B.Read.remaining l.answers)
    (lines_known_bytes g.C.Read.remaining l.lines) l.counts
    × Grows (known g.W.Write.contents l.initial.out) (known g.W.Write.contents l.out)
    × (l.counts.failed ≡ 0 → l.out ≡ l.initial.out)
