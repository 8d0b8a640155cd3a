use Rattle.std.specs.Io.Iter.{lines_known_bytes}
use Rattle.replay_run.proofs.AnsweredLines.{HaveAnswered}
use Rattle.output_stream.specs.Standing.{known}
use Rattle.replay_run.proofs.lines.answer_lines.Given as goal

-- each line so far is answered
abbrev pub invariant-loop-line : goal.invariant-loop-line
invariant-loop-line g l =
    HaveAnswered l.way l.told l.initial.is_first l.is_first l.number (g.B.Read.remaining l.fn.input) (lines_known_bytes g.B.Read.remaining l.line-iterator)
    (known g.W.Write.contents l.initial.out) (known g.W.Write.contents l.out)
