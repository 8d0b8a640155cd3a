use Rattle.std.proofs.Common.{take}
use Rattle.replay_run.specs.Arguments.{arguments_at}
use Rattle.program.specs.Inputs.{held_by}
use Rattle.replay_run.proofs.AnsweredInputs.{HaveAnswered}
use Rattle.output_stream.specs.Standing.{known}
use Rattle.replay_run.proofs.inputs.answer_inputs.Given as goal

-- each input so far is answered
abbrev pub invariant-loop-name : goal.invariant-loop-name
invariant-loop-name g l =
    HaveAnswered g.row.R-File.Denot g.row.R-Reader.Denot (held_by g.R.File.Read.remaining g.R.Reader.Read.remaining) l.way l.told
    (arguments_at (take l.name-index l.names)) l.is_first
    (known g.W.Write.contents l.initial.out) (known g.W.Write.contents l.out)
