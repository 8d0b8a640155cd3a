use Rattle.std.proofs.Common.{take, string_bytes}
use Rattle.std.specs.Io.KnownBytes.{Appends}
use Rattle.std.specs.List.{flat_map}
use Rattle.replay_run.specs.WrittenAnswer.{ended_line}
use Rattle.replay_run.proofs.lines.write_outcome.Given as goal

-- the texts so far are written
abbrev pub invariant-loop-text : goal.invariant-loop-text
invariant-loop-text g l =
    Appends (g.W.Write.contents l.initial.out) (g.W.Write.contents l.out) (flat_map (λ text. ended_line (string_bytes text)) (take l.text-index l.text-items))
