use Rattle.std.proofs.Common.{inl, refl, subst}
use Rattle.std.specs.Io.KnownBytes.{Appends}
use Rattle.output_stream.specs.Standing.{BreaksOff, known}
use Rattle.replay_run.proofs.Growing.{first_part}
use Rattle.replay_run.proofs.Checking.{ok_and}
use Rattle.replay_run.proofs.lines.answer_line.Goals as goal

pub returns-in-Ok-write-clause-answers : goal.returns-in-Ok-write-clause-answers
returns-in-Ok-write-clause-answers g c =
    let written = subst (Appends (known g.W.Write.contents c.args.out.now).held
    (known g.W.Write.contents c.write.new.self).held) c.as_slice.ensures.value c.in-Ok-write.ensures.whole.added in
    ok_and c.args.line (λ line answers. (c.in-Ok.answer.text.items, answers, written)) c.in-Ok.ensures.answers

pub returns-in-Ok-clause-stops : goal.returns-in-Ok-clause-stops
returns-in-Ok-clause-stops g c =
    let old = known g.W.Write.contents c.args.out.now in
    let new = known g.W.Write.contents c.write.new.self in
    let cut = c.in-Err-write.ensures.cut.broken in
    let written = subst (BreaksOff old new) c.as_slice.ensures.value cut in
    inl (
      (cut.failed, c.in-Err-write.error, refl),
      ok_and c.args.line (λ line answers.
          (c.in-Ok.answer.told, c.in-Ok.answer.text.items, answers, first_part old new _ written)) c.in-Ok.ensures.answers,
    )
