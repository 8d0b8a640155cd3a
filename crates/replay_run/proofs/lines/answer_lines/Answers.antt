use Rattle.std.proofs.Common.{ap, refl, ◌∙◌}
use Rattle.std.specs.Io.Iter.{lines_known_bytes}
use Rattle.std.proofs.KnownBytes.{Keeps-refl}
use Rattle.replay_run.proofs.AnsweredLines.{answered_all, answered_none, answered_step, stops_after, stops_within}
use Rattle.output_stream.specs.Standing.{known}
use Rattle.output_stream.proofs.Writing.{gets_none}
use Rattle.replay_run.proofs.lines.answer_lines.Goals as goal

pub loop-line-init : goal.loop-line-init
loop-line-init g c =
    answered_none c.args.way _ _ _ _
    (ap (lines_known_bytes g.B.Read.remaining) c.into_iter-line-iterator.ensures.into_iter_gives ∙ c.lines-line-items.ensures)

pub loop-line-preserved : goal.loop-line-preserved
loop-line-preserved g c =
    answered_step _ _ _ _ _ _ _ _ _ _ _ _ _ (known g.W.Write.contents c.answer_line.new.out) _ _ c.in-Some.line c.loop-line.invariant
    c.saturating_add-number.ensures c.in-Some.is c.next.ensures.steps.1 c.in-Ok.ensures.answers (gets_none _ _ c.flush.ensures.either)
    c.either-told.ensures.value

pub returns-in-Err-clause-stops : goal.returns-in-Err-clause-stops
returns-in-Err-clause-stops g c =
    stops_within _ _ _ _ _ _ _ _ _ _ _ _ _ _ c.in-Some.line c.loop-line.invariant c.saturating_add-number.ensures c.in-Some.is c.next.ensures.steps.1
    c.in-Err.ensures.stops

pub returns-in-Err-flush-clause-stops : goal.returns-in-Err-flush-clause-stops
returns-in-Err-flush-clause-stops g c =
    let more = answered_step _ _ _ _ _ _ _ _ _ _ _ _ _ (known g.W.Write.contents c.answer_line.new.out) (known g.W.Write.contents c.flush.new.self) _
    c.in-Some.line c.loop-line.invariant c.saturating_add-number.ensures c.in-Some.is c.next.ensures.steps.1 c.in-Ok.ensures.answers
    (gets_none _ _ c.flush.ensures.either) c.either-told.ensures.value in
    stops_after _ _ _ _ _ _ _ _ _ _ _ more (Keeps-refl _) (c.in-Err-flush.ensures.cut.failed, c.in-Err-flush.error, refl)

pub returns-clause-answers : goal.returns-clause-answers
returns-clause-answers g c = answered_all _ _ _ _ _ _ _ _ _ _ _ c.loop-line.invariant c.in-None.is c.next.ensures.steps.1
