use Rattle.snippet_shown.proofs.Common.{◌∙◌, sym, IsUtf8-past_char, chars_past_char}
use Rattle.snippet_shown.proofs.StepLemmas.{ahead-all, ahead-ends, ahead-goes, ahead-none}
use Rattle.snippet_shown.proofs.wrap.row.has_room.Goals as goal

pub returns-then-ends_ahead : goal.returns-then-ends_ahead
returns-then-ends_ahead c =
    let step = rw c.in-Some.is at c.next.ensures.steps in
    let cons = chars_past_char _ _ c.in-Some.c c.loop-c.invariant.utf8 step.0 in
    record {
      value = ahead-ends c.loop-c.inside c.loop-c.place c.loop-c.left c.in-Some.c _ _ _ cons (sym c.ends_ahead.ensures.value ∙ c.if-ends_ahead.true)
          c.loop-c.invariant.same;
    }

pub returns-then-left-width : goal.returns-then-left-width
returns-then-left-width c =
    let step = rw c.in-Some.is at c.next.ensures.steps in
    let cons = chars_past_char _ _ c.in-Some.c c.loop-c.invariant.utf8 step.0 in
    record {
      value = ahead-none c.loop-c.inside c.loop-c.place c.loop-c.left c.in-Some.c c.letter_width-width.result _ _ _ cons
          (sym c.ends_ahead.ensures.value ∙ c.if-ends_ahead.false) c.letter_width-width.ensures.value c.if-left-width.true c.loop-c.invariant.same;
    }

pub loop-c-preserved : goal.loop-c-preserved
loop-c-preserved c =
    let step = rw c.in-Some.is at c.next.ensures.steps in
    let cons = chars_past_char _ _ c.in-Some.c c.loop-c.invariant.utf8 step.0 in
    record {
      same = ahead-goes c.loop-c.inside c.inside_after-inside.result c.loop-c.place c.place_after-place.result c.loop-c.left c.in-Some.c
          c.letter_width-width.result _ _ _ cons (sym c.ends_ahead.ensures.value ∙ c.if-ends_ahead.false) c.letter_width-width.ensures.value
          c.if-left-width.false c.inside_after-inside.ensures.value c.place_after-place.ensures.value c.loop-c.invariant.same;
      utf8 = IsUtf8-past_char _ _ c.in-Some.c c.loop-c.invariant.utf8 step.0;
    }

pub returns : goal.returns
returns c =
    let step = rw c.in-None.is at c.next.ensures.steps in
    record { value = ahead-all c.loop-c.inside c.loop-c.place c.loop-c.left c.loop-c.c-iterator.rest.now _ step.0.0 c.loop-c.invariant.same }
