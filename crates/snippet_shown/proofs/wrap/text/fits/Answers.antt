use Rattle.snippet_shown.proofs.Common.{common_steps, arith, IsUtf8-past_char, chars_past_char}
use Rattle.snippet_shown.proofs.StepLemmas.{fit-end, fit-more, fit-none}
use Rattle.snippet_shown.proofs.wrap.text.fits.Goals as goal

pub returns-in_default : goal.returns-in_default
returns-in_default c =
    let step = rw c.in-Some.is at c.next.ensures.steps in
    let cons = chars_past_char _ _ c.in-Some.c c.loop-c.invariant.utf8 step.0 in
    record {
      value = fit-none c.args.room c.loop-c.left c.in-Some.c c.loop-c.place _ _ _ cons c.left_after.result c.in_default.is c.left_after.ensures.value
          c.loop-c.invariant.same;
    }

pub loop-c-preserved : goal.loop-c-preserved
loop-c-preserved c =
    let step = rw c.in-Some.is at c.next.ensures.steps in
    let cons = chars_past_char _ _ c.in-Some.c c.loop-c.invariant.utf8 step.0 in
    record {
      same = fit-more c.args.room c.loop-c.left c.in-Some-left_after.after c.in-Some.c c.loop-c.place c.place_after-place.result _ _ _ cons
          c.left_after.result c.in-Some-left_after.is c.left_after.ensures.value c.place_after-place.ensures.value c.loop-c.invariant.same;
      utf8 = IsUtf8-past_char _ _ c.in-Some.c c.loop-c.invariant.utf8 step.0;
    }

pub returns : goal.returns
returns c = grind (arith, common_steps, c.in-None.is, c.next.ensures.steps, fit-end, c.loop-c.left, c.loop-c.place, c.loop-c.invariant.same)
