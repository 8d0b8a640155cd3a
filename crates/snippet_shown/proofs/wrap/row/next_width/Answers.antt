use Rattle.snippet_shown.proofs.Common.{common_steps, arith, ◌∙◌, ℕ, Some, ap, sym, IsUtf8-past_char, chars_past_char}
use Rattle.snippet_shown.proofs.StepLemmas.{next-end, next-found, next-more, next-none}
use Rattle.snippet_shown.proofs.wrap.row.next_width.Goals as goal

pub returns-then-c-eq10 : goal.returns-then-c-eq10
returns-then-c-eq10 c =
    let step = rw c.in-Some.is at c.next.ensures.steps in
    let cons = chars_past_char _ _ c.in-Some.c c.loop-c.invariant.utf8 step.0 in
    record { value = next-none c.loop-c.place _ _ c.in-Some.c _ cons c.if-c-eq10.true c.loop-c.invariant.same }

pub returns-then-not-is_before_word : goal.returns-then-not-is_before_word
returns-then-not-is_before_word c =
    let step = rw c.in-Some.is at c.next.ensures.steps in
    let cons = chars_past_char _ _ c.in-Some.c c.loop-c.invariant.utf8 step.0 in
    record {
      value = ap (λ (n : ℕ). Some n) c.char_width.ensures.value
          ∙ next-found c.loop-c.place _ _ c.in-Some.c _ cons c.if-c-eq10.false (sym c.is_before_word.ensures.value ∙ c.if-not-is_before_word.true)
          c.loop-c.invariant.same;
    }

pub loop-c-preserved : goal.loop-c-preserved
loop-c-preserved c =
    let step = rw c.in-Some.is at c.next.ensures.steps in
    let cons = chars_past_char _ _ c.in-Some.c c.loop-c.invariant.utf8 step.0 in
    record {
      same = next-more c.loop-c.place c.place_after-place.result _ _ c.in-Some.c _ cons c.if-c-eq10.false
          (sym c.is_before_word.ensures.value ∙ c.if-not-is_before_word.false) c.place_after-place.ensures.value c.loop-c.invariant.same;
      utf8 = IsUtf8-past_char _ _ c.in-Some.c c.loop-c.invariant.utf8 step.0;
    }

pub returns : goal.returns
returns c = grind (arith, common_steps, c.in-None.is, c.next.ensures.steps, next-end, c.loop-c.place, c.loop-c.invariant.same)
