use Rattle.std.proofs.Common.{◌∙◌, ap, arith, length, length-append}
use Rattle.std.proofs.lemmas.Str.{IsUtf8-past_char, length-encode}
use Rattle.replay_read.proofs.Units.{units_in-none, units_in-past}
use Rattle.replay_read.proofs.ruler.unit_count.Goals as goal

pub overflow_add-count : goal.overflow_add-count
overflow_add-count c =
    let step = rw c.in-Some.is at c.next.ensures.steps in
    let size = ap length step.0 ∙ length-append _ c.next.new.self.rest.now in
    omega (arith, size, length-encode c.in-Some.c, c.size_of-count.ensures.within, c.loop-c.invariant.size)

pub loop-c-preserved : goal.loop-c-preserved
loop-c-preserved c =
    let step = rw c.in-Some.is at c.next.ensures.steps in
    let size = ap length step.0 ∙ length-append _ c.next.new.self.rest.now in
    let first = units_in-past c.args.unit _ c.next.new.self.rest.now c.in-Some.c c.loop-c.invariant.utf8 step.0 in
    record {
      counted = omega (arith, first, c.size_of-count.ensures.value, c.loop-c.invariant.counted);
      size = omega (arith, size, length-encode c.in-Some.c, c.size_of-count.ensures.within, c.loop-c.invariant.size);
      utf8 = IsUtf8-past_char _ _ c.in-Some.c c.loop-c.invariant.utf8 step.0;
    }

pub returns-clause-value : goal.returns-clause-value
returns-clause-value c =
    let step = rw c.in-None.is at c.next.ensures.steps in
    omega (arith, units_in-none c.args.unit c.loop-c.c-iterator.rest.now step.0.0, c.loop-c.invariant.counted)
