use Rattle.snippet_lines.proofs.Common.{◌∙◌, ◌<◌, ap, arith, length, sym, IsUtf8-past_char, chars_past_char, length-encode, units_of}
use Rattle.std.proofs.Common.{length-append}
use Rattle.snippet_lines.proofs.UnitLemmas.{place_from-here, place_from-next, place_from-end}
use Rattle.snippet_lines.proofs.columns.place_after.Goals as goal

pub returns-then-left-count-clause-value : goal.returns-then-left-count-clause-value
returns-then-left-count-clause-value c =
    let step = rw c.in-Some.is at c.next.ensures.steps in
    let cons = chars_past_char _ _ c.in-Some.c c.loop-c.invariant.utf8 step.0 in
    let few : c.loop-c.left < units_of c.args.unit c.in-Some.c = omega (arith, c.if-left-count.true, c.units_of-count.ensures.value) in
    sym (place_from-here c.args.unit c.loop-c.at c.loop-c.left c.in-Some.c _ _ cons few) ∙ c.loop-c.invariant.place

pub loop-c-preserved : goal.loop-c-preserved
loop-c-preserved c =
    let step = rw c.in-Some.is at c.next.ensures.steps in
    let cons = chars_past_char _ _ c.in-Some.c c.loop-c.invariant.utf8 step.0 in
    let size = ap length step.0 ∙ length-append _ c.next.new.self.rest.now in
    record {
      place =
          place_from-next c.args.unit c.loop-c.at c.loop-c.left c.in-Some.c c.units_of-count.result c.len_utf8-at.result
          _ _ cons c.units_of-count.ensures.value (c.len_utf8-at.ensures.len ∙ length-encode c.in-Some.c) c.if-left-count.false c.loop-c.invariant.place;
      size = omega (arith, size, c.len_utf8-at.ensures.len, c.loop-c.invariant.size);
      utf8 = IsUtf8-past_char _ _ c.in-Some.c c.loop-c.invariant.utf8 step.0;
    }

pub returns-clause-value : goal.returns-clause-value
returns-clause-value c =
    let step = rw c.in-None.is at c.next.ensures.steps in
    place_from-end c.args.unit c.loop-c.at c.loop-c.left c.loop-c.c-iterator.rest.now _ step.0.0 c.loop-c.invariant.place
