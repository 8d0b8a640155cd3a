use Rattle.snippet_parts.proofs.Common.{◌≤◌, arith, length, get_or, sym, ap, ◌∙◌}
use Rattle.snippet_parts.proofs.DepthSearchLemmas.{near_up_to, found_at, found_none, passed_at}
use Rattle.snippet_parts.proofs.RawDepthLemmas.{length-raw_depths, raw_depths-bound}
use Rattle.snippet_parts.proofs.depths.raw_depth.Goals as goal

pub bounds-raws-i : goal.bounds-raws-i
bounds-raws-i c = omega (arith, ap length c.requires.raws ∙ length-raw_depths c.args.later.now)

pub returns-then-eq : goal.returns-then-eq
returns-then-eq c =
    let near = near_up_to c.args.place c.starting_by-near.result c.args.later.now c.starting_by-near.ensures.within (λ j d below.
    c.starting_by-near.ensures.by j d (omega arith) below) c.starting_by-near.ensures.after c.requires.after c.requires.lines in
    record {
      value = found_at c.args.place c.args.later.now c.args.raws.now c.starting_by-near.result c.loop-i.i c.loop-i.deepest c.requires.raws
          c.starting_by-near.ensures.within c.loop-i-test.true c.requires.own_lines near c.loop-i.invariant.0 (sym c.eq.ensures ∙ c.if-eq.true);
    }

pub bounds-raws-i-in-loop-i : goal.bounds-raws-i-in-loop-i
bounds-raws-i-in-loop-i c = omega (arith, ap length c.requires.raws ∙ length-raw_depths c.args.later.now)

pub loop-i-preserved : goal.loop-i-preserved
loop-i-preserved c =
    let bound : get_or c.args.raws.now c.loop-i.i 0 ≤ length c.args.later.now = omega
    (arith, ap (λ ns. get_or ns c.loop-i.i 0) c.requires.raws, raw_depths-bound c.args.later.now c.loop-i.i 0 (omega arith)) in (
      rw c.max-deepest.ensures
          (passed_at c.args.place c.args.later.now c.args.raws.now c.starting_by-near.result c.loop-i.i c.loop-i.deepest c.requires.raws
          c.starting_by-near.ensures.within c.loop-i-test.true c.loop-i.invariant.0 (sym c.eq.ensures ∙ c.if-eq.false)),
      omega (arith, c.max-deepest.ensures, c.loop-i.invariant.1),
    )

pub overflow_add-result : goal.overflow_add-result
overflow_add-result c = omega (arith, c.loop-i.invariant.1)

pub returns : goal.returns
returns c =
    let near = near_up_to c.args.place c.starting_by-near.result c.args.later.now c.starting_by-near.ensures.within (λ j d below.
    c.starting_by-near.ensures.by j d (omega arith) below) c.starting_by-near.ensures.after c.requires.after c.requires.lines in
    record {
      value = found_none c.args.place c.args.later.now c.args.raws.now c.starting_by-near.result c.loop-i.i c.loop-i.deepest c.requires.raws
          c.starting_by-near.ensures.within c.loop-i-test.false c.requires.own_lines near c.loop-i.invariant.0;
    }
