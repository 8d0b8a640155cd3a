use Rattle.snippet_grid.proofs.Common.{common_steps, length, arith, refl, YieldsList-from_chars, length_push, YieldsList-turn, YieldsList-end}
use Rattle.std.proofs.Common.{chars}
use Rattle.snippet_grid.proofs.CutLemmas.{cut_next, cut_here, cut_all, bytes_next, bytes_within}
use Rattle.snippet_grid.proofs.runs.byte_at.Goals as goal

pub loop-ch-init : goal.loop-ch-init
loop-ch-init c = record { bytes = refl; left_is = omega arith }

pub returns-then-left-eq0 : goal.returns-then-left-eq0
returns-then-left-eq0 c =
    grind (arith, common_steps, cut_here, c.loop-ch.yielded, c.loop-ch.at, c.loop-ch.left, c.if-left-eq0.true, c.loop-ch.invariant, bytes_within, c.utf8.text)

pub overflow_add-at : goal.overflow_add-at
overflow_add-at c =
    let at = YieldsList-turn (YieldsList-from_chars c.args.text.now c.utf8.text cc) c.loop-ch.yielded _ c.loop-ch.yielded_by _ _ c.in-Some.ch c.in-Some.is
    c.next.ensures.steps in
    omega (
      arith,
      bytes_next c.args.text.now (length c.loop-ch.yielded) c.loop-ch.at c.in-Some.ch c.utf8.text at c.loop-ch.invariant.bytes,
      c.len_utf8-at.ensures.len,
    )

pub loop-ch-preserved : goal.loop-ch-preserved
loop-ch-preserved c =
    let at = YieldsList-turn (YieldsList-from_chars c.args.text.now c.utf8.text cc) c.loop-ch.yielded _ c.loop-ch.yielded_by _ _ c.in-Some.ch c.in-Some.is
    c.next.ensures.steps in
    cut_next c.args.count (chars c.args.text.now) (length c.loop-ch.yielded) _ c.loop-ch.at c.loop-ch.left c.in-Some.ch c.len_utf8-at.result at
    (length_push c.loop-ch.yielded c.in-Some.ch) (omega arith) c.len_utf8-at.ensures.len c.loop-ch.invariant

pub returns : goal.returns
returns c =
    let end = YieldsList-end (YieldsList-from_chars c.args.text.now c.utf8.text cc) c.loop-ch.yielded _ c.loop-ch.yielded_by _ _ c.in-None.is
    c.next.ensures.steps in
    let value = cut_all c.args.count (chars c.args.text.now) (length c.loop-ch.yielded) c.loop-ch.at c.loop-ch.left
    (omega (arith, end.1)) c.requires.within c.loop-ch.invariant in
    record { value = value; inside = omega (arith, value, bytes_within c.args.text.now c.args.count c.utf8.text) }
