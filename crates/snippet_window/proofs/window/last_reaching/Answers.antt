use Rattle.snippet_window.proofs.Common.{◌∙◌, length, arith, sym, YieldsList-from_chars, length_push, YieldsList-turn, YieldsList-end}
use Rattle.std.proofs.Common.{chars}
use Rattle.snippet_window.proofs.PlainFront.{last_plain}
use Rattle.snippet_window.proofs.LineWindowLemmas.{last_next, last_here, last_all, last_start, width_after}
use Rattle.snippet_window.proofs.window.last_reaching.Goals as goal

pub returns-then-is_plain : goal.returns-then-is_plain
returns-then-is_plain c =
    record { value = sym (last_plain c.args.columns c.args.text.now (c.is_plain.ensures.yes c.if-is_plain.true) ∙ sym c.min.ensures) }

pub loop-c-init : goal.loop-c-init
loop-c-init c = last_start c.args.columns (chars c.args.text.now) c.args.width c.char_count-count.result c.requires.width c.char_count-count.ensures.value

pub overflow_sub-after : goal.overflow_sub-after
overflow_sub-after c =
    let at = YieldsList-turn (YieldsList-from_chars c.args.text.now c.utf8.text cc) c.loop-c.yielded _ c.loop-c.yielded_by _ _ c.in-Some.c c.in-Some.is
    c.next.ensures.steps in
    omega (
      arith,
      width_after (chars c.args.text.now) (length c.loop-c.yielded) c.in-Some.c c.loop-c.width c.char_width.result at c.char_width.ensures.value
          c.loop-c.invariant.width_is,
    )

pub overflow_sub-count : goal.overflow_sub-count
overflow_sub-count c =
    let at = YieldsList-turn (YieldsList-from_chars c.args.text.now c.utf8.text cc) c.loop-c.yielded _ c.loop-c.yielded_by _ _ c.in-Some.c c.in-Some.is
    c.next.ensures.steps in
    omega (arith, at.0, c.loop-c.invariant.count_is)

pub returns-then-after-columns : goal.returns-then-after-columns
returns-then-after-columns c =
    let at = YieldsList-turn (YieldsList-from_chars c.args.text.now c.utf8.text cc) c.loop-c.yielded _ c.loop-c.yielded_by _ _ c.in-Some.c c.in-Some.is
    c.next.ensures.steps in
    record {
      value = last_here c.args.columns (chars c.args.text.now)
          (length c.loop-c.yielded) c.loop-c.width c.loop-c.count c.in-Some.c c.char_width.result at c.char_width.ensures.value c.if-after-columns.true
          c.loop-c.invariant;
    }

pub loop-c-preserved : goal.loop-c-preserved
loop-c-preserved c =
    let at = YieldsList-turn (YieldsList-from_chars c.args.text.now c.utf8.text cc) c.loop-c.yielded _ c.loop-c.yielded_by _ _ c.in-Some.c c.in-Some.is
    c.next.ensures.steps in
    last_next c.args.columns (chars c.args.text.now) (length c.loop-c.yielded) _ c.loop-c.width c.loop-c.count c.in-Some.c c.char_width.result at
    (length_push c.loop-c.yielded c.in-Some.c) c.char_width.ensures.value c.if-after-columns.false c.loop-c.invariant

pub returns : goal.returns
returns c =
    let end = YieldsList-end (YieldsList-from_chars c.args.text.now c.utf8.text cc) c.loop-c.yielded _ c.loop-c.yielded_by _ _ c.in-None.is
    c.next.ensures.steps in
    record { value = last_all c.args.columns (chars c.args.text.now) (length c.loop-c.yielded) c.loop-c.width c.loop-c.count end.1 c.loop-c.invariant }
