use Rattle.snippet_window.proofs.Common.{◌∙◌, length, take, ap, sym, arith, YieldsList-from_chars, length_push, YieldsList-turn, YieldsList-end, width_of}
use Rattle.snippet_window.proofs.Common.{bytes_of}
use Rattle.std.proofs.Common.{chars}
use Rattle.snippet_window.proofs.LineWindowLemmas.{reaches-next, reaches_enough, reaches_all, reaches_start, bytes_next}
use Rattle.snippet_window.proofs.window.walked_reaching.Goals as goal

pub loop-c-init : goal.loop-c-init
loop-c-init c = (reaches_start c.args.columns (chars c.args.text.now), omega arith)

pub returns-then-width-columns : goal.returns-then-width-columns
returns-then-width-columns c =
    let cs = chars c.args.text.now in
    let is = c.loop-c.invariant.0 in
    let n_is = sym (reaches_enough c.args.columns cs (length c.loop-c.yielded) c.loop-c.at c.loop-c.width c.if-width-columns.true is) in
    record {
      bytes = is.bytes ∙ ap (λ n. bytes_of (take n cs)) n_is;
      width = is.width_is ∙ ap (λ n. width_of (take n cs)) n_is;
      near = c.loop-c.invariant.1;
    }

pub overflow_add-at : goal.overflow_add-at
overflow_add-at c =
    let at = YieldsList-turn (YieldsList-from_chars c.args.text.now c.utf8.text cc) c.loop-c.yielded _ c.loop-c.yielded_by _ _ c.in-Some.c c.in-Some.is
    c.next.ensures.steps in
    omega (
      arith,
      bytes_next c.args.text.now (length c.loop-c.yielded) c.loop-c.at c.in-Some.c c.utf8.text at c.loop-c.invariant.0.bytes,
      c.len_utf8-at.ensures.len,
    )

pub loop-c-preserved : goal.loop-c-preserved
loop-c-preserved c =
    let at = YieldsList-turn (YieldsList-from_chars c.args.text.now c.utf8.text cc) c.loop-c.yielded _ c.loop-c.yielded_by _ _ c.in-Some.c c.in-Some.is
    c.next.ensures.steps in (
      reaches-next c.args.columns (chars c.args.text.now) (length c.loop-c.yielded)
          _ c.loop-c.at c.loop-c.width c.in-Some.c c.len_utf8-at.result c.char_width-width.result at (length_push c.loop-c.yielded c.in-Some.c)
          c.if-width-columns.false c.len_utf8-at.ensures.len c.char_width-width.ensures.value c.loop-c.invariant.0,
      omega (arith, c.if-width-columns.false, c.char_width-width.ensures.bound),
    )

pub returns : goal.returns
returns c =
    let cs = chars c.args.text.now in
    let is = c.loop-c.invariant.0 in
    let end = YieldsList-end (YieldsList-from_chars c.args.text.now c.utf8.text cc) c.loop-c.yielded _ c.loop-c.yielded_by _ _ c.in-None.is
    c.next.ensures.steps in
    let n_is = sym (reaches_all c.args.columns cs (length c.loop-c.yielded) c.loop-c.at c.loop-c.width end.1 is) in
    record {
      bytes = is.bytes ∙ ap (λ n. bytes_of (take n cs)) n_is;
      width = is.width_is ∙ ap (λ n. width_of (take n cs)) n_is;
      near = c.loop-c.invariant.1;
    }
