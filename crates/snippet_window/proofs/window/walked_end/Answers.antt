use Rattle.snippet_window.proofs.Common.{◌≡◌, ◌∙◌, ◌-◌, length, take, ap, sym, arith, rules, YieldsList-from_chars, length_push, take_all}
use Rattle.snippet_window.proofs.Common.{YieldsList-turn, YieldsList-end, width_of, bytes_of}
use Rattle.std.proofs.Common.{chars}
use Rattle.snippet_window.proofs.LineWindowLemmas.{fits_next, fits_enough, fits_all, fits_start, bytes_next}
use Rattle.snippet_window.proofs.window.walked_end.Goals as goal

pub loop-c-init : goal.loop-c-init
loop-c-init c = fits_start c.args.columns (chars c.args.text.now)

pub returns-then-width-left : goal.returns-then-width-left
returns-then-width-left c =
    let cs = chars c.args.text.now in
    let at = YieldsList-turn (YieldsList-from_chars c.args.text.now c.utf8.text cc) c.loop-c.yielded _ c.loop-c.yielded_by _ _ c.in-Some.c c.in-Some.is
    c.next.ensures.steps in
    let n_is = sym (fits_enough c.args.columns cs (length c.loop-c.yielded) c.loop-c.at c.loop-c.left c.in-Some.c c.char_width-width.result at
    c.char_width-width.ensures.value c.if-width-left.true c.loop-c.invariant) in
    let width : c.args.columns - c.loop-c.left ≡ width_of (take (length c.loop-c.yielded) cs) = omega (arith, c.loop-c.invariant.width_is) in
    record {
      bytes = c.loop-c.invariant.bytes ∙ ap (λ n. bytes_of (take n cs)) n_is;
      width = width ∙ ap (λ n. width_of (take n cs)) n_is;
      near = search rules;
      within = omega arith;
    }

pub overflow_add-at : goal.overflow_add-at
overflow_add-at c =
    let at = YieldsList-turn (YieldsList-from_chars c.args.text.now c.utf8.text cc) c.loop-c.yielded _ c.loop-c.yielded_by _ _ c.in-Some.c c.in-Some.is
    c.next.ensures.steps in
    omega (
      arith,
      bytes_next c.args.text.now (length c.loop-c.yielded) c.loop-c.at c.in-Some.c c.utf8.text at c.loop-c.invariant.bytes,
      c.len_utf8-at.ensures.len,
    )

pub loop-c-preserved : goal.loop-c-preserved
loop-c-preserved c =
    let at = YieldsList-turn (YieldsList-from_chars c.args.text.now c.utf8.text cc) c.loop-c.yielded _ c.loop-c.yielded_by _ _ c.in-Some.c c.in-Some.is
    c.next.ensures.steps in
    fits_next c.args.columns (chars c.args.text.now) (length c.loop-c.yielded)
    _ c.loop-c.at c.loop-c.left c.in-Some.c c.len_utf8-at.result c.char_width-width.result at (length_push c.loop-c.yielded c.in-Some.c)
    c.if-width-left.false c.len_utf8-at.ensures.len c.char_width-width.ensures.value c.loop-c.invariant

pub returns : goal.returns
returns c =
    let cs = chars c.args.text.now in
    let n = length c.loop-c.yielded in
    let end = YieldsList-end (YieldsList-from_chars c.args.text.now c.utf8.text cc) c.loop-c.yielded _ c.loop-c.yielded_by _ _ c.in-None.is
    c.next.ensures.steps in
    let n_is = sym (fits_all c.args.columns cs n c.loop-c.at c.loop-c.left end.1 c.loop-c.invariant) in
    let width : c.args.columns - c.loop-c.left ≡ width_of (take n cs) = omega (arith, c.loop-c.invariant.width_is) in
    let all : take n cs ≡ cs = take_all n cs (omega (arith, end.1)) in
    record {
      bytes = c.loop-c.invariant.bytes ∙ ap (λ n. bytes_of (take n cs)) n_is;
      width = width ∙ ap (λ n. width_of (take n cs)) n_is;
      near = λ less. absurd (omega (arith, less, c.loop-c.invariant.width_is, ap width_of all));
      within = omega arith;
    }
