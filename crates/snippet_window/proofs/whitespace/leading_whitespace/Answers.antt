use Rattle.snippet_window.proofs.Common.{◌≡◌, ◌+◌, ◌∙◌, arith, length, drop, ap, sym, true, encode_utf8, option_map, is_whitespace}
use Rattle.snippet_window.proofs.Common.{length-encode, len_utf8_bounds, leading_whitespace, YieldsList-from_chars, length_push, length-append, YieldsList-turn}
use Rattle.snippet_window.proofs.Common.{YieldsList-end}
use Rattle.snippet_window.proofs.MeasureWords.{whitespace_width}
use Rattle.std.specs.Str.{chars}
use Rattle.snippet_window.proofs.WindowLemmas.{leading-more, leading-found, leading-blank}
use Rattle.snippet_window.proofs.whitespace.leading_whitespace.Goals as goal

pub returns-then-not-is_whitespace : goal.returns-then-not-is_whitespace
returns-then-not-is_whitespace c =
    let at = YieldsList-turn (YieldsList-from_chars c.args.line.now c.utf8.line cc) c.loop-c.yielded _ c.loop-c.yielded_by _ _ c.in-Some.c c.in-Some.is
    c.next.ensures.steps in
    record {
      value = leading-found (chars c.args.line.now) (length c.loop-c.yielded) c.in-Some.c c.loop-c.columns at
          (sym c.if-not-is_whitespace.ensures) c.loop-c.invariant.0;
    }

pub loop-c-preserved : goal.loop-c-preserved
loop-c-preserved c =
    let at = YieldsList-turn (YieldsList-from_chars c.args.line.now c.utf8.line cc) c.loop-c.yielded _ c.loop-c.yielded_by _ _ c.in-Some.c c.in-Some.is
    c.next.ensures.steps in
    let blank : is_whitespace c.in-Some.c ≡ true = sym c.if-not-is_whitespace.ensures in
    let sum : c.loop-c.columns + c.whitespace_width-columns.result ≡ c.loop-c.columns + whitespace_width c.in-Some.c = ap (λ n.
    c.loop-c.columns + n) c.whitespace_width-columns.ensures.value in (
      ap (λ n. option_map (λ k. (c.loop-c.columns + c.whitespace_width-columns.result) + k) (leading_whitespace (drop n (chars c.args.line.now))))
          (length_push c.loop-c.yielded c.in-Some.c)
          ∙ leading-more (chars c.args.line.now) (length c.loop-c.yielded) c.in-Some.c c.loop-c.columns _ at blank sum c.loop-c.invariant.0,
      omega (
        arith,
        ap length c.in-Some.ensures.steps.0,
        length-append
            (encode_utf8 c.in-Some.c) c.next.new.self.rest.now,
        length-encode c.in-Some.c,
        len_utf8_bounds c.in-Some.c,
      ),
    )

pub returns : goal.returns
returns c =
    let all = YieldsList-end (YieldsList-from_chars c.args.line.now c.utf8.line cc) c.loop-c.yielded _ c.loop-c.yielded_by _ _ c.in-None.is
    c.next.ensures.steps in
    record { value = leading-blank (chars c.args.line.now) (length c.loop-c.yielded) c.loop-c.columns (sym all.1) c.loop-c.invariant.0 }
