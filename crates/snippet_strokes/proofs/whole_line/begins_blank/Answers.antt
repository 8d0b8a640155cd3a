use Rattle.snippet_strokes.proofs.Common.{◌≡◌, ◌∙◌, ◌<◌, ◌+◌, ◌-◌, ◌++◌, ◌∷◌, [], true, length, ap, sym, arith, is_whitespace}
use Rattle.snippet_strokes.proofs.Common.{list_all, YieldsList-from_chars, YieldsList-turn, YieldsList-end, length_push, shown}
use Rattle.std.proofs.Common.{chars}
use Rattle.snippet_strokes.proofs.BlankLemmas.{blank_ends, blank_more, blank_whole}
use Rattle.snippet_strokes.proofs.whole_line.begins_blank.Goals as goal

pub returns-then-not-is_shown_blank : goal.returns-then-not-is_shown_blank
returns-then-not-is_shown_blank c =
    let at = YieldsList-turn (YieldsList-from_chars c.args.line.now c.utf8.line cc) c.loop-c.yielded _ c.loop-c.yielded_by _ _ c.in-Some.c c.in-Some.is
    c.next.ensures.steps in
    let some : 0 < c.loop-c.left = omega arith in
    record {
      value = blank_ends (chars c.args.line.now) (length c.loop-c.yielded) c.in-Some.c c.loop-c.left _ at some
          (sym c.if-not-is_shown_blank.ensures.value) c.loop-c.invariant;
    }

pub loop-c-preserved : goal.loop-c-preserved
loop-c-preserved c =
    let at = YieldsList-turn (YieldsList-from_chars c.args.line.now c.utf8.line cc) c.loop-c.yielded _ c.loop-c.yielded_by _ _ c.in-Some.c c.in-Some.is
    c.next.ensures.steps in
    let more : length (c.loop-c.yielded ++ c.in-Some.c ∷ []) ≡ length c.loop-c.yielded + 1 = length_push c.loop-c.yielded c.in-Some.c in
    let less : c.saturating_sub-left.result ≡ c.loop-c.left - length (shown c.in-Some.c) = c.saturating_sub-left.ensures
    ∙ ap (λ n. c.loop-c.left - n) c.shown_count.ensures.value in
    let blank : list_all is_whitespace (shown c.in-Some.c) ≡ true = sym c.if-not-is_shown_blank.ensures.value in
    simp (more, less) (blank_more (chars c.args.line.now) (length c.loop-c.yielded) c.in-Some.c c.loop-c.left _ at blank c.loop-c.invariant)

pub returns : goal.returns
returns c =
    let all = YieldsList-end (YieldsList-from_chars c.args.line.now c.utf8.line cc) c.loop-c.yielded _ c.loop-c.yielded_by _ _ c.in-None.is
    c.next.ensures.steps in
    record { value = blank_whole (chars c.args.line.now) (length c.loop-c.yielded) c.loop-c.left _ (omega arith) c.loop-c.invariant }
