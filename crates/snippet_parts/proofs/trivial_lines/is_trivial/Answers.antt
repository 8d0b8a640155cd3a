use Rattle.snippet_parts.proofs.Common.{◌+◌, refl, length, sym, ◌∙◌, chars, YieldsList-from_chars, length_push, YieldsList-turn, YieldsList-end}
use Rattle.snippet_parts.proofs.Common.{Comment, Telling}
use Rattle.snippet_parts.proofs.TrivialLemmas.{trivial_none, trivial_more, read-comment, read-strong, trivial_read}
use Rattle.snippet_parts.proofs.trivial_lines.is_trivial.Goals as goal

pub loop-c-init : goal.loop-c-init
loop-c-init c = trivial_none (chars c.args.line.now)

pub returns-in-Comment : goal.returns-in-Comment
returns-in-Comment c =
    let at = YieldsList-turn (YieldsList-from_chars c.args.line.now c.utf8.line cc) c.loop-c.yielded _ c.loop-c.yielded_by _ _ c.in-Some.c c.in-Some.is
    c.next.ensures.steps in
    record {
      value = read-comment (chars c.args.line.now) (length c.loop-c.yielded + 1)
          (trivial_more (chars c.args.line.now) (length c.loop-c.yielded) (length c.loop-c.yielded + 1) c.in-Some.c c.loop-c.seen Comment at refl
          c.in-Comment.ensures.value c.loop-c.invariant);
    }

pub returns-in-Telling : goal.returns-in-Telling
returns-in-Telling c =
    let at = YieldsList-turn (YieldsList-from_chars c.args.line.now c.utf8.line cc) c.loop-c.yielded _ c.loop-c.yielded_by _ _ c.in-Some.c c.in-Some.is
    c.next.ensures.steps in
    record {
      value = read-strong (chars c.args.line.now) (length c.loop-c.yielded + 1)
          (trivial_more (chars c.args.line.now) (length c.loop-c.yielded) (length c.loop-c.yielded + 1) c.in-Some.c c.loop-c.seen Telling at refl
          c.in-Telling.ensures.value c.loop-c.invariant);
    }

pub loop-c-preserved : goal.loop-c-preserved
loop-c-preserved c =
    let at = YieldsList-turn (YieldsList-from_chars c.args.line.now c.utf8.line cc) c.loop-c.yielded _ c.loop-c.yielded_by _ _ c.in-Some.c c.in-Some.is
    c.next.ensures.steps in
    trivial_more (chars c.args.line.now) (length c.loop-c.yielded) _ c.in-Some.c c.loop-c.seen c.step-seen.result at
    (length_push c.loop-c.yielded c.in-Some.c) c.step-seen.ensures.value c.loop-c.invariant

pub returns : goal.returns
returns c = record {
  value = c.is_trivial_whole.ensures.value
      ∙ trivial_read (chars c.args.line.now) (length c.loop-c.yielded)
      c.loop-c.seen (sym (YieldsList-end (YieldsList-from_chars c.args.line.now c.utf8.line cc)
      c.loop-c.yielded _ c.loop-c.yielded_by _ _ c.in-None.is c.next.ensures.steps).1) c.loop-c.invariant;
}
