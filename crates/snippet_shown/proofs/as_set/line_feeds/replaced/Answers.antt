use Rattle.snippet_shown.proofs.Common.{IsUtf8-string_bytes, YieldsList-from_chars, YieldsList-end}
use Rattle.snippet_shown.proofs.LineFeedLemmas.{shown-spelled, shown-written}
use Rattle.snippet_shown.proofs.as_set.line_feeds.replaced.Goals as goal

pub loop-c-preserved : goal.loop-c-preserved
loop-c-preserved c =
    shown-written _ _ c.loop-c.yielded c.in-Some.c c.picture.result c.in_ok-push.ensures.bytes c.loop-c.invariant c.picture.ensures.value

pub returns : goal.returns
returns c =
    let all = YieldsList-end (YieldsList-from_chars c.args.text.now c.utf8.text cc) c.loop-c.yielded _ c.loop-c.yielded_by _ _ c.in-None.is
    c.next.ensures.steps in
    record { value = shown-spelled _ _ _ (IsUtf8-string_bytes c.loop-c.shown) c.loop-c.invariant all.0 }
