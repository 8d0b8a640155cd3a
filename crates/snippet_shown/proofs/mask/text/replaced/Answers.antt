use Rattle.snippet_shown.proofs.Common.{◌≡◌, ◌∙◌, List, ℕ, ap, chars, encode_utf8_all, sym, map-id, IsUtf8-string_bytes, YieldsList-from_chars}
use Rattle.snippet_shown.proofs.Common.{YieldsList-end, masked}
use Rattle.snippet_shown.proofs.MaskBytes.{aligned-spelled}
use Rattle.snippet_shown.proofs.MaskLemmas.{masked-spelled, masked-written}
use Rattle.snippet_shown.proofs.mask.text.replaced.Goals as goal

pub loop-c-preserved : goal.loop-c-preserved
loop-c-preserved c =
    masked-written _ _ c.loop-c.yielded c.in-Some.c c.mask_of.result c.in_ok-push.ensures.bytes c.loop-c.invariant c.mask_of.ensures.value

pub returns : goal.returns
returns c =
    let all = YieldsList-end (YieldsList-from_chars c.args.text.now c.utf8.text cc) c.loop-c.yielded _ c.loop-c.yielded_by _ _ c.in-None.is
    c.next.ensures.steps in
    let yielded : c.loop-c.yielded ≡ chars c.args.text.now = sym (map-id c.loop-c.yielded) ∙ all.0 in
    record {
      value = masked-spelled _ _ _ (IsUtf8-string_bytes c.loop-c.shown) c.loop-c.invariant all.0;
      aligned = aligned-spelled c.args.text.now _ c.utf8.text (c.loop-c.invariant ∙ ap (λ (cs : List ℕ). encode_utf8_all (masked cs)) yielded);
    }
