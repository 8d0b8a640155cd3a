use Rattle.annotate_snippets.proofs.Common.{◌∙◌, ℕ, List, ap, sym, encode_utf8_all, string_bytes, ◌++◌, map-id, YieldsList-from_chars}
use Rattle.annotate_snippets.proofs.Common.{YieldsList-end, escaped, escaped_text}
use Rattle.std.proofs.Common.{append-nil, append_assoc}
use Rattle.annotate_snippets.proofs.MarkdownLemmas.{escapes-push}
use Rattle.annotate_snippets.proofs.renderer.markdown.push_escaped.Goals as goal

pub loop-c-init : goal.loop-c-init
loop-c-init c = sym (append-nil (string_bytes c.args.out.now))

pub loop-c-preserved : goal.loop-c-preserved
loop-c-preserved c =
    let old : List ℕ = string_bytes c.args.out.now in
    c.in_ok-push_char.ensures.added ∙ ap (λ t. t ++ encode_utf8_all (escaped c.in-Some.c)) c.loop-c.invariant
    ∙ append_assoc old (encode_utf8_all (escaped_text c.loop-c.yielded)) (encode_utf8_all (escaped c.in-Some.c))
    ∙ ap (λ t. old ++ t) (escapes-push c.loop-c.yielded c.in-Some.c)

pub returns : goal.returns
returns c =
    let old : List ℕ = string_bytes c.args.out.now in
    let all = YieldsList-end (YieldsList-from_chars c.args.text.now c.utf8.text cc) c.loop-c.yielded _ c.loop-c.yielded_by _ _ c.in-None.is
    c.next.ensures.steps in
    record { added = c.loop-c.invariant ∙ ap (λ t. old ++ encode_utf8_all (escaped_text t)) (sym (map-id c.loop-c.yielded) ∙ all.0) }
