use Rattle.std.proofs.Common.{◌∙◌, ap, sym, encode_utf8_all, ◌++◌}
use Rattle.std.proofs.lemmas.Str.{encodes-append}
use Rattle.std.proofs.lemmas.Str.{IsUtf8-string_bytes}
use Rattle.std.proofs.lemmas.Iterator.{YieldsList-from_chars}
use Rattle.std.proofs.lemmas.Iterator.Consumers.{YieldsList-end}
use Rattle.snippet_text.proofs.NormLemmas.{norm-push, chars-spelled, width_of-norm, list_any-norm, norm-norm}
use Rattle.snippet_text.proofs.PlainLemmas.{norm-plain}
use Rattle.snippet_text.specs.Normalized.{norm, shown, is_listed}
use Rattle.snippet_text.specs.Width.{width_of}
use Rattle.std.specs.List.{list_any}
use Rattle.snippet_text.proofs.normalize.normalize_untrusted_str.Goals as goal

pub loop-c-init : goal.loop-c-init
unfolding norm
loop-c-init c = c.new-out.ensures.bytes

pub loop-c-preserved : goal.loop-c-preserved
loop-c-preserved c =
    c.in_ok-push_shown.ensures.ok ∙ ap (λ t. t ++ encode_utf8_all (shown c.in-Some.c)) c.loop-c.invariant
    ∙ sym (encodes-append (norm c.loop-c.yielded) (shown c.in-Some.c)) ∙ ap encode_utf8_all (sym (norm-push c.loop-c.yielded c.in-Some.c))

pub returns-clause-value : goal.returns-clause-value
returns-clause-value c =
    let all = YieldsList-end (YieldsList-from_chars c.args.text.now c.utf8.text cc) c.loop-c.yielded _ c.loop-c.yielded_by _ _ c.in-None.is
    c.next.ensures.steps in
    chars-spelled _ _ _ (IsUtf8-string_bytes c.loop-c.out) c.loop-c.invariant all.0

pub returns-clause-unlisted : goal.returns-clause-unlisted
returns-clause-unlisted c =
    let all = YieldsList-end (YieldsList-from_chars c.args.text.now c.utf8.text cc) c.loop-c.yielded _ c.loop-c.yielded_by _ _ c.in-None.is
    c.next.ensures.steps in
    ap (λ t. list_any is_listed t) (chars-spelled _ _ _ (IsUtf8-string_bytes c.loop-c.out) c.loop-c.invariant all.0) ∙ list_any-norm _

pub returns-clause-stable : goal.returns-clause-stable
returns-clause-stable c =
    let all = YieldsList-end (YieldsList-from_chars c.args.text.now c.utf8.text cc) c.loop-c.yielded _ c.loop-c.yielded_by _ _ c.in-None.is
    c.next.ensures.steps in
    let is = chars-spelled _ _ _ (IsUtf8-string_bytes c.loop-c.out) c.loop-c.invariant all.0 in
    ap norm is ∙ norm-norm _ ∙ sym is

pub returns-clause-width_kept : goal.returns-clause-width_kept
returns-clause-width_kept c =
    let all = YieldsList-end (YieldsList-from_chars c.args.text.now c.utf8.text cc) c.loop-c.yielded _ c.loop-c.yielded_by _ _ c.in-None.is
    c.next.ensures.steps in
    ap width_of (chars-spelled _ _ _ (IsUtf8-string_bytes c.loop-c.out) c.loop-c.invariant all.0) ∙ width_of-norm _

pub returns-then-is_plain-clause-value : goal.returns-then-is_plain-clause-value
returns-then-is_plain-clause-value c =
    norm-plain c.args.text.now _ (c.is_plain.ensures.yes c.if-is_plain.true)
    (c.in_ok-push_str.ensures.bytes ∙ ap (λ t. t ++ c.args.text.now) c.new-out.ensures.bytes)

pub returns-then-is_plain-clause-unlisted : goal.returns-then-is_plain-clause-unlisted
returns-then-is_plain-clause-unlisted c =
    ap (λ t. list_any is_listed t) (returns-then-is_plain-clause-value c) ∙ list_any-norm _

pub returns-then-is_plain-clause-stable : goal.returns-then-is_plain-clause-stable
returns-then-is_plain-clause-stable c =
    let is = returns-then-is_plain-clause-value c in
    ap norm is ∙ norm-norm _ ∙ sym is

pub returns-then-is_plain-clause-width_kept : goal.returns-then-is_plain-clause-width_kept
returns-then-is_plain-clause-width_kept c =
    ap width_of (returns-then-is_plain-clause-value c) ∙ width_of-norm _
