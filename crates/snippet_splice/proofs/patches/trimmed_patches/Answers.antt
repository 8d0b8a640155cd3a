use Rattle.snippet_splice.proofs.Common.{◌≡◌, ◌<◌, ℕ, List, length, get_or, map, sym, ap, subst, ◌∙◌, arith, rules, take_all}
use Rattle.snippet_splice.proofs.Common.{answers_always, All-permutation, IsSortedBy, IsStableBy, Patch, IsSpan, TrimmedPatch, edit_of}
use Rattle.snippet_splice.proofs.Common.{in_order, edited_from}
use Rattle.snippet_splice.proofs.EditLemmas.{edited_from-trimmed}
use Rattle.snippet_splice.proofs.OrderLemmas.{pair-order, pair-tells}
use Rattle.snippet_splice.proofs.SeenLemmas.{seen, seen_edit, AreTrimmed, AreTrimmed-more, before, sorted-seen, sorted-edits, sorted-bounds}
use Rattle.snippet_splice.proofs.patches.trimmed_patches.Goals as goal

pub loop-patch-preserved : goal.loop-patch-preserved
loop-patch-preserved c =
    let source : List ℕ = c.args.source.now in
    let i : ℕ = c.loop-patch.patch-index in
    let p : Patch = c.patch-item.result in
    let t : TrimmedPatch = c.trim_patch.result in
    let within : i < length c.args.patches.now = c.loop-patch-test.true in
    let at : get_or c.args.patches.now i p ≡ p = sym c.patch-item.is in
    let one : seen t ≡ seen_edit source (edit_of (get_or c.args.patches.now i p)) = cc in
    let given : IsSpan source p.span.start p.span.end = subst (λ (q : Patch). IsSpan source q.span.start q.span.end) at (c.requires.spans i p within) in
    let original = rw (← c.trim_patch.ensures.original) at given in
    rw (← sym {A = List TrimmedPatch} c.in_ok-push.ensures.items) (AreTrimmed-more source c.args.patches.now c.loop-patch.trimmed.items i p t within
    c.loop-patch.invariant one c.trim_patch.ensures.span original)

pub returns : goal.returns
returns c =
    let source : List ℕ = c.args.source.now in
    let ps : List Patch = c.args.patches.now in
    let given : List TrimmedPatch = c.loop-patch.trimmed.items in
    let ts : List TrimmedPatch = c.sort_by.new.self.items in
    let all : AreTrimmed source ps given = subst (λ l. AreTrimmed source l given) (take_all c.loop-patch.patch-index ps (omega arith)) c.loop-patch.invariant in
    let moved = c.in_ok-sort_by.ensures.permutation in
    let order = pair-order (λ (t : TrimmedPatch). t.original_span.start) (λ (t : TrimmedPatch). t.original_span.end) in
    let sorted : IsSortedBy before ts = c.in_ok-sort_by.ensures.sorted before order (answers_always _ _ _ (λ f a r g h. search (rules, pair-tells))) in
    let stable : IsStableBy before given ts = c.in_ok-sort_by.ensures.stable before order (answers_always _ _ _ (λ f a r g h. search (rules, pair-tells))) in
    let same : map seen ts ≡ map (seen_edit source) (in_order (map edit_of ps)) = sorted-seen source ps given ts all sorted stable in
    let edits = sorted-edits source ps ts same in
    record {
      edits = edits;
      originals = sorted-bounds source ps ts same;
      spans = All-permutation (λ t. IsSpan source t.span.start t.span.end) given ts moved all.spans;
      original_spans = All-permutation (λ t. IsSpan source t.original_span.start t.original_span.end) given ts moved all.originals;
      law = λ apart. ap (edited_from source 0) edits ∙ edited_from-trimmed source 0 (in_order (map edit_of ps)) apart;
    }
