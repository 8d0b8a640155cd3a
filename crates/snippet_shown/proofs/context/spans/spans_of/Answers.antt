use Rattle.snippet_shown.proofs.Common.{common_steps, ◌≡◌, ◌∙◌, ℕ, ◌+◌, ◌-◌, ◌++◌, min, true, List, [], ◌∷◌, map, length, drop, get_or, ap, ap₂, arith, sym}
use Rattle.snippet_shown.proofs.Common.{append_assoc, drop_more, length-drop, take_all, cow_str_bytes, list_any, Range, source_lines, kept-within, keeps}
use Rattle.snippet_shown.proofs.Common.{kept_lines, numbered_source}
use Rattle.snippet_shown.specs.Context as spec
use Rattle.snippet_shown.proofs.SpanLemmas.{after-all, kept-number, reach-kept, starts-length}
use Rattle.snippet_shown.proofs.context.spans.spans_of.Goals as goal

pub overflow_sub-line : goal.overflow_sub-line
overflow_sub-line c =
    let s = c.args.snippet.now in
    let at = kept-number (numbered_source s) s.markers.items c.args.kept.now c.loop-i.i c.index-kept-i.result c.requires.kept (omega arith)
    c.index-kept-i.is in
    omega (arith, at.1)

pub span_around-requires-clause-within : goal.span_around-requires-clause-within
span_around-requires-clause-within c =
    let s = c.args.snippet.now in
    let source : List ℕ = cow_str_bytes s.source.text in
    let at = kept-number (numbered_source s) s.markers.items c.args.kept.now c.loop-i.i c.index-kept-i.result c.requires.kept (omega arith)
    c.index-kept-i.is in
    let inside = kept-within (λ k. list_any (keeps source k) s.markers.items) (length (source_lines source)) c.loop-i.i 0 at.0 in
    omega (arith, at.1, inside, starts-length source c.args.starts.now c.requires.starts)

pub loop-i-preserved : goal.loop-i-preserved
loop-i-preserved c =
    let s = c.args.snippet.now in
    let source : List ℕ = cow_str_bytes s.source.text in
    let ks : List ℕ = kept_lines true source s.markers.items in
    let infos = c.args.kept.now in
    let i : ℕ = c.loop-i.i in
    let k : ℕ = get_or ks i 0 in
    let last : ℕ = c.loop-i.last in
    let at = kept-number (numbered_source s) s.markers.items infos i c.index-kept-i.result c.requires.kept (omega arith) c.index-kept-i.is in
    let line : c.index-kept-i.result.line_index - s.line_start ≡ k = omega (arith, at.1) in
    let on : c.reach_after-on.result ≡ spec.reach_after c.args.after k (drop (i + 1) ks) = c.reach_after-on.ensures.value
    ∙ ap (λ later. spec.reach_after c.args.after c.index-kept-i.result.line_index (map (λ info. info.line_index) later))
    (take_all (length infos - (i + 1)) (drop (i + 1) infos) (omega (arith, length-drop (i + 1) infos)))
    ∙ reach-kept c.args.after (numbered_source s) s.markers.items infos (i + 1) k c.index-kept-i.result.line_index c.requires.kept at.1 in
    let back : c.min-back.result ≡ min c.args.before (k - last) = omega (arith, line) in
    let span : c.span_around.result ≡ spec.span_around (min c.args.before (k - last)) (spec.reach_after c.args.after k (drop (i + 1) ks)) source k =
    c.span_around.ensures.value ∙ ap₂ (λ (b a : ℕ). spec.span_around b a c.as_str-source.result.now (c.index-kept-i.result.line_index - s.line_start)) back on
    ∙ ap₂ (spec.span_around (min c.args.before (k - last)) (spec.reach_after c.args.after k (drop (i + 1) ks))) c.as_str-source.ensures.value line in
    ap₂ (λ (spans : List (Range ℕ)) (last : ℕ). spans ++ spec.spans_around c.args.before c.args.after source last (drop (i + 1) ks))
    (c.in_ok-push.ensures.items ∙ ap (λ (one : Range ℕ). c.loop-i.spans.items ++ one ∷ []) span) line
    ∙ append_assoc c.loop-i.spans.items _ _
    ∙ ap (λ js. c.loop-i.spans.items ++ spec.spans_around c.args.before c.args.after source last js) (sym (drop_more ks i 0 at.0))
    ∙ c.loop-i.invariant

pub returns : goal.returns
returns c = grind (arith, common_steps, c.requires.kept, after-all, c.loop-i.last, c.loop-i.i, c.loop-i.invariant)
