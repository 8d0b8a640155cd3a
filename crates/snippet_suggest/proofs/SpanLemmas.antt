-- Spans of a source that are taken.
use Rattle.snippet_suggest.proofs.Common.{◌≡◌, ℕ, ◌+◌, ◌-◌, ◌≤◌, min, Option, Some, None, List, [], ◌∷◌, All, common_steps}
use Rattle.snippet_suggest.proofs.Common.{drop, get_or, length, map, sym, arith, subst, slice_range, IsCharBoundary, IsUtf8, and_parts, cond_both}
use Rattle.snippet_suggest.proofs.Common.{leb-true, get_or-drop, get_or-take, length-drop, length-take-le, All-head, All-map, All-tail, IsCharBoundary-end}
use Rattle.snippet_suggest.proofs.Common.{IsCharBoundary-start, IsSpan, IsSpanBorder, All-put_in, All-unmapped, TrimmedPatch, Edit, in_order, precedes, shrunk}
use Rattle.snippet_suggest.proofs.Common.{trimmed_edit, trimmed_edits, edit_bounds, original_bounds_of, trimmed_edit_of, sandwich, sandwich-sandwiched}

-- that of the whole source
pub whole_span : (source text : List ℕ) → IsUtf8 text → text ≡ source → IsSpan source 0 (length text)
whole_span source text valid is = grind (arith, IsCharBoundary-start, IsCharBoundary-end)

-- from the start of one to the end of another, or to that end alone
pub joined_span : (source : List ℕ) (a b c d from : ℕ) → from ≡ min a d → IsSpan source a b → IsSpan source c d → IsSpan source from d
joined_span source a b c d from is first last = grind (arith)

-- a part of a source may be cut where the source may
border_inside : (source : List ℕ) (start end before : ℕ) → start ≤ end → end ≤ length source → IsSpanBorder source end
    → IsCharBoundary (slice_range source start end) before → IsCharBoundary source (start + before)
border_inside source start end before ordered within to border = grind (arith, length-take-le, length-drop, get_or-take, get_or-drop)

-- a trimmed edit's span is taken where the untrimmed one's is
edit_span : (source : List ℕ) (e : Edit) → IsSpan source e.start e.end → IsSpan source (trimmed_edit source e).start (trimmed_edit source e).end
unfolding trimmed_edit
edit_span source e span = grind (arith, common_steps, cond_both, kept, leb-true, and_parts)
  where
    kept : (r : Option (ℕ × List ℕ × ℕ)) → e.end ≤ length source → sandwich (slice_range source e.start e.end) e.text ≡ r
        → IsSpan source (shrunk e r).start (shrunk e r).end
    kept None within is = span
    kept (Some k) within is =
        let h = sandwich-sandwiched (slice_range source e.start e.end) e.text k.0 k.1 k.2 is in
        let size : length (slice_range source e.start e.end) ≡ e.end - e.start = length-take-le (e.end - e.start) (drop e.start source)
        (omega (arith, length-drop e.start source)) in
        let here : e.start + k.0 ≡ e.end - k.2 = omega (arith, h.parts, size, span.ordered) in
        let border : IsCharBoundary source (e.start + k.0) = border_inside source e.start e.end k.0 span.ordered within span.to h.border in
        grind (arith, common_steps, border, here)

-- spans are taken in whatever order
pub spans_in_order : (source : List ℕ) (es : List Edit) → All (λ e. IsSpan source e.start e.end) es → All (λ e. IsSpan source e.start e.end) (in_order es)
spans_in_order source [] all = all
spans_in_order source (e ∷ es) all =
    let P : Edit → Type 0 = λ d. IsSpan source d.start d.end in
    All-put_in precedes P e (in_order es) (All-head P e es all) (spans_in_order source es (All-tail P e es all))

-- so are those of patches whose edits are known, and those that they had before they were trimmed
pub trimmed_spans : (source : List ℕ) (es : List Edit) (ps : List TrimmedPatch) → All (λ e. IsSpan source e.start e.end) es
    → map trimmed_edit_of ps ≡ trimmed_edits source es → All (λ p. IsSpan source p.span.start p.span.end) ps
trimmed_spans source es ps all same =
    let P : Edit → Type 0 = λ d. IsSpan source d.start d.end in
    let given : All P (in_order es) = spans_in_order source es all in
    let trimmed : All P (trimmed_edits source es) = All-map P (trimmed_edit source) (in_order es) (λ k d within.
    edit_span source (get_or (in_order es) k d) (given k d within)) in
    All-unmapped P trimmed_edit_of ps (subst (All P) (sym same) trimmed)

-- the patches of edits on spans stand on spans
pub original_spans : (source : List ℕ) (es : List Edit) (ps : List TrimmedPatch) → All (λ e. IsSpan source e.start e.end) es
    → map original_bounds_of ps ≡ map edit_bounds (in_order es) → All (λ p. IsSpan source p.original_span.start p.original_span.end) ps
original_spans source es ps all same =
    let P : ℕ × ℕ → Type 0 = λ b. IsSpan source b.0 b.1 in
    All-unmapped P original_bounds_of ps (subst (All P) (sym same) (All-map P edit_bounds (in_order es) (spans_in_order source es all)))
