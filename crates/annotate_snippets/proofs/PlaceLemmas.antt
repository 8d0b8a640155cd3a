-- The place at which the first patch of a snippet starts.
use Rattle.annotate_snippets.proofs.Common.{◌≡◌, ℕ, ◌+◌, ◌<◌, None, Some, List, [], ◌∷◌, All, length, map, sym, arith, subst}
use Rattle.annotate_snippets.proofs.Common.{cow_str_bytes, slice_get, All-map, Source, locations_of, IsSpan, Loc, TrimmedPatch, edit_of, trimmed_edit_of}
use Rattle.annotate_snippets.proofs.Common.{first_start, edits_of, IsPrepared, some_left, trimmed_spans, OriginLocation, locations_of-start}
use Rattle.snippet_suggest.specs.declared.PreparedSuggestion.{PreparedSuggestion}
use Rattle.annotate_snippets.proofs.PageWords.{patch_place}

-- the first of some patches starts where the first edit does
first_start-of : (ts : List TrimmedPatch) (t : TrimmedPatch) → slice_get ts 0 ≡ Some t → t.span.start ≡ first_start (map trimmed_edit_of ts)
first_start-of [] t is = absurd (cc)
first_start-of (s ∷ ts) t is = grind arith

-- what holds of each patch holds of the first
first_among_all : (P : TrimmedPatch → Type 0) (ts : List TrimmedPatch) (t : TrimmedPatch) → All P ts → slice_get ts 0 ≡ Some t → P t
first_among_all P [] t all is = absurd (cc)
first_among_all P (s ∷ ts) t all is =
    let same : s ≡ t = cc in
    subst P same (all 0 s (omega arith))

some-first : (ts : List TrimmedPatch) → 0 < length ts → slice_get ts 0 ≡ None → ⊥
some-first [] some none = absurd (omega (arith, some))
some-first (t ∷ ts) some none = absurd (cc)

-- a snippet that is prepared has a first patch
pub first-is_some : (p : PreparedSuggestion) → IsPrepared p → slice_get p.splice.patches.items 0 ≡ None → ⊥
first-is_some p h none =
    some-first p.splice.patches.items
    (some_left (cow_str_bytes p.snippet.now.source.text) p.snippet.now.markers.items p.splice.patches.items h.some h.edits) none

-- its span is one of the source
pub first-span : (p : PreparedSuggestion) (t : TrimmedPatch) → IsPrepared p → slice_get p.splice.patches.items 0 ≡ Some t
    → IsSpan p.map.text t.span.start t.span.end
first-span p t h is =
    let source : List ℕ = cow_str_bytes p.snippet.now.source.text in
    let spans : All (λ e. IsSpan source e.start e.end) (edits_of p.snippet.now) = All-map (λ e.
    IsSpan source e.start e.end) edit_of p.snippet.now.markers.items h.suggestible.spans in
    subst (λ (m : Source). IsSpan m.text t.span.start t.span.end) (sym h.lines)
    (first_among_all (λ u. IsSpan source u.span.start u.span.end) p.splice.patches.items t
    (trimmed_spans source (edits_of p.snippet.now) p.splice.patches.items spans h.edits) is)

-- where it starts is the place that the path names
abbrev place_from : Loc → OriginLocation
place_from at = record { line = Some at.line; column = Some (at.char + 1) }

-- the place of a suggestion is where its first trimmed patch starts
pub patch_place-first : (p : PreparedSuggestion) (t : TrimmedPatch) (at : Loc × Loc) → IsPrepared p → slice_get p.splice.patches.items 0 ≡ Some t
    → at ≡ locations_of p.map t.span.start t.span.end
    → ◌≡◌ {A = OriginLocation} (record { line = Some at.0.line; column = Some (at.0.char + 1) }) (patch_place p.snippet.now)
patch_place-first p t at h is located =
    grind (arith, first_start-of, locations_of-start, t.span.start, p.snippet.now, p.splice.patches.items, h.edits, p.map, t.span.end, h.lines)
