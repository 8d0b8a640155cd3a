-- Trimmed patches, as they are made and put in order.
use Rattle.snippet_splice.proofs.Common.{◌≡◌, ℕ, ◌+◌, ◌<◌, Bool, List, [], ◌∷◌, ◌++◌, length, map, take, get_or, All, refl, sym, ap}
use Rattle.snippet_splice.proofs.Common.{◌∙◌, map_more, map_push, All-push, IsSortedBy, IsStableBy, Patch, IsSpan, TrimmedPatch, Edit, edit_of}
use Rattle.snippet_splice.proofs.Common.{trimmed_edit, trimmed_edits, in_order, trimmed_edit_of, edit_bounds, original_bounds_of, ordered_by, sorted-only}
use Rattle.snippet_splice.proofs.Common.{map-ordered_by}
use Rattle.snippet_splice.proofs.OrderLemmas.{pair_lt, pair-order}

-- a trimmed patch as it is seen: its edit, and where the untrimmed one started and ended
abbrev pub Seen : Type 0
Seen = Edit × ℕ × ℕ

-- a trimmed patch as it is seen
abbrev pub seen : TrimmedPatch → Seen
seen t = (trimmed_edit_of t, t.original_span.start, t.original_span.end)

-- the same of the edit that was trimmed
abbrev pub seen_edit : List ℕ → Edit → Seen
seen_edit source e = (trimmed_edit source e, e.start, e.end)

-- these are the patches, trimmed
pub record AreTrimmed (source : List ℕ) (patches : List Patch) (trimmed : List TrimmedPatch) : Type 0 where
  pub are : map seen trimmed ≡ map (seen_edit source) (map edit_of patches)
  pub spans : All (λ t. IsSpan source t.span.start t.span.end) trimmed
  pub originals : All (λ t. IsSpan source t.original_span.start t.original_span.end) trimmed

-- with one more patch trimmed the patches so far are trimmed
pub AreTrimmed-more : (source : List ℕ) (patches : List Patch) (trimmed : List TrimmedPatch) (i : ℕ) (d : Patch) (t : TrimmedPatch)
    → i < length patches → AreTrimmed source (take i patches) trimmed → seen t ≡ seen_edit source (edit_of (get_or patches i d))
    → IsSpan source t.span.start t.span.end → IsSpan source t.original_span.start t.original_span.end
    → AreTrimmed source (take (i + 1) patches) (trimmed ++ t ∷ [])
AreTrimmed-more source patches trimmed i d t within h one span original =
    let p : Patch = get_or patches i d in
    let left : map seen (trimmed ++ t ∷ []) ≡ map seen trimmed ++ seen t ∷ [] = map_push seen trimmed t in
    let right : map (seen_edit source) (map edit_of (take (i + 1) patches)) ≡ map (seen_edit source) (map edit_of (take i patches)) ++ seen_edit source
    (edit_of p) ∷ [] = cc (map_more edit_of patches i d within, map_push (seen_edit source) (map edit_of (take i patches)) (edit_of p)) in
    record {
      are = left ∙ ap (λ l. l ++ seen t ∷ []) h.are ∙ ap (λ s. map (seen_edit source) (map edit_of (take i patches)) ++ s ∷ []) one ∙ sym right;
      spans = All-push (λ t. IsSpan source t.span.start t.span.end) trimmed t h.spans span;
      originals = All-push (λ t. IsSpan source t.original_span.start t.original_span.end) trimmed t h.originals original;
    }

-- the test by which trimmed patches are sorted: by start of the untrimmed one, then by end
abbrev pub before : TrimmedPatch → TrimmedPatch → Bool
before a b = pair_lt a.original_span.start a.original_span.end b.original_span.start b.original_span.end

abbrev pub seen_before : Seen → Seen → Bool
seen_before a b = pair_lt a.1 a.2 b.1 b.2

-- sorted they are the trimmed edits in the order of the untrimmed ones
pub sorted-seen : (source : List ℕ) (patches : List Patch) (trimmed sorted : List TrimmedPatch) → AreTrimmed source patches trimmed → IsSortedBy before sorted
    → IsStableBy before trimmed sorted → map seen sorted ≡ map (seen_edit source) (in_order (map edit_of patches))
sorted-seen source patches trimmed sorted h up stable =
    let only = sorted-only before (pair-order (λ t. t.original_span.start) (λ t. t.original_span.end)) trimmed sorted up stable in
    let es : List Edit = map edit_of patches in
    ap (map seen) only ∙ map-ordered_by seen seen_before trimmed ∙ ap (ordered_by seen_before) h.are ∙ sym (map-ordered_by (seen_edit source) seen_before es)

map-map : {X Y Z : Type 0} (f : X → Y) (g : Y → Z) (xs : List X) → map g (map f xs) ≡ map (λ x. g (f x)) xs
map-map f g [] = refl
map-map f g (x ∷ xs) = ap (λ l. g (f x) ∷ l) (map-map f g xs)

-- trimmed patches that are seen as the edits in order are these edits, trimmed
pub sorted-edits : (source : List ℕ) (patches : List Patch) (sorted : List TrimmedPatch)
    → map seen sorted ≡ map (seen_edit source) (in_order (map edit_of patches)) → map trimmed_edit_of sorted ≡ trimmed_edits source (map edit_of patches)
sorted-edits source patches sorted h =
    let first : Seen → Edit = λ s. s.0 in
    sym (map-map seen first sorted) ∙ ap (map first) h ∙ map-map (seen_edit source) first (in_order (map edit_of patches))

-- trimmed patches that are seen as the edits in order have these edits' bounds
pub sorted-bounds : (source : List ℕ) (patches : List Patch) (sorted : List TrimmedPatch)
    → map seen sorted ≡ map (seen_edit source) (in_order (map edit_of patches)) → map original_bounds_of sorted
    ≡ map edit_bounds (in_order (map edit_of patches))
sorted-bounds source patches sorted h =
    let rest : Seen → ℕ × ℕ = λ s. (s.1, s.2) in
    sym (map-map seen rest sorted) ∙ ap (map rest) h ∙ map-map (seen_edit source) rest (in_order (map edit_of patches))
