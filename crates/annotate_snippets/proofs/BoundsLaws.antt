-- When a report is within bounds: laws for those who make one.
use Rattle.annotate_snippets.proofs.Common.{◌≡◌, ◌⊎◌, ℕ, suc, ◌+◌, ◌^◌, ◌<◌, ◌≤◌, ◌||◌, ◌==◌, nat_lt, Bool, true, false, List, [], ◌∷◌, ◌++◌, None, All, length}
use Rattle.annotate_snippets.proofs.Common.{map, slice_index, refl, ap, ◌∙◌, arith, inl, inr, if◌then◌else◌, cow_str_bytes, position_from, sum_by, option_map}
use Rattle.annotate_snippets.proofs.Common.{option_to_list, IsCharBoundary, Range, cases_lt, le-leb, le-ltb, nat_tests, get_or_past, All-head, All-tail}
use Rattle.annotate_snippets.proofs.Common.{All-weaker, count_by-le-length, sum_by-le-sum_by, max_usize, Lf, Line, lines_of, source_lines, with_first_byte}
use Rattle.annotate_snippets.proofs.Common.{is_span_border, is_character_border, span_fault, Annotation, Cause, Suggestion, Group, Patch, Snippet, put_in, Edit}
use Rattle.annotate_snippets.proofs.Common.{edit_of, in_order, precedes, AreApart, first_overlap, first_overlap_from, overlap, IsWithinBounds, added_lines}
use Rattle.annotate_snippets.proofs.Common.{element_faults, faults_from, first_fault, IsGroupWithinBounds, number_after_lines, number_faults, overlap_faults}
use Rattle.annotate_snippets.proofs.Common.{span_faults, plain_settings, RenderError, LineNumberTooLarge, PatchesOverlap}
use Rattle.std.specs.List.{count_by}

-- a place between characters of a source is a border of spans
border-between : (source : List ℕ) (b : ℕ) → IsCharBoundary source b → is_span_border source b ≡ true
border-between source b between = by_cases (cases_lt b (length source))
  where
    border : is_character_border source b ≡ true → is_span_border source b ≡ true
    border is = ap (λ t. t || b == length source + 1) is

    low : b ≤ length source → slice_index source b < 128 → is_character_border source b ≡ true
    low within small = grind (arith, nat_tests)

    high : b ≤ length source → 192 ≤ slice_index source b → is_character_border source b ≡ true
    high within great = grind (arith, nat_tests)

    by_cases : (b < length source) ⊎ (length source ≤ b) → is_span_border source b ≡ true
    by_cases (inl inside) = elim (cases_lt (slice_index source b) 128) [
      | inl small ↦ border (low between.0 small)
      | inr great ↦ border (high between.0 (between.1 inside great))
    ]
    by_cases (inr past) = border (low between.0 (let none : slice_index source b ≡ 0 = get_or_past source b 0 past in omega (arith, none)))

-- a part of a source that starts and ends between characters is a span without a fault
pub span-faultless : (source : List ℕ) (start end : ℕ) → start ≤ end → IsCharBoundary source start → IsCharBoundary source end
    → span_fault source start end ≡ None
unfolding span_fault
span-faultless source start end ordered starts ends = grind (arith, nat_lt, le-ltb, border-between, ends.0)

-- an edit and one after it don't overlap
overlap-apart : (d e : Edit) → d.start ≤ d.end → d.end ≤ e.start → e.start ≤ e.end → overlap d e ≡ false
overlap-apart d e first apart second = grind (arith, nat_lt, le-ltb, nat_tests, e.start, d.start, e.end, d.end)

-- nor does it with any of those after it
clear-after : (d : Edit) (at n : ℕ) (es : List Edit) → d.start ≤ d.end → d.end ≤ at → AreApart at es → position_from (overlap d) n es ≡ None
clear-after d at n [] first before apart = refl
clear-after d at n (e ∷ es) first before apart =
    grind (arith, clear-after d e.end (n + 1) es first (omega (arith, apart.0, apart.1)) apart.2, overlap-apart, apart.0, apart.1, e.end, apart.2)

-- edits one after the other don't overlap
first-clear : (at n : ℕ) (es : List Edit) → AreApart at es → first_overlap_from n es ≡ None
first-clear at n [] apart = refl
first-clear at n (e ∷ es) apart = grind (arith, first-clear e.end (n + 1) es apart.2, first_overlap_from, clear-after, e.end, apart.1, apart.2)

pub apart-clear : (at : ℕ) (es : List Edit) → AreApart at es → first_overlap es ≡ None
unfolding first_overlap
apart-clear at es apart = first-clear at 0 es apart

-- a text has no more lines than bytes
one_more : (b : ℕ) (ls : List Line) → length (with_first_byte b ls) ≤ length ls + 1
one_more b [] = omega arith
one_more b (l ∷ ls) = omega arith

with-first : (t : Bool) (b : ℕ) (ls : List Line) (n : ℕ) → length ls ≤ n → length (if t then ([], Lf) ∷ ls else with_first_byte b ls) ≤ suc n
with-first true b ls n few = omega (arith, few)
with-first false b ls n few = omega (arith, few, one_more b ls)

lines-few : (text : List ℕ) → length (lines_of text) ≤ length text
lines-few [] = omega arith
lines-few (b ∷ bs) = with-first (b == 10) b (lines_of bs) (length bs) (lines-few bs)

-- a source has at most one line more than bytes
pub source_lines-few : (source : List ℕ) → length (source_lines source) ≤ length source + 1
source_lines-few [] = omega arith
source_lines-few (b ∷ bs) = omega (arith, lines-few (b ∷ bs))

-- things none of which has a fault
none-clear : {X : Type 0} (f : ℕ → X → List RenderError) (n : ℕ) (xs : List X) → All (λ x. (m : ℕ) → f m x ≡ []) xs → faults_from f n xs ≡ []
none-clear f n [] all = refl
none-clear f n (x ∷ xs) all = cc (All-head (λ y. (m : ℕ) → f m y ≡ []) x xs all n, none-clear f (n + 1) xs (All-tail (λ y. (m : ℕ) → f m y ≡ []) x xs all))

-- markers none of whose spans has a fault
spans-clear : {X : Type 0} (span_of : X → Range ℕ) (group element : ℕ) (source : List ℕ) (marks : List X)
    → All (λ x. span_fault source (span_of x).start (span_of x).end ≡ None) marks
    → faults_from (λ m x. span_faults group element source m (span_of x)) 0 marks ≡ []
spans-clear span_of group element source marks all = grind (arith, none-clear, All-weaker)

number-clear : (group element number : ℕ) → number < 2 ^ 64 → number_faults group element number ≡ []
number-clear group element number fits = ap (λ t. if t then [] else LineNumberTooLarge group element ∷ []) (le-leb number max_usize (omega (arith, fits)))

-- an annotated snippet without a fault: none of its spans has one, and the numbers of so many lines as it has bytes fit
pub cause-clear : (group element : ℕ) (s : Snippet Annotation)
    → All (λ (a : Annotation). span_fault (cow_str_bytes s.source.text) a.span.start a.span.end ≡ None) s.markers.items
    → s.line_start + (length (cow_str_bytes s.source.text) + 1) < 2 ^ 64 → element_faults group element (Cause s) ≡ []
cause-clear group element s spans numbers =
    let few = source_lines-few (cow_str_bytes s.source.text) in
    let fits : number_after_lines s.line_start (cow_str_bytes s.source.text) < 2 ^ 64 = omega (arith, few, numbers) in
    cc (spans-clear (λ (a : Annotation). a.span) group element (cow_str_bytes s.source.text) s.markers.items spans, number-clear group element _ fits)

-- a suggestion without a fault: none of its spans has one, its patches stand one after the other, and the numbers of so many
-- lines fit as it and they have bytes
pub suggestion-clear : (group element : ℕ) (s : Snippet Patch)
    → All (λ (p : Patch). span_fault (cow_str_bytes s.source.text) p.span.start p.span.end ≡ None) s.markers.items
    → AreApart 0 (map edit_of s.markers.items)
    → s.line_start + (length (cow_str_bytes s.source.text) + 1) + sum_by (λ (p : Patch). length (cow_str_bytes p.replacement)) s.markers.items < 2 ^ 64
    → element_faults group element (Suggestion s) ≡ []
suggestion-clear group element s spans apart numbers =
    let few = source_lines-few (cow_str_bytes s.source.text) in
    let feeds : added_lines s.markers.items ≤ sum_by (λ (p : Patch). length (cow_str_bytes p.replacement)) s.markers.items =
    sum_by-le-sum_by (λ (p : Patch). count_by (λ b. b == 10) (cow_str_bytes p.replacement))
    (λ (p : Patch). length (cow_str_bytes p.replacement)) s.markers.items (λ p. count_by-le-length (λ b. b == 10) (cow_str_bytes p.replacement)) in
    let last = number_after_lines s.line_start (cow_str_bytes s.source.text) + added_lines s.markers.items in
    let fits : last < 2 ^ 64 = omega (arith, few, feeds, numbers) in
    ap (λ l. l ++ overlap_faults group element s.markers.items ++ number_faults group element last)
    (spans-clear (λ (p : Patch). p.span) group element (cow_str_bytes s.source.text) s.markers.items spans)
    ∙ ap (λ p. option_to_list (option_map (λ pair. PatchesOverlap group element pair.0 pair.1) p) ++ number_faults group element last)
    (apart-clear 0 (map edit_of s.markers.items) apart) ∙ number-clear group element last fits

-- a report of groups that are within bounds, in the graphic form
pub within-bounds : (groups : List Group) → All IsGroupWithinBounds groups → IsWithinBounds plain_settings groups
unfolding first_fault
within-bounds groups all = grind (arith, none-clear, All-weaker)

-- an edit doesn't precede one that ends before it
not-before : (d e : Edit) → d.start ≤ d.end → d.end ≤ e.start → e.start ≤ e.end → precedes e d ≡ false
not-before d e first apart second = grind (arith, nat_lt, le-ltb, nat_tests, e.start, d.start, e.end, d.end)

-- so it is put before those that come after it
first-in : (d : Edit) (es : List Edit) → d.start ≤ d.end → AreApart d.end es → put_in precedes d es ≡ d ∷ es
first-in d [] ordered apart = refl
first-in d (e ∷ es) ordered apart = ap (λ t. if t then e ∷ put_in precedes d es else d ∷ e ∷ es) (not-before d e ordered apart.0 apart.1)

-- edits one after the other are in order
pub in_order-apart : (at : ℕ) (es : List Edit) → AreApart at es → in_order es ≡ es
in_order-apart at [] apart = refl
in_order-apart at (e ∷ es) apart = ap (put_in precedes e) (in_order-apart e.end es apart.2) ∙ first-in e es apart.1 apart.2
