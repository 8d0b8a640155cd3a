-- What a report without faults is.
use Rattle.std.proofs.lemmas.Grind.{common_steps}
use Rattle.annotate_snippets.proofs.Common.{◌≡◌, ℕ, ◌+◌, ◌<◌, ◌≤◌, ◌&&◌, get_or, take, ◌==◌, nat_le, nat_lt, Bool, true, false}
use Rattle.annotate_snippets.proofs.Common.{List, [], ◌∷◌, ◌++◌, Option, Some, None, All, length, map, refl, arith, inl, inr, cond, ◌^◌}
use Rattle.annotate_snippets.proofs.Common.{slice_get, option_map, option_or, option_to_list, nat_tests, take_more, count_by-le-length, fold_push, All-nil}
use Rattle.annotate_snippets.proofs.Common.{All-cons, All-head, All-tail, IsCharBoundary, Group, Range, Annotation, Patch, cow_str_bytes, Snippet, Element}
use Rattle.annotate_snippets.proofs.Common.{Message, Cause, Suggestion, Origin, Padding, max_usize, SpanFault, Reversed, PastEnd, OffBoundary, is_span_border}
use Rattle.annotate_snippets.proofs.Common.{is_character_border, span_fault, IsSpan, IsSpanBorder, edit_of, first_overlap, added_lines, faults_from}
use Rattle.annotate_snippets.proofs.Common.{missing_title, number_after_lines, first_of, span_faults, overlap_faults, group_faults, element_faults, first_fault}
use Rattle.annotate_snippets.proofs.Common.{refusal_of, number_faults, IsSuggestible, IsDrawable, IsElementDrawable, IsGroupDrawable, numbers-bound, ReportFits}
use Rattle.annotate_snippets.proofs.Common.{GroupFits, ElementFits, PatchesOverlap, LineNumberTooLarge, RenderError, Short, some_same}
use Rattle.annotate_snippets.proofs.DisjointLemmas.{first_overlap-clear}

-- one more patch adds no more lines than its replacement has bytes
pub added_more : (patches : List Patch) (i : ℕ) (p : Patch) → i < length patches → p ≡ get_or patches i p
    → added_lines (take (i + 1) patches) ≤ added_lines (take i patches) + length (cow_str_bytes p.replacement)
added_more patches i p within is = grind (arith, common_steps, take_more, fold_push, count_by-le-length, p.replacement)

-- no first fault, no fault
pub none_first : (faults : List RenderError) → first_of faults ≡ None → faults ≡ []
none_first [] none = refl
none_first (fault ∷ faults) none = cc

-- no refusal in a form: a title isn't missing, and no fault is found
pub titled : (missing fault : Option RenderError) → option_or missing fault ≡ None → missing ≡ None
titled None fault none = refl
titled (Some refusal) fault none = cc

-- where nothing is refused there is no fault
pub unrefused : (missing fault : Option RenderError) → option_or missing fault ≡ None → fault ≡ None
unrefused None fault none = none
unrefused (Some refusal) fault none = cc

-- a report whose short form misses no title has a first group, and that has a title
pub first-there : (groups : List Group) → missing_title Short groups ≡ None → slice_get groups 0 ≡ None → ⊥
first-there [] given none = cc
first-there (g ∷ groups) given none = cc

-- in the short form the first group has a title, where none is missing
pub title-there : (groups : List Group) (g : Group) → missing_title Short groups ≡ None → slice_get groups 0 ≡ Some g → g.title ≡ None → ⊥
title-there [] g given first none = cc
title-there (h ∷ groups) g given first none = grind (arith, some_same, h.title)

-- two lists that join to nothing
front_none : (front back : List RenderError) → front ++ back ≡ [] → front ≡ []
front_none [] back none = refl
front_none (f ∷ front) back none = cc

back_none : (front back : List RenderError) → front ++ back ≡ [] → back ≡ []
back_none [] back none = none
back_none (f ∷ front) back none = cc

-- no refusal, no fault
no_refusal : (group element n : ℕ) (fault : Option SpanFault) → option_to_list (option_map (refusal_of group element n) fault) ≡ [] → fault ≡ None
no_refusal group element n None none = refl
no_refusal group element n (Some f) none = cc

-- a byte inside the source that passes the test is a border
inside : (source : List ℕ) (b : ℕ) → is_character_border source b ≡ true → IsCharBoundary source b
inside source b test = (grind (arith, nat_tests), λ within high. grind (arith, nat_tests))

-- a byte that passes the test is a border
border : (source : List ℕ) (b : ℕ) → is_span_border source b ≡ true → IsSpanBorder source b
border source b test = by_cases (is_character_border source b) refl
  where
    by_cases : (t : Bool) → is_character_border source b ≡ t → IsSpanBorder source b
    by_cases true is = inl (inside source b is)
    by_cases false is = inr (let other : (b == length source + 1) ≡ true = rw is at test in grind (arith, nat_tests))

-- a span without a fault is a span
pub IsSpan-faultless : (source : List ℕ) (start end : ℕ) → span_fault source start end ≡ None → IsSpan source start end
unfolding span_fault
IsSpan-faultless source start end none = by_cases _ _ _ _ refl refl refl refl none
  where
    by_cases : (reversed past from to : Bool) → nat_lt end start ≡ reversed → nat_lt (length source + 1) end ≡ past
        → is_span_border source start ≡ from → is_span_border source end ≡ to
        → cond reversed (Some Reversed) (cond past (Some PastEnd) (cond (from && to) None (Some OffBoundary))) ≡ None → IsSpan source start end
    by_cases true past from to r p f t h = cc
    by_cases false true from to r p f t h = cc
    by_cases false false true true r p f t h = grind (arith, common_steps, border)
    by_cases false false true false r p f t h = cc
    by_cases false false false to r p f t h = cc

-- things whose spans have no faults have spans
pub spans-faultless : {X : Type 0} (span_of : X → Range ℕ) (group element n : ℕ) (source : List ℕ) (marks : List X)
    → faults_from (λ m x. span_faults group element source m (span_of x)) n marks ≡ [] → All (λ x. IsSpan source (span_of x).start (span_of x).end) marks
spans-faultless span_of group element n source [] none = All-nil (λ x. IsSpan source (span_of x).start (span_of x).end)
spans-faultless span_of group element n source (x ∷ marks) none =
    All-cons (λ y. IsSpan source (span_of y).start (span_of y).end)
    x marks (IsSpan-faultless source _ _ (no_refusal group element n (span_fault source (span_of x).start (span_of x).end) (front_none _ _ none)))
    (spans-faultless span_of group element (n + 1) source marks (back_none _ _ none))

-- the first refusal of patches of which two overlap, after no refusal of their spans
pub overlap-first : (spans after : List RenderError) (group element : ℕ) (patches : List Patch) (m n : ℕ) → spans ≡ []
    → first_overlap (map edit_of patches) ≡ Some (m, n)
    → Some (PatchesOverlap group element m n) ≡ first_of (spans ++ overlap_faults group element patches ++ after)
overlap-first spans after group element patches m n none pair = grind arith

-- a number without a fault fits
number-faultless : (group element number : ℕ) → number_faults group element number ≡ [] → number < 2 ^ 64
number-faultless group element number none = by_cases (nat_le number max_usize) refl none
  where
    by_cases : (low : Bool) → nat_le number max_usize ≡ low → cond low [] (LineNumberTooLarge group element ∷ []) ≡ [] → number < 2 ^ 64
    by_cases true is h = grind (arith, nat_tests)
    by_cases false is h = cc

-- no overlap is named where none is a fault
no_overlap : (group element : ℕ) (pair : Option (ℕ × ℕ)) → option_to_list (option_map (λ t. PatchesOverlap group element t.0 t.1) pair) ≡ [] → pair ≡ None
no_overlap group element None none = refl
no_overlap group element (Some t) none = cc

-- an annotated snippet without faults can be drawn
cause-drawable : (group element : ℕ) (s : Snippet Annotation) → element_faults group element (Cause s) ≡ [] → ElementFits (Cause s) → IsDrawable s
cause-drawable group element s none fits = record {
  source = fits.0;
  numbers = number-faultless group element _ (back_none _ _ none);
  spans = spans-faultless (λ (a : Annotation). a.span) group element 0 (cow_str_bytes s.source.text) s.markers.items (front_none _ _ none);
  labels = fits.2;
}

-- less than a bound with more, less without
without_more : (number more : ℕ) → number + more < 2 ^ 64 → number < 2 ^ 64
without_more number more fits = omega arith

-- so can a snippet of patches
suggestion-drawable : (group element : ℕ) (s : Snippet Patch) → element_faults group element (Suggestion s) ≡ [] → ElementFits (Suggestion s) → IsSuggestible s
suggestion-drawable group element s none fits =
    let last : ℕ = number_after_lines s.line_start (cow_str_bytes s.source.text) in
    let all = number-faultless group element (last + added_lines s.markers.items) (back_none _ _ none) in
    let spans = spans-faultless (λ (p : Patch). p.span) group element 0 (cow_str_bytes s.source.text) s.markers.items (front_none _ _ (front_none _ _ none)) in
    let disjoint = first_overlap-clear _ (no_overlap group element (first_overlap (map edit_of s.markers.items)) (back_none _ _ (front_none _ _ none))) in
    record { source = fits.0; lines = without_more last _ all; spans = spans; disjoint = disjoint; numbers = numbers-bound s spans disjoint all }

-- and any element
element-drawable : (group element : ℕ) (e : Element) → element_faults group element e ≡ [] → ElementFits e → IsElementDrawable e
element-drawable group element (Message message) none fits = fits
element-drawable group element (Cause s) none fits = cause-drawable group element s none fits
element-drawable group element (Suggestion s) none fits = suggestion-drawable group element s none fits
element-drawable group element (Origin origin) none fits = tt
element-drawable group element (Padding padding) none fits = tt

-- and elements without faults
elements-drawable : (group n : ℕ) (es : List Element) → faults_from (element_faults group) n es ≡ [] → All ElementFits es → All IsElementDrawable es
elements-drawable group n [] none fit = All-nil IsElementDrawable
elements-drawable group n (e ∷ es) none fit =
    All-cons IsElementDrawable e es (element-drawable group n e (front_none _ _ none) (All-head ElementFits e es fit))
    (elements-drawable group (n + 1) es (back_none _ _ none) (All-tail ElementFits e es fit))

-- and groups without faults
groups-faultless : (n : ℕ) (groups : List Group) → faults_from group_faults n groups ≡ [] → All GroupFits groups → All IsGroupDrawable groups
groups-faultless n [] none fit = All-nil IsGroupDrawable
groups-faultless n (g ∷ groups) none fit =
    let fits : GroupFits g = All-head GroupFits g groups fit in
    All-cons IsGroupDrawable g groups (fits, elements-drawable n 0 g.elements.items (front_none _ _ none) fits.1)
    (groups-faultless (n + 1) groups (back_none _ _ none) (All-tail GroupFits g groups fit))

-- each group of a report without faults can be drawn
pub groups-drawable : (groups : List Group) → ReportFits groups → first_fault groups ≡ None → All IsGroupDrawable groups
unfolding first_fault
groups-drawable groups fits none = groups-faultless 0 groups (none_first _ none) fits
