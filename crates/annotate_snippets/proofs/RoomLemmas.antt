-- The layouts of a report have room for each element that is drawn in them.
use Rattle.std.proofs.lemmas.Grind.{common_steps}
use Rattle.annotate_snippets.proofs.Common.{◌≡◌, ℕ, zero, suc, ◌+◌, ◌<◌, ◌≤◌, ◌^◌, ◌==◌, fold, All, Bool, true, false, cond, List}
use Rattle.annotate_snippets.proofs.Common.{[], ◌∷◌, Some, length, refl, sym, ap, subst, arith, decimal, flat_map, slice_get, cond_both, nat_tests}
use Rattle.annotate_snippets.proofs.Common.{length-decimal-le, All-append, All-cons, All-filter, All-head, All-nil, All-tail, All-weaker, fold-append, Element}
use Rattle.annotate_snippets.proofs.Common.{Message, Cause, Suggestion, Origin, Padding, Group, Patch, Snippet, line_of-within, counted_line, IsSuggestible}
use Rattle.annotate_snippets.proofs.Common.{last-fits, drawn_elements, HasRoomFor, code_after, is_drawn, depth_of_element, layout_of_group, gutter_of_report}
use Rattle.annotate_snippets.proofs.Common.{width_wanted, IsElementDrawable, IsGroupDrawable, Renderer, folded_small}
use Rattle.annotate_snippets.proofs.PageWords.{depth_of_group}
use Rattle.annotate_snippets.proofs.GutterLemmas.{counted-small}
use Rattle.annotate_snippets.proofs.WidestLemmas.{greater}

-- ---- the greatest of what some elements want

widest-from : (wants : Element → ℕ) (most : ℕ) (es : List Element) → most ≤ fold (greater wants) most es
widest-from wants most [] = omega arith
widest-from wants most (e ∷ es) = omega (arith, widest-from wants (greater wants most e) es)

-- is no less than what each of them wants
widest-each : (wants : Element → ℕ) (most : ℕ) (es : List Element) → All (λ e. wants e ≤ fold (greater wants) most es) es
widest-each wants most [] = All-nil (λ e. wants e ≤ most)
widest-each wants most (e ∷ es) = grind (arith, widest-each wants (greater wants most e) es, All-cons, widest-from)

-- and no more than what none of them exceeds
widest-low : (wants : Element → ℕ) (most top : ℕ) (es : List Element) → most ≤ top → All (λ e. wants e ≤ top) es → fold (greater wants) most es ≤ top
widest-low wants most top [] low all = low
widest-low wants most top (e ∷ es) low all =
    widest-low wants (greater wants most e) top es (omega (arith, low, All-head (λ d. wants d ≤ top) e es all)) (All-tail (λ d. wants d ≤ top) e es all)

abbrev elements_of : Group → List Element
elements_of g = g.elements.items

-- so is that of a report's groups no less than what the elements of each of these want
widest-group : (wants : Element → ℕ) (most : ℕ) (gs : List Group) (i : ℕ) (g : Group) → slice_get gs i ≡ Some g
    → All (λ e. wants e ≤ fold (greater wants) most (flat_map elements_of gs)) g.elements.items
widest-group wants most [] i g is = cc
widest-group wants most (h ∷ gs) zero g is = grind (arith, fold-append, widest-from, All-weaker, widest-each, h.elements.items)
widest-group wants most (h ∷ gs) (suc i) g is =
    let own : ℕ = fold (greater wants) most h.elements.items in
    subst (λ n. All (λ e. wants e ≤ n) g.elements.items) (sym (fold-append (greater wants) most h.elements.items (flat_map elements_of gs)))
    (widest-group wants own gs i g is)

-- what holds of the elements of each group holds of all
all_elements : (P : Element → Type 0) (gs : List Group) → All (λ (g : Group). All P g.elements.items) gs → All P (flat_map elements_of gs)
all_elements P [] all = All-nil P
all_elements P (g ∷ gs) all =
    All-append P g.elements.items (flat_map elements_of gs) (All-head (λ (h : Group). All P h.elements.items) g gs all)
    (all_elements P gs (All-tail (λ (h : Group). All P h.elements.items) g gs all))

-- ---- the numbers that are counted have at most 20 digits

-- the number that a suggestion counts fits
counted-suggested : (s : Snippet Patch) → IsSuggestible s → counted_line s < 2 ^ 64
counted-suggested s can = grind (arith, last-fits, line_of-within, folded_small, s.source.text, s.line_start, can.lines, s.fold)

-- a number that fits 64 bits has at most 20 digits
pub digits : (number : ℕ) → number < 2 ^ 64 → length (decimal number) ≤ 20
digits number small = length-decimal-le 20 number (omega arith) (omega (arith, small)) small

wanted-low : (e : Element) → IsElementDrawable e → width_wanted e ≤ 20
wanted-low (Message m) drawable = omega arith
wanted-low (Cause s) drawable = grind (arith, decimal, digits, counted-small, s.line_numbering, drawable.numbers)
wanted-low (Suggestion s) drawable = grind (arith, decimal, digits, counted-suggested, s.line_numbering, s.markers.items)
wanted-low (Origin o) drawable = omega arith
wanted-low (Padding p) drawable = omega arith

-- so the gutter isn't wider
gutter-small : (r : Renderer) (groups : List Group) → All IsGroupDrawable groups → gutter_of_report r groups ≤ 20
gutter-small r groups drawable =
    let Low : Element → Type 0 = λ e. width_wanted e ≤ 20 in
    let each : All (λ (g : Group). All Low g.elements.items) groups = grind (arith, common_steps, All-weaker, Low, wanted-low) in
    cond_both r.anonymized_snippet_line_numbers 2 (fold (greater width_wanted) 0 (flat_map elements_of groups)) (λ n. n ≤ 20) (λ _. omega arith) (λ _.
    widest-low width_wanted 0 20 (flat_map elements_of groups) (omega arith) (all_elements Low groups each))

-- ---- and the layout has room

-- more bars push the code no less far
code-monotone : (gutter depth more : ℕ) → depth ≤ more → code_after gutter depth ≤ code_after gutter more
code-monotone gutter depth more low = by (depth == 0) (more == 0) refl refl
  where
    by : (none all : Bool) → (depth == 0) ≡ none → (more == 0) ≡ all
        → cond none (gutter + 3) (gutter + 3 + depth + 1) ≤ cond all (gutter + 3) (gutter + 3 + more + 1)
    by true true d m = omega arith
    by true false d m = omega arith
    by false true d m = grind (arith, nat_tests, low)
    by false false d m = omega (arith, low)

-- each element that a group of a report draws has room in the group's layout
pub room_in_report : (r : Renderer) (groups : List Group) → All IsGroupDrawable groups → (i : ℕ) (g : Group) → slice_get groups i ≡ Some g
    → All (HasRoomFor r (layout_of_group r groups g)) (drawn_elements g)
room_in_report r groups drawable i g is =
    let widest : ℕ = fold (greater width_wanted) 0 (flat_map elements_of groups) in
    let each : All (λ e. width_wanted e ≤ widest) g.elements.items = widest-group width_wanted 0 groups i g is in
    let deep : All (λ e. depth_of_element e ≤ depth_of_group g) g.elements.items = widest-each depth_of_element 0 g.elements.items in
    All-filter is_drawn (HasRoomFor r (layout_of_group r groups g)) g.elements.items (λ k d within. record {
      small = gutter-small r groups drawable;
      anonymized = λ on. omega (arith, ap (λ b. cond b 2 widest) on);
      numbers = λ off. omega (arith, ap (λ b. cond b 2 widest) off, each k d within);
      bars = code-monotone (gutter_of_report r groups) _ (depth_of_group g) (deep k d within);
    })
