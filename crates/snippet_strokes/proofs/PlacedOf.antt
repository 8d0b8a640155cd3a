-- The placed entries of a line, as the value that the rule gives: they are placed as painters place them.
use Rattle.std.proofs.lemmas.Grind.{common_steps}
use Rattle.snippet_strokes.proofs.Common.{◌≡◌, ℕ, suc, zero, true, false, List, [], ◌∷◌, All, length}
use Rattle.snippet_strokes.proofs.Common.{map, refl, sym, ap, ◌∙◌, subst, arith, inl, inr, zip, cases_Bool, cond-false, cond-true}
use Rattle.snippet_strokes.proofs.Common.{length-map, All-cons, All-nil, IsPermutation-map}
use Rattle.snippet_strokes.proofs.Common.{ordered_by, put_in, All-put_in, LineAnnotation, is_placed_before, line_positions, look_counts}
use Rattle.snippet_strokes.proofs.Common.{placed_of, position_after, position_at, ArePlaced, HasItsLabel, IsFromRight, StandsLeft, unplaced}
use Rattle.snippet_strokes.proofs.Common.{PlacedEntry, labelled, placed_at, ArePlaced-from, placed_of-at, rules}
use Rattle.snippet_strokes.proofs.PositionLemmas.{length-line_positions}
use Rattle.snippet_strokes.proofs.PaintOrder.{IsPermutation-ordered_by}
use Rattle.snippet_strokes.proofs.Common.{Layout}

-- ---- the order from right to left

-- of two entries the one that is placed first stands no farther left
StandsLeft-before : (e f : LineAnnotation) → is_placed_before e f ≡ true → StandsLeft e f
StandsLeft-before e f is = search rules

StandsLeft-after : (e f : LineAnnotation) → is_placed_before e f ≡ false → StandsLeft f e
StandsLeft-after e f is = search rules

StandsLeft-over : (a b c : LineAnnotation) → StandsLeft a b → StandsLeft b c → StandsLeft a c
StandsLeft-over a b c first second = search rules

-- each entry of a list stands right of all after it
abbrev Falls : List LineAnnotation → Type 0
Falls [] = Unit {0}
Falls (e ∷ es) = All (StandsLeft e) es × Falls es

Falls-put_in : (x : LineAnnotation) (ys : List LineAnnotation) → Falls ys → Falls (put_in is_placed_before x ys)
Falls-put_in x [] falls = (All-nil (StandsLeft x), tt)
Falls-put_in x (y ∷ ys) falls =
    let after : List LineAnnotation = y ∷ put_in is_placed_before x ys in
    let before : List LineAnnotation = x ∷ y ∷ ys in
    elim (cases_Bool (is_placed_before y x)) [
      | inl is ↦
          subst Falls (sym (cond-true (is_placed_before y x) after before is))
          (All-put_in is_placed_before (StandsLeft y) x ys (StandsLeft-before y x is) falls.0, Falls-put_in x ys falls.1)
      | inr not ↦ grind (arith, common_steps, cond-false, after, before, All-cons, falls.0)
    ]

Falls-ordered_by : (es : List LineAnnotation) → Falls (ordered_by is_placed_before es)
Falls-ordered_by [] = tt
Falls-ordered_by (e ∷ es) = Falls-put_in e (ordered_by is_placed_before es) (Falls-ordered_by es)

from_right : (es : List LineAnnotation) → Falls es → IsFromRight es
from_right [] falls i j d before within = absurd (omega (arith, within))
from_right (e ∷ es) falls zero zero d before within = record { column = omega arith; character = λ same. omega arith }
from_right (e ∷ es) falls zero (suc j) d before within = falls.0 j d (omega (arith, within))
from_right (e ∷ es) falls (suc i) zero d before within = absurd (omega (arith, before))
from_right (e ∷ es) falls (suc i) (suc j) d before within = from_right es falls.1 i j d (omega (arith, before)) (omega (arith, within))

-- ---- the places

entries-labelled : (layout : Layout) (es : List LineAnnotation) → map (λ (e : PlacedEntry). e.entry) (labelled layout es) ≡ es
entries-labelled layout [] = refl
entries-labelled layout (e ∷ es) = ap (λ xs. e ∷ xs) (entries-labelled layout es)

labels-labelled : (layout : Layout) (es : List LineAnnotation) → All (HasItsLabel layout) (labelled layout es)
labels-labelled layout [] = All-nil (HasItsLabel layout)
labels-labelled layout (e ∷ es) = All-cons (HasItsLabel layout) (placed_at layout (e, (0, 0))) (labelled layout es) refl (labels-labelled layout es)

length-look_counts : (p : ℕ) (es : List PlacedEntry) → length (look_counts p es) ≡ length es
length-look_counts p [] = refl
length-look_counts p (e ∷ es) = omega (arith, length-look_counts (position_after (position_at p e es) e es) es)

-- entries at places that are as many
abbrev at_places : Layout → List LineAnnotation → List ℕ → List ℕ → List PlacedEntry
at_places layout es ps ns = map (placed_at layout) (zip es (zip ps ns))

positions-at_places : (layout : Layout) (es : List LineAnnotation) (ps ns : List ℕ) → length ps ≡ length es → length ns ≡ length es
    → map (λ (e : PlacedEntry). e.position) (at_places layout es ps ns) ≡ ps
positions-at_places layout [] [] ns long_ps long_ns = refl
positions-at_places layout [] (p ∷ ps) ns long_ps long_ns = absurd (omega (arith, long_ps))
positions-at_places layout (e ∷ es) [] ns long_ps long_ns = absurd (omega (arith, long_ps))
positions-at_places layout (e ∷ es) (p ∷ ps) [] long_ps long_ns = absurd (omega (arith, long_ns))
positions-at_places layout (e ∷ es) (p ∷ ps) (n ∷ ns) long_ps long_ns =
    ap (λ xs. p ∷ xs) (positions-at_places layout es ps ns (omega (arith, long_ps)) (omega (arith, long_ns)))

counts-at_places : (layout : Layout) (es : List LineAnnotation) (ps ns : List ℕ) → length ps ≡ length es → length ns ≡ length es
    → map (λ (e : PlacedEntry). e.looked) (at_places layout es ps ns) ≡ ns
counts-at_places layout [] ps [] long_ps long_ns = refl
counts-at_places layout [] ps (n ∷ ns) long_ps long_ns = absurd (omega (arith, long_ns))
counts-at_places layout (e ∷ es) [] ns long_ps long_ns = absurd (omega (arith, long_ps))
counts-at_places layout (e ∷ es) (p ∷ ps) [] long_ps long_ns = absurd (omega (arith, long_ns))
counts-at_places layout (e ∷ es) (p ∷ ps) (n ∷ ns) long_ps long_ns =
    ap (λ xs. n ∷ xs) (counts-at_places layout es ps ns (omega (arith, long_ps)) (omega (arith, long_ns)))

unplaced-at_places : (layout : Layout) (es : List LineAnnotation) (ps ns : List ℕ) → length ps ≡ length es → length ns ≡ length es
    → map unplaced (at_places layout es ps ns) ≡ map unplaced (labelled layout es)
unplaced-at_places layout [] ps ns long_ps long_ns = refl
unplaced-at_places layout (e ∷ es) [] ns long_ps long_ns = absurd (omega (arith, long_ps))
unplaced-at_places layout (e ∷ es) (p ∷ ps) [] long_ps long_ns = absurd (omega (arith, long_ns))
unplaced-at_places layout (e ∷ es) (p ∷ ps) (n ∷ ns) long_ps long_ns =
    ap (λ xs. unplaced (placed_at layout (e, (p, n))) ∷ xs) (unplaced-at_places layout es ps ns (omega (arith, long_ps)) (omega (arith, long_ns)))

-- the entries of a line, placed as the rule says
pub placed_of_are : (layout : Layout) (es : List LineAnnotation) → ArePlaced layout es (placed_of layout es)
placed_of_are layout es =
    let entry : PlacedEntry → LineAnnotation = λ e. e.entry in
    let ordered : List LineAnnotation = ordered_by is_placed_before es in
    let sorted : List PlacedEntry = labelled layout ordered in
    let ps : List ℕ = line_positions sorted in
    let ns : List ℕ = look_counts 0 sorted in
    let all : length sorted ≡ length ordered = length-map ordered (λ e. placed_at layout (e, (0, 0))) in
    let long_ps : length ps ≡ length ordered = length-line_positions sorted ∙ all in
    let long_ns : length ns ≡ length ordered = length-look_counts 0 sorted ∙ all in
    subst (ArePlaced layout es) (sym (placed_of-at layout es))
    (ArePlaced-from layout es (labelled layout es) sorted (at_places layout ordered ps ns) (entries-labelled layout es) (labels-labelled layout es)
    (IsPermutation-map (λ e. placed_at layout (e, (0, 0))) es ordered (IsPermutation-ordered_by is_placed_before es))
    (entries-labelled layout ordered ∙ ap (ordered_by is_placed_before) (sym (entries-labelled layout es)))
    (subst IsFromRight (sym (entries-labelled layout ordered)) (from_right ordered (Falls-ordered_by es)))
    (positions-at_places layout ordered ps ns long_ps long_ns) (counts-at_places layout ordered ps ns long_ps long_ns)
    (unplaced-at_places layout ordered ps ns long_ps long_ns))
