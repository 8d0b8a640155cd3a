-- Entries that need one row: where their labels stand, and their order.
use Rattle.snippet_labels.proofs.Common.{BeginLeftOf, ◌≡◌, ℕ, zero, suc, ◌+◌, ◌<◌, ◌≤◌, ◌==◌, ◌&&◌, ◌||◌, nat_lt, not, Bool}
use Rattle.snippet_labels.proofs.Common.{true, false, List, [], ◌∷◌, length, map, get_or, sym, ap, ◌∙◌, subst, arith, inl, inr, nat_cmp, is_lt}
use Rattle.snippet_labels.proofs.Common.{IsStrictWeakOrder, IsSortedBy, IsStableBy, ties, ordering_then, Reverse, cases_lt, nat_tests, get_or-map, length-map}
use Rattle.snippet_labels.proofs.Common.{filter_agree, ordered_by, map-ordered_by, sorted-only, LineAnnotation, PlacedEntry, is_placed_before, StandsLeft}
use Rattle.snippet_labels.proofs.Common.{IsFromRight, ◌-◌, cond, ◌++◌, drop, reverse, refl, All, list_any, range_with_len, IsPermutation, and-false}
use Rattle.snippet_labels.proofs.Common.{cond-true, append_assoc, append-nil, drop_more, length-reverse, map_push, reverse-append, reverse-reverse, All-append}
use Rattle.snippet_labels.proofs.Common.{All-cons, All-head, All-nil, All-tail, list_any_none, IsPermutation-reverse, put_in, range-pushed, are_starts, crosses}
use Rattle.snippet_labels.proofs.Common.{has_label, line_positions, ArePlaced, FitsLeftOf, HasItsLabel, StandInRow, look_counts, looked_after}
use Rattle.snippet_labels.proofs.Common.{position_after, position_at, positions, rules, takes_space, label_at, Layout}
use Rattle.snippet_labels.proofs.PlacedLemmas.{no_position, crowds}

entry_of : PlacedEntry → LineAnnotation
entry_of e = e.entry

-- each fits left of the column that the first one does
all_fit : (column : ℕ) (ps : List PlacedEntry) → StandInRow column ps → All (FitsLeftOf column) ps
all_fit column [] stand k d within = absurd (omega (arith, within))
all_fit column (e ∷ left) stand zero d within = stand.0
all_fit column (e ∷ left) stand (suc k) d within = grind (arith, all_fit e.entry.start.display left stand.1 k d (omega (arith, within)))

-- ---- no label is in the way

not_crossed : (e other : PlacedEntry) → FitsLeftOf e.entry.start.display other → crosses e other ≡ false
not_crossed e other fits = search rules

not_crowded : (column : ℕ) (e other : PlacedEntry) → FitsLeftOf column e → FitsLeftOf e.entry.start.display other → crowds 0 e other ≡ false
not_crowded column e other own fits = search rules

row_uncrossed : (e : PlacedEntry) (left : List PlacedEntry) → StandInRow e.entry.start.display left → list_any (crosses e) left ≡ false
row_uncrossed e left stand =
    list_any_none (crosses e) left (λ k d within. not_crossed e (get_or left k d) (all_fit e.entry.start.display left stand k d within))

row_uncrowded : (column : ℕ) (e : PlacedEntry) (left : List PlacedEntry) → StandInRow column (e ∷ left) → list_any (crowds 0 e) left ≡ false
row_uncrowded column e left stand =
    list_any_none (crowds 0 e) left (λ k d within. not_crowded column e (get_or left k d) stand.0 (all_fit e.entry.start.display left stand.1 k d within))

here_0 : (e : PlacedEntry) (left : List PlacedEntry) → StandInRow e.entry.start.display left → position_at 0 e left ≡ 0
here_0 e left stand =
    ap (λ b. cond ((0 == 0) && (has_label e && b)) 1 0) (row_uncrossed e left stand) ∙ ap (λ b. cond b 1 0) (and-false (has_label e))

after_0 : (column : ℕ) (e : PlacedEntry) (left : List PlacedEntry) → StandInRow column (e ∷ left) → position_after 0 e left ≡ 0
after_0 column e left stand = ap (λ b. cond b (0 + length (label_at 0 e.label)) 0) (row_uncrowded column e left stand)

-- so all stand at position 0
positions_0 : (column : ℕ) (ps : List PlacedEntry) → StandInRow column ps → All (λ e. e.position ≡ 0) ps
    → map (λ (e : PlacedEntry). e.position) ps ≡ positions 0 ps
positions_0 column [] stand none = refl
positions_0 column (e ∷ left) stand none =
    let at : PlacedEntry → ℕ = λ e. e.position in
    ap (λ q. q ∷ map at left) (All-head (λ (e : PlacedEntry). e.position ≡ 0) e left none)
    ∙ ap (λ qs. 0 ∷ qs) (positions_0 e.entry.start.display left stand.1 (All-tail (λ (e : PlacedEntry). e.position ≡ 0) e left none))
    ∙ sym (ap (λ q. q ∷ positions (position_after q e left) left) (here_0 e left stand.1) ∙ ap (λ q. 0 ∷ positions q left) (after_0 column e left stand))

-- none is a start without a label
starts_none : (e : PlacedEntry) (left : List PlacedEntry) → takes_space e ≡ false → are_starts (e ∷ left) ≡ false
starts_none e left single = search rules

line_positions_0 : (column : ℕ) (ps : List PlacedEntry) → StandInRow column ps → All (λ e. e.position ≡ 0) ps
    → map (λ (e : PlacedEntry). e.position) ps ≡ line_positions ps
line_positions_0 column [] stand none = refl
line_positions_0 column (e ∷ left) stand none = search (rules, positions_0, starts_none)

-- and all that stand left of one are looked at
looked_all : (e : PlacedEntry) (left : List PlacedEntry) → StandInRow e.entry.start.display left → looked_after 0 e left ≡ length left
looked_all e left stand = grind (arith, no_position, row_uncrossed)

look_counts_down : (column : ℕ) (ps : List PlacedEntry) → StandInRow column ps → look_counts 0 ps ≡ reverse (range_with_len 0 (length ps))
look_counts_down column [] stand = refl
look_counts_down column (e ∷ left) stand =
    let n = length left in
    ap (λ m. m ∷ look_counts (position_after (position_at 0 e left) e left) left) (looked_all e left stand.1)
    ∙ ap (λ q. n ∷ look_counts (position_after q e left) left) (here_0 e left stand.1) ∙ ap (λ q. n ∷ look_counts q left) (after_0 column e left stand)
    ∙ ap (λ ns. n ∷ ns) (look_counts_down e.entry.start.display left stand.1) ∙ sym (reverse-append (range_with_len 0 n) (n ∷ []))
    ∙ ap reverse (sym (one_more n))
  where
    one_more : (n : ℕ) → range_with_len 0 (suc n) ≡ range_with_len 0 n ++ n ∷ []
    one_more n =
        let next : suc n ≡ n + 1 - 0 = omega arith in
        let same : n - 0 ≡ n = omega arith in
        ap (range_with_len 0) next ∙ range-pushed 0 n (omega arith) ∙ ap (λ m. range_with_len 0 m ++ n ∷ []) same

-- ---- their order

-- what comes after all of a list in order is put at its end
put_last : (x : LineAnnotation) (ys : List LineAnnotation) → All (λ y. x.start.display < y.start.display) ys → put_in is_placed_before x ys ≡ ys ++ x ∷ []
put_last x [] right = refl
put_last x (y ∷ ys) right =
    let first : is_placed_before y x ≡ true = before y.start.display x.start.display y.start.char x.start.char (right 0 y (omega arith)) in
    cond-true (is_placed_before y x) (y ∷ put_in is_placed_before x ys) (x ∷ y ∷ ys) first
    ∙ ap (λ l. y ∷ l) (put_last x ys (All-tail (λ (y : LineAnnotation). x.start.display < y.start.display) y ys right))
  where
    before : (a b c d : ℕ) → b < a → (nat_lt b a || (a == b && nat_lt d c)) ≡ true
    before a b c d less = grind (arith, nat_tests)

-- each begins left of the column that the first one does
all_left : (column : ℕ) (ps : List PlacedEntry) → BeginLeftOf column ps → All (λ e. e.entry.start.display < column) ps
all_left column [] apart k d within = absurd (omega (arith, within))
all_left column (e ∷ left) apart zero d within = apart.0
all_left column (e ∷ left) apart (suc k) d within =
    omega (arith, all_left e.entry.start.display left apart.1 k d (omega (arith, within)), apart.0)

row_apart_begins : (column : ℕ) (ps : List PlacedEntry) → StandInRow column ps → BeginLeftOf column ps
row_apart_begins column [] stand = tt
row_apart_begins column (e ∷ left) stand = (stand.0.begins, row_apart_begins e.entry.start.display left stand.1)

-- those left of a list in order are put after it
put_left : (column : ℕ) (ps : List PlacedEntry) (given ordered : List LineAnnotation) → BeginLeftOf column ps → All (λ y. column ≤ y.start.display) ordered
    → ordered_by is_placed_before given ≡ ordered → ordered_by is_placed_before (reverse (map entry_of ps) ++ given) ≡ ordered ++ map entry_of ps
unfolding entry_of
put_left column [] given ordered apart right is = is ∙ sym (append-nil ordered)
put_left column (e ∷ left) given ordered apart right is =
    let f : PlacedEntry → LineAnnotation = entry_of in
    let start = e.entry.start.display in
    let less : All (λ (y : LineAnnotation). start < y.start.display) ordered = λ k d within. omega (arith, right k d within, apart.0) in
    let put : ordered_by is_placed_before (e.entry ∷ given) ≡ ordered ++ e.entry ∷ [] =
    ap (put_in is_placed_before e.entry) is ∙ put_last e.entry ordered less in
    let all : All (λ (y : LineAnnotation). start ≤ y.start.display) (ordered ++ e.entry ∷ []) =
    All-append (λ (y : LineAnnotation). start ≤ y.start.display) ordered (e.entry ∷ []) (λ k d within. omega (arith, less k d within))
    (All-cons (λ (y : LineAnnotation). start ≤ y.start.display) e.entry [] (omega arith) (All-nil (λ (y : LineAnnotation). start ≤ y.start.display))) in
    ap (λ l. ordered_by is_placed_before (l ++ given)) (reverse-append (e.entry ∷ []) (map f left))
    ∙ ap (ordered_by is_placed_before) (append_assoc (reverse (map f left)) (e.entry ∷ []) given)
    ∙ put_left start left (e.entry ∷ given) (ordered ++ e.entry ∷ []) apart.1 all put ∙ append_assoc ordered (e.entry ∷ []) (map f left)

StandsLeft-far : (e f : LineAnnotation) → f.start.display < e.start.display → StandsLeft e f
StandsLeft-far e f left = record { column = omega (arith, left); character = λ same. absurd (omega (arith, left, same)) }

-- so entries that are listed from the last to the first, each left of the one before it, stand from right to left
pub listed_from_right : (column : ℕ) (ps : List PlacedEntry) → BeginLeftOf column ps → IsFromRight (map (λ (e : PlacedEntry). e.entry) ps)
listed_from_right column [] apart i j d before within = absurd (omega (arith, within))
listed_from_right column (e ∷ left) apart zero zero d before within = record { column = omega arith; character = λ same. omega arith }
listed_from_right column (e ∷ left) apart zero (suc j) d before within =
    let f : PlacedEntry → LineAnnotation = λ e. e.entry in
    let fits : j < length left = omega (arith, within, length-map left f) in
    subst (StandsLeft e.entry) (sym (get_or-map f left j e d fits))
    (StandsLeft-far e.entry (get_or left j e).entry (all_left e.entry.start.display left apart.1 j e fits))
listed_from_right column (e ∷ left) apart (suc i) zero d before within = absurd (omega (arith, before))
listed_from_right column (e ∷ left) apart (suc i) (suc j) d before within =
    listed_from_right e.entry.start.display left apart.1 i j d (omega (arith, before)) (omega (arith, within))

-- and in the order of placing
pub listed_in_order : (column : ℕ) (ps : List PlacedEntry) → BeginLeftOf column ps
    → map (λ (e : PlacedEntry). e.entry) ps ≡ ordered_by is_placed_before (reverse (map (λ (e : PlacedEntry). e.entry) ps))
unfolding entry_of
listed_in_order column ps apart =
    sym (put_left column ps [] [] apart (All-nil (λ (y : LineAnnotation). column ≤ y.start.display)) refl)
    ∙ ap (ordered_by is_placed_before) (append-nil (reverse (map entry_of ps)))

-- ---- how they are listed

-- one more is listed
pub reverse_more : {X : Type 0} (xs : List X) (x : X) → reverse xs ++ x ∷ [] ≡ reverse (x ∷ xs)
reverse_more xs x = sym (reverse-append (x ∷ []) xs)

pub map-reverse : {X Y : Type 0} (f : X → Y) (xs : List X) → map f (reverse xs) ≡ reverse (map f xs)
map-reverse f [] = refl
map-reverse f (x ∷ xs) =
    ap (map f) (sym (reverse_more xs x)) ∙ map_push f (reverse xs) x ∙ ap (λ l. l ++ f x ∷ []) (map-reverse f xs) ∙ reverse_more (map f xs) (f x)

pub labelled_more : (sh : LineAnnotation → LineAnnotation) (es : List LineAnnotation) (i : ℕ) (e d : LineAnnotation) → 0 < i → i ≤ length es
    → e ≡ sh (get_or es (i - 1) d) → reverse (map sh (drop i es)) ++ e ∷ [] ≡ reverse (map sh (drop (i - 1) es))
labelled_more sh es i e d some within is = grind (arith, drop_more, reverse_more)

pub counts_more : (n i : ℕ) → 0 < i → i ≤ n → reverse (range_with_len i (n - i)) ++ (i - 1) ∷ [] ≡ reverse (range_with_len (i - 1) (n - (i - 1)))
counts_more n i some within =
    let more : n - (i - 1) ≡ suc (n - i) = omega arith in
    let next : i - 1 + 1 ≡ i = omega arith in
    reverse_more (range_with_len i (n - i)) (i - 1) ∙ ap (λ m. reverse ((i - 1) ∷ range_with_len m (n - i))) (sym next)
    ∙ ap (λ m. reverse (range_with_len (i - 1) m)) (sym more)

-- entries that are listed from the last to the first, and need one row, are placed
pub ArePlaced-row : (layout : Layout) (es : List LineAnnotation) (column : ℕ) (ps : List PlacedEntry) → map (λ (e : PlacedEntry). e.entry) ps ≡ reverse es
    → All (HasItsLabel layout) ps → All (λ e. e.position ≡ 0) ps
    → map (λ (e : PlacedEntry). e.looked) ps ≡ reverse (range_with_len 0 (length es)) → StandInRow column ps → ArePlaced layout es ps
unfolding entry_of
ArePlaced-row layout es column ps are labels none looked stand =
    let f : PlacedEntry → LineAnnotation = entry_of in
    let given : reverse (map f ps) ≡ es = ap reverse are ∙ reverse-reverse es in
    let count : length es ≡ length ps = sym (length-reverse es) ∙ ap length (sym are) ∙ length-map ps f in
    record {
      order = listed_in_order column ps (row_apart_begins column ps stand) ∙ ap (ordered_by is_placed_before) given;
      same = subst (IsPermutation es) (sym are) (IsPermutation-reverse es);
      from_right = listed_from_right column ps (row_apart_begins column ps stand);
      labels = labels;
      positions_are = line_positions_0 column ps stand none;
      looked_are = looked ∙ ap (λ n. reverse (range_with_len 0 n)) count ∙ sym (look_counts_down column ps stand);
    }

-- The order that entries are placed in.
-- neighbours that are in an order put the whole list in it
from_neighbours : (R : LineAnnotation → LineAnnotation → Type 0) → ((a : LineAnnotation) → R a a) → ((a b c : LineAnnotation) → R a b → R b c → R a c)
    → (es : List LineAnnotation) → ((k : ℕ) (d : LineAnnotation) → k + 1 < length es → R (get_or es k d) (get_or es (k + 1) d))
    → (i j : ℕ) (d : LineAnnotation) → i ≤ j → j < length es → R (get_or es i d) (get_or es j d)
from_neighbours R same trans es next i zero d before within = search rules
from_neighbours R same trans es next i (suc j) d before within =
    let one : j + 1 ≡ suc j = omega arith in
    elim (cases_lt i (suc j)) [
      | inl less ↦
          trans _ (get_or es j d) _ (from_neighbours R same trans es next i j d (omega arith) (omega arith))
          (subst (λ n. R (get_or es j d) (get_or es n d)) one (next j d (omega arith)))
      | inr more ↦
          let here : i ≡ suc j = omega arith in
          subst (λ n. R (get_or es i d) (get_or es n d)) here (same (get_or es i d))
    ]

-- what is known of neighbours among placed entries is known of their entries
entries_next : (R : LineAnnotation → LineAnnotation → Type 0) (first : PlacedEntry) (ps : List PlacedEntry)
    → ((k : ℕ) → k + 1 < length ps → R (get_or ps k first).entry (get_or ps (k + 1) first).entry) → (k : ℕ) (d : LineAnnotation)
    → k + 1 < length (map (λ (e : PlacedEntry). e.entry) ps)
    → R (get_or (map (λ (e : PlacedEntry). e.entry) ps) k d) (get_or (map (λ (e : PlacedEntry). e.entry) ps) (k + 1) d)
entries_next R first ps next k d within =
    let f : PlacedEntry → LineAnnotation = λ e. e.entry in
    let fits : k + 1 < length ps = omega (arith, within, length-map ps f) in
    subst (λ e. R e (get_or (map f ps) (k + 1) d)) (sym (get_or-map f ps k first d (omega arith)))
    (subst (R (get_or ps k first).entry) (sym (get_or-map f ps (k + 1) first d fits)) (next k fits))

-- the key that entries are placed by
abbrev pub place_key : PlacedEntry → Reverse (ℕ × ℕ)
place_key e = record { 0 = (e.entry.start.display, e.entry.start.char) }

-- what such a key that is no less says
place_not_less : (m n p q : ℕ) → is_lt (ordering_then (nat_cmp m n) (nat_cmp p q)) ≡ false → (n ≤ m) × (n ≡ m → q ≤ p)
place_not_less m n p q not_less = (grind (arith, nat_tests), λ same. grind (arith, nat_tests))

StandsLeft-refl : (e : LineAnnotation) → StandsLeft e e
StandsLeft-refl e = record { column = omega arith; character = λ _. omega arith }

StandsLeft-trans : (a b c : LineAnnotation) → StandsLeft a b → StandsLeft b c → StandsLeft a c
StandsLeft-trans a b c first second = search rules

-- entries that are sorted by that key stand from right to left
pub from_right_from_sort : (ps : List PlacedEntry)
    → ((k : ℕ) (d : PlacedEntry) → 0 ≤ k → k + 1 < length ps → is_lt (ordering_then
    (nat_cmp (place_key (get_or ps k d)).0.0 (place_key (get_or ps (k + 1) d)).0.0)
    (nat_cmp (place_key (get_or ps k d)).0.1 (place_key (get_or ps (k + 1) d)).0.1)) ≡ false) → IsFromRight (map (λ (e : PlacedEntry). e.entry) ps)
from_right_from_sort [] sorted = λ i j d before within. absurd (omega arith)
from_right_from_sort (first ∷ rest) sorted =
    let ps = first ∷ rest in
    let es = map (λ (e : PlacedEntry). e.entry) ps in
    let next : (k : ℕ) → k + 1 < length ps → StandsLeft (get_or ps k first).entry (get_or ps (k + 1) first).entry = λ k fits.
    let a = get_or ps k first in
    let b = get_or ps (k + 1) first in
    let step = place_not_less a.entry.start.display b.entry.start.display a.entry.start.char b.entry.start.char (sorted k first (omega arith) fits) in
    record { column = step.0; character = step.1 } in
    from_neighbours StandsLeft StandsLeft-refl StandsLeft-trans es (entries_next StandsLeft first ps next)

-- ---- what a stable sort makes of entries

-- the code's order of placing is that of the definition
abbrev pub place_less : PlacedEntry → PlacedEntry → Bool
place_less x y =
    is_lt (ordering_then (nat_cmp (place_key y).0.0 (place_key x).0.0) (nat_cmp (place_key y).0.1 (place_key x).0.1))

place_tells : (a b c d : ℕ) → is_lt (ordering_then (nat_cmp c a) (nat_cmp d b)) ≡ (nat_lt c a || (a == c && nat_lt d b))
place_tells a b c d = grind (arith, nat_tests)

placed_before : PlacedEntry → PlacedEntry → Bool
placed_before x y = is_placed_before x.entry y.entry

place_order : IsStrictWeakOrder placed_before
unfolding placed_before
place_order = search rules

-- a stable sort by one test is one by a test that answers the same
module _ {X : Type 0} (lt by : X → X → Bool) (same : (x y : X) → lt x y ≡ by x y) where
  pub sorted_same : (xs : List X) → IsSortedBy lt xs → IsSortedBy by xs
  sorted_same xs sorted k d low fits =
      sym (same (get_or xs (k + 1) d) (get_or xs k d)) ∙ sorted k d low fits

  ties_same : (x y : X) → ties lt x y ≡ ties by x y
  ties_same x y = ap (λ b. not b && not (lt y x)) (same x y) ∙ ap (λ b. not (by x y) && not b) (same y x)

  pub stable_same : (xs ys : List X) → IsStableBy lt xs ys → IsStableBy by xs ys
  stable_same xs ys stable x =
      sym (filter_agree (ties lt x) (ties by x) (ties_same x) ys) ∙ stable x ∙ filter_agree (ties lt x) (ties by x) (ties_same x) xs

-- so entries that are sorted by that key are those that are given, in order
pub order_of_sort : (given sorted : List PlacedEntry) → IsSortedBy place_less sorted → IsStableBy place_less given sorted
    → map (λ (e : PlacedEntry). e.entry) sorted ≡ ordered_by is_placed_before (map (λ (e : PlacedEntry). e.entry) given)
unfolding placed_before
order_of_sort given sorted up stable =
    let f : PlacedEntry → LineAnnotation = λ e. e.entry in
    let same : (x y : PlacedEntry) → place_less x y ≡ placed_before x y = λ x y.
    place_tells x.entry.start.display x.entry.start.char y.entry.start.display y.entry.start.char in
    ap (map f) (sorted-only placed_before place_order given sorted (sorted_same place_less placed_before same sorted up)
    (stable_same place_less placed_before same given sorted stable)) ∙ map-ordered_by f is_placed_before given

-- ---- the order of painting
