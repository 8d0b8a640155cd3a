-- Which entries are overlapped: what the code finds step by step is what the rule says.
use Rattle.std.proofs.lemmas.Grind.{common_steps}
use Rattle.snippet_strokes.proofs.Common.{◌≡◌, ◌∙◌, ℕ, zero, suc, ◌+◌, ◌-◌, ◌≤◌, Bool, true, false, ◌&&◌, ◌||◌, List, []}
use Rattle.snippet_strokes.proofs.Common.{◌∷◌, ◌++◌, take, drop, length, map, refl, sym, ap, inl, inr, arith, enumerate_from, list_any, append_assoc}
use Rattle.snippet_strokes.proofs.Common.{length-append, get_or-append_seam, cases_lt, nat_tests, PlacedEntry, do_overlap, overlapped, sees, is_met, look_ends}
use Rattle.snippet_strokes.proofs.Common.{entry_width, is_wide_entry, meets, overlapped_by}
use Rattle.std.specs.Prelude.{◌*◌, nat_le, nat_lt}
use Rattle.snippet_parts.specs.Entries.{is_single_part}

-- ---- tests of a list

-- a test that each fails, where this much is known beside it
list_any-and : {X : Type 0} (b : Bool) (p : X → Bool) (xs : List X) → (b && list_any p xs) ≡ list_any (λ x. b && p x) xs
list_any-and true p xs = refl
list_any-and false p [] = refl
list_any-and false p (x ∷ xs) = list_any-and false p xs

list_any-or : {X : Type 0} (p q : X → Bool) (xs : List X) → (list_any p xs || list_any q xs) ≡ list_any (λ x. p x || q x) xs
list_any-or p q [] = refl
list_any-or p q (x ∷ xs) = grind (arith, list_any-or p q xs)

-- ---- elements with their numbers

none_from : {X : Type 0} (p : ℕ × X → Bool) (s : ℕ) (xs : List X) → ((y : ℕ × X) → s ≤ y.0 → p y ≡ false) → list_any p (enumerate_from s xs) ≡ false
none_from p s [] none = refl
none_from p s (x ∷ xs) none =
    ap (λ b. b || list_any p (enumerate_from (s + 1) xs)) (none (s, x) (omega arith)) ∙ none_from p (s + 1) xs (λ y from. none y (omega (arith, from)))

-- whether an element passes a test, and its number is from one to before another
abbrev is_within : {X : Type 0} → (X → Bool) → ℕ → ℕ → ℕ × X → Bool
is_within p from to y = nat_le from y.0 && (nat_lt y.0 to && p y.1)

past_end : {X : Type 0} (p : X → Bool) (from to : ℕ) (y : ℕ × X) → to ≤ y.0 → is_within p from to y ≡ false
past_end p from to y past = grind (arith, nat_tests)

nothing : {X : Type 0} (m n : ℕ) → drop {A = X} m (take n []) ≡ []
nothing zero zero = refl
nothing zero (suc n) = refl
nothing (suc m) zero = refl
nothing (suc m) (suc n) = refl

nothing_more : {X : Type 0} (m : ℕ) (xs : List X) → drop {A = X} m (take 0 xs) ≡ []
nothing_more zero xs = refl
nothing_more (suc m) xs = refl

-- some of the elements from one place to before another passes a test, if one of the numbered ones does
pub any_within : {X : Type 0} (p : X → Bool) (from to s : ℕ) (xs : List X)
    → list_any p (drop (from - s) (take (to - s) xs)) ≡ list_any (is_within p from to) (enumerate_from s xs)
any_within p from to s [] = ap (list_any p) (nothing (from - s) (to - s))
any_within {X = X} p from to s (x ∷ xs) =
    elim (cases_lt s to) [
      | inr past ↦ grind (arith, common_steps, nothing_more, none_from)
      | inl inside ↦
          let more : to - s ≡ suc (to - (s + 1)) = omega (arith, inside) in
          let rest : List X = take (to - (s + 1)) xs in
          ap (λ n. list_any p (drop (from - s) (take n (x ∷ xs)))) more
          ∙ elim (cases_lt s from) [
            | inl before ↦
                let fewer : from - s ≡ suc (from - (s + 1)) = omega (arith, before) in
                let out : is_within p from to (s, x) ≡ false = grind (arith, nat_tests, before) in
                ap (λ n. list_any p (drop n (x ∷ rest))) fewer ∙ any_within p from to (s + 1) xs
                ∙ ap (λ b. b || list_any (is_within p from to) (enumerate_from (s + 1) xs)) (sym out)
            | inr reached ↦
                let zero_here : from - s ≡ 0 = omega (arith, reached) in
                let zero_next : from - (s + 1) ≡ 0 = omega (arith, reached) in
                let here : is_within p from to (s, x) ≡ p x = grind (arith, nat_tests, reached, inside) in
                let later : list_any p rest ≡ list_any (is_within p from to) (enumerate_from (s + 1) xs) =
                ap (λ n. list_any p (drop n rest)) (sym zero_next) ∙ any_within p from to (s + 1) xs in
                ap (λ n. list_any p (drop n (x ∷ rest))) zero_here ∙ ap (λ b. p x || b) later
                ∙ ap (λ b. b || list_any (is_within p from to) (enumerate_from (s + 1) xs)) (sym here)
          ]
    ]

-- ---- entries

-- an entry is met if one that is numbered sees it
met_by_number : (k : ℕ) (e : PlacedEntry) (s : ℕ) (es : List PlacedEntry)
    → is_met k e es (look_ends s es) ≡ list_any (λ y. nat_lt k (y.0 + 1 + y.1.looked) && do_overlap e 0 y.1) (enumerate_from s es)
met_by_number k e s [] = refl
met_by_number k e s (other ∷ es) = ap (λ b. (nat_lt k (s + 1 + other.looked) && do_overlap e 0 other) || b) (met_by_number k e (s + 1) es)

-- an entry is overlapped if it sees one, or is seen by one
is_seen : (placed : List PlacedEntry) (k n : ℕ) (e : PlacedEntry) → n ≡ k + 1 + e.looked
    → (meets e (take n placed) || (nat_le 2 k && is_met k e placed (look_ends 0 placed)))
    ≡ list_any (λ y. sees k e y.0 y.1 || sees y.0 y.1 k e) (enumerate_from 0 placed)
is_seen placed k n e end =
    let is_hit : PlacedEntry → Bool = λ other. do_overlap other 0 e in
    let from_it : meets e (take n placed) ≡ list_any (λ y. sees k e y.0 y.1) (enumerate_from 0 placed) =
    ap (λ m. list_any is_hit (drop 2 (take m placed))) (omega (arith, end))
    ∙ any_within is_hit 2 (k + 1 + e.looked) 0 placed in
    simp (from_it, met_by_number, list_any-and, list_any-or)

-- the flags from one entry on, before which there are so many
flags_from : (placed : List PlacedEntry) (front : List ℕ) (k : ℕ) (es : List PlacedEntry) → look_ends 0 placed ≡ front ++ look_ends k es → length front ≡ k
    → overlapped_by placed (look_ends 0 placed) k es
    ≡ map (λ x. list_any (λ y. sees x.0 x.1 y.0 y.1 || sees y.0 y.1 x.0 x.1) (enumerate_from 0 placed)) (enumerate_from k es)
flags_from placed front k [] parts count = refl
flags_from placed front k (e ∷ es) parts count =
    let next : look_ends 0 placed ≡ (front ++ (k + 1 + e.looked) ∷ []) ++ look_ends (k + 1) es = grind (arith, common_steps, append_assoc, e.looked) in
    let rest = flags_from placed (front ++ (k + 1 + e.looked) ∷ []) (k + 1) es next (omega (arith, count, length-append front ((k + 1 + e.looked) ∷ []))) in
    grind (arith, get_or-append_seam, is_seen)

-- what the code finds is the rule
pub overlapped_looked : (placed : List PlacedEntry) → overlapped_by placed (look_ends 0 placed) 0 placed ≡ overlapped placed
overlapped_looked placed = flags_from placed [] 0 placed refl refl

-- ---- which entries are wide

narrow : (room n width : ℕ) (is_single : Bool) → nat_lt room width ≡ false → (is_single && nat_lt (2 * room) width && nat_lt (10 + n) width) ≡ false
narrow room n width true none = grind (arith, nat_tests)
narrow room n width false none = refl

-- none is wide, where none is wider than the room
pub none_wide : (room n : ℕ) (es : List PlacedEntry) → list_any (λ e. nat_lt room (entry_width e.entry)) es ≡ false
    → list_any (λ e. is_wide_entry room n e.entry) es ≡ false
none_wide room n [] none = refl
none_wide room n (e ∷ es) none =
    grind (arith, narrow room n (entry_width e.entry) (is_single_part e.entry.annotation_type), none_wide room n es)
