-- The lines that are shown ascend, and each touched line is among them.
use Rattle.snippet_suggest.proofs.Common.{◌≡◌, ℕ, zero, suc, ◌+◌, ◌-◌, ◌<◌, ◌≤◌, nat_le, Bool, true, false, List, [], ◌∷◌}
use Rattle.snippet_suggest.proofs.Common.{◌++◌, if◌then◌else◌, refl, sym, arith, subst, All, Contains, inl, inr, map, filter_map-append, All-cons}
use Rattle.snippet_suggest.proofs.Common.{All-nil, Contains-append_right, cases_eq, append-nil, SuggestionLayout, SuggestionLine, Line, Gap, shown_run}
use Rattle.snippet_suggest.proofs.Common.{shown_from, number_of, numbers_shown, AreRising, NumberFits, range_with_len, rules}

-- the bounds of ascending numbers, and two such lists joined
pub rising_bound : (from to : ℕ) (ks : List ℕ) → AreRising from to ks → from ≤ to
rising_bound from to [] rising = rising
rising_bound from to (k ∷ ks) rising = omega (arith, rising.0, rising_bound (k + 1) to ks rising.1)

rising_lower : (low from to : ℕ) (ks : List ℕ) → low ≤ from → AreRising from to ks → AreRising low to ks
rising_lower low from to [] lower rising = omega (arith, lower, rising)
rising_lower low from to (k ∷ ks) lower rising = (omega (arith, lower, rising.0), rising.1)

rising_append : (from mid to : ℕ) (ks ls : List ℕ) → AreRising from mid ks → AreRising mid to ls → AreRising from to (ks ++ ls)
rising_append from mid to [] ls front back = rising_lower from mid to ls front back
rising_append from mid to (k ∷ ks) ls front back = (front.0, rising_append (k + 1) mid to ks ls front.1 back)

-- those of a run
rising_lines : (from n to : ℕ) → from + n ≡ to → AreRising from to (numbers_shown (map Line (range_with_len from n)))
rising_lines from zero to is = omega (arith, is)
rising_lines from (suc n) to is = (omega arith, rising_lines (from + 1) n to (omega (arith, is)))

rising_run_by : (from to : ℕ) (few : Bool) → nat_le (to - from) 3 ≡ few → from ≤ to
    → AreRising from to (numbers_shown (if few then map Line (range_with_len from (to - from)) else Line from ∷ Gap ∷ Line (to - 1) ∷ []))
rising_run_by x y z u v = grind (arith, rising_lines)

rising_run : (from to : ℕ) → from ≤ to → AreRising from to (numbers_shown (shown_run from to))
rising_run from to ordered = rising_run_by from to (nat_le (to - from) 3) refl ordered

-- those of all that is shown
rising_from_by : (touched : ℕ → Bool) (from k left : ℕ) (is : Bool) → from ≤ k
    → AreRising (k + 1) (k + 1 + left) (numbers_shown (shown_from touched (k + 1) (k + 1) left))
    → AreRising from (k + 1 + left) (numbers_shown (shown_from touched from (k + 1) left))
    → AreRising from (k + 1 + left)
    (numbers_shown (if is then shown_run from k ++ (Line k ∷ shown_from touched (k + 1) (k + 1) left) else shown_from touched from (k + 1) left))
rising_from_by touched from k left false ordered shown waiting = waiting
rising_from_by touched from k left true ordered shown waiting =
    let rest = Line k ∷ shown_from touched (k + 1) (k + 1) left in search (rules, filter_map-append, rising_append, rising_run, rest)

rising_from : (touched : ℕ → Bool) (from k left : ℕ) → from ≤ k → AreRising from (k + left) (numbers_shown (shown_from touched from k left))
rising_from touched from k zero ordered = omega (arith, ordered)
rising_from touched from k (suc left) ordered =
    grind (arith, rising_from touched (k + 1) (k + 1) left (omega arith), rising_from touched from (k + 1) left (omega (arith, ordered)), rising_from_by)

-- the numbers of shown lines rise
pub rising_shown : (touched : ℕ → Bool) (count : ℕ) → AreRising 0 count (numbers_shown (shown_from touched 0 0 count))
rising_shown touched count =
    let same : 0 + count ≡ count = omega arith in
    subst (λ (to : ℕ). AreRising 0 to (numbers_shown (shown_from touched 0 0 count))) same (rising_from touched 0 0 count (omega arith))

-- where there is room for the number of each line, there is for those that are shown
rooms_of : (layout : SuggestionLayout) (first low count : ℕ) (shown : List SuggestionLine) → AreRising low count (numbers_shown shown)
    → ((k : ℕ) → k < count → NumberFits layout first (Line k)) → All (NumberFits layout first) shown
rooms_of layout first low count [] rising rooms = All-nil (NumberFits layout first)
rooms_of layout first low count (Line k ∷ shown) rising rooms =
    grind (arith, All-cons, rising_bound, rooms_of layout first (k + 1) count shown rising.1 rooms)
rooms_of layout first low count (Gap ∷ shown) rising rooms = grind (arith, All-cons, rooms_of layout first low count shown rising rooms)

-- the numbers of shown lines fit the gutter where those of all lines do
pub rooms_shown : (layout : SuggestionLayout) (first count : ℕ) (touched : ℕ → Bool) → ((k : ℕ) → k < count → NumberFits layout first (Line k))
    → All (NumberFits layout first) (shown_from touched 0 0 count)
rooms_shown layout first count touched rooms =
    rooms_of layout first 0 count (shown_from touched 0 0 count) (rising_shown touched count) rooms

-- at the end nothing is still to come
pub shown_all : (touched : ℕ → Bool) (shown all : List SuggestionLine) (after line count : ℕ) → count ≤ line
    → shown ++ shown_from touched after line (count - line) ≡ all → shown ≡ all
shown_all touched shown all after line count past whole = grind (arith, append-nil)

-- each touched line is among them
touched_from_by : (touched : ℕ → Bool) (from k left j : ℕ) (is : Bool) → touched k ≡ is → k ≤ j → j < k + suc left → touched j ≡ true
    → ((next : ℕ) → k + 1 ≤ j → Contains (numbers_shown (shown_from touched next (k + 1) left)) j)
    → Contains (numbers_shown
    (if is then shown_run from k ++ (Line k ∷ shown_from touched (k + 1) (k + 1) left) else shown_from touched from (k + 1) left)) j
touched_from_by touched from k left j true is low high holds later =
    let rest = shown_from touched (k + 1) (k + 1) left in
    let here : Contains (numbers_shown (Line k ∷ rest)) j = elim (cases_eq j k) [
      | inl same ↦ subst (λ (n : ℕ). Contains (numbers_shown (Line k ∷ rest)) n) (sym same) (0, omega arith, refl)
      | inr other ↦
          let h = later (k + 1) (omega (arith, low, other)) in
          (suc h.0, omega (arith, h.1), h.2)
    ] in
    subst (λ (ks : List ℕ). Contains ks j) (sym (filter_map-append number_of (shown_run from k) (Line k ∷ rest)))
    (Contains-append_right (numbers_shown (shown_run from k)) (numbers_shown (Line k ∷ rest)) j here)
touched_from_by touched from k left j false is low high holds later = search rules

touched_from : (touched : ℕ → Bool) (from k left j : ℕ) → k ≤ j → j < k + left → touched j ≡ true → Contains (numbers_shown (shown_from touched from k left)) j
touched_from touched from k zero j low high holds = absurd (omega (arith, low, high))
touched_from touched from k (suc left) j low high holds =
    touched_from_by touched from k left j (touched k) refl low high holds (λ next more.
    touched_from touched next (k + 1) left j more (omega (arith, high)) holds)

-- a line that is touched is shown
pub touched_shown : (touched : ℕ → Bool) (count j : ℕ) → j < count → touched j ≡ true → Contains (numbers_shown (shown_from touched 0 0 count)) j
touched_shown touched count j below holds = touched_from touched 0 0 count j (omega arith) (omega (arith, below)) holds
