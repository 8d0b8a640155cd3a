-- Laws of what a replacement keeps.
use Rattle.snippet_splice.proofs.Common.{◌≡◌, ◌≢◌, ℕ, zero, suc, ◌+◌, ◌-◌, ◌<◌, ◌≤◌, Bool, true, false, Option, Some, None, List, [], ◌∷◌, ◌++◌, length}
use Rattle.snippet_splice.proofs.Common.{take, drop, refl, sym, ap, subst, ◌∙◌, ⊎_elim, arith, append_assoc, le_refl, append-nil, length-append}
use Rattle.snippet_splice.proofs.Common.{length-take-le, length-drop, take_at, drop_at, take_all, drop_all, take-append-drop, drop-drop, drop-append-le}
use Rattle.snippet_splice.proofs.Common.{get_or_past, cases_Bool, cases_eq, ltb-true, lt-ltb, or_cases, or_left, or_right, cond-false, and_parts}
use Rattle.snippet_splice.proofs.Common.{and_from, false_from_ne_true, le-leb, leb-true, both_ways, bytes_eq-Decides, IsCharBoundary-end}
use Rattle.snippet_splice.proofs.Common.{IsCharBoundary-start, Decides, slice_range, option_map, IsUtf8, IsCharBoundary, is_character_border, is_sandwiched}
use Rattle.snippet_splice.proofs.Common.{greatest_passing, kept_before, sandwich, IsSandwiched, IsSandwich, rules}
use Rattle.snippet_splice.proofs.Common.{common_steps}

-- ---- what a sandwich says of the replacement

regroup : (xs ys zs : List ℕ) → xs ++ ys ++ zs ≡ xs ++ (ys ++ zs)
regroup xs ys zs = append_assoc xs ys zs

IsSandwiched-prefix : (o r : List ℕ) (m : List ℕ) (b : ℕ) → IsSandwiched o r (length o) m b → r ≡ o ++ m
IsSandwiched-prefix o r m b h = grind (arith, take_all, le_refl, drop_all, append-nil)

ends-with : (o r : List ℕ) (m : List ℕ) (b : ℕ) → IsSandwiched o r 0 m b → r ≡ m ++ o
ends-with o r m b h = h.whole

lengths : (o r : List ℕ) (a : ℕ) (m : List ℕ) (b : ℕ) → IsSandwiched o r a m b → length r ≡ length m + length o
lengths o r a m b h = grind (arith, length-append, length-take-le, length-drop)

same_front : (o r : List ℕ) (a : ℕ) (m : List ℕ) (b : ℕ) → IsSandwiched o r a m b → take a r ≡ take a o
same_front o r a m b h = grind (arith, regroup, take_at, length-take-le)

middle_is : (o r : List ℕ) (a : ℕ) (m : List ℕ) (b : ℕ) → IsSandwiched o r a m b → m ≡ slice_range r a (length r - (length o - a))
middle_is o r a m b h = grind (arith, common_steps, regroup, drop_at, length-take-le, lengths, take_at)

same_end : (o r : List ℕ) (a : ℕ) (m : List ℕ) (b : ℕ) → IsSandwiched o r a m b → drop (length r - (length o - a)) r ≡ drop a o
same_end o r a m b h = grind (arith, common_steps, lengths, length-append, length-take-le, drop_at)

-- ---- the three ways

-- a replacement that begins with the original keeps all of it in front
pub IsSandwich-begins : (o r rest : List ℕ) → r ≡ o ++ rest → IsSandwich o r (length o) rest 0
IsSandwich-begins o r rest e = grind (arith, take_all, le_refl, drop_all, append-nil, IsCharBoundary-end)

-- a replacement that ends with the original, and doesn't begin with it, keeps all of it at the back
pub IsSandwich-ends : (o r front : List ℕ) → IsUtf8 o → r ≡ front ++ o → ((rest : List ℕ) → r ≢ o ++ rest) → IsSandwich o r 0 front (length o)
IsSandwich-ends o r front utf8 e begins = grind (arith, common_steps, IsCharBoundary-start, IsSandwiched-prefix)

-- the longest common prefix of whole characters
pub record IsCommonPrefix (o r : List ℕ) (n : ℕ) : Type 0 where
  pub border : IsCharBoundary o n
  pub other_border : IsCharBoundary r n
  pub same : take n o ≡ take n r
  pub longest : (k : ℕ) → IsCharBoundary o k → k ≤ length r → take k o ≡ take k r → k ≤ n

at_most_common : (o r : List ℕ) (n a : ℕ) (m : List ℕ) (b : ℕ) → IsCommonPrefix o r n → IsSandwiched o r a m b → a ≤ n
at_most_common o r n a m b common h = grind (arith, common_steps, lengths, same_front)

IsSandwich-inside : (o r : List ℕ) (n : ℕ) (m : List ℕ) → IsCommonPrefix o r n → ((rest : List ℕ) → r ≢ o ++ rest) → ((front : List ℕ) → r ≢ front ++ o)
    → drop n r ≡ m ++ drop n o → IsSandwich o r n m (length (drop n o))
IsSandwich-inside o r n m common begins ends e =
    grind (arith, common_steps, take-append-drop, regroup, length-drop, IsSandwiched-prefix, ends-with, at_most_common)

sandwiched-inside : (o r : List ℕ) (n : ℕ) → IsCommonPrefix o r n → ((front : List ℕ) → drop n r ≢ front ++ drop n o) → (a : ℕ) (m : List ℕ) (b : ℕ)
    → IsSandwiched o r a m b → ⊥
sandwiched-inside o r n common none a m b h =
    let at : a ≤ n = at_most_common o r n a m b common h in
    let x : List ℕ = take a o ++ m ++ take (n - a) (drop a o) in
    let rest : drop a o ≡ take (n - a) (drop a o) ++ drop n o = sym (take-append-drop (n - a) (drop a o))
    ∙ ap (λ l. take (n - a) (drop a o) ++ l) (drop-drop (n - a) a o ∙ ap (λ k. drop k o) (omega arith)) in
    let whole : r ≡ x ++ drop n o = h.whole ∙ ap (λ l. take a o ++ m ++ l) rest ∙ sym (regroup (take a o ++ m) (take (n - a) (drop a o)) (drop n o)) in
    let long : n ≤ length x = omega (arith, ap length whole, length-append x (drop n o), length-drop n o, lengths o r a m b h, common.border.0) in
    none (drop n x) (ap (drop n) whole ∙ drop-append-le n x (drop n o) long)

-- the same of the two rests, as they were cut off
pub IsSandwich-parts : (o r : List ℕ) (n : ℕ) (m rest tail : List ℕ) → IsCommonPrefix o r n → ((rest : List ℕ) → r ≢ o ++ rest)
    → ((front : List ℕ) → r ≢ front ++ o) → rest ≡ drop n o → tail ≡ drop n r → tail ≡ m ++ rest → IsSandwich o r n m (length rest)
IsSandwich-parts o r n m rest tail common begins ends of_o of_r e =
    subst (λ k. IsSandwich o r n m k) (ap length (sym of_o)) (IsSandwich-inside o r n m common begins ends (sym of_r ∙ e ∙ ap (λ l. m ++ l) of_o))

-- no sandwich is made where what the common front leaves doesn't end the replacement
pub sandwiched-parts : (o r : List ℕ) (n : ℕ) (rest tail : List ℕ) → IsCommonPrefix o r n → rest ≡ drop n o → tail ≡ drop n r
    → ((front : List ℕ) → tail ≢ front ++ rest) → (a : ℕ) (m : List ℕ) (b : ℕ) → IsSandwiched o r a m b → ⊥
sandwiched-parts o r n rest tail common of_o of_r none =
    sandwiched-inside o r n common (λ front e. none front (of_r ∙ e ∙ ap (λ l. front ++ l) (sym of_o)))

-- a replacement that isn't longer than the original, and doesn't begin with it, isn't the original with a text put in
pub sandwiched-longer : (o r : List ℕ) → length r ≤ length o → ((rest : List ℕ) → r ≢ o ++ rest)
    → (a : ℕ) (m : List ℕ) (b : ℕ) → IsSandwiched o r a m b → ⊥
sandwiched-longer o r few other a [] b s = grind (arith, append-nil (take a o), append-nil o, take-append-drop a o)
sandwiched-longer o r few other a (x ∷ m) b s = grind (arith, length-take-le, length-append, length-drop)

-- ---- the test

border-test : (o : List ℕ) (a : ℕ) → Decides (is_character_border o a) (IsCharBoundary o a)
border-test o a = grind (arith, and_parts, leb-true, ltb-true, or_cases, and_from, le-leb, or_left, lt-ltb, or_right, get_or_past)

test-true : (o r : List ℕ) (a : ℕ) → is_sandwiched o r a ≡ true → IsSandwiched o r a (slice_range r a (length r - (length o - a))) (length o - a)
test-true o r a t =
    let p = and_parts _ _ t in
    let q = and_parts _ _ p.0 in
    let s = and_parts _ _ q.0 in
    let border : IsCharBoundary o a = (border-test o a).0 s.0 in
    let long : length o ≤ length r = leb-true (length o) (length r) s.1 in
    let front : take a r ≡ take a o = (bytes_eq-Decides (take a r) (take a o)).0 q.1 in
    let end : drop (length r - (length o - a)) r ≡ drop a o = (bytes_eq-Decides (drop (length r - (length o - a)) r) (drop a o)).0 p.1 in
    let k : ℕ = length r - (length o - a) in
    let rest : drop a r ≡ slice_range r a k ++ drop k r = sym (take-append-drop (k - a) (drop a r))
    ∙ ap (λ l. slice_range r a k ++ l) (drop-drop (k - a) a r ∙ ap (λ n. drop n r) (omega (arith, border.0))) in
    record {
      border = border;
      parts = omega (arith, border.0);
      whole = cc (take-append-drop a r, front, rest, end, regroup (take a o) (slice_range r a k) (drop a o));
    }

test-from : (o r : List ℕ) (a : ℕ) (m : List ℕ) (b : ℕ) → IsSandwiched o r a m b → is_sandwiched o r a ≡ true
test-from o r a m b h = grind (arith, common_steps, and_from, border-test, le-leb, lengths, bytes_eq-Decides, same_front, same_end)

-- ---- the greatest number that passes

greatest-is : (p : ℕ → Bool) (n a : ℕ) → a ≤ n → p a ≡ true → ((k : ℕ) → a < k → k ≤ n → p k ≡ false) → greatest_passing p n ≡ Some a
greatest-is p zero a within yes_it above = search rules
greatest-is p (suc n) a within yes_it above =
    ⊎_elim (λ e. rw (subst (λ k. p k ≡ true) e yes_it) (ap Some (sym e)))
    (λ other. rw (above (suc n) (omega arith) (omega arith)) (greatest-is p n a (omega arith) yes_it (λ k low high. above k low (omega arith))))
    (cases_eq a (suc n))

greatest-none : (p : ℕ → Bool) (n : ℕ) → ((k : ℕ) → p k ≡ false) → greatest_passing p n ≡ None
greatest-none p zero none = cond-false (p 0) (Some 0) None (none 0)
greatest-none p (suc n) none = cond-false (p (suc n)) (Some (suc n)) (greatest_passing p n) (none (suc n)) ∙ greatest-none p n none

greatest-passes : (p : ℕ → Bool) (n a : ℕ) → greatest_passing p n ≡ Some a → p a ≡ true
greatest-passes p zero a e = search rules
greatest-passes p (suc n) a e =
    ⊎_elim (λ t. let at : suc n ≡ a = cc (rw t at e) in subst (λ k. p k ≡ true) at t) (λ f. greatest-passes p n a (rw f at e))
    (cases_Bool (p (suc n)))

-- ---- the way that is taken, computed

kept_before-is : (o r : List ℕ) (a : ℕ) (m : List ℕ) (b : ℕ) → IsSandwich o r a m b → kept_before o r ≡ Some a
unfolding kept_before
kept_before-is o r a m b h =
    let p : ℕ → Bool = is_sandwiched o r in
    let here : p a ≡ true = test-from o r a m b h.is in
    ⊎_elim
    (λ t. let parts : length o - length o ≡ 0 = omega arith in
    rw t (ap Some (sym (h.all_before _ (rw parts at (test-true o r (length o) t))))))
    (λ f. let below : a < length o = ⊎_elim (λ at. absurd (both_ways (p a) (ap p at ∙ f) here)) (λ other.
    omega (arith, h.is.border.0)) (cases_eq a (length o)) in
    rw f (⊎_elim
    (λ t. let parts : length o - 0 ≡ length o = omega arith in
    let at : a ≡ 0 = h.all_after below _ (subst (λ n. IsSandwiched o r 0 (slice_range r 0 (length r - (length o - 0))) n) parts (test-true o r 0 t)) in
    rw t (ap Some (sym at)))
    (λ g. let some : 0 < a = ⊎_elim (λ at. absurd (both_ways (p a) (ap p at ∙ g) here)) (λ other. omega arith) (cases_eq a 0) in
    rw g (greatest-is p (length o) a h.is.border.0 here (λ k low high.
    false_from_ne_true (p k) (λ t. absurd (omega (arith, h.longest some k _ _ (test-true o r k t)))))))
    (cases_Bool (p 0))))
    (cases_Bool (p (length o)))

-- the way that is taken is the one that the definition computes
pub sandwich-is : (o r : List ℕ) (a : ℕ) (m : List ℕ) (b : ℕ) → IsSandwich o r a m b → sandwich o r ≡ Some (a, m, b)
unfolding sandwich
sandwich-is o r a m b h = grind (arith, middle_is o r a m b h.is, kept_before-is o r a m b h)

kept_before-none : (o r : List ℕ) → ((k : ℕ) → is_sandwiched o r k ≡ false) → kept_before o r ≡ None
unfolding kept_before
kept_before-none o r none = grind (arith, cond-false, greatest-none)

-- where there is no way none is computed
pub sandwich-none : (o r : List ℕ) → ((a : ℕ) (m : List ℕ) (b : ℕ) → IsSandwiched o r a m b → ⊥) → sandwich o r ≡ None
unfolding sandwich
sandwich-none o r none = cc (kept_before-none o r (λ k. false_from_ne_true (is_sandwiched o r k) (λ t. none k _ _ (test-true o r k t))))

kept_before-passes : (o r : List ℕ) (a : ℕ) → kept_before o r ≡ Some a → is_sandwiched o r a ≡ true
unfolding kept_before
kept_before-passes o r a e =
    let p : ℕ → Bool = is_sandwiched o r in
    ⊎_elim (λ t. let same : Some (length o) ≡ Some a = rw t at e in let at : length o ≡ a = cc in subst (λ k. p k ≡ true) at t)
    (λ f. let rest = rw f at e in
    ⊎_elim (λ t. let same : Some 0 ≡ Some a = rw t at rest in let at : 0 ≡ a = cc in subst (λ k. p k ≡ true) at t)
    (λ g. greatest-passes p (length o) a (rw g at rest)) (cases_Bool (p 0))) (cases_Bool (p (length o)))

-- what is computed is a sandwich
pub sandwich-sandwiched : (o r : List ℕ) (a : ℕ) (m : List ℕ) (b : ℕ) → sandwich o r ≡ Some (a, m, b) → IsSandwiched o r a m b
unfolding sandwich
sandwich-sandwiched o r a m b e = of_kept (kept_before o r) refl e
  where
    of_kept : (k : Option ℕ) → kept_before o r ≡ k
        → option_map {U = ℕ × List ℕ × ℕ} (λ n. (n, slice_range r n (length r - (length o - n)), length o - n)) k ≡ Some (a, m, b) → IsSandwiched o r a m b
    of_kept None is same = absurd (cc)
    of_kept (Some n) is same =
        let t : ◌≡◌ {A = ℕ × List ℕ × ℕ} (n, slice_range r n (length r - (length o - n)), length o - n) (a, m, b) = cc in
        subst (λ (p : ℕ × List ℕ × ℕ). IsSandwiched o r p.0 p.1 p.2) t (test-true o r n (kept_before-passes o r n is))
