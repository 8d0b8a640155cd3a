-- The lines that are shown: those that are kept, and each single line between two of them.
use Rattle.snippet_parts.proofs.Common.{◌≡◌, ℕ, zero, suc, ◌+◌, ◌<◌, ◌≤◌, Bool, false, ◌&&◌, cond, not, eqb, Option, Some, None, List, [], ◌∷◌, ◌++◌}
use Rattle.snippet_parts.proofs.Common.{map, length, inl, inr, refl, sym, ap, subst, ◌∙◌, arith, All, filter, list_any, range_with_len, cases_Bool, cases_eq}
use Rattle.snippet_parts.proofs.Common.{cond-true, cond-false, and_from, or_parts, eq-eqb, ne_eqb, le-leb, lt-ltb, Annotation, KeptLine, annotated_lines}
use Rattle.snippet_parts.proofs.Common.{kept_line, parts_on, lines_between, shown_lines, with_between, Source, source_lines, text_at, line_at, is_marking}
use Rattle.snippet_parts.proofs.Common.{touches, IsSpan}
use Rattle.snippet_parts.proofs.KeptPartLemmas.{none-unkept, unseen-unkept}
use Rattle.snippet_parts.proofs.ShownLemmas.{same-kept}

-- some lines after one of a number, if there is one before, with each single line between two
abbrev pub filled : Source → Option ℕ → List KeptLine → List KeptLine
filled s before [] = []
filled s before (l ∷ ls) = lines_between s before l.number ++ l ∷ filled s (Some l.number) ls

-- some lines after line j, with each single line between two
abbrev pub rest_between : ℕ → List ℕ → List ℕ
rest_between j [] = []
rest_between j (k ∷ ks) = cond (eqb k (j + 2)) ((j + 1) ∷ k ∷ rest_between k ks) (k ∷ rest_between k ks)

-- numbers with those between begin with the first
pub between-rest : (j : ℕ) (ks : List ℕ) → with_between (j ∷ ks) ≡ j ∷ rest_between j ks
between-rest j [] = refl
between-rest j (k ∷ ks) = grind (arith, between-rest k ks)

-- a line that no span keeps is seen without entries
abbrev pub IsPlain : Source → List Annotation → ℕ → Type 0
IsPlain s marks k = (parts_on s marks k ≡ []) × (list_any (λ a. not (is_marking a.kind) && touches s.text a k) marks ≡ false)

text-there : (s : Source) (number k : ℕ) → number ≡ s.first + k → k < length (source_lines s.text) → line_at s number ≡ Some (text_at (source_lines s.text) k)
text-there s number k is within = grind (arith, and_from, le-leb, lt-ltb, cond-true)

single-line : (s : Source) (marks : List Annotation) (j k : ℕ) → k ≡ j + 2 → k < length (source_lines s.text) → IsPlain s marks (j + 1)
    → lines_between s (Some (s.first + j)) (s.first + k) ≡ kept_line s marks (j + 1) ∷ []
single-line s marks j k next within plain = grind (arith, cond-true, eq-eqb, text-there, same-kept)

no_line : (s : Source) (j k : ℕ) → (k ≡ j + 2 → ⊥) → lines_between s (Some (s.first + j)) (s.first + k) ≡ []
no_line s j k apart = grind (arith, cond-false, ne_eqb)

rest_is : (s : Source) (marks : List Annotation) (p : ℕ → Bool) (plain : (k : ℕ) → p k ≡ false → IsPlain s marks k) (j a n : ℕ) → j < a
    → ((i : ℕ) → j < i → i < a → p i ≡ false) → a + n ≤ length (source_lines s.text)
    → filled s (Some (s.first + j)) (map (kept_line s marks) (filter p (range_with_len a n))) ≡ map (kept_line s marks)
    (rest_between j (filter p (range_with_len a n)))
rest_is s marks p plain j a zero before none within = refl
rest_is s marks p plain j a (suc n) before none within =
    let f = λ (k : ℕ). kept_line s marks k in
    let ks : List ℕ = filter p (range_with_len (a + 1) n) in
    let Goal = λ (xs : List ℕ). filled s (Some (s.first + j)) (map f xs) ≡ map f (rest_between j xs) in
    elim (cases_Bool (p a)) [
      | inl here ↦
          let rest : filled s (Some (s.first + a)) (map f ks) ≡ map f (rest_between a ks) = rest_is s marks p plain a (a + 1) n (omega arith) (λ i from to.
          absurd (omega arith)) (omega arith) in
          let goal : Goal (a ∷ ks) = elim (cases_eq a (j + 2)) [
            | inl next ↦ ap (λ ls. ls ++ f a ∷ filled s (Some (s.first + a)) (map f ks))
                (single-line s marks j a next (omega arith) (plain (j + 1) (none (j + 1) (omega arith) (omega arith))))
                ∙ ap (λ ls. f (j + 1) ∷ f a ∷ ls) rest ∙ ap (map f)
                (sym (cond-true (eqb a (j + 2)) ((j + 1) ∷ a ∷ rest_between a ks) (a ∷ rest_between a ks) (eq-eqb a (j + 2) next)))
            | inr apart ↦ ap (λ ls. ls ++ f a ∷ filled s (Some (s.first + a)) (map f ks)) (no_line s j a apart) ∙ ap (λ ls. f a ∷ ls) rest
                ∙ ap (map f) (sym (cond-false (eqb a (j + 2)) ((j + 1) ∷ a ∷ rest_between a ks) (a ∷ rest_between a ks) (ne_eqb a (j + 2) apart)))
          ] in
          subst Goal (sym (cond-true (p a) (a ∷ ks) ks here)) goal
      | inr gone ↦ subst Goal (sym (cond-false (p a) (a ∷ ks) ks gone))
          (rest_is s marks p plain j (a + 1) n (omega arith) (λ i from to. one_more i from to gone) (omega arith))
    ]
  where
    one_more : (i : ℕ) → j < i → i < a + 1 → p a ≡ false → p i ≡ false
    one_more i from to gone = elim (cases_eq i a) [
      | inl same ↦ ap p same ∙ gone
      | inr apart ↦ none i from (below i a to apart)
    ]
      where
        below : (m n : ℕ) → m < n + 1 → (m ≡ n → ⊥) → m < n
        below m n le apart = omega arith

all-is : (s : Source) (marks : List Annotation) (p : ℕ → Bool) (plain : (k : ℕ) → p k ≡ false → IsPlain s marks k) (a n : ℕ)
    → a + n ≤ length (source_lines s.text) → filled s None (map (kept_line s marks) (filter p (range_with_len a n))) ≡ map (kept_line s marks)
    (with_between (filter p (range_with_len a n)))
all-is s marks p plain a zero within = refl
all-is s marks p plain a (suc n) within =
    let f = λ (k : ℕ). kept_line s marks k in
    let ks : List ℕ = filter p (range_with_len (a + 1) n) in
    let Goal = λ (xs : List ℕ). filled s None (map f xs) ≡ map f (with_between xs) in
    elim (cases_Bool (p a)) [
      | inl here ↦
          let rest : filled s (Some (s.first + a)) (map f ks) ≡ map f (rest_between a ks) = rest_is s marks p plain a (a + 1) n (omega arith) (λ i from to.
          absurd (omega arith)) (omega arith) in
          subst Goal (sym (cond-true (p a) (a ∷ ks) ks here)) (ap (λ ls. f a ∷ ls) rest ∙ ap (map f) (sym (between-rest a ks)))
      | inr gone ↦ subst Goal (sym (cond-false (p a) (a ∷ ks) ks gone)) (all-is s marks p plain (a + 1) n (omega arith))
    ]

-- the lines that are kept with each single line between two are those that are shown
pub filled-shown : (fold : Bool) (s : Source) (marks : List Annotation) → All (λ a. IsSpan s.text a.span.start a.span.end) marks
    → filled s None (annotated_lines fold s marks) ≡ map (kept_line s marks) (shown_lines fold s.text marks)
filled-shown fold s marks spans = grind (arith, all-is, or_parts, none-unkept, unseen-unkept)

-- ---- worked

-- one line between is shown, two are not
worked-between : with_between (0 ∷ 2 ∷ 5 ∷ 6 ∷ 8 ∷ []) ≡ 0 ∷ 1 ∷ 2 ∷ 5 ∷ 6 ∷ 7 ∷ 8 ∷ []
worked-between = refl
