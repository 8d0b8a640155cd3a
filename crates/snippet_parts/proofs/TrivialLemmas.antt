-- Why a line needn't be read further to know whether it says little.
use Rattle.snippet_parts.proofs.Common.{common_steps, ◌≡◌, ℕ, suc, ◌+◌, ◌<◌, Bool, true, false, ◌&&◌, ◌||◌, cond, not, eqb, List, [], ◌∷◌, ◌++◌, length, drop}
use Rattle.snippet_parts.proofs.Common.{get_or, reverse, inl, inr, ◌⊎◌, refl, sym, ap, ◌∙◌, arith, is_whitespace, drop_trailing_whitespace}
use Rattle.snippet_parts.proofs.Common.{skip_leading_whitespace, cases_Bool, or_cases, cond-true, cond-false, eqb-true, ne_eqb, drop_more, drop_all}
use Rattle.snippet_parts.proofs.Common.{reverse-append, Seen, Nothing, Bracket, Slash, Slashes, Comment, Telling, is_bracket, is_comment, is_trivial, step}
use Rattle.snippet_parts.proofs.Common.{is_trivial_whole}

-- a text without the whitespace that it ends with
without_tail : List ℕ → List ℕ
without_tail cs = reverse (skip_leading_whitespace (reverse cs))

-- a text without the whitespace at either end
abbrev trimmed : List ℕ → List ℕ
trimmed cs = reverse (skip_leading_whitespace (reverse (skip_leading_whitespace cs)))

-- whether nothing but whitespace is left
is_blank : List ℕ → Bool
is_blank [] = true
is_blank (c ∷ cs) = is_whitespace c && is_blank cs

indent-push : (xs : List ℕ) (c : ℕ)
    → skip_leading_whitespace (xs ++ c ∷ []) ≡ cond (is_blank xs) (skip_leading_whitespace (c ∷ [])) (skip_leading_whitespace xs ++ c ∷ [])
unfolding is_blank
indent-push [] c = refl
indent-push (x ∷ xs) c = grind (arith, cond-true, cond-false, indent-push xs c)

blank-push : (xs : List ℕ) (c : ℕ) → is_blank (xs ++ c ∷ []) ≡ (is_whitespace c && is_blank xs)
unfolding is_blank
blank-push [] c = refl
blank-push (x ∷ xs) c = grind (arith, blank-push xs c)

blank-reverse : (cs : List ℕ) → is_blank (reverse cs) ≡ is_blank cs
unfolding is_blank
blank-reverse [] = refl
blank-reverse (c ∷ cs) = ap is_blank (reverse-append (c ∷ []) cs) ∙ blank-push (reverse cs) c ∙ ap (λ b. is_whitespace c && b) (blank-reverse cs)

tail-more : (c : ℕ) (cs : List ℕ) → without_tail (c ∷ cs) ≡ cond (is_blank cs) (reverse (skip_leading_whitespace (c ∷ []))) (c ∷ without_tail cs)
unfolding without_tail
tail-more c cs = grind (arith, common_steps, indent-push, blank-reverse)

tail-blank : (cs : List ℕ) → is_blank cs ≡ true → without_tail cs ≡ []
unfolding is_blank without_tail
tail-blank [] blank = refl
tail-blank (c ∷ cs) blank = grind (arith, common_steps, cases_Bool, tail-more, cond-true)

-- after a character that isn't whitespace
tail-other : (c : ℕ) (cs : List ℕ) → is_whitespace c ≡ false → without_tail (c ∷ cs) ≡ c ∷ without_tail cs
tail-other c cs other = grind (arith, tail-more, cond-true, cond-false, tail-blank)

-- any character is left out with what is after it, or stays
tail-cases : (c : ℕ) (cs : List ℕ) → (without_tail (c ∷ cs) ≡ []) ⊎ (without_tail (c ∷ cs) ≡ c ∷ without_tail cs)
tail-cases c cs = grind (arith, tail-more, cond-true, cond-false, tail-other)

trimmed-white : (c : ℕ) (cs : List ℕ) → is_whitespace c ≡ true → trimmed (c ∷ cs) ≡ trimmed cs
trimmed-white c cs white = ap (λ xs. reverse (skip_leading_whitespace (reverse xs))) (cond-true (is_whitespace c) (skip_leading_whitespace cs) (c ∷ cs) white)

trimmed-other : (c : ℕ) (cs : List ℕ) → is_whitespace c ≡ false → trimmed (c ∷ cs) ≡ c ∷ without_tail cs
unfolding without_tail
trimmed-other c cs other = grind (arith, cond-false, tail-other)

-- ---- what is left to be read

-- whether a line of which this was read says little, by the rest
pub trivial_after : Seen → List ℕ → Bool
trivial_after Nothing cs = is_trivial cs
trivial_after Bracket cs = is_blank cs
trivial_after Slash cs = is_trivial (47 ∷ cs)
trivial_after Slashes cs = is_trivial (47 ∷ 47 ∷ cs)
trivial_after Comment cs = true
trivial_after Telling cs = false

-- whether a trimmed text says little
trivial_trimmed : List ℕ → Bool
trivial_trimmed cs = eqb (length cs) 0 || is_bracket cs || is_comment cs

some-length : (n : ℕ) → eqb (suc n) 0 ≡ false
some-length n = ne_eqb (suc n) 0 (λ e. absurd (omega arith))

-- two characters and more are trivial as a comment alone
two-trivial : (c d : ℕ) (ts : List ℕ) → trivial_trimmed (c ∷ d ∷ ts) ≡ is_comment (c ∷ d ∷ ts)
unfolding trivial_trimmed
two-trivial c d ts = ap (λ b. b || false || is_comment (c ∷ d ∷ ts)) (some-length (suc (length ts)))

tail-length : (cs : List ℕ) → eqb (length (without_tail cs)) 0 ≡ is_blank cs
unfolding is_blank without_tail
tail-length [] = refl
tail-length (c ∷ cs) = grind (arith, tail-more, cond-true, cond-false, some-length)

tail-drop : (cs : List ℕ) → drop_trailing_whitespace cs ≡ without_tail cs
unfolding without_tail
tail-drop [] = refl
tail-drop (c ∷ cs) = grind (arith, tail-length, tail-more, cond-true, tail-other, tail-drop cs)

trivial-is : (cs ts : List ℕ) → trimmed cs ≡ ts → is_trivial cs ≡ trivial_trimmed ts
unfolding trivial_trimmed without_tail
trivial-is cs ts is = ap trivial_trimmed (tail-drop (skip_leading_whitespace cs) ∙ is)

not-comment : (c : ℕ) (ts : List ℕ) → eqb c 47 ≡ false → is_comment (c ∷ ts) ≡ false
not-comment x y z = grind (arith)

trivial-strong : (c : ℕ) (ts : List ℕ) → eqb c 47 ≡ false → is_bracket (c ∷ []) ≡ false → trivial_trimmed (c ∷ ts) ≡ false
unfolding trivial_trimmed
trivial-strong x y z u = grind (arith, two-trivial, not-comment)

trivial-bracket : (c : ℕ) (ts : List ℕ) → eqb c 47 ≡ false → is_bracket (c ∷ []) ≡ true → trivial_trimmed (c ∷ ts) ≡ eqb (length ts) 0
unfolding trivial_trimmed
trivial-bracket x y z u = grind (arith, two-trivial, not-comment, some-length)

slash-other : (c : ℕ) (ts : List ℕ) → eqb c 47 ≡ false → trivial_trimmed (47 ∷ c ∷ ts) ≡ false
unfolding trivial_trimmed
slash-other x y z = grind (arith, two-trivial)

slashes-third : (c : ℕ) (ts : List ℕ) (b : Bool) → (eqb c 47 || eqb c 33) ≡ b → trivial_trimmed (47 ∷ 47 ∷ c ∷ ts) ≡ not b
unfolding trivial_trimmed
slashes-third c ts b is = two-trivial 47 47 (c ∷ ts) ∙ ap not is

bracket-no-slash : (c : ℕ) → is_bracket (c ∷ []) ≡ true → eqb c 47 ≡ false
bracket-no-slash c is = grind (arith, eqb-true)

-- one more character
step-nothing : (c : ℕ) (cs : List ℕ) → is_trivial (c ∷ cs) ≡ trivial_after (step Nothing c) cs
unfolding trivial_after
step-nothing c cs =
    elim (cases_Bool (is_whitespace c)) [
      | inl white ↦ trivial-is (c ∷ cs) (trimmed cs) (trimmed-white c cs white) ∙ sym (trivial-is cs (trimmed cs) refl)
          ∙ ap (λ s. trivial_after s cs) (sym (cond-true (is_whitespace c) Nothing (cond (is_bracket (c ∷ [])) Bracket (cond (eqb c 47) Slash Telling)) white))
      | inr other ↦
          let past : step Nothing c ≡ cond (is_bracket (c ∷ [])) Bracket (cond (eqb c 47) Slash Telling) = cond-false (is_whitespace c) Nothing
          (cond (is_bracket (c ∷ [])) Bracket (cond (eqb c 47) Slash Telling)) other in
          let text : is_trivial (c ∷ cs) ≡ trivial_trimmed (c ∷ without_tail cs) = trivial-is (c ∷ cs) (c ∷ without_tail cs) (trimmed-other c cs other) in
          elim (cases_Bool (is_bracket (c ∷ []))) [
            | inl bracket ↦ text ∙ trivial-bracket c (without_tail cs) (bracket-no-slash c bracket) bracket ∙ tail-length cs
                ∙ ap (λ s. trivial_after s cs) (sym (past ∙ cond-true (is_bracket (c ∷ [])) Bracket (cond (eqb c 47) Slash Telling) bracket))
            | inr plain ↦
                let more : step Nothing c ≡ cond (eqb c 47) Slash Telling = past
                ∙ cond-false (is_bracket (c ∷ [])) Bracket (cond (eqb c 47) Slash Telling) plain in
                elim (cases_Bool (eqb c 47)) [
                  | inl slash ↦ ap (λ x. is_trivial (x ∷ cs)) (eqb-true c 47 slash)
                      ∙ ap (λ s. trivial_after s cs) (sym (more ∙ cond-true (eqb c 47) Slash Telling slash))
                  | inr strong ↦ text ∙ trivial-strong c (without_tail cs) strong plain
                      ∙ ap (λ s. trivial_after s cs) (sym (more ∙ cond-false (eqb c 47) Slash Telling strong))
                ]
          ]
    ]

step-slash : (c : ℕ) (cs : List ℕ) → is_trivial (47 ∷ c ∷ cs) ≡ trivial_after (step Slash c) cs
unfolding trivial_after trivial_trimmed
step-slash c cs = grind (arith, eqb-true, cond-true, trivial-is, trimmed-other, tail-cases, slash-other, cond-false)

step-slashes : (c : ℕ) (cs : List ℕ) → is_trivial (47 ∷ 47 ∷ c ∷ cs) ≡ trivial_after (step Slashes c) cs
unfolding trivial_after trivial_trimmed
step-slashes c cs = grind (arith, trivial-is, trimmed-other, tail-other, slashes-third, cond-true, tail-cases, cond-false, or_cases, eqb-true)

step-bracket : (c : ℕ) (cs : List ℕ) → (is_whitespace c && is_blank cs) ≡ trivial_after (step Bracket c) cs
unfolding trivial_after
step-bracket c cs = grind (arith, cond-true, cond-false)

after-step : (s : Seen) (c : ℕ) (cs : List ℕ) → trivial_after s (c ∷ cs) ≡ trivial_after (step s c) cs
unfolding trivial_after is_blank
after-step x y z = grind (arith, step-nothing, step-bracket, step-slash, step-slashes)

-- of a line, what was read of its first n characters tells what the line is
pub record IsReadTo (cs : List ℕ) (n : ℕ) (s : Seen) : Type 0 where
  pub after : trivial_after s (drop n cs) ≡ is_trivial cs

-- before any character nothing is read
pub trivial_none : (cs : List ℕ) → IsReadTo cs 0 Nothing
unfolding trivial_after
trivial_none cs = record { after = refl }

-- with one more character read the characters so far are read
pub trivial_more : (cs : List ℕ) (n m c : ℕ) (s t : Seen) → (n < length cs) × (c ≡ get_or cs n c) → m ≡ n + 1 → t ≡ step s c → IsReadTo cs n s → IsReadTo cs m t
trivial_more cs n m c s t at is stepped before = grind (arith, after-step, drop_more)

-- a text in which a comment has begun is trivial
pub read-comment : (cs : List ℕ) (n : ℕ) → IsReadTo cs n Comment → true ≡ is_trivial cs
unfolding trivial_after
read-comment cs n before = before.after

-- a text in which something telling was read isn't trivial
pub read-strong : (cs : List ℕ) (n : ℕ) → IsReadTo cs n Telling → false ≡ is_trivial cs
unfolding trivial_after
read-strong cs n before = before.after

-- once all characters are read it is known whether the text is trivial
pub trivial_read : (cs : List ℕ) (n : ℕ) (s : Seen) → length cs ≡ n → IsReadTo cs n s → is_trivial_whole s ≡ is_trivial cs
unfolding trivial_after is_blank
trivial_read cs n s all before = grind (arith, drop_all)
