-- What comes after some words in a text.
use Rattle.std.proofs.lemmas.Grind.{common_steps}
use Rattle.std.proofs.Common.{◌≡◌, ◌≢◌, ℕ, suc, zero, ◌+◌, ◌<◌, ◌≤◌, false, List, [], ◌∷◌, ◌++◌, Option, Some, None, drop, take, eqb, length}
use Rattle.std.proofs.Common.{refl, sym, ap, ◌∙◌, arith, if◌then◌else◌, ⊎_elim}
use Rattle.std.specs.List.{ends_with, starts_with}
use Rattle.std.specs.Option.{MatchOption, option_or}
use Rattle.std.specs.Str.Pattern.{FindsText, FindsTextPrefix, FindsTextSuffix, LacksTextAt, StripsPrefix, StripsSuffix}
use Rattle.std.specs.Borrow.{Bor}
use Rattle.std.proofs.lemmas.Bool.{cases_Bool}
use Rattle.std.proofs.lemmas.Bool.Decides.{Decides-eqb}
use Rattle.std.proofs.lemmas.Slice.Eq.{ends_is, starts_is}
use Rattle.redraw_read.specs.Rendered.{after, after_first, before}
use Rattle.redraw_report.specs.Report.{lent}

-- words that don't begin a text
lacks : (n s : List ℕ) → LacksTextAt n s 0 → starts_with eqb s n ≡ false
lacks n s h = ⊎_elim (λ e. absurd (h _ ((starts_is Decides-eqb s n _ refl).0 e))) (λ e. e) (cases_Bool (starts_with eqb s n))

after-lacking : (n s : List ℕ) → LacksTextAt n s 0 → after n s ≡ None
after-lacking n s h = ap (λ t. if t then Some (drop (length n) s) else None) (lacks n s h)

-- words that do
after-begun : (n s rest : List ℕ) → s ≡ n ++ rest → after n s ≡ Some (drop (length n) s)
after-begun n s rest e = ap (λ t. if t then Some (drop (length n) s) else None) ((starts_is Decides-eqb s n _ refl).1 rest e)

-- what `strip_prefix` leaves
pub stripped : (n s : List ℕ) (r : Option (Bor (List ℕ)))
    → MatchOption r (FindsTextPrefix n s None) (λ x. StripsPrefix (FindsTextPrefix n) s x.now) → lent r ≡ after n s
stripped n s r h = grind (arith, common_steps, after-lacking, after-begun)

-- words that don't end a text
lacks_end : (n s : List ℕ) → ((front : List ℕ) → s ≢ front ++ n) → ends_with eqb s n ≡ false
lacks_end n s h = ⊎_elim (λ e. absurd (h _ ((ends_is Decides-eqb s n _ refl).0 e))) (λ e. e) (cases_Bool (ends_with eqb s n))

-- what `strip_suffix` leaves
pub cut : (n s : List ℕ) (r : Option (Bor (List ℕ)))
    → MatchOption r (FindsTextSuffix n s None) (λ x. StripsSuffix (FindsTextSuffix n) s x.now) → lent r ≡ before n s
cut n s r h = grind (arith, common_steps, lacks_end, ends_is, Decides-eqb)

-- where the words stand first, what comes after them there is what is asked
first-found : (n s : List ℕ) (i j : ℕ) → ((k : ℕ) → k < i → LacksTextAt n s k) → drop i s ≡ n ++ drop j s → j ≡ i + length n
    → after_first n s ≡ Some (drop j s)
first-found n [] zero j before here ends = after-begun n [] _ here ∙ ap (λ k. Some (drop k [])) (let e : length n ≡ j = omega arith in e)
first-found n [] (suc i) j before here ends = absurd (before 0 (omega arith) _ here)
first-found n (b ∷ bs) zero j before here ends =
    ap (λ o. option_or o (after_first n bs)) (after-begun n (b ∷ bs) _ here)
    ∙ ap (λ k. Some (drop k (b ∷ bs))) (let e : length n ≡ j = omega arith in e)
first-found n (b ∷ bs) (suc i) j before here ends =
    let e : j ≡ suc (i + length n) = omega arith in
    ap (λ o. option_or o (after_first n bs)) (after-lacking n (b ∷ bs) (before 0 (omega arith)))
    ∙ first-found n bs i (i + length n) (λ k less. before (suc k) (omega arith)) (here ∙ ap (λ k. n ++ drop k (b ∷ bs)) e) refl
    ∙ ap (λ k. Some (drop k (b ∷ bs))) (sym e)

-- where they stand nowhere, there is nothing
first-lacking : (n s : List ℕ) → ((k : ℕ) → k ≤ length s → LacksTextAt n s k) → after_first n s ≡ None
first-lacking n [] none = after-lacking n [] (none 0 (omega arith))
first-lacking n (b ∷ bs) none =
    ap (λ o. option_or o (after_first n bs)) (after-lacking n (b ∷ bs) (none 0 (omega arith)))
    ∙ first-lacking n bs (λ k within. none (suc k) (omega arith))

-- what `split_once` answers after the words
pub parted : (n s : List ℕ) (r : Option (Bor (List ℕ) × Bor (List ℕ)))
    → MatchOption r (FindsText n s None)
    (λ x. (i : ℕ) × (j : ℕ) × FindsText n s (Some (i, j)) × (x.0.now ≡ take i s) × (x.1.now ≡ drop j s) × (i ≤ j) × (length x.0.now ≡ i)
    × (length x.1.now + j ≡ length s))
    → MatchOption r (after_first n s ≡ None) (λ x. after_first n s ≡ Some x.1.now)
parted n s None h = first-lacking n s h
parted n s (Some x) h =
    first-found n s h.0 h.1 h.2.0 h.2.1.split h.2.1.ends ∙ ap Some (sym h.4)
