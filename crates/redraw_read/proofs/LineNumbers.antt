-- The numbers of lines by what stands there: how they are made, and what the least of them by a message shows.
use Rattle.std.proofs.lemmas.Grind.{common_steps}
use Rattle.std.proofs.Common.{◌≡◌, ◌∙◌, ℕ, suc, ◌≤◌, ◌<◌, Bool, true, false, List, [], ◌∷◌, ◌++◌, Option, Some, None}
use Rattle.std.proofs.Common.{ap, arith, cond, get_or, is_some, length, refl, sym, if◌then◌else◌}
use Rattle.std.specs.List.{list_any}
use Rattle.std.specs.Option.{option_and_then, option_map, option_map_or, option_or}
use Rattle.std.specs.Str.{bytes_eq}
use Rattle.std.proofs.lemmas.Slice.Eq.{bytes_eq-Decides}
use Rattle.redraw_read.specs.Rendered.{first_shown, is_of, shown_in, stands_in, text_of}
use Rattle.redraw_read.specs.ShownLines.{first_of, is_there, number_among}
use Rattle.redraw_read.specs.declared.rendered.Stand.{Stand}

first_further : (p : Option ℕ) (b : Bool) (k : ℕ) → option_map suc (first_of p b k) ≡ first_of (option_map suc p) b (suc k)
first_further p b k = grind (arith, common_steps)

-- by one more line
pub number_push : (place : Stand) (t line : List ℕ) (lines : List (List ℕ))
    → number_among place t (lines ++ line ∷ []) ≡ first_of (number_among place t lines) (is_there place t line) (length lines)
number_push place t line [] = refl
number_push place t line (l ∷ lines) = grind (arith, common_steps, number_push place t line lines, first_further)

-- a line where nothing stands so changes none
pub none_first : (p : Option ℕ) (k : ℕ) → first_of p false k ≡ p
none_first (Some i) k = refl
none_first None k = refl

-- what stands in a line is there
there_is : (o : Option (List ℕ)) (t : List ℕ) → o ≡ Some t → option_map_or (λ s. bytes_eq s t) o false ≡ true
there_is o t e = ap (λ p. option_map_or (λ s. bytes_eq s t) p false) e ∙ (bytes_eq-Decides t t).1 refl

is_what : (o : Option (List ℕ)) (t : List ℕ) → option_map_or (λ s. bytes_eq s t) o false ≡ true → o ≡ Some t
is_what None t e = absurd (cc e)
is_what (Some s) t e = ap Some ((bytes_eq-Decides s t).0 e)

-- a text that is a message's is what is shown of it
text_is : (place : Stand) (m t : List ℕ) → is_of place m t ≡ true → text_of place m t ≡ Some t
text_is place m t e = ap (λ b. if b then Some t else None) e

-- what a line shows, where nothing of the message stands there
shows_none : (place : Stand) (m line : List ℕ) → ((t : List ℕ) → is_there place t line ≡ true → is_of place m t ≡ true → ⊥)
    → shown_in place m line ≡ None
shows_none place m line none = by (stands_in place line) refl
  where
    by : (o : Option (List ℕ)) → stands_in place line ≡ o → option_and_then (text_of place m) (stands_in place line) ≡ None
    by None is = ap (option_and_then (text_of place m)) is
    by (Some t) is = ap (option_and_then (text_of place m)) is ∙ other (is_of place m t) refl
      where
        other : (b : Bool) → is_of place m t ≡ b → text_of place m t ≡ None
        other true starts = absurd (none t (there_is (stands_in place line) t is) starts)
        other false starts = ap (λ b. if b then Some t else None) starts

-- the number of a line before others, and one after it
later_none : (n : ℕ) (p : Option ℕ) → option_map suc p ≡ Some n → (k : ℕ) × (p ≡ Some k) × (n ≡ suc k)
later_none n None e = absurd (cc e)
later_none n (Some k) e = (k, refl, cc e)

-- where no text of the message has a number, nothing shows it
pub none-shown : (place : Stand) (m : List ℕ) (lines : List (List ℕ))
    → ((t : List ℕ) (n : ℕ) → number_among place t lines ≡ Some n → is_of place m t ≡ true → ⊥) → first_shown place m lines ≡ None
none-shown place m [] none = refl
none-shown place m (l ∷ lines) none =
    ap (λ o. option_or o (first_shown place m lines))
    (shows_none place m l (λ t there. none t 0 (ap (λ b. if b then Some 0 else option_map suc (number_among place t lines)) there)))
    ∙ none-shown place m lines (λ t n at. further t n at (is_there place t l) refl)
  where
    further : (t : List ℕ) (n : ℕ) → number_among place t lines ≡ Some n → (b : Bool) → is_there place t l ≡ b → is_of place m t ≡ true → ⊥
    further t n at true there =
        none t 0 (ap (λ b. if b then Some 0 else option_map suc (number_among place t lines)) there)
    further t n at false there =
        none t (suc n) (ap (λ b. if b then Some 0 else option_map suc (number_among place t lines)) there ∙ ap (option_map suc) at)

-- the line of the least number by a text of the message shows what is shown first
pub least-shown : (place : Stand) (m t : List ℕ) (lines : List (List ℕ)) (n : ℕ) → number_among place t lines ≡ Some n → is_of place m t ≡ true
    → ((s : List ℕ) (k : ℕ) → number_among place s lines ≡ Some k → is_of place m s ≡ true → n ≤ k)
    → (n < length lines) × (first_shown place m lines ≡ Some t) × ((d : List ℕ) → shown_in place m (get_or lines n d) ≡ Some t)
least-shown place m t [] n at starts least = absurd (cc at)
least-shown place m t (l ∷ lines) n at starts least = by (is_there place t l) refl (λ k of before. least-shown place m t lines k of starts before)
  where
    shows : is_there place t l ≡ true → shown_in place m l ≡ Some t
    shows there = ap (option_and_then (text_of place m)) (is_what (stands_in place l) t there) ∙ text_is place m t starts

    found : (s : List ℕ) → is_there place s l ≡ true → number_among place s (l ∷ lines) ≡ Some 0
    found s there = ap (λ b. if b then Some 0 else option_map suc (number_among place s lines)) there

    missed : (s : List ℕ) → is_there place s l ≡ false → number_among place s (l ∷ lines) ≡ option_map suc (number_among place s lines)
    missed s there = ap (λ b. if b then Some 0 else option_map suc (number_among place s lines)) there

    by : (b : Bool) → is_there place t l ≡ b
        → ((k : ℕ) → number_among place t lines ≡ Some k
        → ((s : List ℕ) (j : ℕ) → number_among place s lines ≡ Some j → is_of place m s ≡ true → k ≤ j)
        → (k < length lines) × (first_shown place m lines ≡ Some t) × ((d : List ℕ) → shown_in place m (get_or lines k d) ≡ Some t))
        → (n < suc (length lines)) × (first_shown place m (l ∷ lines) ≡ Some t) × ((d : List ℕ) → shown_in place m (get_or (l ∷ lines) n d) ≡ Some t)
    by true there later =
        let zero_is : n ≡ 0 = cc (found t there, at) in (
          omega arith,
          ap (λ o. option_or o (first_shown place m lines)) (shows there),
          λ d. ap (λ k. shown_in place m (get_or (l ∷ lines) k d)) zero_is ∙ shows there,
        )
    by false there later =
        let k = later_none n (number_among place t lines) (sym (missed t there) ∙ at) in
        let none : shown_in place m l ≡ None = shows_none place m l (λ s is begins. absurd (omega (arith, least s 0 (found s is) begins, k.2))) in
        let rest = later k.0 k.1 (λ s j of begins. further s j of begins k.0 k.2 (is_there place s l) refl) in (
          omega (arith, rest.0, k.2),
          ap (λ o. option_or o (first_shown place m lines)) none ∙ rest.1,
          λ d. ap (λ i. shown_in place m (get_or (l ∷ lines) i d)) k.2 ∙ rest.2 d,
        )
      where
        further : (s : List ℕ) (j : ℕ) → number_among place s lines ≡ Some j → is_of place m s ≡ true → (i : ℕ) → n ≡ suc i → (b : Bool)
            → is_there place s l ≡ b → i ≤ j
        further s j of begins i e true is = absurd (omega (arith, least s 0 (found s is) begins, e))
        further s j of begins i e false is = omega (arith, least s (suc j) (missed s is ∙ ap (option_map suc) of) begins, e)

-- there is a number by a text where one of the lines has it there
pub has_number : (place : Stand) (t : List ℕ) (lines : List (List ℕ)) → is_some (number_among place t lines) ≡ list_any (is_there place t) lines
has_number place t [] = refl
has_number place t (l ∷ lines) = grind (arith, common_steps, has_number place t lines)

-- a number that is put where there was none is the first by its text
pub put_first : (old : Option ℕ) (b : Bool) (k : ℕ) → (b ≡ true → old ≡ None) → cond b (Some k) old ≡ first_of old b k
put_first old true k fresh = sym (ap (λ o. first_of o true k) (fresh refl))
put_first old false k fresh = sym (none_first old k)

pub is_none : (o : Option ℕ) → is_some o ≡ false → o ≡ None
is_none None is = refl
is_none (Some i) is = absurd (cc is)
