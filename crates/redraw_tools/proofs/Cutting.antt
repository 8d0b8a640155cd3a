-- What the library's ways to cut a text leave, as it is said of texts.
use Rattle.std.proofs.Common.{◌≡◌, ℕ, suc, zero, ◌+◌, ◌-◌, ◌<◌, ◌≤◌, false, List, [], ◌∷◌, ◌++◌, Option, Some, None, drop, take, eqb, length}
use Rattle.std.proofs.Common.{refl, sym, ap, ◌∙◌, arith, if◌then◌else◌, ⊎_elim}
use Rattle.std.specs.Prelude.{option_map}
use Rattle.std.specs.List.{ends_with, starts_with}
use Rattle.std.specs.Option.{MatchOption, option_or}
use Rattle.std.specs.Str.Pattern.{FindsText, FindsTextPrefix, FindsTextSuffix, LacksTextAt, RFindsText, StripsPrefix, StripsSuffix}
use Rattle.std.specs.Borrow.{Bor}
use Rattle.std.proofs.lemmas.Bool.{cases_Bool}
use Rattle.std.proofs.lemmas.Bool.Decides.{Decides-eqb}
use Rattle.std.proofs.lemmas.Slice.Eq.{ends_is, starts_is}
use Rattle.json_lines.specs.Field.{lent_text}
use Rattle.redraw_tools.specs.Cut.{Parts, after, before, lent_parts, parted, parted_here, parted_last, with_byte}

-- words that don't begin a text, and words that do
lacks : (n s : List ℕ) → LacksTextAt n s 0 → starts_with eqb s n ≡ false
lacks n s h = ⊎_elim (λ e. absurd (h _ ((starts_is Decides-eqb s n _ refl).0 e))) (λ e. e) (cases_Bool (starts_with eqb s n))

after-lacking : (n s : List ℕ) → LacksTextAt n s 0 → after n s ≡ None
after-lacking n s h = ap (λ t. if t then Some (drop (length n) s) else None) (lacks n s h)

after-begun : (n s rest : List ℕ) → s ≡ n ++ rest → after n s ≡ Some (drop (length n) s)
after-begun n s rest e = ap (λ t. if t then Some (drop (length n) s) else None) ((starts_is Decides-eqb s n _ refl).1 rest e)

-- what `strip_prefix` leaves
pub stripped : (n s : List ℕ) (r : Option (Bor (List ℕ)))
    → MatchOption r (FindsTextPrefix n s None) (λ x. StripsPrefix (FindsTextPrefix n) s x.now) → lent_text r ≡ after n s
stripped n s None h = sym (after-lacking n s h)
stripped n s (Some x) h =
    ap Some (h.2 ∙ ap (λ k. drop k s) h.1.0) ∙ sym (after-begun n s _ h.1.1)

-- what `strip_suffix` leaves
unended : (n s : List ℕ) → ((front : List ℕ) → s ≡ front ++ n → ⊥) → ends_with eqb s n ≡ false
unended n s h = ⊎_elim (λ e. absurd (h _ ((ends_is Decides-eqb s n _ refl).0 e))) (λ e. e) (cases_Bool (ends_with eqb s n))

pub ended : (n s : List ℕ) (r : Option (Bor (List ℕ)))
    → MatchOption r (FindsTextSuffix n s None) (λ x. StripsSuffix (FindsTextSuffix n) s x.now) → lent_text r ≡ before n s
ended n s None h = sym (ap (λ t. if t then Some (take (length s - length n) s) else None) (unended n s h))
ended n s (Some x) h =
    ap Some (h.2 ∙ ap (λ k. take (length s - k) s) h.1.0)
    ∙ sym (ap (λ t. if t then Some (take (length s - length n) s) else None) ((ends_is Decides-eqb s n _ refl).1 _ h.1.1))

-- words that begin a text cut it there
here-begun : (n s rest : List ℕ) (j : ℕ) → s ≡ n ++ rest → length n ≡ j → parted_here n s ≡ Some ([], drop j s)
here-begun n s rest j e len =
    ap (λ (o : Option (List ℕ)). option_map (λ (r : List ℕ). ([], r)) o) (after-begun n s rest e) ∙ ap (λ k. Some ([], drop k s)) len

here-lacking : (n s : List ℕ) → LacksTextAt n s 0 → parted_here n s ≡ None
here-lacking n s h = ap (λ (o : Option (List ℕ)). option_map (λ (r : List ℕ). ([], r)) o) (after-lacking n s h)

-- where the words stand first, the text is cut
first-found : (n s : List ℕ) (i j : ℕ) → ((k : ℕ) → k < i → LacksTextAt n s k) → drop i s ≡ n ++ drop j s → j ≡ i + length n
    → parted n s ≡ Some (take i s, drop j s)
first-found n [] zero j free here ends = here-begun n [] _ j here (omega (arith, ends))
first-found n [] (suc i) j free here ends = absurd (free 0 (omega arith) _ here)
first-found n (b ∷ bs) zero j free here ends =
    ap (λ (o : Option Parts). option_or o (option_map (with_byte b) (parted n bs))) (here-begun n (b ∷ bs) _ j here (omega (arith, ends)))
first-found n (b ∷ bs) (suc i) j free here ends =
    let e : j ≡ suc (i + length n) = omega (arith, ends) in
    ap (λ (o : Option Parts). option_or o (option_map (with_byte b) (parted n bs))) (here-lacking n (b ∷ bs) (free 0 (omega arith)))
    ∙ ap (option_map (with_byte b))
    (first-found n bs i (i + length n) (λ k less. free (suc k) (omega arith)) (here ∙ ap (λ k. n ++ drop k (b ∷ bs)) e) refl)
    ∙ ap (λ k. Some (b ∷ take i bs, drop k (b ∷ bs))) (sym e)

-- where they stand nowhere, there is nothing
first-lacking : (n s : List ℕ) → ((k : ℕ) → k ≤ length s → LacksTextAt n s k) → parted n s ≡ None
first-lacking n [] none = here-lacking n [] (none 0 (omega arith))
first-lacking n (b ∷ bs) none =
    ap (λ (o : Option Parts). option_or o (option_map (with_byte b) (parted n bs))) (here-lacking n (b ∷ bs) (none 0 (omega arith)))
    ∙ ap (option_map (with_byte b)) (first-lacking n bs (λ k within. none (suc k) (omega arith)))

-- what `split_once` answers
pub splits : (n s : List ℕ) (r : Option (Bor (List ℕ) × Bor (List ℕ)))
    → MatchOption r (FindsText n s None)
    (λ x. (i : ℕ) × (j : ℕ) × FindsText n s (Some (i, j)) × (x.0.now ≡ take i s) × (x.1.now ≡ drop j s) × (i ≤ j) × (length x.0.now ≡ i)
    × (length x.1.now + j ≡ length s))
    → lent_parts r ≡ parted n s
splits n s None h = sym (first-lacking n s h)
splits n s (Some x) h =
    (λ k. Some (h.3 k, h.4 k)) ∙ sym (first-found n s h.0 h.1 h.2.0 h.2.1.split h.2.1.ends)

-- the same of where they stand last
last-lacking : (n s : List ℕ) → ((k : ℕ) → k ≤ length s → LacksTextAt n s k) → parted_last n s ≡ None
last-lacking n [] none = here-lacking n [] (none 0 (omega arith))
last-lacking n (b ∷ bs) none =
    ap (λ (o : Option Parts). option_or (option_map (with_byte b) o) (parted_here n (b ∷ bs)))
    (last-lacking n bs (λ k within. none (suc k) (omega arith)))
    ∙ here-lacking n (b ∷ bs) (none 0 (omega arith))

last-found : (n s : List ℕ) (i j : ℕ) → ((k : ℕ) → i < k → k ≤ length s → LacksTextAt n s k) → drop i s ≡ n ++ drop j s → j ≡ i + length n
    → i ≤ length s → parted_last n s ≡ Some (take i s, drop j s)
last-found n [] zero j free here ends within = here-begun n [] _ j here (omega (arith, ends))
last-found n [] (suc i) j free here ends within = absurd (omega (arith, within))
last-found n (b ∷ bs) zero j free here ends within =
    ap (λ (o : Option Parts). option_or (option_map (with_byte b) o) (parted_here n (b ∷ bs)))
    (last-lacking n bs (λ k less. free (suc k) (omega arith) (omega (arith, less))))
    ∙ here-begun n (b ∷ bs) _ j here (omega (arith, ends))
last-found n (b ∷ bs) (suc i) j free here ends within =
    let e : j ≡ suc (i + length n) = omega (arith, ends) in
    ap (λ (o : Option Parts). option_or (option_map (with_byte b) o) (parted_here n (b ∷ bs)))
    (last-found n bs i (i + length n) (λ k less inside. free (suc k) (omega (arith, less)) (omega (arith, inside)))
    (here ∙ ap (λ k. n ++ drop k (b ∷ bs)) e) refl (omega (arith, within)))
    ∙ ap (λ k. Some (b ∷ take i bs, drop k (b ∷ bs))) (sym e)

-- what `rsplit_once` answers
pub splits-last : (n s : List ℕ) (r : Option (Bor (List ℕ) × Bor (List ℕ)))
    → MatchOption r (RFindsText n s None)
    (λ x. (i : ℕ) × (j : ℕ) × RFindsText n s (Some (i, j)) × (x.0.now ≡ take i s) × (x.1.now ≡ drop j s) × (i ≤ j) × (length x.0.now ≡ i)
    × (length x.1.now + j ≡ length s))
    → lent_parts r ≡ parted_last n s
splits-last n s None h = sym (last-lacking n s h)
splits-last n s (Some x) h =
    (λ k. Some (h.3 k, h.4 k))
    ∙ sym (last-found n s h.0 h.1 h.2.0 h.2.1.split h.2.1.ends (omega (arith, h.5, h.7)))
