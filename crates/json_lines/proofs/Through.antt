-- Where the first line of some bytes ends.
use Rattle.std.proofs.Common.{◌≡◌, ℕ, zero, suc, ◌+◌, ◌<◌, ◌≤◌, ◌++◌, ◌==◌, ◌∙◌, Bool, true, false, List, [], ◌∷◌, Option, None, Some, IfSome, drop, length}
use Rattle.std.proofs.Common.{slice_index, take, take-append-drop, length-take, refl, sym, ap, arith, add-one}
use Rattle.std.specs.Io.BufRead.{DropsConsumable, drop_through, take_through}
use Rattle.std.specs.Io.KnownBytes.{Keeps}
use Rattle.memchr.specs.Find.{IsFirstByte, is_byte}
use Rattle.json_lines.specs.TakenLine.{EndsAt, TakesLine}

through : (bytes rest : List ℕ) (at : ℕ) → at < length bytes → (slice_index bytes at == 10) ≡ true → ((k : ℕ) → k < at → (slice_index bytes k == 10) ≡ false)
    → (take_through 10 (bytes ++ rest) ≡ take (suc at) bytes) × (drop_through 10 (bytes ++ rest) ≡ drop (suc at) (bytes ++ rest))
through [] rest at within is before = absurd (omega arith)
through (x ∷ xs) rest zero within is before = (rw is refl, rw is refl)
through (x ∷ xs) rest (suc at) within is before =
    let not_here : (x == 10) ≡ false = before 0 (omega arith) in
    let later = through xs rest at (omega arith) is (λ k less. before (suc k) (omega arith)) in
    (rw not_here (ap (λ l. x ∷ l) later.0), rw not_here later.1)

pub ends : (bytes rest : List ℕ) (at : ℕ) → at < length bytes → (slice_index bytes at == 10) ≡ true → ((k : ℕ) → k < at → (slice_index bytes k == 10) ≡ false)
    → (take_through 10 (bytes ++ rest) ≡ take (at + 1) bytes) × (drop_through 10 (bytes ++ rest) ≡ drop (at + 1) (bytes ++ rest))
ends bytes rest at within is before = rw add-one (through bytes rest at within is before)

-- what is left of what a reader holds, where so much of it is consumed as may be
left : (limit : Option ℕ) (n count : ℕ) (xs : List ℕ) (new : Option (List ℕ)) → count ≤ n → IfSome limit (λ most. n ≤ most)
    → (IfSome limit (λ most. count ≤ most) → new ≡ Some (drop count xs)) → new ≡ Some (drop count xs)
left None n count xs new le most e = e tt
left (Some m) n count xs new le most e = e (omega arith)

line_of : (xs s line : List ℕ) (new : Option (List ℕ)) (count : ℕ) → line ≡ take count s → EndsAt count s → take (length s) xs ≡ s
    → new ≡ Some (drop count xs) → (line ≡ take_through 10 xs) × (new ≡ Some (drop_through 10 xs))
line_of xs s line new count is ends front e =
    let whole : s ++ drop (length s) xs ≡ xs = ap (λ (l : List ℕ). l ++ drop (length s) xs) (sym front) ∙ take-append-drop (length s) xs in
    let parts = rw whole at (ends (drop (length s) xs)) in
    (is ∙ sym parts.0, e ∙ ap (λ (l : List ℕ). Some l) (sym parts.1))

longer : (s line : List ℕ) (count : ℕ) → 0 < count → count ≤ length s → line ≡ take count s → 0 < length line
longer s line count some le is = omega (arith, ap length is, length-take count s)

pub takes : (old mid new : Option (List ℕ)) (limit : Option ℕ) (s line : List ℕ) (count : ℕ) → 0 < count → count ≤ length s → line ≡ take count s
    → EndsAt count s → IfSome old (λ xs. take (length s) xs ≡ s) → Keeps old mid → IfSome old (λ xs. IfSome limit (λ most. length s ≤ most))
    → DropsConsumable mid new limit count → TakesLine old new line
takes None mid new limit s line count some le is ends front keeps most drops = record { some = longer s line count some le is; is = tt }
takes (Some xs) None new limit s line count some le is ends front keeps most drops = absurd keeps
takes (Some xs) (Some ys) new limit s line count some le is ends front keeps most drops =
    let e = rw keeps at (left limit (length s) count ys new le most drops) in
    record { some = longer s line count some le is; is = line_of xs s line new count is ends front e }

off : (b : Bool) → (b ≡ true → ⊥) → b ≡ false
off true h = absurd (h refl)
off false h = refl

pub ends_first : (bytes : List ℕ) (at : ℕ) → IsFirstByte (is_byte 10) bytes (Some at) → EndsAt (at + 1) bytes
ends_first bytes at first =
    λ rest. ends bytes rest at first.0.high first.1 (λ k less. off (slice_index bytes k == 10) (first.0.before k (omega arith) less))
