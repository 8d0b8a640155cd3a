-- Reading the members of a list one after the other, as a loop does.
use Rattle.std.proofs.Common.{◌≡◌, ℕ, suc, ◌+◌, ◌-◌, ◌<◌, ◌≤◌, List, [], ◌∷◌, ◌++◌, length, All, Result, Ok, Err, refl, sym, ap, subst, ◌∙◌, arith}
use Rattle.std.proofs.lemmas.List.{length-append}
use Rattle.std.proofs.lemmas.List.Elements.{All-push}
use Rattle.report_bytes.specs.Bytes.{members_then}
use Rattle.report_bytes.specs.Reading.{Fails, after_members}
use Rattle.report_bytes.specs.declared.fault.ByteFault.{ByteFault}
use Rattle.report_bytes.specs.declared.fault.ReadError.{ReadError}
use Rattle.report_bytes.specs.declared.fault.ReadError.TheVariants as errors

-- one member more
pub members_more : {X : Type 0} (f : X → List ℕ → List ℕ) (xs : List X) (x : X) (rest : List ℕ)
    → members_then f (xs ++ x ∷ []) rest ≡ members_then f xs (f x rest)
members_more f [] x rest = refl
members_more f (y ∷ xs) x rest = ap (f y) (members_more f xs x rest)

-- the same of bytes that begin with some members and go on with one more
pub spelled_more : {X : Type 0} (f : X → List ℕ → List ℕ) (bytes : List ℕ) (xs ys : List X) (x : X) (rest left : List ℕ)
    → bytes ≡ members_then f xs rest → rest ≡ f x left → ys ≡ xs ++ x ∷ [] → bytes ≡ members_then f ys left
spelled_more f bytes xs ys x rest left so_far one grown =
    so_far ∙ ap (members_then f xs) one ∙ sym (members_more f xs x left) ∙ ap (λ zs. members_then f zs left) (sym grown)

-- what holds of each member holds of one more
pub all_more : {X : Type 0} (P : X → Type 0) (xs ys : List X) (x : X) → ys ≡ xs ++ x ∷ [] → All P xs → P x → All P ys
all_more P xs ys x grown all one = subst (All P) (sym grown) (All-push P xs x all one)

-- the number of members, with one more
pub count_more : {X : Type 0} (xs ys : List X) (x : X) (i : ℕ) → ys ≡ xs ++ x ∷ [] → length xs ≡ i → length ys ≡ i + 1
count_more xs ys x i grown so_far = ap length grown ∙ length-append xs (x ∷ []) ∙ ap (λ n. n + 1) so_far

-- a member was read, and the others are still to be read
pub goes_on : (after : List ℕ → Result (List ℕ) ByteFault) (count i : ℕ) (bytes left : List ℕ) (total : Result (List ℕ) ByteFault) → i < count
    → after bytes ≡ Ok left → after_members after (count - i) bytes ≡ total → after_members after (count - (i + 1)) left ≡ total
unfolding after_members
goes_on after count i bytes left total lt one so_far =
    let k : count - i ≡ suc (count - (i + 1)) = omega arith in
    let step : after_members after (count - i) bytes ≡ after_members after (count - (i + 1)) left = rw (k, one) refl in
    sym step ∙ so_far

-- a member wasn't read
pub ends : (after : List ℕ → Result (List ℕ) ByteFault) (e : ReadError) (count i : ℕ) (bytes : List ℕ) (total : Result (List ℕ) ByteFault) → i < count
    → Fails e (after bytes) → after_members after (count - i) bytes ≡ total → Fails e total
unfolding after_members
ends after errors.Memory count i bytes total lt one so_far = tt
ends after (errors.Fault fault) count i bytes total lt one so_far =
    let k : count - i ≡ suc (count - (i + 1)) = omega arith in
    let step : after_members after (count - i) bytes ≡ Err fault = rw (k, one) refl in
    sym so_far ∙ step

-- all members were read
pub is_done : (after : List ℕ → Result (List ℕ) ByteFault) (count i : ℕ) (bytes : List ℕ) (total : Result (List ℕ) ByteFault) → count ≤ i
    → after_members after (count - i) bytes ≡ total → total ≡ Ok bytes
unfolding after_members
is_done after count i bytes total le so_far =
    let k : count - i ≡ 0 = omega arith in
    let step : after_members after (count - i) bytes ≡ Ok bytes = rw k refl in
    sym so_far ∙ step
