-- Laws of what stands around the elements of a group.
use Rattle.annotate_snippets.proofs.Common.{◌≡◌, ℕ, ◌+◌, ◌-◌, nat_eq, ◌&&◌, not, Bool, true, false, if◌then◌else◌, Option, None, Some}
use Rattle.annotate_snippets.proofs.Common.{List, [], ◌∷◌, drop, length, zero, suc, refl, sym, ap, arith, slice_get, is_some, nat_tests, Element, Cause}
use Rattle.annotate_snippets.proofs.Common.{Message, Origin, Padding, Suggestion, Opening, Path, first_two_share, is_end, next_of, CanStandIn}
use Rattle.annotate_snippets.proofs.Common.{begins_in_row_above, is_next_start, is_other_file, path_bytes, share_file, context_at, GroupPosition}
use Rattle.snippet_suggest.specs.declared.SuggestionStart.TheVariants.{Next}

-- whether the element of this number begins in the last row of the one before
abbrev pub shares_before : List Element → ℕ → Bool
shares_before es i = not (nat_eq i 0) && first_two_share (drop (i - 1) es)

-- the elements from one on are that one and others
pub from_element : (es : List Element) (i : ℕ) (e : Element) → slice_get es i ≡ Some e → (rest : List Element) × (drop i es ≡ e ∷ rest)
from_element [] i e is = absurd (cc)
from_element (x ∷ es) zero e is =
    let same : x ≡ e = cc in
    (es, ap (λ y. y ∷ es) same)
from_element (x ∷ es) (suc i) e is = from_element es i e is

-- whether an element is a snippet of patches; no other shares a file
abbrev is_patches : Element → Bool
is_patches (Message message) = false
is_patches (Cause snippet) = false
is_patches (Suggestion snippet) = true
is_patches (Origin origin) = false
is_patches (Padding padding) = false

shares_none : (d e : Element) → is_patches e ≡ false → share_file d e ≡ false
shares_none (Message message) e other = refl
shares_none (Cause snippet) e other = refl
shares_none (Suggestion snippet) (Message message) other = refl
shares_none (Suggestion snippet) (Cause cause) other = refl
shares_none (Suggestion snippet) (Suggestion patches) other = absurd (cc)
shares_none (Suggestion snippet) (Origin origin) other = refl
shares_none (Suggestion snippet) (Padding padding) other = refl
shares_none (Origin origin) e other = refl
shares_none (Padding padding) e other = refl

-- so it shares no row with the one after it
first_alone : (e : Element) (rest : List Element) → ((d : Element) → share_file e d ≡ false) → first_two_share (e ∷ rest) ≡ false
first_alone e [] never = refl
first_alone e (d ∷ rest) never = never d

shared_not : (es : List Element) (i : ℕ) (e : Element) → slice_get es i ≡ Some e → ((d : Element) → share_file e d ≡ false)
    → first_two_share (drop i es) ≡ false
shared_not es i e is never = grind (arith, from_element, first_alone)

-- nor with the one before it
pair_not : (es : List Element) (k : ℕ) (e : Element) → slice_get es (suc k) ≡ Some e → is_patches e ≡ false → first_two_share (drop k es) ≡ false
pair_not [] k e is other = absurd (cc)
pair_not (d ∷ []) zero e is other = refl
pair_not (d ∷ x ∷ es) zero e is other = grind (arith, shares_none)
pair_not (d ∷ es) (suc k) e is other = pair_not es k e is other

and_false : (a b : Bool) → b ≡ false → a && b ≡ false
and_false true b none = none
and_false false b none = refl

before_alone : (es : List Element) (i : ℕ) (e : Element) → slice_get es i ≡ Some e → is_patches e ≡ false → shares_before es i ≡ false
before_alone es zero e is other = refl
before_alone es (suc k) e is other = grind (arith, and_false, nat_eq, pair_not)

-- after the last element there is none to share a row
last_not : (es : List Element) (k : ℕ) → length es ≡ suc k → first_two_share (drop k es) ≡ false
last_not [] k is = absurd (omega arith)
last_not (d ∷ []) zero is = refl
last_not (d ∷ x ∷ es) zero is = absurd (omega (arith, is))
last_not (d ∷ es) (suc k) is = last_not es k (omega (arith, is))

-- after the last element nothing is shared
pub shares_end : (es : List Element) → shares_before es (length es) ≡ false
shares_end [] = refl
shares_end (d ∷ es) = grind (arith, and_false, nat_eq, last_not)

-- an element begins in the row above it where the one before it shares that
pub shares_after : (es : List Element) (i : ℕ) → shares_before es (i + 1) ≡ first_two_share (drop i es)
shares_after es i = grind (arith, nat_eq, nat_tests)

-- where an element shares its last row with the next one, that follows it
pub shared_goes_on : (es : List Element) (i : ℕ) → first_two_share (drop i es) ≡ true → is_end (next_of (drop (i + 1) es)) ≡ false
shared_goes_on [] zero shares = cc
shared_goes_on [] (suc i) shares = cc
shared_goes_on (d ∷ []) zero shares = cc
shared_goes_on (d ∷ x ∷ es) zero shares = follows x
  where
    follows : (x : Element) → is_end (next_of (x ∷ es)) ≡ false
    follows (Message message) = refl
    follows (Cause snippet) = refl
    follows (Suggestion snippet) = refl
    follows (Origin origin) = refl
    follows (Padding padding) = refl
shared_goes_on (d ∷ es) (suc i) shares = grind (arith, shared_goes_on es i shares)

-- where a suggestion begins below its path it has one
other_has : (file path : Option (List ℕ)) → is_other_file file path ≡ true → is_some path ≡ true
other_has file None other = other
other_has file (Some path) other = refl

path_start : (shares other : Bool) (file path : Option (List ℕ)) → is_other_file file path ≡ other
    → (if shares then Next else (if other then Path else Opening)) ≡ Path → is_some path ≡ true
path_start true other file path is starts = absurd (cc)
path_start false true file path is starts = other_has file path is
path_start false false file path is starts = absurd (cc)

-- each element can stand in what is around it
pub can_stand : (place : GroupPosition) (file : Option (List ℕ)) (es : List Element) (i : ℕ) (e : Element) → slice_get es i ≡ Some e
    → CanStandIn (context_at place file es i e) e
can_stand place file es i (Message message) is = (refl, shared_not es i (Message message) is (λ d. refl))
can_stand place file es i (Cause snippet) is = (refl, shared_not es i (Cause snippet) is (λ d. refl))
can_stand place file es i (Suggestion snippet) is = λ starts. path_start _ _ file _ refl starts
can_stand place file es i (Origin origin) is = (refl, shared_not es i (Origin origin) is (λ d. refl))
can_stand place file es i (Padding padding) is = (refl, shared_not es i (Padding padding) is (λ d. refl))

-- a suggestion begins in the row above it where it shares that, and no other element does
next_start : (shares other : Bool) → is_next_start (if shares then Next else (if other then Path else Opening)) ≡ shares
next_start true other = refl
next_start false true = refl
next_start false false = refl

-- an element begins in the row above where it shares that with the one before
pub begins_is : (place : GroupPosition) (file : Option (List ℕ)) (es : List Element) (i : ℕ) (e : Element) → slice_get es i ≡ Some e
    → begins_in_row_above (context_at place file es i e) ≡ shares_before es i
begins_is place file es i (Message message) is = sym (before_alone es i (Message message) is refl)
begins_is place file es i (Cause snippet) is = sym (before_alone es i (Cause snippet) is refl)
begins_is place file es i (Suggestion snippet) is = next_start (shares_before es i) (is_other_file file (path_bytes snippet.path))
begins_is place file es i (Origin origin) is = sym (before_alone es i (Origin origin) is refl)
begins_is place file es i (Padding padding) is = sym (before_alone es i (Padding padding) is refl)
