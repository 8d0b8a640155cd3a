-- What stands around the elements of a group is found one by one.
use Rattle.annotate_snippets.proofs.Common.{◌≡◌, ◌∙◌, ℕ, ◌+◌, ◌-◌, ◌==◌, ◌&&◌, ◌||◌, not, suc, zero, Bool, true, false, List}
use Rattle.annotate_snippets.proofs.Common.{[], ◌∷◌, ◌++◌, Option, Some, None, length, take, drop, refl, sym, ap, arith, list_any, slice_get, is_some}
use Rattle.annotate_snippets.proofs.Common.{option_copied, option_to_list, nat_tests, take_more, list_any-append, slice_get_within, slice_get_read}
use Rattle.annotate_snippets.proofs.Common.{get_or_from_slice_get, Bor, Element, Cause, Message, Origin, Padding, Suggestion, SuggestionStart, GroupPosition}
use Rattle.annotate_snippets.proofs.Common.{Next, ContextWalk, IsWalkAt, context_at, file_of_element, first_two_share, next_of, suggestion_start}
use Rattle.std.proofs.Common.{add-one}
use Rattle.std.proofs.lemmas.Option.{slice_get_past}
use Rattle.std.specs.Slice.{IsItemAt}

-- whether an element is of a file
abbrev pub has_file : Element → Bool
has_file e = is_some (file_of_element e)

-- whether no element before this one is of a file, and whether the one before it and it are suggestions for one file
abbrev pub primary_before : List Element → ℕ → Bool
primary_before es i = not (list_any has_file (take i es))

abbrev pub shares_before : List Element → ℕ → Bool
shares_before es i = not (i == 0) && first_two_share (drop (i - 1) es)

-- what follows is said by the element after
pub next_at : (es : List Element) (k : ℕ) → next_of (drop k es) ≡ next_of (option_to_list (slice_get es k))
next_at [] zero = refl
next_at [] (suc k) = refl
next_at (Message message ∷ es) zero = refl
next_at (Cause snippet ∷ es) zero = refl
next_at (Suggestion snippet ∷ es) zero = refl
next_at (Origin origin ∷ es) zero = refl
next_at (Padding padding ∷ es) zero = refl
next_at (e ∷ es) (suc k) = next_at es k

-- so is whether it shares a row with this one
shared_at : (es : List Element) (k : ℕ) (e : Element) → slice_get es k ≡ Some e
    → first_two_share (drop k es) ≡ first_two_share (e ∷ option_to_list (slice_get es (suc k)))
shared_at [] k e is = absurd (cc)
shared_at (x ∷ []) zero e is = refl
shared_at (x ∷ d ∷ es) zero e is = grind arith
shared_at (x ∷ es) (suc k) e is = shared_at es k e is

-- whether the one after shares a row with this one
shared_here : (es : List Element) (i : ℕ) (e : Element) (after : Option Element) → slice_get es i ≡ Some e → slice_get es (i + 1) ≡ after
    → first_two_share (drop i es) ≡ first_two_share (e ∷ option_to_list after)
shared_here es i e after here then = shared_at es i e here ∙ ap (λ o. first_two_share (e ∷ option_to_list o)) (ap (slice_get es) (sym (add-one i)) ∙ then)

-- what a walk says of the element that it has come to
pub walk_around : (place : GroupPosition) (file : Option (List ℕ)) (es : List Element) (i : ℕ) (walk : ContextWalk) (e : Element) (after : Option Element)
    (start : SuggestionStart) (shared : Bool) (next : Next) → IsWalkAt es i walk → slice_get es i ≡ Some e → slice_get es (i + 1) ≡ after
    → start ≡ suggestion_start file walk.shares e → shared ≡ first_two_share (e ∷ option_to_list after) → next ≡ next_of (option_to_list after)
    → record { place = place; first = walk.first; primary = walk.primary; start = start; shared = shared; next = next } ≡ context_at place file es i e
walk_around place file es i walk e after start shared next at here then starts pairs follows =
    grind (arith, drop, shared_here, next_of, next_at, at.shares_is, at.first_is, at.primary_is)

primary_next : (es : List Element) (i : ℕ) (e : Element) (primary : Bool) → slice_get es i ≡ Some e → primary ≡ primary_before es i
    → (primary && not (has_file e)) ≡ primary_before es (i + 1)
primary_next es i e primary at is =
    let more : take (i + 1) es ≡ take i es ++ e ∷ [] = cc (take_more es i e (slice_get_within es i e at), get_or_from_slice_get es i e e at) in
    let either : list_any has_file (take (i + 1) es) ≡ (list_any has_file (take i es) || has_file e) = ap (list_any has_file) more
    ∙ list_any-append has_file (take i es) (e ∷ []) ∙ ap (λ b. list_any has_file (take i es) || b) (last (has_file e)) in
    ap (λ b. b && not (has_file e)) is ∙ neither (list_any has_file (take i es)) (has_file e) ∙ ap not (sym either)
  where
    last : (b : Bool) → (b || false) ≡ b
    last true = refl
    last false = refl

    neither : (a b : Bool) → (not a && not b) ≡ not (a || b)
    neither true b = refl
    neither false b = refl

shares_next : (es : List Element) (i : ℕ) → first_two_share (drop i es) ≡ shares_before es (i + 1)
shares_next es i = grind (arith, nat_tests)

-- a walk that has passed an element has come to the next one
pub walk_on : (es : List Element) (i : ℕ) (walk new : ContextWalk) (e : Element) (after : Option Element) → IsWalkAt es i walk → slice_get es i ≡ Some e
    → slice_get es (i + 1) ≡ after → new.first ≡ false → new.primary ≡ (walk.primary && not (has_file e))
    → new.shares ≡ first_two_share (e ∷ option_to_list after) → IsWalkAt es (i + 1) new
walk_on es i walk new e after at here then first primary shares =
    let later : (i + 1 == 0) ≡ false = grind (arith, nat_tests) in
    record {
      first_is = first ∙ sym later;
      primary_is = primary ∙ primary_next es i e walk.primary here at.primary_is;
      shares_is = shares ∙ sym (shared_here es i e after here then) ∙ shares_next es i;
    }

-- the first of some items, as it is lent
pub front_item : {X : Type 0} (xs : List X) (front : Option (Bor X)) → IsItemAt xs 0 front → slice_get xs 0 ≡ option_copied front
front_item xs None is = slice_get_past xs 0 is.3
front_item xs (Some x) is = slice_get_read xs (length xs) 0 x.now refl is.3.0 is.1

-- an item of a list is the first of those from it on
pub slice_get-drop : {X : Type 0} (xs : List X) (n : ℕ) → slice_get (drop n xs) 0 ≡ slice_get xs n
slice_get-drop [] zero = refl
slice_get-drop [] (suc n) = refl
slice_get-drop (x ∷ xs) zero = refl
slice_get-drop (x ∷ xs) (suc n) = slice_get-drop xs n
