-- The rule that an id names, name by name: the id, and each shorter one.
use Rattle.std.proofs.Common.{◌≡◌, ◌∙◌, ℕ, zero, suc, List, Option, Some, None, ap, refl, sym}
use Rattle.std.specs.Prelude.{option_and_then}
use Rattle.std.specs.Option.{option_or}
use Rattle.serde_json.specs.Data.{Data}
use Rattle.redraw_tools.specs.Rule.{first_with, named_within, shorter}

-- what is named by this id's rule, or by a shorter name
abbrev by_shorter : ℕ → List Data → Option ℕ → Option (List ℕ) → Option ℕ
by_shorter m rules first next = option_or first (option_and_then (named_within m rules) next)

pub next-named : (n m : ℕ) (rules : List Data) (id next : List ℕ) → n ≡ suc m → first_with id rules ≡ None → shorter id ≡ Some next
    → named_within m rules next ≡ named_within n rules id
next-named n m rules id next more none is =
    sym (ap (λ k. named_within k rules id) more ∙ ap (λ f. by_shorter m rules f (shorter id)) none ∙ ap (by_shorter m rules None) is)

pub first-named : (n m k : ℕ) (rules : List Data) (id : List ℕ) → n ≡ suc m → first_with id rules ≡ Some k → named_within n rules id ≡ Some k
first-named n m k rules id more is = ap (λ j. named_within j rules id) more ∙ ap (λ f. by_shorter m rules f (shorter id)) is

pub none-named : (n : ℕ) (rules : List Data) (id : List ℕ) → first_with id rules ≡ None → shorter id ≡ None → named_within n rules id ≡ None
none-named zero rules id none no_next = refl
none-named (suc m) rules id none no_next = ap (λ f. by_shorter m rules f (shorter id)) none ∙ ap (by_shorter m rules None) no_next

pub none-left : (n : ℕ) (rules : List Data) (id : List ℕ) → n ≡ 0 → named_within n rules id ≡ None
none-left n rules id is = ap (λ k. named_within k rules id) is
