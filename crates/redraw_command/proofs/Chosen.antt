-- Whether one of some elements is such a one, as they are walked along.
use Rattle.std.proofs.Common.{◌≡◌, ℕ, ◌+◌, ◌<◌, List, length, take, subst, sym}
use Rattle.std.specs.List.{All, Any, slice_index_or}
use Rattle.std.proofs.lemmas.List.Elements.{All-get_or}

-- none is, where each isn't
pub none-any : {X : Type 0} (P : X → Type 0) (xs : List X) → All (λ x. P x → ⊥) xs → Any P xs → ⊥
none-any P xs none (k, x, within, is, one) = All-get_or (λ y. P y → ⊥) xs k x within none (subst P (sym is) one)
