-- What holds of a text holds of the file that it is.
use Rattle.std.proofs.Common.{◌≡◌, ℕ, List, Option, Some, None, IfSome, MatchOption, subst}
use Rattle.program.specs.Source.{IsSource}

-- what holds of the source holds of the file, where there is one
pub for-file : (file : Option (List ℕ)) → (source : List ℕ) → (P : List ℕ → Type 0) → (N : Type 0)
    → MatchOption file N (λ bytes. IsSource bytes × (source ≡ bytes)) → P source → IfSome file P
for-file None source P N is holds = tt
for-file (Some bytes) source P N is holds = subst P is.1 holds
