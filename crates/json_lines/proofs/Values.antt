-- The values of a list are those that it was made of.
use Rattle.std.proofs.Common.{◌≡◌, List, [], ◌∷◌, Some, ap, refl}
use Rattle.serde_json.specs.Data.{Data}
use Rattle.serde_json.specs.View.{items_of}
use Rattle.json_lines.specs.Lenient.{values}

pub values_of : (ds : List Data) → values (Some (items_of ds)) ≡ ds
values_of [] = refl
values_of (d ∷ ds) = ap (λ es. d ∷ es) (values_of ds)
