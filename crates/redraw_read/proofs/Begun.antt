-- Edits that are taken one after another, as the alternatives that they are.
use Rattle.std.proofs.lemmas.Grind.{common_steps}
use Rattle.std.proofs.Common.{◌≡◌, ◌++◌, List, [], ◌∷◌, arith}
use Rattle.std.specs.Global.{Vec}
use Rattle.std.specs.List.{flat_map}
use Rattle.std.proofs.lemmas.Grind.{flat_map-append}
use Rattle.std.proofs.lemmas.List.{append_assoc, append-nil}

-- an edit begins an alternative: the one before it is done
pub begins : {E : Type 0} (alternatives next : List (Vec E)) (current now : Vec E) (pushed yielded : List E) (edit : E)
    → next ≡ alternatives ++ current ∷ [] → now.items ≡ [] → pushed ≡ now.items ++ edit ∷ []
    → flat_map (λ (each : Vec E). each.items) alternatives ++ current.items ≡ yielded
    → flat_map (λ (each : Vec E). each.items) next ++ pushed ≡ yielded ++ edit ∷ []
begins {E} alternatives next current now pushed yielded edit grows none pushes before = grind (arith, common_steps, flat_map-append, append-nil)

-- or it joins the alternative that is made
pub joins : {E : Type 0} (alternatives next : List (Vec E)) (current now : Vec E) (pushed yielded : List E) (edit : E)
    → next ≡ alternatives → now.items ≡ current.items → pushed ≡ now.items ++ edit ∷ []
    → flat_map (λ (each : Vec E). each.items) alternatives ++ current.items ≡ yielded
    → flat_map (λ (each : Vec E). each.items) next ++ pushed ≡ yielded ++ edit ∷ []
joins {E} alternatives next current now pushed yielded edit same keeps pushes before = grind (arith, common_steps, append_assoc)
