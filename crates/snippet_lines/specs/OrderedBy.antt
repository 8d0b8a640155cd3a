-- A list put in order by a test that says what comes before what.
use Rattle.std.specs.Prelude.{Bool, List, [], ◌∷◌, if◌then◌else◌}

-- an element put before the first of some others that it doesn't come after, under a test that says what comes before
-- what; and a list put in order by such a test, ties as given
abbrev pub put_in : {X : Type 0} → (X → X → Bool) → X → List X → List X
put_in before x [] = x ∷ []
put_in before x (y ∷ ys) = if before y x then y ∷ put_in before x ys else x ∷ y ∷ ys

-- a list put in order by such a test
abbrev pub ordered_by : {X : Type 0} → (X → X → Bool) → List X → List X
ordered_by before [] = []
ordered_by before (x ∷ xs) = put_in before x (ordered_by before xs)
