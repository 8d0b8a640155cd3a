-- The least and the greatest of some numbers.
use Rattle.std.specs.Prelude.{ℕ, min, max, List, [], ◌∷◌, Option, Some, None}
use Rattle.std.specs.Prelude.{fold}
use Rattle.std.specs.Option.{option_map_or}

-- the least of some numbers, if there are any
abbrev pub least : List ℕ → Option ℕ
least [] = None
least (n ∷ ns) = Some (option_map_or (λ m. min n m) (least ns) n)

-- the greatest of some numbers, or 0 where there is none
abbrev pub greatest : List ℕ → ℕ
greatest ns = fold (λ m n. max m n) 0 ns
