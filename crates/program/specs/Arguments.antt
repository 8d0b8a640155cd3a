-- The arguments of a command line.
use Rattle.std.specs.Prelude.{ℕ, List, map}
use Rattle.std.specs.Borrow.{Bor}

-- an argument, by its bytes
abbrev pub Argument : Type 0
Argument = List ℕ

-- the arguments that a list of references leads to
abbrev pub arguments_at : List (Bor Argument) → List Argument
arguments_at refs = map (λ (a : Bor Argument). a.now) refs
