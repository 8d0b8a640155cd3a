-- What isn't loaded: what wrong bodies leave of small files contradicts what is said of loading them.
use Rattle.std.proofs.lemmas.Grind.{common_steps}
use Rattle.std.proofs.Common.{◌≡◌, ◌||◌, ℕ, false, eqb, List, [], ◌∷◌, arith, codes, is_some, string_bytes}
use Rattle.std.specs.List.{starts_with}
use Rattle.std.proofs.lemmas.List.Elements.{All-head}
use Rattle.redraw_read.specs.Loaded.{IsAskedFor, Loads}
use Rattle.redraw_read.specs.declared.sources.File.{File}

-- no file asked for, where one is named
pub nothing_loaded : (home name : List ℕ) (names unread still : List (List ℕ)) → Loads home (name ∷ names) [] [] unread still → ⊥
nothing_loaded home name names unread still loads =
    let asked : IsAskedFor [] home name = All-head (IsAskedFor [] home) name names loads.asked in
    absurd (cc asked)

-- a file that couldn't be read, and isn't noted
pub unread_not_noted : (home : List ℕ) (names : List (List ℕ)) (f : File)
    → (is_some f.source || starts_with eqb (string_bytes f.name) (codes "/rustc/")) ≡ false → Loads home names [] (f ∷ []) [] [] → ⊥
unread_not_noted home names f untold loads = grind (arith, common_steps, loads.more, loads.kept, loads.noted)
