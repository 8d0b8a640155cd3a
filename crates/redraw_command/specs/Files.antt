-- Where files lie: below which folder, how they are named from there, and which of them may be read.
use Rattle.std.specs.Prelude.{◌≡◌, ◌≢◌, ◌⊎◌, ◌==◌, ◌||◌, ◌+◌, ℕ, Bool, true, false, List, [], ◌∷◌, ◌++◌, Option, Some, None, codes, drop, if◌then◌else◌}
use Rattle.std.specs.Prelude.{bytes_eq, is_some, nat_eq, option_map, string_bytes, String}
use Rattle.std.specs.List.{starts_with}
use Rattle.std.specs.declared.alloc.Global.{Global}

-- a path leads from a folder to a file below it by this: it is the folder, a slash and this, which isn't empty
pub record IsBelow (folder path rest : List ℕ) : Type 0 where
  pub split : path ≡ folder ++ (47 ∷ rest)
  pub some : rest ≢ []

-- a path as it is shown where this folder is known: from there, if the file lies below it, and else as it is
abbrev pub IsShownFrom : (folder path shown : List ℕ) → Type 0
IsShownFrom folder path shown = IsBelow folder path shown ⊎ (((rest : List ℕ) → IsBelow folder path rest → ⊥) × (shown ≡ path))

-- a byte before the rest of a path without slashes at its end
abbrev pub before_rest : ℕ → List ℕ → List ℕ
before_rest b [] = if b == 47 then [] else b ∷ []
before_rest b (c ∷ rest) = b ∷ c ∷ rest

-- a path without the slashes at its end
abbrev pub without_slashes : List ℕ → List ℕ
without_slashes [] = []
without_slashes (b ∷ path) = before_rest b (without_slashes path)

-- a path without a dot and a slash at its start
abbrev pub without_dot : List ℕ → List ℕ
without_dot path = if starts_with nat_eq path (codes "./") then drop 2 path else path

-- whether there is nothing in a text
abbrev pub is_empty : List ℕ → Bool
is_empty [] = true
is_empty (b ∷ text) = false

-- whether a path leads nowhere from a folder: it is empty or a dot
abbrev pub is_here : List ℕ → Bool
is_here path = is_empty path || bytes_eq path (codes ".")

-- the path of a folder in another, where the inner path has no dot before it and no slash after it
abbrev pub joined : (outer inner : List ℕ) → List ℕ
joined outer inner = if is_here inner then outer else outer ++ (codes "/" ++ inner)

-- the path of a folder in another one
abbrev pub folder_in : (outer inner : List ℕ) → List ℕ
folder_in outer inner = joined (without_slashes outer) (without_slashes (without_dot inner))

-- the path of a folder that is given, in the one that the program runs in, where that is known
abbrev pub given_folder : List ℕ → Option (List ℕ) → Option (List ℕ)
given_folder root around =
    if starts_with nat_eq root (codes "/") then Some (without_slashes root) else option_map (λ folder. folder_in folder root) around

-- the path of the folder that files are read below, where one is given or not: else it is the one that the program runs in
abbrev pub folder_of : (root around : Option (List ℕ)) → Option (List ℕ)
folder_of None around = option_map without_slashes around
folder_of (Some root) around = given_folder root around

-- a folder with one slash at its end, so that the path of each file below it begins with it
abbrev pub with_slash : List ℕ → List ℕ
with_slash folder = without_slashes folder ++ codes "/"

-- whether a path begins with that of a folder, which ends with a slash; where there is no folder it may be any
abbrev pub lies_in : Option (String Global) → List ℕ → Bool
lies_in None path = true
lies_in (Some folder) path = starts_with nat_eq path (string_bytes folder)

-- the folder below which files have to lie, if they have to lie below one: the one that is given, or the one that the program runs in
abbrev pub bound : Bool → Option (List ℕ) → Option (List ℕ)
bound false root = None
bound true None = Some (codes ".")
bound true (Some root) = Some root
