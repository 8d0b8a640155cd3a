-- The classes that a stylesheet for reports in HTML names.
use Rattle.std.specs.Prelude.{◌≡◌, ◌≤◌, ℕ, nat_eq, not, List, [], ◌∷◌, ◌++◌, Option, None, Some, count_by, drop, if◌then◌else◌, length}
use Rattle.std.specs.List.{take_while}
use lib.Pointwise.{pointwise}
use Rattle.snippet_grid.specs.Html.{class_of}
use Rattle.snippet_style.specs.declared.role.ElementStyle.{ElementStyle}
use Rattle.snippet_style.specs.declared.role.LevelInner.{LevelInner}

-- what was read of the name of a class, which goes from a `.` to the next space, after one more character; none outside of names
abbrev pub name_after : Option (List ℕ) → ℕ → Option (List ℕ)
name_after None c = if nat_eq c 46 then Some [] else None
name_after (Some name) c = if nat_eq c 32 then None else Some (name ++ c ∷ [])

-- the name that ends at this character, if one does
abbrev pub name_at : Option (List ℕ) → ℕ → List (List ℕ)
name_at None c = []
name_at (Some name) c = if nat_eq c 32 then name ∷ [] else []

-- the classes that rules name, in order; `name` is what was read of one at first
abbrev pub classes_named : (name : Option (List ℕ)) → List ℕ → List (List ℕ)
classes_named name [] = []
classes_named name (c ∷ cs) = name_at name c ++ classes_named (name_after name c) cs

-- the rules of a sheet for a light page, which stand first. Those for a dark one are the rest, from the first `@` on
abbrev pub light_rules : List ℕ → List ℕ
light_rules sheet = take_while (λ c. not (nat_eq c 64)) sheet

-- how many of these classes are this one
abbrev pub times : List ℕ → List (List ℕ) → ℕ
times class classes = count_by (pointwise nat_eq class) classes

-- a sheet has one rule for this class on a light page, and at most one on a dark page
pub record HasRules (sheet class : List ℕ) : Type 0 where
  pub light : times class (classes_named None (light_rules sheet)) ≡ 1
  pub dark : times class (classes_named None (drop (length (light_rules sheet)) sheet)) ≤ 1

-- a class is that of a role, in a group of some level
pub record IsClassOfRole (class : List ℕ) : Type 0 where
  pub level : LevelInner
  pub role : ElementStyle
  pub is : class ≡ class_of level role
