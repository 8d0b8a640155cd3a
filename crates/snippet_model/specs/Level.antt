-- The name of a level as it is shown.
use Rattle.std.specs.Prelude.{ℕ, List, []}
use Rattle.std.specs.Cow.{cow_str_bytes}
use Rattle.snippet_style.specs.declared.role.LevelInner.{LevelInner}
use Rattle.snippet_model.specs.declared.level.Level.{Level}
use Rattle.snippet_model.specs.declared.level.LevelName.{LevelName}
use Rattle.snippet_model.specs.declared.level.LevelName.TheVariants.{Standard, Hidden, Own}
use Rattle.snippet_model.specs.StandardName.{standard_name_of}

-- the name that is shown for a kind of level under this setting
abbrev pub shown_name : LevelInner → LevelName → List ℕ
shown_name kind Standard = standard_name_of kind
shown_name kind Hidden = []
shown_name kind (Own name) = cow_str_bytes name

-- the bytes of a level's name as it is shown
abbrev pub name_of : Level → List ℕ
name_of level = shown_name level.kind level.name
