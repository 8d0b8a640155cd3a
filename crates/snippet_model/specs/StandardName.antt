-- The names of the kinds of levels.
use Rattle.std.specs.Prelude.{ℕ, List, codes}
use Rattle.snippet_style.specs.declared.role.LevelInner.{LevelInner}
use Rattle.snippet_style.specs.declared.role.LevelInner.TheVariants.{Error, Warning, Info, Note, Help}

-- the name of a kind of level, as it is shown where the caller sets no other
abbrev pub standard_name_of : LevelInner → List ℕ
standard_name_of Error = codes "error"
standard_name_of Warning = codes "warning"
standard_name_of Info = codes "info"
standard_name_of Note = codes "note"
standard_name_of Help = codes "help"
