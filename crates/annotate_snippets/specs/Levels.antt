-- The levels that clauses name.
use Rattle.snippet_style.specs.declared.role.LevelInner.TheVariants.{Error, Help, Warning}
use Rattle.snippet_model.specs.declared.level.Level.{Level}
use Rattle.snippet_model.specs.declared.level.LevelName.TheVariants.{Standard}

-- the level `ERROR`
abbrev pub error_level : Level
error_level = record { name = Standard; kind = Error }

-- the level `WARNING`
abbrev pub warning_level : Level
warning_level = record { name = Standard; kind = Warning }

-- the level `HELP`
abbrev pub help_level : Level
help_level = record { name = Standard; kind = Help }
