-- The order of the kinds of levels.
use Rattle.std.specs.Prelude.{ℕ}
use Rattle.snippet_style.specs.declared.role.LevelInner.{LevelInner}
use Rattle.snippet_style.specs.declared.role.LevelInner.TheVariants.{Error, Warning, Info, Note, Help}

-- the place of a kind in the order of kinds: the most severe first
abbrev pub severity_rank : LevelInner → ℕ
severity_rank Error = 0
severity_rank Warning = 1
severity_rank Info = 2
severity_rank Note = 3
severity_rank Help = 4
