-- The order of levels.
use Rattle.std.specs.Prelude.{ℕ, List, []}
use Rattle.std.specs.Cow.{cow_str_bytes}
use Rattle.std.specs.Ordering.{nat_cmp, on, then_cmp}
use Rattle.std.specs.declared.cmp.Ordering.{Ordering}
use Rattle.std.specs.Cmp.Lexicographic.{slice_cmp}
use Rattle.snippet_style.specs.SeverityOrder.{severity_rank}
use Rattle.snippet_model.specs.declared.level.Level.{Level}
use Rattle.snippet_model.specs.declared.level.LevelName.{LevelName}
use Rattle.snippet_model.specs.declared.level.LevelName.TheVariants.{Standard, Hidden, Own}

-- the place of a kind of name: the kind's own name first, then none, then one of the caller's
abbrev pub name_rank : LevelName → ℕ
name_rank Standard = 0
name_rank Hidden = 1
name_rank (Own name) = 2

-- the bytes of a caller's name; none of another kind of name
abbrev pub own_bytes : LevelName → List ℕ
own_bytes Standard = []
own_bytes Hidden = []
own_bytes (Own name) = cow_str_bytes name

-- names are ordered by their kind, and two of the caller's by their bytes
abbrev pub name_cmp : LevelName → LevelName → Ordering
name_cmp = then_cmp (on name_rank nat_cmp) (on own_bytes (slice_cmp nat_cmp))

-- levels are ordered by their names, and two of one name by their kinds
abbrev pub level_cmp : Level → Level → Ordering
level_cmp = then_cmp (on (λ level. level.name) name_cmp) (on (λ level. level.kind) (on severity_rank nat_cmp))
