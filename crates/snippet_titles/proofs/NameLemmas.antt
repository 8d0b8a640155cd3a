-- Names of levels that are drawn as they are.
use Rattle.snippet_titles.proofs.Common.{common_steps, arith, ◌≡◌, ℕ, List, [], codes, refl, name_of, standard_name_of, Level, Hidden, Standard, LevelInner}
use Rattle.snippet_titles.proofs.Common.{Error, Help, Info, Note, Warning, norm-unlisted, norm}
use Rattle.std.specs.Str.{chars}
use Rattle.snippet_model.specs.Level as level

-- nothing in the name of a kind is listed
standard_unlisted : (kind : LevelInner) → norm (chars (standard_name_of kind)) ≡ chars (standard_name_of kind)
unfolding chars
standard_unlisted Error = norm-unlisted (chars (codes "error")) refl
standard_unlisted Warning = norm-unlisted (chars (codes "warning")) refl
standard_unlisted Info = norm-unlisted (chars (codes "info")) refl
standard_unlisted Note = norm-unlisted (chars (codes "note")) refl
standard_unlisted Help = norm-unlisted (chars (codes "help")) refl

-- so a kind's name is shown as it is
pub standard_shown : (of : Level) (shown : List ℕ) → of.name ≡ Standard → shown ≡ name_of of → chars shown ≡ norm (chars (name_of of))
standard_shown of shown is given = grind (arith, common_steps, of.kind, standard_unlisted)

-- and a name that is hidden has no characters
pub hidden_shown : (of : Level) → of.name ≡ Hidden → chars [] ≡ norm (chars (name_of of))
unfolding chars
hidden_shown of is = grind (arith, common_steps, of.kind, norm-unlisted)
