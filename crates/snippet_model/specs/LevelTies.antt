-- That levels are equal exactly where their order doesn't tell them apart.
use Rattle.std.specs.Prelude.{◌≡◌, ◌&&◌, refl}
use Rattle.std.specs.Cow.{cow_str_bytes}
use Rattle.std.specs.Cmp.Lexicographic.{texts_ties}
use Rattle.std.specs.Ordering.{eq_by_cmp, is_eq, nat_cmp, ordering_then}
use Rattle.std.specs.declared.cmp.Ordering.{Ordering}
use Rattle.std.specs.declared.cmp.Ordering.TheVariants.{Less, Equal, Greater}
use Rattle.snippet_style.specs.SeverityOrder.{severity_rank}
use Rattle.snippet_style.specs.contracts.role.LevelInnerOrd.TheImpl.Laws.{matches_eq-law}
use Rattle.snippet_model.specs.LevelOrder.{level_cmp, name_cmp}
use Rattle.snippet_model.specs.declared.level.Level.{Level}
use Rattle.snippet_model.specs.declared.level.LevelName.{LevelName}
use Rattle.snippet_model.specs.declared.level.LevelName.TheVariants.{Standard, Hidden, Own}
use Rattle.snippet_model.specs.contracts.level.LevelNamePartialEq.TheImpl as equality
use Rattle.snippet_model.specs.contracts.level.LevelPartialEq.TheImpl as equality_of_levels

-- of names
pub name_ties : (x y : LevelName) → (equality.ghosts).eq x y ≡ eq_by_cmp name_cmp x y
name_ties Standard Standard = refl
name_ties Standard Hidden = refl
name_ties Standard (Own b) = refl
name_ties Hidden Standard = refl
name_ties Hidden Hidden = refl
name_ties Hidden (Own b) = refl
name_ties (Own a) Standard = refl
name_ties (Own a) Hidden = refl
name_ties (Own a) (Own b) = texts_ties (cow_str_bytes a) (cow_str_bytes b)

-- of two orders, one after the other: what neither tells apart
both_tie : (o p : Ordering) → (is_eq o && is_eq p) ≡ is_eq (ordering_then o p)
both_tie Less p = refl
both_tie Equal p = refl
both_tie Greater p = refl

-- of levels
pub level_ties : (x y : Level) → (equality_of_levels.ghosts).eq x y ≡ eq_by_cmp level_cmp x y
level_ties x y =
    rw (name_ties x.name y.name, matches_eq-law x.kind y.kind) (both_tie (name_cmp x.name y.name) (nat_cmp (severity_rank x.kind) (severity_rank y.kind)))
