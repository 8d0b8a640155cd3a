-- The parts of files where primary places lie, by the places so far.
use Rattle.std.proofs.lemmas.Grind.{common_steps}
use Rattle.std.proofs.Common.{◌≡◌, ◌&&◌, ◌||◌, Bool, true, false, cond, List, [], ◌∷◌, ◌++◌, refl, arith}
use Rattle.std.specs.BTreeSet as sorted
use Rattle.std.specs.BTreeSet.{BTreeSet}
use Rattle.std.specs.Ordering.{is_eq, ordering_then}
use Rattle.std.specs.Str.{bytes_eq}
use Rattle.std.specs.declared.cmp.Ordering.{Ordering}
use Rattle.std.proofs.lemmas.List.Folds.{list_any-append}
use Rattle.std.proofs.lemmas.Map.Text.{is_eq-slice_cmp}
use Rattle.redraw_report.specs.contracts.diagnostic.RegionOrd.TheImpl.Laws as laws
use Rattle.redraw_report.specs.contracts.diagnostic.RegionPartialEq.TheImpl as equality
use Rattle.redraw_report.specs.declared.diagnostic.FileSpan.{FileSpan}
use Rattle.redraw_read.specs.AsShown.{are_one}
use Rattle.redraw_read.specs.Roles.{ArePrimaryParts, FilePart, IsPartOf, part_cmp}

both_equal : (a b : Ordering) → is_eq (ordering_then a b) ≡ (is_eq a && is_eq b)
both_equal a b = grind (arith, common_steps)

-- parts are one where their regions and files are
pub equal_parts : (q r : FilePart) → is_eq (part_cmp q r) ≡ ((equality.ghosts).eq q.0 r.0 && bytes_eq q.1.now r.1.now)
equal_parts q r = grind (arith, common_steps, both_equal, laws.matches_eq-law, is_eq-slice_cmp)

-- and where the places are
same_parts : (q r : FilePart) (s t : FileSpan) → IsPartOf q s → IsPartOf r t → is_eq (part_cmp q r) ≡ are_one s t
same_parts q r s t is other_is = grind (arith, common_steps, equal_parts, other_is.0, other_is.1)

either : (a b : Bool) → cond b true a ≡ (a || (b || false))
either a b = grind (arith, common_steps)

neither : (a b : Bool) → a ≡ (a || ((false && b) || false))
neither true b = refl
neither false b = refl

-- with one more primary place its part is there
pub parts_push : (old new : BTreeSet FilePart) (k : FilePart) (m : FileSpan) (spans : List FileSpan) → IsPartOf k m → m.is_primary ≡ true
    → sorted.Updates part_cmp old new k true → ArePrimaryParts old spans → ArePrimaryParts new (spans ++ m ∷ [])
parts_push old new k m spans is primary updates parts q s at = grind (arith, common_steps, same_parts, either, list_any-append, updates.0, parts q s at)

-- another place adds none
pub parts_stay : (parts : BTreeSet FilePart) (m : FileSpan) (spans : List FileSpan) → m.is_primary ≡ false
    → ArePrimaryParts parts spans → ArePrimaryParts parts (spans ++ m ∷ [])
parts_stay parts m spans other are q s at = grind (arith, common_steps, neither, list_any-append, are q s at)
