-- How roles are given to places one after another.
use Rattle.std.proofs.lemmas.Grind.{common_steps}
use Rattle.std.proofs.Common.{◌≡◌, ℕ, suc, ◌<◌, ◌&&◌, ◌||◌, Bool, true, false, List, [], ◌∷◌, ◌++◌, ap, arith, get_or, length}
use Rattle.std.proofs.Common.{map, refl, string_bytes, sym}
use Rattle.std.proofs.lemmas.Slice.Eq.{bytes_eq-Decides}
use Rattle.redraw_report.specs.contracts.diagnostic.RegionEq.TheImpl.Laws.{laws-law}
use Rattle.redraw_report.specs.declared.diagnostic.FileSpan.{FileSpan}
use Rattle.redraw_read.specs.AsShown.{are_one, settled, with_roles}

pub with_roles-push : (roles : List Bool) (spans : List FileSpan) (s : FileSpan)
    → with_roles roles (spans ++ s ∷ []) ≡ with_roles roles spans ++ record s { is_primary = get_or roles (length spans) false } ∷ []
with_roles-push [] [] s = refl
with_roles-push (is ∷ roles) [] s = refl
with_roles-push [] (t ∷ spans) s = ap (λ (l : List FileSpan). record t { is_primary = false } ∷ l) (with_roles-push [] spans s)
with_roles-push (is ∷ roles) (t ∷ spans) s = ap (λ (l : List FileSpan). record t { is_primary = is } ∷ l) (with_roles-push roles spans s)

pub length-with_roles : (roles : List Bool) (spans : List FileSpan) → length (with_roles roles spans) ≡ length spans
length-with_roles roles [] = refl
length-with_roles [] (t ∷ spans) = ap (λ n. suc n) (length-with_roles [] spans)
length-with_roles (is ∷ roles) (t ∷ spans) = ap (λ n. suc n) (length-with_roles roles spans)

-- the places so far with one more
pub given-next : (roles : List Bool) (spans found new : List FileSpan) (s t : FileSpan) (n : ℕ) (is : Bool) → found ≡ with_roles roles spans
    → n ≡ length found → is ≡ get_or roles n false → t ≡ record s { is_primary = is } → new ≡ found ++ t ∷ []
    → new ≡ with_roles roles (spans ++ s ∷ [])
given-next roles spans found new s t n is before count role same added = grind (arith, common_steps, length-with_roles, with_roles-push)

pub with_roles-map : (role : FileSpan → Bool) (spans : List FileSpan)
    → with_roles (map role spans) spans ≡ map (λ (s : FileSpan). record s { is_primary = role s }) spans
with_roles-map role [] = refl
with_roles-map role (s ∷ spans) = ap (λ (l : List FileSpan). record s { is_primary = role s } ∷ l) (with_roles-map role spans)

-- a place is one with itself
one_with_itself : (s : FileSpan) → are_one s s ≡ true
one_with_itself s = rw (laws-law.refl s.region, (bytes_eq-Decides (string_bytes s.file) (string_bytes s.file)).1 refl) refl

alone : (s : FileSpan) (is : Bool) → is ≡ s.is_primary → record s { is_primary = (is && are_one s s) || false } ≡ s
alone s true e = rw (one_with_itself s) (ap (λ is. record s { is_primary = is }) e)
alone s false e = ap (λ is. record s { is_primary = is }) e

-- a single place keeps its role
pub settled_alone : (spans : List FileSpan) → length spans < 2 → spans ≡ settled spans
settled_alone [] few = refl
settled_alone (s ∷ []) few = ap (λ (t : FileSpan). t ∷ []) (sym (alone s s.is_primary refl))
settled_alone (s ∷ t ∷ spans) few = absurd (omega arith)
