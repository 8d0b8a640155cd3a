-- Lists whose last item is changed in place.
use Rattle.std.proofs.Common.{◌≡◌, refl, ℕ, suc, ◌-◌, ◌<◌, List, [], ◌∷◌, map, set, get_or, length, ap, ◌∙◌, arith}
use Rattle.redraw_tools.specs.Found.{Found, Remark}
use Rattle.redraw_tools.specs.Told.{change_last, widen_by, widen_remark}

pub last-changed : {X Y : Type 0} (see : X → Y) (f : Y → Y) (xs : List X) (y d : X) → 0 < length xs
    → see y ≡ f (see (get_or xs (length xs - 1) d)) → map see (set xs (length xs - 1) y) ≡ change_last f (map see xs)
last-changed see f [] y d some is = absurd (omega (arith, some))
last-changed see f (x ∷ []) y d some is = ap (λ z. z ∷ []) is
last-changed see f (x ∷ z ∷ zs) y d some is =
    let on : suc (suc (length zs)) - 1 ≡ suc (suc (length zs) - 1) = omega arith in
    ap (λ n. map see (set (x ∷ z ∷ zs) n y)) on
    ∙ ap (λ rest. see x ∷ rest)
    (last-changed see f (z ∷ zs) y d (omega arith) (is ∙ ap (λ n. f (see (get_or (x ∷ z ∷ zs) n d))) on))

-- what is said last of a finding with remarks is the last of these
pub widens-remark : (f : Found) (remarks : List Remark) (width : ℕ) → 0 < length remarks
    → widen_by f remarks width ≡ record f { remarks = change_last (widen_remark width) remarks }
widens-remark f [] width some = absurd (omega (arith, some))
widens-remark f (r ∷ rs) width some = refl
