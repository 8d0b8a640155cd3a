-- The names of inputs, up to one of them.
use Rattle.std.proofs.Common.{◌≡◌, ◌+◌, ◌<◌, ◌++◌, ◌==◌, false, true, ℕ, zero, suc, Bor, List, [], ◌∷◌, ap, arith, length, map, refl}
use Rattle.std.proofs.Common.{slice_index_or, take}
use Rattle.std.proofs.Math.Dec.{eqb-suc-zero}
use Rattle.std.proofs.lemmas.List.{map_more, take_all}
use Rattle.program.specs.Inputs.{hyphen}
use Rattle.redraw_run.specs.Inputs.{given_names}

-- the texts of names
abbrev pub texts : List (Bor (List ℕ)) → List (List ℕ)
texts names = map (λ (n : Bor (List ℕ)). n.now) names

-- the names up to a place, and the one there
pub texts_more : (names : List (Bor (List ℕ))) (i : ℕ) (d : Bor (List ℕ)) → i < length names
    → texts (take (i + 1) names) ≡ texts (take i names) ++ (slice_index_or names i d).now ∷ []
texts_more names i d within = map_more (λ (n : Bor (List ℕ)). n.now) names i d within

-- all names
pub texts_all : (names : List (Bor (List ℕ))) (i : ℕ) → i ≡ length names → texts (take i names) ≡ texts names
texts_all names i all = ap texts (take_all i names (omega (arith, all)))

-- the names that are given, where some are, or none
pub given_some : (names : List (Bor (List ℕ))) → false ≡ (length names == 0) → texts names ≡ given_names names
given_some [] h = cc h
given_some (n ∷ names) h = refl

pub given_none : (names : List (Bor (List ℕ))) → true ≡ (length names == 0) → hyphen ∷ [] ≡ given_names names
given_none [] h = refl
given_none (n ∷ names) h = let e = eqb-suc-zero (length names) in cc (h, e)

-- the names before a place, the one there, and those after it
pub texts_split : (names : List (Bor (List ℕ))) (i : ℕ) (d : Bor (List ℕ)) → i < length names
    → (after : List (List ℕ)) × (texts names ≡ texts (take i names) ++ (slice_index_or names i d).now ∷ after)
texts_split [] i d within = absurd (omega (arith, within))
texts_split (n ∷ names) zero d within = (texts names, refl)
texts_split (n ∷ names) (suc i) d within =
    let (after, split) = texts_split names i d (omega (arith, within)) in
    (after, ap (λ (l : List (List ℕ)). n.now ∷ l) split)
