-- Texts in order: those that begin with some words follow one another.
use Rattle.std.proofs.lemmas.Grind.{common_steps}
use Rattle.std.proofs.Common.{◌≡◌, ◌∙◌, ◌&&◌, ℕ, Bool, true, false, List, [], ◌∷◌, ◌++◌, None, String}
use Rattle.std.proofs.Common.{ap, arith, cond, eqb, refl, sym, string_bytes}
use Rattle.std.specs.Cmp.Lexicographic.{slice_cmp}
use Rattle.std.specs.Global.{Global}
use Rattle.std.specs.List.{AllByRecursion, filter, starts_with}
use Rattle.std.specs.List.Sorted.{IsStrictlySortedBy}
use Rattle.std.specs.Map.{keys_of, lookup}
use Rattle.std.specs.Option.{option_or}
use Rattle.std.specs.Ordering.{is_eq, is_gt, nat_cmp, ordering_then}
use Rattle.std.specs.String.{string_cmp}
use Rattle.std.specs.declared.cmp.Ordering.{Ordering}
use Rattle.std.specs.declared.cmp.Ordering.TheVariants.{Less, Equal, Greater}
use Rattle.std.proofs.lemmas.Bool.Decides.{Decides-eqb}
use Rattle.std.proofs.lemmas.Cmp.{ranked}
use Rattle.std.proofs.lemmas.Map.Text.{is_eq-slice_cmp}
use Rattle.std.proofs.lemmas.Slice.Eq.{bytes_eq-Decides}

both_hold : (a b : Bool) → (a && b) ≡ true → (a ≡ true) × (b ≡ true)
both_hold true b e = (refl, e)
both_hold false b e = absurd (cc e)

-- of two texts in order, neither before some words, the first begins with these if the second does
pub begins-between : (m x y : List ℕ) → is_gt (slice_cmp nat_cmp m x) ≡ false → is_gt (slice_cmp nat_cmp x y) ≡ false
    → starts_with eqb y m ≡ true → starts_with eqb x m ≡ true
begins-between [] x y from to begins = refl
begins-between (c ∷ m) [] y from to begins = absurd (cc from)
begins-between (c ∷ m) (d ∷ x) [] from to begins = absurd (cc to)
begins-between (c ∷ m) (d ∷ x) (e ∷ y) from to begins =
    let parts = both_hold (eqb c e) (starts_with eqb y m) begins in
    step (nat_cmp c d) (nat_cmp d e) refl refl ((Decides-eqb c e).0 parts.0) from to (λ f t. begins-between m x y f t parts.1)
  where
    step : (o p : Ordering) → o ≡ nat_cmp c d → p ≡ nat_cmp d e → c ≡ e → is_gt (ordering_then o (slice_cmp nat_cmp m x)) ≡ false
        → is_gt (ordering_then p (slice_cmp nat_cmp x y)) ≡ false
        → (is_gt (slice_cmp nat_cmp m x) ≡ false → is_gt (slice_cmp nat_cmp x y) ≡ false → starts_with eqb x m ≡ true)
        → starts_with eqb (d ∷ x) (c ∷ m) ≡ true
    step Less Less is other same from to rest = absurd (omega (arith, ranked c d Less is, ranked d e Less other, same))
    step Less Equal is other same from to rest = absurd (omega (arith, ranked c d Less is, ranked d e Equal other, same))
    step Less Greater is other same from to rest = absurd (cc to)
    step Equal Less is other same from to rest = absurd (omega (arith, ranked c d Equal is, ranked d e Less other, same))
    step Equal Equal is other same from to rest =
        ap (λ (b : Bool). b && starts_with eqb x m) ((Decides-eqb c d).1 (ranked c d Equal is)) ∙ rest from to
    step Equal Greater is other same from to rest = absurd (cc to)
    step Greater p is other same from to rest = absurd (cc from)

-- what begins with some words isn't before them
pub begins-after : (m t : List ℕ) → starts_with eqb t m ≡ true → is_gt (slice_cmp nat_cmp m t) ≡ false
begins-after [] [] begins = refl
begins-after [] (d ∷ t) begins = refl
begins-after (c ∷ m) [] begins = absurd (cc begins)
begins-after (c ∷ m) (d ∷ t) begins =
    grind (arith, common_steps, begins-after m t (both_hold (eqb c d) (starts_with eqb t m) begins).1, both_hold, Decides-eqb, ranked)

-- whether a key is this text
abbrev pub is_key : List ℕ → String Global → Bool
is_key t k = is_eq (slice_cmp nat_cmp t (string_bytes k))

pub key_is : (t : List ℕ) (k : String Global) → is_key t k ≡ true → t ≡ string_bytes k
key_is t k e = (bytes_eq-Decides t (string_bytes k)).0 (sym (is_eq-slice_cmp t (string_bytes k)) ∙ e)

-- what stands after others in order is in order
pub later-sorted : {X : Type 0} (xs ys : List (String Global × X)) → IsStrictlySortedBy string_cmp (keys_of (xs ++ ys))
    → IsStrictlySortedBy string_cmp (keys_of ys)
unfolding IsStrictlySortedBy
later-sorted [] ys s = s
later-sorted (x ∷ xs) ys s = later-sorted xs ys s.1

kept-after : {X : Type 0} (p : String Global → Bool) (k : String Global) (es : List (String Global × X))
    → AllByRecursion (λ q. string_cmp k q ≡ Less) (keys_of es)
    → AllByRecursion (λ q. string_cmp k q ≡ Less) (keys_of (filter (λ e. p e.0) es))
kept-after p k [] all = tt
kept-after {X} p k (e ∷ es) all = grind (arith, common_steps, kept-after p k es all.1, e.0, all.1, all.0)

-- entries that are kept stay in order
pub kept-sorted : {X : Type 0} (p : String Global → Bool) (es : List (String Global × X)) → IsStrictlySortedBy string_cmp (keys_of es)
    → IsStrictlySortedBy string_cmp (keys_of (filter (λ e. p e.0) es))
unfolding IsStrictlySortedBy
kept-sorted p [] s = tt
kept-sorted {X} p (e ∷ es) s = by (p e.0) (kept-sorted p es s.1)
  where
    by : (b : Bool) → IsStrictlySortedBy string_cmp (keys_of (filter (λ d. p d.0) es))
        → IsStrictlySortedBy string_cmp (keys_of (cond b (e ∷ filter (λ d. p d.0) es) (filter (λ d. p d.0) es)))
    by true later = (kept-after p e.0 es s.0, later)
    by false later = later

-- a look-up goes on where the first entries don't have the key
pub lookup-further : {K X : Type 0} (test : K → Bool) (xs ys : List (K × X)) → lookup test (xs ++ ys) ≡ option_or (lookup test xs) (lookup test ys)
lookup-further test [] ys = refl
lookup-further {K} {X} test (x ∷ xs) ys = grind (arith, common_steps, lookup-further test xs ys, x.0, x.1)

none-later : {X : Type 0} (m t : List ℕ) (k : String Global) (es : List (String Global × X)) → is_gt (slice_cmp nat_cmp m (string_bytes k)) ≡ false
    → starts_with eqb (string_bytes k) m ≡ false → starts_with eqb t m ≡ true → AllByRecursion (λ q. string_cmp k q ≡ Less) (keys_of es)
    → lookup (is_key t) es ≡ None
none-later m t k [] from not begins all = refl
none-later {X} m t k (e ∷ es) from not begins all =
    grind (arith, common_steps, none-later m t k es from not begins all.1, key_is, begins-between, e.0, all.1, all.0, e.1)

-- from the first text on that doesn't begin with the words, none does
pub none-from : {X : Type 0} (m t : List ℕ) (e : String Global × X) (es : List (String Global × X)) → is_gt (slice_cmp nat_cmp m (string_bytes e.0)) ≡ false
    → starts_with eqb (string_bytes e.0) m ≡ false → starts_with eqb t m ≡ true → IsStrictlySortedBy string_cmp (keys_of (e ∷ es))
    → lookup (is_key t) (e ∷ es) ≡ None
unfolding IsStrictlySortedBy
none-from {X} m t e es from not begins s = grind (arith, common_steps, none-later, key_is, e.0, s.0, e.1)
