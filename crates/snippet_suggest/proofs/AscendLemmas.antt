-- Numbers that ascend: in pairs, between their bounds, and counted from elsewhere.
use Rattle.snippet_suggest.proofs.Common.{ℕ, ◌+◌, List, [], ◌∷◌, map, arith, AreRising}

-- so do they counted from elsewhere
pub rising-moved : (base from to : ℕ) (ks : List ℕ) → AreRising from to ks → AreRising (base + from) (base + to) (map (λ k. base + k) ks)
rising-moved base from to [] rising = omega (arith, rising)
rising-moved base from to (k ∷ ks) rising = grind (arith, rising-moved base (k + 1) to ks rising.1, rising.0, rising.1)
