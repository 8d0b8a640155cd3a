-- The depths of spans of several lines in a reader's words: chains of places each of which shares a line with the next.
use Rattle.std.specs.Prelude.{◌≡◌, ℕ, ◌≤◌, ◌⊎◌, true, List, [], ◌∷◌, length}
use Rattle.snippet_parts.specs.declared.depths.LongExtent.{LongExtent}
use Rattle.snippet_parts.specs.Depths.{share_line, places_of, raw_depth_among}

-- a place shares a line with the first of some others, if there is one
abbrev pub SharesWithFirst : LongExtent → List LongExtent → Type 0
SharesWithFirst p [] = Unit {0}
SharesWithFirst p (q ∷ qs) = share_line p q ≡ true

-- `chain` is some of the places, in their order, and each shares a line with the next
abbrev pub IsChainOf : List LongExtent → List LongExtent → Type 0
IsChainOf [] chain = chain ≡ []
IsChainOf (p ∷ ps) chain =
    IsChainOf ps chain ⊎ ((rest : List LongExtent) × (chain ≡ p ∷ rest) × SharesWithFirst p rest × IsChainOf ps rest)

-- a number is the length of a longest chain of some places
pub record IsLongestChain (ps : List LongExtent) (n : ℕ) : Type 0 where
  pub chain : List LongExtent
  pub is_chain : IsChainOf ps chain
  pub long : length chain ≡ n
  pub longest : (other : List LongExtent) → IsChainOf ps other → length other ≤ n

-- the raw depths of spans at these places, each among itself and those after it
abbrev pub raw_depths : List LongExtent → List ℕ
raw_depths [] = []
raw_depths (p ∷ later) = raw_depth_among (places_of (p ∷ later)) p ∷ raw_depths later
