-- What a replacement keeps of the text that it replaces, in a reader's words.
use Rattle.std.specs.Prelude.{◌≡◌, ℕ, ◌+◌, ◌<◌, ◌≤◌, List, ◌++◌, length, take, drop}
use Rattle.std.specs.Str.{IsCharBoundary}

-- a replacement is the original with a text in its middle: it begins with so many of the original's bytes, up to a
-- character's border, and ends with the others
pub record IsSandwiched (original replacement : List ℕ) (before : ℕ) (middle : List ℕ) (after : ℕ) : Type 0 where
  pub border : IsCharBoundary original before
  pub parts : before + after ≡ length original
  pub whole : replacement ≡ take before original ++ middle ++ drop before original

-- of all such ways the one that is taken: the whole original before the middle, if there is such a way; else the whole
-- original after it; else as much of it before as can be
pub record IsSandwich (original replacement : List ℕ) (before : ℕ) (middle : List ℕ) (after : ℕ) : Type 0 where
  pub is : IsSandwiched original replacement before middle after
  pub all_before : (m : List ℕ) → IsSandwiched original replacement (length original) m 0 → before ≡ length original
  pub all_after : before < length original → (m : List ℕ) → IsSandwiched original replacement 0 m (length original) → before ≡ 0
  pub longest : 0 < before → (a : ℕ) (m : List ℕ) (b : ℕ) → IsSandwiched original replacement a m b → a ≤ before
