-- Handing bytes to a caller who has only so much room.
use Rattle.std.specs.Prelude.{◌≡◌, ℕ, List, ◌++◌, length, take, drop}

-- a caller's bytes, before and after: as many of these as there is room for stand at their front, the others are as they were, and the
-- answer is how many bytes there are
pub record IsGiven (bytes old new : List ℕ) (count : ℕ) : Type 0 where
  pub filled : new ≡ take (length old) bytes ++ drop (length bytes) old
  pub counted : count ≡ length bytes
