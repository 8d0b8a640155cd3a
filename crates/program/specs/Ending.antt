-- How a run ends: its status, and what standard output and standard error are given.
use Rattle.std.specs.Prelude.{◌≡◌, ℕ, List}
use Rattle.program.specs.Stream.{Output, Silent, Told}

-- an end: the status, and what standard output and standard error are given
pub record End : Type 0 where
  pub status : ℕ
  pub out : Output
  pub err : Output

-- the end with this status at which standard output is given this, and nothing is told
abbrev pub printing : Output → ℕ → End
printing out status = record { status = status; out = out; err = Silent }

-- the end with this status at which nothing is printed, and this text is told
abbrev pub telling : List ℕ → ℕ → End
telling text status = record { status = status; out = Silent; err = Told text }

-- a run ends in one of the ways that it may: with the status of that way's end, and the two streams are given what they are given at that end
pub record Ends {Way : Type 0} (May : Way → Type 0) (end_of : Way → End) (status : ℕ) (Out Err : Output → Type 0) : Type 0 where
  pub way : Way
  pub may : May way
  pub status_is : status ≡ (end_of way).status
  pub out : Out (end_of way).out
  pub err : Err (end_of way).err
