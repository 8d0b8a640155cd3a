-- What writes do to a stream: all that is to be written is, or a write failed and a first part is.
use Rattle.std.specs.Prelude.{◌≡◌, ◌≢◌, ℕ, ◌⊎◌, Bool, true, List, [], ◌++◌, Option}
use Rattle.std.specs.Io.KnownBytes.{Appends}
use Rattle.output_stream.specs.declared.stream.Stream.{Stream}

-- what is known of a stream at a time: what its writer holds, where that is known, and whether a write to it has failed
pub record Standing : Type 0 where
  pub held : Option (List ℕ)
  pub has_failed : Bool

-- the same of a stream, whose writers hold what `contents` says
abbrev pub known : {W : Type 0} → (W → Option (List ℕ)) → Stream W → Standing
known contents stream = record { held = contents stream.writer; has_failed = stream.has_failed }

-- once a write has failed nothing changes any more
abbrev pub StaysFailed : Standing → Standing → Type 0
StaysFailed old new = old.has_failed ≡ true → new ≡ old

-- all of this is written, and no write failed meanwhile
pub record Adds (old new : Standing) (bytes : List ℕ) : Type 0 where
  pub added : Appends old.held new.held bytes
  pub failed_as_before : new.has_failed ≡ old.has_failed
  pub stays : StaysFailed old new

-- a write failed, then or before: a first part of this is written, which may be nothing or all
pub record BreaksOff (old new : Standing) (bytes : List ℕ) : Type 0 where
  pub part : List ℕ
  pub rest : List ℕ
  pub split : bytes ≡ part ++ rest
  pub added : Appends old.held new.held part
  pub failed : new.has_failed ≡ true
  pub stays : StaysFailed old new

-- the same, where it isn't all
pub record BreaksOffBefore (old new : Standing) (bytes : List ℕ) : Type 0 where
  pub broken : BreaksOff old new bytes
  pub some_left : broken.rest ≢ []

-- this is written, and nothing else: all of it, or, only where a write failed, a first part
abbrev pub Gets : Standing → Standing → List ℕ → Type 0
Gets old new bytes = Adds old new bytes ⊎ BreaksOff old new bytes
