-- Writers that are lent for a run.
use Rattle.std.specs.Prelude.{ℕ, Bool, false, List, Option}
use Rattle.program.specs.Stream.{Output, Receives}
use Rattle.program.specs.declared.lent.LentStream.{LentStream}
use Rattle.output_stream.specs.declared.stream.Stream.{Stream}

-- the stream that a stream over a lent writer is
abbrev pub stream_of : {W : Type 0} → LentStream W → Stream W
stream_of lent = record { writer = lent.target.now; has_failed = lent.has_failed }

-- a writer to which no write has failed, as a stream
abbrev pub sound_stream : {W : Type 0} → W → Stream W
sound_stream writer = record { writer = writer; has_failed = false }

-- a writer, of which it may be known what it holds, is lent for a run and given this and nothing else, whether a write to it failed or not
pub record IsLentFor {W : Type 0} (contents : W → Option (List ℕ)) (old new : W) (output : Output) : Type 0 where
  pub has_failed : Bool
  pub receives : Receives contents (sound_stream old) record { writer = new; has_failed = has_failed } output
