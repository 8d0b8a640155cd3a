-- What a stream holds after more was written to it, where its bytes are known.
use Rattle.std.specs.Prelude.{ℕ, List}
use Rattle.std.specs.Io.KnownBytes.{Appends}
use Rattle.output_stream.specs.Standing.{Standing}

-- what it held, and a text after it
pub record Grows (old new : Standing) : Type 0 where
  pub text : List ℕ
  pub added : Appends old.held new.held text
