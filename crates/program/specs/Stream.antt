-- What a run writes to a stream.
use Rattle.std.specs.Prelude.{◌≡◌, ℕ, List, [], ◌∷◌, ◌++◌, Option}
use Rattle.output_stream.specs.Standing.{Adds, BreaksOffBefore, Gets, known}
use Rattle.output_stream.specs.declared.stream.Stream.{Stream}

-- a text and a line feed
abbrev pub ended_line : List ℕ → List ℕ
ended_line text = text ++ 10 ∷ []

-- what a run writes to a stream: nothing; one line; a first part of one line, not all, where a write failed; or one line that tells
-- something, of which a first part is written only where a write failed
pub data Output : Type 0 where
  Silent : Output
  Whole : (text : List ℕ) → Output
  CutShort : (text : List ℕ) → Output
  Told : (text : List ℕ) → Output

-- a stream, of whose writer it may be known what it holds, is given this and nothing else
abbrev pub Receives : {W : Type 0} → (W → Option (List ℕ)) → Stream W → Stream W → Output → Type 0
Receives contents old new Silent = new ≡ old
Receives contents old new (Whole text) = Adds (known contents old) (known contents new) (ended_line text)
Receives contents old new (CutShort text) = BreaksOffBefore (known contents old) (known contents new) (ended_line text)
Receives contents old new (Told text) = Gets (known contents old) (known contents new) (ended_line text)
