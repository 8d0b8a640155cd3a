-- An input of which more is read than is taken.
use Rattle.std.specs.Prelude.{◌≡◌, ◌≤◌, ◌<◌, ◌++◌, ℕ, Bool, true, false, List, Option, Some, IfSome, drop, length, take}
use Rattle.std.specs.Io.BufRead.{take_through}
use Rattle.std.specs.Io.KnownBytes.{IsAtEnd, prepend_known}
use Rattle.redraw_command.specs.declared.ahead.Ahead.{Ahead}

-- the bytes that were read and not taken
abbrev pub ahead_of : {B : Type 0} → Ahead B → List ℕ
ahead_of a = drop a.start a.bytes.items

-- what is left of an input, where that is known: the bytes ahead, and then what the reader holds, unless that was found to have no more
abbrev pub left_by : Bool → List ℕ → Option (List ℕ) → Option (List ℕ)
left_by true ahead held = Some ahead
left_by false ahead held = prepend_known ahead held

abbrev pub left_of : {B : Type 0} → (B → Option (List ℕ)) → Ahead B → Option (List ℕ)
left_of held a = left_by a.is_ended (ahead_of a) (held a.reader)

-- so many of the bytes ahead are the next line of what is left: up to a line feed and with it, or all that there is; none where nothing is
pub record IsLineAhead (count : ℕ) (left : Option (List ℕ)) (ahead : List ℕ) : Type 0 where
  pub within : count ≤ length ahead
  pub line : 0 < count → IfSome left (λ bytes. take count ahead ≡ take_through 10 bytes)
  pub end : count ≡ 0 → IsAtEnd left

-- one more line of what is left comes after what is ahead
pub record AddsLine (left : Option (List ℕ)) (old new : List ℕ) : Type 0 where
  pub line : List ℕ
  pub some : 0 < length line
  pub added : new ≡ old ++ line
  pub is : IfSome left (λ bytes. (rest : List ℕ) × (bytes ≡ old ++ rest) × (line ≡ take_through 10 rest))

-- or there is none, and all that is left is ahead
abbrev pub ReadsOn : Bool → Option (List ℕ) → (old new : List ℕ) → Type 0
ReadsOn true left old new = AddsLine left old new
ReadsOn false left old new = (new ≡ old) × IfSome left (λ bytes. bytes ≡ old)
