-- Pieces that are read, the last line that is told, and texts that are printed.
use Rattle.std.specs.Prelude.{◌≡◌, ℕ, ◌<◌, ◌≤◌, ◌-◌, ◌^◌, ◌⊎◌, ◌||◌, Bool, true, false, ◌++◌, List, [], ◌∷◌, Option, Some, IfSome, Result, Ok, Err, length}
use Rattle.std.specs.Io.BufRead.{take_through}
use Rattle.serde_json.specs.Data.{Data}
use Rattle.output_stream.specs.Standing.{Adds, BreaksOff, Standing}
use Rattle.redraw_command.specs.Line.{begins_document}
use Rattle.redraw_command.specs.Tally.{is_empty}
use Rattle.redraw_command.specs.Told.{Tells}
use Rattle.redraw_command.specs.declared.tally.Tally.{Tally}
use Rattle.redraw_run.specs.Fates.{IsTextOf, Reads}
use Rattle.redraw_run.specs.FindingLines.{AreOfFinding}

-- a piece is a document: its text is a value of JSON that begins as an object or a list does
pub record IsDocument (piece : List ℕ) : Type 0 where
  pub text : List ℕ
  pub is : IsTextOf piece text
  pub begins : begins_document text ≡ true
  pub value : Data
  pub reads : Reads text (Some value)

-- some bytes begin with this piece: it is their first line, up to a line feed and with it, or all that there is; or it is a document; or it
-- is lines of a finding
abbrev pub IsPieceOf : List ℕ → List ℕ → Type 0
IsPieceOf bytes piece = (piece ≡ take_through 10 bytes) ⊎ IsDocument piece ⊎ AreOfFinding piece

-- a piece is taken of some bytes, and these are left
pub record TakesPiece (bytes piece left : List ℕ) : Type 0 where
  pub some : 0 < length piece
  pub is : IsPieceOf bytes piece
  pub split : bytes ≡ piece ++ left

-- these pieces are taken of some bytes, one after the other, and these bytes are left
abbrev pub AreTaken : List ℕ → List (List ℕ) → List ℕ → Type 0
AreTaken bytes [] rest = rest ≡ bytes
AreTaken bytes (piece ∷ pieces) rest = (left : List ℕ) × TakesPiece bytes piece left × AreTaken left pieces rest

-- what a reader holds, where that is known, are these pieces
abbrev pub AreReadPieces : Option (List ℕ) → List (List ℕ) → Type 0
AreReadPieces held pieces = IfSome held (λ bytes. AreTaken bytes pieces [])

-- these are the first pieces of it
abbrev pub AreFirstOf : Option (List ℕ) → List (List ℕ) → Type 0
AreFirstOf held pieces = IfSome held (λ bytes. (rest : List ℕ) × AreTaken bytes pieces rest)

-- they are all that it holds, or as many as are counted
abbrev pub AreAllOf : Option (List ℕ) → List (List ℕ) → Type 0
AreAllOf held pieces = AreReadPieces held pieces ⊎ (AreFirstOf held pieces × (2 ^ 64 - 2 ≤ length pieces))

-- nothing is told, or one message is
abbrev pub TellsUnless : Bool → Standing → Standing → Type 0
TellsUnless true old new = new ≡ old
TellsUnless false old new = Tells old new

-- a run is summed up by one message, unless that isn't wanted or there is nothing to tell
abbrev pub SumsUp : Bool → Tally → Standing → Standing → Type 0
SumsUp is_quiet t old new = TellsUnless (is_quiet || is_empty t) old new

-- a text is printed, with status 0; or, with status 2, a first part of it where a write failed, or nothing for want of memory
abbrev pub IsTextPrinted : Standing → Standing → ℕ → Type 0
IsTextPrinted old new status =
    ((text : List ℕ) × Adds old new text × (status ≡ 0))
    ⊎ ((text : List ℕ) × BreaksOff old new text × (status ≡ 2))
    ⊎ ((new ≡ old) × (status ≡ 2))

-- some bytes are printed: all of them, or, only where a write failed, a first part
abbrev pub PrintsBytes : {T E : Type 0} → Result T E → (old new : Standing) → List ℕ → Type 0
PrintsBytes (Ok done) old new bytes = Adds old new bytes
PrintsBytes (Err error) old new bytes = BreaksOff old new bytes
