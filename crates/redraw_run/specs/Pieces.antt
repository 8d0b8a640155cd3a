-- What the next piece of an input is found to be.
use Rattle.std.specs.Prelude.{◌≡◌, ◌⊎◌, ◌<◌, ◌≤◌, ◌++◌, ℕ, true, false, List, Option, None, Some, IfSome, length, take}
use Rattle.std.specs.Io.KnownBytes.{IsAtEnd}
use Rattle.std.specs.Str.{IsUtf8}
use Rattle.json_lines.specs.Cut.{IsCutOf}
use Rattle.serde_json.specs.Data.{Data}
use Rattle.serde_json.specs.View.{view}
use Rattle.redraw_command.specs.Line.{begins_document, begins_object}
use Rattle.redraw_run.specs.Fates.{IsTextOf, Reads}
use Rattle.redraw_run.specs.FindingLines.{AreOfFinding}
use Rattle.redraw_run.specs.ReadLines.{IsPieceOf}
use Rattle.redraw_run.specs.declared.piece.Form.{Form}
use Rattle.redraw_run.specs.declared.piece.Form.TheVariants as forms
use Rattle.redraw_run.specs.declared.piece.Piece.{Piece}

-- a text doesn't begin as an object does, or is no value
abbrev pub IsOther : List ℕ → Type 0
IsOther text = (begins_object text ≡ false) ⊎ ((begins_object text ≡ true) × Reads text None)

-- a text is of this form
abbrev pub IsReadAs : List ℕ → Form → Type 0
IsReadAs text (forms.Object value) = (begins_object text ≡ true) × Reads text (Some (view value))
IsReadAs text (forms.Log log) = (begins_object text ≡ true) × ((d : Data) × Reads text (Some d) × IsCutOf d log)
IsReadAs text (forms.List value) = (begins_object text ≡ false) × (begins_document text ≡ true) × Reads text (Some (view value))
IsReadAs text forms.Undecoded = (begins_object text ≡ true) × (IsUtf8 text → ⊥)
IsReadAs text forms.Blank = begins_object text ≡ false
IsReadAs text forms.Begins = IsOther text
IsReadAs text forms.Finding = AreOfFinding text
IsReadAs text forms.Other = IsOther text

-- a piece is of this form: its text is, after the mark of the order of bytes if it has that
abbrev pub IsOfForm : List ℕ → Form → Type 0
IsOfForm piece form = (text : List ℕ) × IsTextOf piece text × IsReadAs text form

-- so many of the bytes ahead are a piece of this form, with which what is left begins
pub record IsPieceAhead (left : Option (List ℕ)) (ahead : List ℕ) (piece : Piece) : Type 0 where
  pub some : 0 < piece.count
  pub within : piece.count ≤ length ahead
  pub form : IsOfForm (take piece.count ahead) piece.form
  pub is : IfSome left (λ bytes. IsPieceOf bytes (take piece.count ahead))

-- the next piece of what is left, or none where nothing is
abbrev pub IsNextPiece : Option (List ℕ) → List ℕ → Option Piece → Type 0
IsNextPiece left ahead None = IsAtEnd left
IsNextPiece left ahead (Some piece) = IsPieceAhead left ahead piece

-- what is ahead may have become more
abbrev pub Grows : List ℕ → List ℕ → Type 0
Grows old new = (more : List ℕ) × (new ≡ old ++ more)
