-- A label as it is kept: its texts, and how large it is.
use Rattle.std.specs.Prelude.{◌≡◌, ℕ, ◌==◌, false, true, List, [], ◌∷◌, chars, length}
use Rattle.std.specs.Cow.{cow_str_bytes}
use Rattle.std.specs.String.{string_bytes}
use Rattle.std.specs.List.{slice_split}
use Rattle.snippet_labels.specs.declared.drawn_label.CutText.{CutText}
use Rattle.snippet_labels.specs.declared.drawn_label.LabelSize.{LabelSize}
use Rattle.snippet_labels.specs.declared.drawn_label.LabelText.{LabelText}
use Rattle.snippet_labels.specs.declared.drawn_label.LabelText.TheVariants.{Cut, Given, Made, Past}
use Rattle.snippet_labels.specs.Pieces.{LabelPieces, broken_in, label_width, pieces_width, text_pieces}
use Rattle.snippet_style.specs.Bounds.{IsCount}

-- the pieces of a text that is broken in a room of so many columns
abbrev pub cut_pieces : ℕ → List ℕ → List (List ℕ)
cut_pieces room text = text_pieces true (broken_in room text)

-- the lines of a text that is cut
abbrev pub lines_of : CutText → List (List ℕ)
lines_of cut = slice_split (λ c. c == 10) (chars (cow_str_bytes cut.text))

-- the label of a text that is kept
abbrev pub pieces_in : LabelText → LabelPieces
pieces_in (Given text) = record { beside = chars text.now ∷ []; below = chars text.now ∷ []; last = false; past = false }
pieces_in (Made text) = record { beside = chars (string_bytes text) ∷ []; below = chars (string_bytes text) ∷ []; last = false; past = false }
pieces_in (Cut label) =
    record { beside = lines_of label.value.beside; below = lines_of label.value.below; last = label.value.last; past = label.value.past }
pieces_in Past = record { beside = [] ∷ []; below = [] ∷ []; last = false; past = true }

-- the size is that of these pieces
pub record HasSize (size : LabelSize) (pieces : List (List ℕ)) : Type 0 where
  pub width : size.width ≡ pieces_width pieces
  pub height : size.height ≡ length pieces
  pub few : IsCount size.width

-- a text that is cut has its size beside it, both ways
abbrev pub AreSized : LabelText → Type 0
AreSized (Cut label) = HasSize label.value.beside.size (lines_of label.value.beside) × HasSize label.value.below.size (lines_of label.value.below)
AreSized other = Unit {0}

-- a text has this width beside it: how long the label is
pub record IsSized (text : LabelText) (width : ℕ) : Type 0 where
  pub texts : AreSized text
  pub is : width ≡ label_width (pieces_in text)
  pub few : IsCount width
