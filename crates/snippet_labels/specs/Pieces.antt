-- The pieces of a label: each stands in a row of its own.
use Rattle.std.specs.Prelude.{ℕ, ◌+◌, ◌-◌, ◌==◌, ◌&&◌, Bool, false, nat_le, nat_lt, not, List, [], ◌∷◌, encode_utf8_all}
use Rattle.std.specs.Prelude.{if◌then◌else◌, length, map, max}
use Rattle.std.specs.List.{list_any, slice_split}
use Rattle.snippet_grid.specs.Layout.{Layout, code_cell}
use Rattle.snippet_parts.specs.declared.entries.LineAnnotation.{LineAnnotation}
use Rattle.snippet_parts.specs.Least.{greatest}
use Rattle.snippet_shown.specs.Wrapped.{wrapped}
use Rattle.snippet_text.specs.Normalized.{normalized_chars}
use Rattle.snippet_text.specs.Width.{char_width}

-- a text in a room of so many columns: broken where its lines are wider, if there are 20
abbrev pub broken_in : ℕ → List ℕ → List ℕ
broken_in room text = if nat_le 20 room then wrapped room false text else text

-- the text of a label that begins at this cell, where labels are cut: its room are the columns from there to where they are to end
abbrev pub broken : Layout → ℕ → List ℕ → List ℕ
broken layout cell text = if layout.label_lines then broken_in (layout.label_end - cell) text else text

-- a text cut at its line feeds, or whole
abbrev pub text_pieces : Bool → List ℕ → List (List ℕ)
text_pieces cut text = if cut then slice_split (λ c. c == 10) text else text ∷ []

-- the pieces of a label of this text that begins at this cell: the lines of the text, broken, where labels are cut, else the text whole
abbrev pub label_pieces : Layout → ℕ → List ℕ → List (List ℕ)
label_pieces layout cell text = text_pieces layout.label_lines (broken layout cell text)

-- whether labels are broken
abbrev pub breaks_labels : Layout → Bool
breaks_labels layout = layout.label_lines && nat_lt 0 layout.label_end

-- whether nothing may stand right of a label of this text in a row: where labels are broken and it has a character of more than one column,
-- since what stood there would be in a later column than its cell
abbrev pub stands_last : Layout → List ℕ → Bool
stands_last layout text = breaks_labels layout && list_any (λ c. nat_lt 1 (char_width c)) text

-- whether the mark of an entry goes past where labels are to end, where they are broken. A mark takes a column at least
abbrev pub goes_past : Layout → LineAnnotation → Bool
goes_past layout e = breaks_labels layout && nat_lt layout.label_end (code_cell layout (max (e.start.display + 1) e.end.display))

-- the pieces of a label as it stands after its mark, and as it hangs below it; whether nothing may stand right of it in a row; and whether its
-- mark goes too far for a label left of it to stand in the row of the marks
pub record LabelPieces : Type 0 where
  pub beside : List (List ℕ)
  pub below : List (List ℕ)
  pub last : Bool
  pub past : Bool

-- the column at which a label begins that stands after its mark: one after it. A mark that ends at column 0 still takes that column
abbrev pub beside_column : LineAnnotation → ℕ
beside_column e = if e.end.display == 0 then 2 else e.end.display + 1

-- the label of an entry
abbrev pub label_of_entry : Layout → LineAnnotation → LabelPieces
label_of_entry layout e =
    record {
      beside = label_pieces layout (code_cell layout (beside_column e)) (normalized_chars e.label);
      below = label_pieces layout (code_cell layout e.start.display) (normalized_chars e.label);
      last = stands_last layout (normalized_chars e.label);
      past = goes_past layout e;
    }

-- the pieces of a label at this position: at 0 it stands after its mark
abbrev pub label_at : ℕ → LabelPieces → List (List ℕ)
label_at position label = if position == 0 then label.beside else label.below

-- whether any piece has a character
abbrev pub shows_any : List (List ℕ) → Bool
shows_any pieces = list_any (λ piece. not (length piece == 0)) pieces

-- how wide pieces are: how many bytes the longest has
abbrev pub pieces_width : List (List ℕ) → ℕ
pieces_width pieces = greatest (map (λ piece. length (encode_utf8_all piece)) pieces)

-- how long a label is: the bytes of its longest piece, whichever way it stands
abbrev pub label_width : LabelPieces → ℕ
label_width label = max (pieces_width label.beside) (pieces_width label.below)
