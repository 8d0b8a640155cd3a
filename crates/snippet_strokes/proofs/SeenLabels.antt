-- What is seen of the labels of a line: none is lost.
use Rattle.std.specs.Prelude.{ℕ, Bool, true, ◌+◌, ◌-◌, ◌<◌, ◌≤◌, ◌≡◌, ◌⊎◌, ◌&&◌, ◌||◌, nat_le, nat_lt, max, All, List}
use Rattle.std.specs.Prelude.{[], count_by, length, map, slice_index_or}
use Rattle.snippet_strokes.proofs.Common.{Cell, unlinked_cell, DecorStyle, cell_at, row_at, is_bar, LineAnnotation, Layout, code_cell, label_role, label_text}
use Rattle.snippet_strokes.proofs.Common.{is_start_part, IsStrokeCell, IsStemCell, label_pieces, shows_any, stands_last, width_of}

-- the pieces of the label of an entry, and where it begins: in which row of a line's strokes, that of the marks first, and in which cell
-- of it
pub record PlacedLabel : Type 0 where
  pub entry : LineAnnotation
  pub pieces : List (List ℕ)
  pub row : ℕ
  pub cell : ℕ

-- whether a cell of those rows is one of the label's
abbrev pub is_cell_of : ℕ → ℕ → PlacedLabel → Bool
is_cell_of r c l = nat_le l.row r && (nat_le l.cell c && nat_lt c (l.cell + length (slice_index_or l.pieces (r - l.row) [])))

-- the label stands whole in these rows, piece below piece, in the role of labels of its kind: in the row of the marks one cell after its
-- mark, which takes column 0 even where it ends there; or in a row below, at the mark's first column
pub record StandsIn (layout : Layout) (rows : List (List Cell)) (l : PlacedLabel) : Type 0 where
  pub whole : (k n : ℕ) → n < length (slice_index_or l.pieces k [])
      → cell_at rows (l.row + k) (l.cell + n) ≡ unlinked_cell (label_role l.entry.kind) (slice_index_or (slice_index_or l.pieces k []) n 0)
  pub place : ((l.row ≡ 0) × (l.cell ≡ code_cell layout (max l.entry.end.display 1) + 1)) ⊎ ((0 < l.row) × (l.cell ≡ code_cell layout l.entry.start.display))

-- a stem leads from the mark down to the label, if the label hangs below it: one stands in each row between, in the label's first cell,
-- but where that cell is one of these labels'
abbrev pub IsLedTo : DecorStyle → List PlacedLabel → List (List Cell) → PlacedLabel → Type 0
IsLedTo decor labels rows l =
    (r : ℕ) → 0 < r → r < l.row → count_by (is_cell_of r l.cell) labels ≡ 0 → IsStemCell decor (cell_at rows r l.cell)

-- an entry begins before this cell, and ends by it
pub record EndsBy (layout : Layout) (edge : ℕ) (e : LineAnnotation) : Type 0 where
  pub begins : code_cell layout e.start.display < edge
  pub ends : code_cell layout e.end.display ≤ edge

-- each piece of a label in this row does, that has a character
abbrev pub IsShownBy : ℕ → ℕ → PlacedLabel → Type 0
IsShownBy r edge l =
    (n : ℕ) → l.row + n ≡ r → 0 < length (slice_index_or l.pieces n []) → l.cell + length (slice_index_or l.pieces n []) ≤ edge

-- each has room for its columns up to the cell
abbrev pub HasPieceRoom : ℕ → PlacedLabel → Type 0
HasPieceRoom edge l = (n : ℕ) → 0 < length (slice_index_or l.pieces n []) → l.cell + width_of (slice_index_or l.pieces n []) ≤ edge

-- where a label that shows anything has room for 20 columns, its rows do, if the pieces of these labels do in them
abbrev pub HasRowsBy : Layout → ℕ → List (List Cell) → List PlacedLabel → PlacedLabel → Type 0
HasRowsBy layout edge rows labels l =
    shows_any l.pieces ≡ true → l.cell + 20 ≤ layout.label_end → (n : ℕ) → n < length l.pieces → All (IsShownBy (l.row + n) edge) labels
    → length (row_at rows (l.row + n)) ≤ edge

-- the rows in which a label stands end with it
abbrev pub EndsRows : List (List Cell) → PlacedLabel → Type 0
EndsRows rows l =
    (n : ℕ) → 0 < length (slice_index_or l.pieces n []) → length (row_at rows (l.row + n)) ≤ l.cell + length (slice_index_or l.pieces n [])

-- the labels of a line's entries stand in the rows of its strokes, one for each entry, in their order: each that shows anything
-- stands whole, and a stem leads to it; no cell is one of two labels, and each that is of none is a space or a stroke's. Where the code
-- begins before a cell, and all entries and the pieces of labels in a row end by it, the row does; and where labels are broken the rows of one
-- that has room do, whatever entries do. Those of a label right of which nothing may stand end with it
pub record LabelsStand (layout : Layout) (es : List LineAnnotation) (rows : List (List Cell)) : Type 0 where
  pub labels : List PlacedLabel
  pub are : map (λ (l : PlacedLabel). l.entry) labels ≡ es
  pub pieces : All (λ l. l.pieces ≡ label_pieces layout l.cell (label_text l.entry)) labels
  pub stand : All (λ l. shows_any l.pieces ≡ true → StandsIn layout rows l) labels
  pub led : All (λ l. shows_any l.pieces ≡ true → IsLedTo layout.decor labels rows l) labels
  pub apart : (r c : ℕ) → count_by (is_cell_of r c) labels ≤ 1
  pub others : (r c : ℕ) → layout.code ≤ c → count_by (is_cell_of r c) labels ≡ 0 → IsStrokeCell layout.decor (cell_at rows r c)
  pub within : (edge : ℕ) → layout.code < edge → All (EndsBy layout edge) es → (r : ℕ) → All (IsShownBy r edge) labels
      → length (row_at rows r) ≤ edge
  pub labelled : layout.label_lines ≡ true → (edge : ℕ) → layout.label_end ≤ edge → All (HasRowsBy layout edge rows labels) labels
  pub last : All (λ l. stands_last layout (label_text l.entry) ≡ true → EndsRows rows l) labels

-- an entry has a label only where a span ends: the start of one of several lines, or a bar, has none
abbrev pub IsLabelledAtEnd : LineAnnotation → Type 0
IsLabelledAtEnd e = (is_start_part e.annotation_type || is_bar e.annotation_type) ≡ true → label_text e ≡ []
