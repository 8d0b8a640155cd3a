-- Writes into rows that stand below others are writes into these rows alone.
use Rattle.snippet_strokes.proofs.Common.{◌≡◌, ℕ, zero, suc, ◌+◌, cond, true, false, List, [], ◌∷◌, ◌++◌, length, map, refl, ap, ◌∙◌, arith, flat_map}
use Rattle.snippet_strokes.proofs.Common.{range_with_len, map-append, flat_map-cons, row_at, is_primary, Cell, written, strokes_of, ElementStyle}
use Rattle.snippet_strokes.proofs.Common.{LineAnnotationType, Singleline, MultilineStart, MultilineEnd, MultilineLine, Layout, PlacedEntry, label_of}
use Rattle.snippet_strokes.proofs.Common.{label_place, label_role, pieces_at, stroke_role, has_stem, corner_of, stem_of, column_of, connectors_of, corners_of}
use Rattle.snippet_strokes.proofs.Common.{labels_of, stems_of, Write, painted, stretch_of, rules}
use Rattle.snippet_strokes.proofs.CellLemmas.{bar_writes, corner_by, drawn_strokes, marks_of, stem_write, written_by}
use Rattle.snippet_strokes.proofs.PieceWrites.{pieces_at-lowered}
use Rattle.snippet_labels.specs.Positions.{pieces_of}

-- a write so many rows farther down
abbrev pub lowered : ℕ → Write → Write
lowered n w = record w { row = n + w.row }

-- ---- rows below others

pub written-cons : (x : List Cell) (xs : List (List Cell)) (at : ℕ) (new : List (List Cell)) → written [] (x ∷ xs) (suc at) new ≡ x ∷ written [] xs at new
unfolding written
written-cons x xs at new = search rules

written-below : (above xs : List (List Cell)) (at : ℕ) (new : List (List Cell))
    → written [] (above ++ xs) (length above + at) new ≡ above ++ written [] xs at new
written-below [] xs at new = ap (λ n. written [] xs n new) (let none : 0 + at ≡ at = omega arith in none)
written-below (x ∷ above) xs at new =
    let next : suc (length above) + at ≡ suc (length above + at) = omega arith in
    ap (λ n. written [] (x ∷ (above ++ xs)) n new) next ∙ written-cons x (above ++ xs) (length above + at) new
    ∙ ap (λ rows. x ∷ rows) (written-below above xs at new)

row_at-below : (above xs : List (List Cell)) (r : ℕ) → row_at (above ++ xs) (length above + r) ≡ row_at xs r
row_at-below [] xs r = ap (row_at xs) (let none : 0 + r ≡ r = omega arith in none)
row_at-below (x ∷ above) xs r = grind (arith, row_at-below above xs r)

painted_one : (above rows : List (List Cell)) (w : Write) → written_by (above ++ rows) (lowered (length above) w) ≡ above ++ written_by rows w
painted_one above rows w = simp (row_at-below, written-below)

-- writes that are lowered past some rows leave these, and paint those below
pub painted-below : (above : List (List Cell)) (ws : List Write) (rows : List (List Cell))
    → painted (map (lowered (length above)) ws) (above ++ rows) ≡ above ++ painted ws rows
painted-below above [] rows = refl
painted-below above (w ∷ ws) rows =
    ap (painted (map (lowered (length above)) ws)) (painted_one above rows w) ∙ painted-below above ws (written_by rows w)

-- ---- the strokes of a line

-- what a rule gives for each of some things, so many rows farther down
pub flat_map-lowered : {X : Type 0} (n : ℕ) (f g : X → List Write) → ((x : X) → f x ≡ map (lowered n) (g x)) → (xs : List X)
    → flat_map f xs ≡ map (lowered n) (flat_map g xs)
flat_map-lowered n f g same [] = refl
flat_map-lowered n f g same (x ∷ xs) = grind (arith, flat_map-cons, map-append, flat_map-lowered n f g same xs)

stretch-lowered : (n low row from to glyph : ℕ) (role : ElementStyle) → low ≡ n + row
    → stretch_of low from to glyph role ≡ map (lowered n) (stretch_of row from to glyph role)
stretch-lowered n low row from to glyph role is = search rules

-- numbers in a row, each so much greater
range-lowered : (f g : ℕ → Write) (n a low count : ℕ) → low ≡ n + a → ((r : ℕ) → f (n + r) ≡ lowered n (g r))
    → map f (range_with_len low count) ≡ map (lowered n) (map g (range_with_len a count))
range-lowered f g n a low zero is same = refl
range-lowered f g n a low (suc count) is same = grind (arith, range-lowered f g n (a + 1) (low + 1) count (omega (arith, is)) same)

column-lowered : (n start end cell glyph : ℕ) (role : ElementStyle)
    → column_of (n + start) (n + end) cell glyph role ≡ map (lowered n) (column_of start end cell glyph role)
column-lowered n start end cell glyph role = grind (arith, range-lowered)

module _ (layout : Layout) (n : ℕ) where
  connectors-lowered : (row : ℕ) (es : List PlacedEntry) → connectors_of layout (n + row) es ≡ map (lowered n) (connectors_of layout row es)
  connectors-lowered row es = grind (arith, flat_map-lowered, stretch-lowered)

  corners-lowered : (row count : ℕ) (es : List PlacedEntry) → corners_of layout (n + row) (n + count) es ≡ map (lowered n) (corners_of layout row count es)
  corners-lowered row count es =
      flat_map-lowered n (corner_of layout (n + row) (n + count)) (corner_of layout row count) (λ e. by_part e e.entry.annotation_type) es
    where
      bar : (e : PlacedEntry) (depth start end low high : ℕ) → low ≡ n + start → high ≡ n + end
          → bar_writes layout e depth low high ≡ map (lowered n) (bar_writes layout e depth start end)
      bar e depth start end low high is_low is_high =
          ap (λ s. bar_writes layout e depth s high) is_low ∙ ap (λ t. bar_writes layout e depth (n + start) t) is_high
          ∙ column-lowered n start end (layout.gutter + 2 + depth) (strokes_of layout.decor (is_primary e.entry.kind)).bar (stroke_role e)

      by_part : (e : PlacedEntry) (part : LineAnnotationType)
          → corner_by layout (n + row) (n + count) e part ≡ map (lowered n) (corner_by layout row count e part)
      by_part e Singleline = refl
      by_part e (MultilineStart depth) =
          let corner : ℕ = row + 1 + e.position in
          grind (arith, bar e depth (corner + 1) count (n + row + 1 + e.position + 1) (n + count) (omega arith) refl)
      by_part e (MultilineEnd depth) =
          let corner : ℕ = row + 1 + e.position in
          grind (arith, map-append, bar e depth row corner (n + row) (n + row + 1 + e.position) refl (omega arith))
      by_part e (MultilineLine depth) = refl

  stem-lowered : (row : ℕ) (e : PlacedEntry) → stem_of layout (n + row) e ≡ map (lowered n) (stem_of layout row e)
  stem-lowered row e =
      elim (has_stem e) as (λ b. cond b (map (stem_write layout (n + row) e) (range_with_len 0 (e.position + 1))) []
      ≡ map (lowered n) (cond b (map (stem_write layout row e) (range_with_len 0 (e.position + 1))) [])) [
        | true ↦ all (range_with_len 0 (e.position + 1))
        | false ↦ refl
      ]
    where
      all : (belows : List ℕ) → map (stem_write layout (n + row) e) belows ≡ map (lowered n) (map (stem_write layout row e) belows)
      all [] = refl
      all (below ∷ belows) = grind (arith, all belows)

  stems-lowered : (row : ℕ) (es : List PlacedEntry) → stems_of layout (n + row) es ≡ map (lowered n) (stems_of layout row es)
  stems-lowered row [] = refl
  stems-lowered row (e ∷ later) = grind (arith, map-append, stem-lowered, stems-lowered row later)

  labels-lowered : (row : ℕ) (es : List PlacedEntry) → labels_of layout (n + row) es ≡ map (lowered n) (labels_of layout row es)
  labels-lowered row es =
      flat_map-lowered n (label_of layout (n + row)) (label_of layout row) (λ e.
      let first : n + row + (label_place e).0 ≡ n + (row + (label_place e).0) = omega arith in
      ap (λ r. pieces_at r (layout.code + (label_place e).1) (label_role e.entry.kind) (pieces_of e)) first
      ∙ pieces_at-lowered n (row + (label_place e).0) (layout.code + (label_place e).1) (label_role e.entry.kind) (pieces_of e)) es

  marks-lowered : (row : ℕ) (es : List PlacedEntry) → marks_of layout (n + row) es ≡ map (lowered n) (marks_of layout row es)
  marks-lowered row es = grind (arith, flat_map-lowered, stretch-lowered)

  -- all strokes of a line
  pub strokes-lowered : (count : ℕ) (placed order : List PlacedEntry)
      → drawn_strokes layout n (n + count) placed order ≡ map (lowered n) (drawn_strokes layout 0 count placed order)
  strokes-lowered count placed order =
      grind (arith, map-append, connectors-lowered, corners-lowered 0 count placed, stems-lowered, labels-lowered, marks-lowered)
