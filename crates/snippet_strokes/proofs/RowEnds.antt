-- Where rows end: strokes that end by a cell leave no row that goes past it, and where nothing may stand right of a label its rows end with it.
use Rattle.snippet_strokes.proofs.Common.{◌≡◌, ℕ, ◌+◌, ◌-◌, ◌<◌, ◌≤◌, ◌&&◌, Bool, false, true, max, List, [], ◌∷◌, All, length, get_or, ap, sym, ◌∙◌}
use Rattle.snippet_strokes.proofs.Common.{subst, arith, inl, inr, cases_eq, cases_lt, All-head, All-permutation, All-tail, IsPermutation, LineAnnotation}
use Rattle.snippet_strokes.proofs.Common.{PlacedEntry, nat_lt}
use Rattle.snippet_strokes.proofs.Common.{ArePlaced, HasPlace, has_label, has_stem, label_place, label_width, label_at, positions}
use Rattle.snippet_strokes.proofs.Common.{length-replicate, length-text_cells, text_cells, Cell, row_at, WritesCells-cells_written, is_primary, strokes_of}
use Rattle.snippet_strokes.proofs.Common.{Layout, HasBarCell, Write, painted, common_steps, crowds, nat_tests, LabelPieces}
use Rattle.snippet_strokes.proofs.CellLemmas.{drawn_strokes, written_by}
use Rattle.snippet_strokes.proofs.EachStroke.{each_corner, each_label, each_line, each_mark, each_stem_cell, each_stroke, room_at}
use Rattle.snippet_strokes.proofs.LabelKept.{all_clear, all_left, ascending, far_above, label_parts, labelled_positions, last_crowds, line_crowds}
use Rattle.snippet_strokes.proofs.LabelKept.{past_clear, position_of, right_clear, stands_left, uncrowded}
use Rattle.snippet_strokes.proofs.PieceWrites.{has_piece, label_chars_le, label_write, labels_some, piece_within}
use Rattle.snippet_strokes.proofs.PositionLemmas.{label_column}
use Rattle.snippet_strokes.proofs.SeenLabels.{EndsBy}
use Rattle.snippet_strokes.proofs.StrokeCells.{uncrowded_apart}
use Rattle.snippet_labels.specs.Pieces.{goes_past}
use Rattle.snippet_labels.specs.Positions.{pieces_of}
use Rattle.std.proofs.lemmas.List.{get_or_default}

-- ---- writes

-- a write ends by this cell, if it is in this row
abbrev pub IsWrittenBy : ℕ → ℕ → Write → Type 0
IsWrittenBy r edge w = w.row ≡ r → w.cell + length w.text ≤ edge

-- one write that does leaves the row so that it ends by the cell, if it did before
written-by : (r edge : ℕ) (w : Write) (rows : List (List Cell)) → IsWrittenBy r edge w → length (row_at rows r) ≤ edge
    → length (row_at (written_by rows w) r) ≤ edge
written-by r edge w rows ends short =
    let writes = WritesCells-cells_written rows w.row w.cell (text_cells w.role w.text) in
    elim (cases_eq r w.row) [
      | inl here ↦ omega (
        arith,
        ap (λ n. length (row_at (written_by rows w) n)) here,
        ap (λ n. length (row_at rows n)) here,
        writes.width,
        length-text_cells w.role w.text,
        ends (sym here),
        short,
      )
      | inr other ↦ omega (arith, ap (λ (row : List Cell). length row) (writes.others r other), short)
    ]

-- so do all writes that do
pub painted-by : (r edge : ℕ) (ws : List Write) (rows : List (List Cell)) → All (IsWrittenBy r edge) ws → length (row_at rows r) ≤ edge
    → length (row_at (painted ws rows) r) ≤ edge
painted-by r edge [] rows end short = short
painted-by r edge (w ∷ ws) rows end short =
    painted-by r edge ws (written_by rows w) (All-tail (IsWrittenBy r edge) w ws end)
    (written-by r edge w rows (All-head (IsWrittenBy r edge) w ws end) short)

-- ---- the strokes of a line

-- so the strokes of entries that end by that cell, with the pieces of their labels in the row, leave it so that it ends there, if it did before
pub strokes-by : (layout : Layout) (edge : ℕ) → layout.code < edge → (row count : ℕ) (placed order : List PlacedEntry) (rows : List (List Cell))
    → All (λ e. HasBarCell layout e.entry) placed → All (λ e. EndsBy layout edge e.entry) placed → All (λ e. EndsBy layout edge e.entry) order
    → (r : ℕ) → All (λ e. (n : ℕ) → 0 < length (get_or (pieces_of e) n []) → IsWrittenBy r edge (label_write layout (row + 1) e n)) placed
    → length (row_at rows r) ≤ edge
    → length (row_at (painted (drawn_strokes layout row count placed order) rows) r) ≤ edge
strokes-by layout edge right row count placed order rows bar_cells end end_too r labelled short =
    let Q : Write → Type 0 = IsWrittenBy r edge in
    painted-by r edge (drawn_strokes layout row count placed order) rows (each_stroke Q layout row count placed order
    (each_line Q layout (row + 1) placed (λ k d within _ depth some _.
    let e : PlacedEntry = get_or placed k d in
    let long = length-replicate (layout.code + e.entry.start.display - (layout.gutter + 3 + depth)) (strokes_of layout.decor
    (is_primary e.entry.kind)).connector in omega (arith, (end k d within).begins, some, long)))
    -- bars and corners stand left of the code
    (each_corner Q layout row count placed (λ k d within depth n glyph at _ _ _ _ _.
    let room = room_at layout depth (get_or placed k d).entry.annotation_type (bar_cells k d within) at in omega (arith, right, room.1)))
    (each_stem_cell Q layout (row + 1) placed (λ k d within _ below glyph _ _ _. omega (arith, (end k d within).begins)))
    (each_label Q layout (row + 1) placed (λ k d within n _ some. labelled k d within n some))
    (each_mark Q layout (row + 1) order (λ k d within cell n glyph _ to _ _.
    omega (arith, to, (end_too k d within).begins, (end_too k d within).ends, length-replicate n glyph)))) short

-- what stands in the row of a label's piece
module _ (layout : Layout) (row : ℕ) (given : List LineAnnotation) (placed order : List PlacedEntry) (is : ArePlaced layout given placed)
    (places : All (λ e. HasPlace e.entry) placed) (bar_cells : All (λ e. HasBarCell layout e.entry) placed) (same : IsPermutation placed order)
    (k : ℕ) (d : PlacedEntry) (inside : k < length placed) (has : has_label (get_or placed k d) ≡ true)
    (n : ℕ) (part : n < length (pieces_of (get_or placed k d))) where
  -- the entry
  abbrev own : PlacedEntry
  own = get_or placed k d

  -- the row of the piece
  abbrev r : ℕ
  r = row + 1 + (label_place own).0 + n

  -- a label begins no farther left than its mark
  start_of_label : (i : ℕ) (x : PlacedEntry) → i < length placed → (get_or placed i x).entry.start.display ≤ (label_place (get_or placed i x)).1
  start_of_label i x within = (label_column (get_or placed i x) (places i x within)).0

  -- what stands left of this one begins there
  starts_left : (i : ℕ) (x : PlacedEntry) → k ≤ i → i < length placed → (get_or placed i x).entry.start.display ≤ own.entry.start.display
  starts_left i x after within = stands_left layout given placed k i d x is after within

  -- the rows of the label, if it hangs
  hangs : 0 < own.position → (label_place own).0 ≡ own.position + 1
  hangs low = elim (label_parts own) [
    | inl at ↦ absurd (omega (arith, low, at.position))
    | inr at ↦ at.row
  ]

  -- what stands right of it hangs no lower
  no_lower : (i : ℕ) (x : PlacedEntry) → i < k → (get_or placed i x).position ≤ own.position
  no_lower i x before =
      let are = labelled_positions layout given placed k d is inside has in
      omega (
        arith,
        position_of placed k d are inside,
        position_of placed i x are (omega (arith, before, inside)),
        ascending 0 placed i k before inside,
      )

  -- and above it, with all pieces of its own, if it is crowded by it
  above : (i : ℕ) (x : PlacedEntry) → i < k → ((p : ℕ) → crowds p (get_or placed i x) own ≡ true)
      → ((get_or placed i x).position + length (pieces_of (get_or placed i x)) ≤ own.position) × (0 < length (pieces_of (get_or placed i x)))
  above i x before crowded =
      (far_above layout given placed i k x d is before inside has crowded, labels_some layout given placed is i x (omega (arith, before, inside)))

  -- so the row ends by a cell right of the label's first one, if all labels and marks in it do and it did before
  row_by : (edge : ℕ) → layout.code + (label_place own).1 < edge
      → All (λ e. (m : ℕ) → 0 < length (get_or (pieces_of e) m []) → IsWrittenBy r edge (label_write layout (row + 1) e m)) placed
      → All (λ e. row + 1 ≡ r → layout.code + max (e.entry.start.display + 1) e.entry.end.display ≤ edge) placed → (count : ℕ) (rows : List (List Cell))
      → length (row_at rows r) ≤ edge → length (row_at (painted (drawn_strokes layout row count placed order) rows) r) ≤ edge
  row_by edge right labels_end marks_end count rows short =
      let Q : Write → Type 0 = IsWrittenBy r edge in
      let M : PlacedEntry → Type 0 = λ e. row + 1 ≡ r → layout.code + max (e.entry.start.display + 1) e.entry.end.display ≤ edge in
      painted-by r edge (drawn_strokes layout row count placed order) rows (each_stroke Q layout row count placed order
      (each_line Q layout (row + 1) placed (λ i x within takes depth some there.
      let e : PlacedEntry = get_or placed i x in
      let long = length-replicate (layout.code + e.entry.start.display - (layout.gutter + 3 + depth)) (strokes_of layout.decor
      (is_primary e.entry.kind)).connector in
      elim (cases_lt i k) [
        | inl before ↦
            let high = above i x before (λ p. line_crowds p e own has takes) in
            absurd (omega (arith, there, high.0, high.1, hangs (omega (arith, high.0, high.1))))
        | inr left ↦ omega (arith, long, some, right, starts_left i x left within, start_of_label k d inside)
      ]))
      -- bars and corners stand left of the code
      (each_corner Q layout row count placed (λ i x within depth m glyph at _ _ _ _ _.
      let room = room_at layout depth (get_or placed i x).entry.annotation_type (bar_cells i x within) at in omega (arith, room.1, right)))
      (each_stem_cell Q layout (row + 1) placed (λ i x within stem below glyph low _ there.
      let e : PlacedEntry = get_or placed i x in
      elim (cases_lt i k) [
        | inl before ↦
            let high = no_lower i x before in
            absurd (omega (arith, there, low, high, stem_position e stem, hangs (omega (arith, high, stem_position e stem))))
        | inr left ↦ omega (arith, right, starts_left i x left within, start_of_label k d inside)
      ])) (each_label Q layout (row + 1) placed (λ i x within m _ some. labels_end i x within m some))
      (each_mark Q layout (row + 1) order (λ i x within cell m glyph _ to _ there.
      omega (arith, to, All-permutation M placed order same marks_end i x within there, length-replicate m glyph)))) short
    where
      stem_position : (e : PlacedEntry) → has_stem e ≡ true → 0 < e.position
      stem_position e stem = grind (arith, common_steps, nat_tests)

  -- in the row of the marks no mark goes past where labels are to end, if labels are broken and this one has room there
  marks_near : layout.label_lines ≡ true → layout.code + (label_place own).1 ≤ layout.label_end
      → All (λ e. row + 1 ≡ r → layout.code + max (e.entry.start.display + 1) e.entry.end.display ≤ layout.label_end) placed
  marks_near cut room i x within there =
      let e : PlacedEntry = get_or placed i x in
      elim (label_parts own) [
        | inl at ↦ elim (cases_lt i k) [
          | inl before ↦
              let near = past_clear e own (right_clear layout given placed i k x d is before inside has at.position) has in
              let tells : goes_past layout e.entry ≡ false = sym (ap (λ (label : LabelPieces). label.past) (is.labels i x within)) ∙ near in
              not_past layout.label_lines layout.label_end (layout.code + max (e.entry.start.display + 1) e.entry.end.display) cut
              (omega (arith, room, at.from)) tells
          | inr left ↦
              let starts = starts_left i x left within in
              elim (all_clear layout given placed k d is places inside has at.position i x within).clear [
                | inl ends ↦ omega (arith, room, at.from, ends, starts, (places k d inside).ordered)
                | inr starts_right ↦ absurd (omega (arith, starts_right, starts, (places k d inside).ordered))
              ]
        ]
        | inr at ↦ absurd (omega (arith, there, at.row))
      ]
    where
      not_past : (lines : Bool) (end to : ℕ) → lines ≡ true → 0 < end → (lines && nat_lt 0 end && nat_lt end to) ≡ false → to ≤ end
      not_past true end to cut some none = grind (arith, nat_tests, some, none)
      not_past false end to cut some none = cc cut

  -- so the row ends by each cell from there on by which all labels in it end
  pub label_row_by : layout.label_lines ≡ true → layout.code + (label_place own).1 < layout.label_end → (edge : ℕ) → layout.label_end ≤ edge
      → All (λ e. (m : ℕ) → 0 < length (get_or (pieces_of e) m []) → IsWrittenBy r edge (label_write layout (row + 1) e m)) placed
      → (count : ℕ) (rows : List (List Cell)) → length (row_at rows r) ≤ edge
      → length (row_at (painted (drawn_strokes layout row count placed order) rows) r) ≤ edge
  label_row_by cut room edge wide labels_end =
      row_by edge (omega (arith, room, wide)) labels_end (λ i x within there.
      omega (arith, wide, marks_near cut (omega (arith, room)) i x within there))

  -- and with the piece, if nothing may stand right of the label
  module _ (last : own.label.last ≡ true) (some : 0 < length (get_or (pieces_of own) n [])) where
    abbrev edge : ℕ
    edge = layout.code + (label_place own).1 + length (get_or (pieces_of own) n [])

    label_ends : (i : ℕ) (x : PlacedEntry) → i < length placed → (m : ℕ) → 0 < length (get_or (pieces_of (get_or placed i x)) m [])
        → IsWrittenBy r edge (label_write layout (row + 1) (get_or placed i x) m)
    label_ends i x within m shown there =
        let e : PlacedEntry = get_or placed i x in
        let few : length (get_or (pieces_of e) m []) ≤ label_width e.label = label_chars_le e m in
        let part_e : m < length (pieces_of e) = piece_within (pieces_of e) m shown in
        let has_e : has_label e ≡ true = has_piece e m shown in
        elim (cases_lt i k) [
          | inl right ↦
              let high = above i x right (λ p. last_crowds p e own has last has_e) in
              let low = hangs (omega (arith, high.0, high.1)) in
              elim (label_parts e) [
                | inl at ↦ absurd (omega (arith, there, at.row, at.position, part_e, high.0, low))
                | inr at ↦ absurd (omega (arith, there, at.row, part_e, high.0, low))
              ]
          | inr not_right ↦ elim (cases_lt k i) [
            | inl left ↦
                let are = labelled_positions layout given placed k d is inside has in
                let at_own = position_of placed k d are inside in
                let at_e = position_of placed i x are within in
                let starts = starts_left i x (omega (arith, left)) within in
                elim (cases_lt e.position (own.position + length (pieces_of own))) [
                  | inl close ↦
                      let crowded = uncrowded 0 placed k i d x left within
                      (omega (arith, at_e, subst (λ p. e.position < p + length (label_at p own.label)) at_own close)) in
                      let clear = uncrowded_apart (get_or (positions 0 placed) k 0) own e crowded has has_e starts in
                      elim (label_parts e) [
                        | inl at ↦ omega (arith, clear, few, at.to, start_of_label k d inside)
                        | inr at ↦ omega (arith, clear, few, at.column, start_of_label k d inside, (places i x within).ordered)
                      ]
                  | inr far ↦ elim (label_parts e) [
                    | inl at ↦ absurd (omega (arith, far, at.position, part))
                    | inr at ↦ elim (label_parts own) [
                      | inl at_0 ↦ absurd (omega (arith, there, far, at.row, at_0.row, at_0.position, part))
                      | inr at_0 ↦ absurd (omega (arith, there, far, at.row, at_0.row, part))
                    ]
                  ]
                ]
            | inr not_left ↦
                let here : i ≡ k = omega (arith, not_right, not_left) in
                let one : e ≡ own = ap (λ j. get_or placed j x) here ∙ get_or_default placed k x d inside in
                let there_too : m ≡ n = omega (arith, there, ap (λ (y : PlacedEntry). (label_place y).0) one) in
                omega (
                  arith,
                  ap (λ (y : PlacedEntry). (label_place y).1) one,
                  ap (λ (y : PlacedEntry). length (get_or (pieces_of y) m [])) one,
                  ap (λ j. length (get_or (pieces_of own) j [])) there_too,
                )
          ]
        ]

    mark_ends : All (λ e. row + 1 ≡ r → layout.code + max (e.entry.start.display + 1) e.entry.end.display ≤ edge) placed
    mark_ends i x within there = elim (label_parts own) [
      | inl at ↦
          let ends = all_left layout given placed k d is places inside has last at.position i x within in
          omega (arith, ends, (places i x within).ordered, at.from)
      | inr at ↦ absurd (omega (arith, there, at.row))
    ]

    pub row_ends : (count : ℕ) (rows : List (List Cell)) → length (row_at rows r) ≤ edge
        → length (row_at (painted (drawn_strokes layout row count placed order) rows) r) ≤ edge
    row_ends = row_by edge (omega (arith, some)) label_ends mark_ends
