-- What strokes leave from the code on: spaces, glyphs of strokes and labels, and nothing else.
use Rattle.snippet_strokes.proofs.Common.{◌≡◌, ℕ, zero, suc, ◌+◌, ◌-◌, ◌<◌, ◌≤◌, cond, List, [], ◌∷◌, length, take, get_or, replicate, refl, sym, ap, ◌∙◌}
use Rattle.snippet_strokes.proofs.Common.{◌&&◌, ◌||◌, nat_le, nat_lt}
use Rattle.snippet_strokes.proofs.Common.{subst, arith, inl, inr, cases_lt, take_all, cells_written, WritesCells-cells_written, is_primary, Cell, text_cells}
use Rattle.snippet_strokes.proofs.Common.{unlinked_cell, strokes_of, ElementStyle, Layout, PlacedEntry, painting_order, stroke_role, first_glyph, mark_end}
use Rattle.snippet_strokes.proofs.Common.{WritesCells, Write, painted, stretch_of, ◌==◌, Bool, true, false, ◌++◌, drop, All, flat_map, LineAnnotation}
use Rattle.snippet_strokes.proofs.Common.{label_role, has_label, label_place, label_of, labels_of, HasPlace, ArePlaced, append_assoc, code_cell, label_width}
use Rattle.snippet_strokes.proofs.Common.{pieces_at, drop_more, take-append-drop, length-drop, get_or-drop, flat_map-append, cell_at, crowds, list_any}
use Rattle.snippet_strokes.proofs.Common.{All-append, underline_role, DecorStyle, IsStrokeCell, stroke_glyphs, HasBarCell, common_steps, nat_tests}
use Rattle.snippet_strokes.proofs.Common.{label_at, list_any-append, stem_glyphs}
use Rattle.snippet_strokes.proofs.CellLemmas.{drawn_mark, marks_of, drawn_strokes}
use Rattle.snippet_strokes.proofs.PieceWrites.{All-label_of, All-pieces_at, has_piece, label_parts_of, label_write, label_chars_le, piece_within}
use Rattle.snippet_strokes.proofs.PaintedMarks.{AreMarked, Painted, Paints, mark_cell, StandsWhole}
use Rattle.snippet_strokes.proofs.LineLemmas.{text_cells-replicate}
use Rattle.snippet_strokes.proofs.PaintOrder.{IsPaintingOrder-painting_order, IsPermutation-painting_order}
use Rattle.snippet_strokes.proofs.PaintLemmas.{Painted-next, Painted-none, Paints-more, Paints-none, Paints-past, Paints-rest, first_cell_is, other_cell_is}
use Rattle.snippet_strokes.proofs.WriteLaws.{flat_map-take_more, less, drawn_mark-none, painted-append, stretch_of-none, painted-last, painted-cell}
use Rattle.snippet_strokes.proofs.Reach.{Reaches, cell_of_write}
use Rattle.snippet_strokes.proofs.LabelKept.{ascending, label_parts, labelled_positions, position_of, stands_left, uncrowded}
use Rattle.snippet_strokes.proofs.StrokeGlyphs.{IsAmong, code_among}
use Rattle.snippet_strokes.proofs.EachStroke.{All-flat_map, each_corner, each_label, each_line, each_mark, each_stem_cell, each_stroke, glyphs_at}
use Rattle.snippet_strokes.proofs.EachStroke.{glyphs_leave, room_at}
use Rattle.std.proofs.lemmas.Bool.{or_right}
use Rattle.snippet_labels.specs.Positions.{pieces_of}

-- no label of these entries, whose marks stand in this row, reaches a cell
abbrev pub BesideLabels : Layout → ℕ → ℕ → ℕ → List PlacedEntry → Type 0
BesideLabels layout row r c es = All (λ e. (n : ℕ) → Reaches r c (label_write layout row e n) → ⊥) es

-- a glyph of strokes is a stroke in the role of an entry's
stroke_cell : (decor : DecorStyle) (primary : Bool) (ch : ℕ) → IsAmong (stroke_glyphs decor) ch → IsStrokeCell decor (unlinked_cell (underline_role primary) ch)
stroke_cell decor true ch among = inr (among, refl)
stroke_cell decor false ch among = inr (among, refl)

-- so all strokes of a line leave in a cell from the code on that no label reaches a space or a stroke, if nothing else stood there before
pub cell_of_strokes : (layout : Layout) (r c : ℕ) → layout.code ≤ c → (row count : ℕ) (placed order : List PlacedEntry) (rows : List (List Cell))
    → All (λ e. HasBarCell layout e.entry) placed → IsStrokeCell layout.decor (cell_at rows r c) → BesideLabels layout (row + 1) r c placed
    → IsStrokeCell layout.decor (cell_at (painted (drawn_strokes layout row count placed order) rows) r c)
cell_of_strokes layout r c right row count placed order rows bar_cells before beside =
    let P : Cell → Type 0 = IsStrokeCell layout.decor in
    let Q : Write → Type 0 = λ w. Reaches r c w → P (cell_of_write w c) in
    painted-cell P (drawn_strokes layout row count placed order) rows r c before (each_stroke Q layout row count placed order
    (each_line Q layout (row + 1) placed (λ k d within _ depth _. of_glyphs (get_or placed k d) _ _ _ _
    (code_among layout.decor (is_primary (get_or placed k d).entry.kind)).connector))
    -- bars and corners stand left of the code
    (each_corner Q layout row count placed (λ k d within depth n glyph at _ _ _ _ there.
    let room = room_at layout depth (get_or placed k d).entry.annotation_type (bar_cells k d within) at in absurd (omega (arith, there.to, right, room.1))))
    (each_stem_cell Q layout (row + 1) placed (λ k d within _ below glyph _ among. of_glyphs (get_or placed k d) _ _ 1 glyph (stem_among glyph among)))
    (each_label Q layout (row + 1) placed (λ k d within n _ _ there. absurd (beside k d within n there)))
    (each_mark Q layout (row + 1) order (λ k d within cell n glyph _ _ among. of_glyphs (get_or order k d) _ cell n glyph among)))
  where
    of_glyphs : (e : PlacedEntry) (at cell n glyph : ℕ) → IsAmong (stroke_glyphs layout.decor) glyph → Reaches r c (glyphs_at at cell n glyph (stroke_role e))
        → IsStrokeCell layout.decor (cell_of_write (glyphs_at at cell n glyph (stroke_role e)) c)
    of_glyphs e at cell n glyph among = glyphs_leave (IsStrokeCell layout.decor) r c at cell n glyph (stroke_role e)
        (stroke_cell layout.decor (is_primary e.entry.kind) glyph among)

    stem_among : (glyph : ℕ) → IsAmong (stem_glyphs layout.decor) glyph → IsAmong (stroke_glyphs layout.decor) glyph
    stem_among glyph among =
        let front : List ℕ = take 10 (stroke_glyphs layout.decor) in
        list_any-append (λ g. glyph == g) front (stem_glyphs layout.decor) ∙ or_right (list_any (λ g. glyph == g) front) _ among

-- No label is lost: the labels of two entries share no cell.
pub uncrowded_apart : (p : ℕ) (e f : PlacedEntry) → crowds p e f ≡ false → has_label e ≡ true → has_label f ≡ true
    → f.entry.start.display ≤ e.entry.start.display → f.entry.end.display + (label_width f.label + 2) ≤ e.entry.start.display
uncrowded_apart p e f clear has_e has_f left = grind (arith, common_steps, by_parts)
  where
    by_parts : (block own last other near past : Bool) (fs fe es ee more : ℕ)
        → (block || (own && (((last || ((nat_le es fs && nat_lt fs ee) || (nat_le fs es && nat_lt es (fe + more)))) && (other || near)) || past))) ≡ false
        → own ≡ true → other ≡ true → fs ≤ es → fe + more ≤ es
    by_parts block own last other near past fs fe es ee more is one two left = grind (arith, nat_tests)

-- the labels of two entries, the second of them farther left, share no cell
pub labels_apart : (layout : Layout) (row : ℕ) (e f : PlacedEntry) (n m : ℕ) → HasPlace e.entry → HasPlace f.entry → n < length (pieces_of e)
    → has_label e ≡ true → has_label f ≡ true → f.entry.start.display ≤ e.entry.start.display → e.position ≤ f.position
    → (f.position < e.position + length (pieces_of e) → crowds e.position e f ≡ false) → (r c : ℕ)
    → Reaches r c (label_write layout row e n) → Reaches r c (label_write layout row f m) → ⊥
labels_apart layout row e f n m place_e place_f within has_e has_f left below clear r c there_e there_f =
    grind (arith, common_steps, label_chars_le, uncrowded_apart, label_parts)

-- the labels of two entries of a line share no cell
pub placed_apart : (layout : Layout) (row : ℕ) (given : List LineAnnotation) (es : List PlacedEntry) (i j : ℕ) (d d2 : PlacedEntry)
    → ArePlaced layout given es → All (λ e. HasPlace e.entry) es → i < j → j < length es → (n m r c : ℕ)
    → Reaches r c (label_write layout row (get_or es i d) n) → Reaches r c (label_write layout row (get_or es j d2) m) → ⊥
placed_apart layout row given es i j d d2 placed places before within n m r c here there =
    let e : PlacedEntry = get_or es i d in
    let f : PlacedEntry = get_or es j d2 in
    let inside : i < length es = omega (arith, before, within) in
    let some_e : 0 < length (get_or (pieces_of e) n []) = omega (arith, here.from, here.to) in
    let some_f : 0 < length (get_or (pieces_of f) m []) = omega (arith, there.from, there.to) in
    let has : has_label e ≡ true = has_piece e n some_e in
    let are = labelled_positions layout given es i d placed inside has in
    let at_e = position_of es i d are inside in
    let at_f = position_of es j d2 are within in
    labels_apart layout row e f n m (places i d inside) (places j d2 within) (piece_within (pieces_of e) n some_e)
    has (has_piece f m some_f) (stands_left layout given es i j d d2 placed (omega (arith, before)) within)
    (omega (arith, at_e, at_f, ascending 0 es i j before within))
    (λ close. subst (λ p. crowds p e f ≡ false) (sym at_e) (uncrowded 0 es i j d d2 before within
    (omega (arith, at_f, subst (λ p. f.position < p + length (label_at p e.label)) at_e close)))) r c here there

-- each label stands whole once all are written
pub labels_stand : (layout : Layout) (row : ℕ) (given : List LineAnnotation) (es : List PlacedEntry) (rows : List (List Cell))
    → ArePlaced layout given es → All (λ e. HasPlace e.entry) es → All (StandsWhole layout row (painted (labels_of layout row es) rows)) es
labels_stand layout row given es rows placed places k d within i n inside =
    let f : PlacedEntry → List Write = label_of layout row in
    let e : PlacedEntry = get_or es k d in
    let w : Write = label_write layout row e i in
    let some : 0 < length (get_or (pieces_of e) i []) = omega (arith, inside) in
    let after = drop (k + 1) es in
    let r = row + (label_place e).0 + i in
    let c = layout.code + (label_place e).1 + n in
    let N : Write → Type 0 = λ v. Reaches r c v → ⊥ in
    let here : Reaches r c w = record { row = refl; from = omega arith; to = omega (arith, inside) } in
    let split : es ≡ take k es ++ e ∷ after = sym (take-append-drop k es) ∙ ap (λ xs. take k es ++ xs) (drop_more es k d within) in
    let ahead : List Write = pieces_at (row + (label_place e).0) (code_cell layout (label_place e).1) (label_role e.entry.kind) (take i (pieces_of e)) in
    let below : List Write = pieces_at (r + 1) (code_cell layout (label_place e).1) (label_role e.entry.kind) (drop (i + 1) (pieces_of e)) in
    let front : List Write = labels_of layout row (take k es) in
    let back : List Write = labels_of layout row after in
    let parts : labels_of layout row es ≡ (front ++ ahead) ++ w ∷ (below ++ back) = ap (flat_map f) split
    ∙ flat_map-append f (take k es) (e ∷ after)
    ∙ ap (λ ws. front ++ (ws ++ back)) (label_parts_of layout row e i (piece_within (pieces_of e) i some) some)
    ∙ ap (λ ws. front ++ ws) (append_assoc ahead (w ∷ below) back) ∙ sym (append_assoc front ahead (w ∷ (below ++ back))) in
    let lower : All N below =
    All-pieces_at N (r + 1) (code_cell layout (label_place e).1) (label_role e.entry.kind) (drop (i + 1) (pieces_of e)) (λ m _ _ there.
    absurd (omega (arith, there.row))) in
    let beside : All N back = All-flat_map N f after (λ m d2 fits.
    let j : ℕ = k + 1 + m in
    let later : j < length es = omega (arith, fits, length-drop (k + 1) es) in
    let same : get_or after m d2 ≡ get_or es j d2 = get_or-drop (k + 1) es m d2 in
    subst (λ (x : PlacedEntry). All N (f x)) (sym same) (All-label_of N layout row (get_or es j d2) (λ p _ _ there.
    placed_apart layout row given es k j d d2 placed places (omega arith) later i p r c here there))) in
    ap (λ ws. cell_at (painted ws rows) r c) parts ∙ painted-last (front ++ ahead) (below ++ back) w rows r c here (All-append N below back lower beside)
    ∙ ap (λ m. unlinked_cell (label_role e.entry.kind) (get_or (get_or (pieces_of e) i []) m 0)) (omega arith)

-- The writes of marks paint them, each over those before it.
-- a mark that takes some cells paints the first, and then the rest
paints_some : (layout : Layout) (row : ℕ) (e : PlacedEntry) (old : List (List Cell)) → e.entry.start.display < mark_end e
    → Paints old (painted (drawn_mark layout row e) old) row (layout.code + e.entry.start.display) (layout.code + mark_end e) (mark_cell layout e)
paints_some layout row e old some =
    let from = layout.code + e.entry.start.display in
    let to = layout.code + mark_end e in
    let role : ElementStyle = stroke_role e in
    let glyph : ℕ = (strokes_of layout.decor (is_primary e.entry.kind)).underline in
    let line : Cell = unlinked_cell role glyph in
    let first : ℕ = first_glyph layout.decor e in
    let marks = mark_cell layout e in
    let n = to - (from + 1) in
    let w : Write = record { row = row; cell = from + 1; text = replicate n glyph; role = role } in
    let mid : List (List Cell) = cells_written old row from (text_cells role (first ∷ [])) in
    let new : List (List Cell) = painted (stretch_of row (from + 1) to glyph role) mid in
    let one : WritesCells old mid row from (marks from ∷ []) = subst (λ (x : Cell). WritesCells old mid row from (x ∷ []))
    (first_cell_is layout e first (is_primary e.entry.kind) role refl refl refl) (WritesCells-cells_written old row from (text_cells role (first ∷ []))) in
    let begun : Paints old mid row from (from + 1) marks = Paints-more old old mid row from from (from + 1) marks (Paints-none old row from marks) one
    (omega arith) refl in
    let is_line = other_cell_is layout e glyph (is_primary e.entry.kind) role refl refl refl in
    let is : painted (drawn_mark layout row e) old ≡ new = grind (arith, common_steps, from, first, role, to, glyph) in
    subst (λ (rows : List (List Cell)). Paints old rows row from to marks) (sym is) (elim (cases_lt (from + 1) to) [
      | inl more ↦
          let writes : WritesCells mid new row (from + 1) (replicate n line) =
          subst (WritesCells mid new row (from + 1)) (text_cells-replicate role n glyph)
          (subst (λ (rows : List (List Cell)). WritesCells mid rows row (from + 1)
          (text_cells role (replicate n glyph))) (sym (ap (λ b. painted (cond b (w ∷ []) []) mid) (less (from + 1) to more)))
          (WritesCells-cells_written mid row (from + 1) (text_cells role (replicate n glyph)))) in
          Paints-rest old mid new row from to line marks begun (λ c past. is_line c past) more writes
      | inr none ↦ grind (arith, common_steps, from, to, mid, new, stretch_of-none, glyph, role, marks, begun)
    ])

pub Paints-mark : (layout : Layout) (row : ℕ) (e : PlacedEntry) (old : List (List Cell))
    → Paints old (painted (drawn_mark layout row e) old) row (layout.code + e.entry.start.display) (layout.code + mark_end e) (mark_cell layout e)
Paints-mark layout row e old = grind (arith, common_steps, nat_tests, cases_lt, paints_some, drawn_mark-none, Paints-past)

-- so the marks of entries are painted, up to each and in all
painted_upto : (layout : Layout) (row : ℕ) (es : List PlacedEntry) (d : PlacedEntry) (old : List (List Cell)) (i : ℕ) → i ≤ length es
    → Painted layout (take i es) row old (painted (marks_of layout row (take i es)) old)
painted_upto layout row es d old zero within = Painted-none layout row old
painted_upto layout row es d old (suc i) within =
    let f : PlacedEntry → List Write = drawn_mark layout row in
    let inside : i < length es = omega (arith, within) in
    let e : PlacedEntry = get_or es i d in
    let mid : List (List Cell) = painted (marks_of layout row (take i es)) old in
    let next : suc i ≡ i + 1 = omega arith in
    let is : painted (marks_of layout row (take (i + 1) es)) old ≡ painted (f e) mid = ap (λ ws. painted ws old) (flat_map-take_more f es i d inside)
    ∙ painted-append (marks_of layout row (take i es)) (f e) old in
    subst (λ n. Painted layout (take n es) row old (painted (marks_of layout row (take n es)) old)) (sym next)
    (subst (Painted layout (take (i + 1) es) row old) (sym is)
    (Painted-next layout es i d row old mid (painted (f e) mid) inside (painted_upto layout row es d old i (omega (arith, within)))
    (Paints-mark layout row e mid)))

-- the writes of marks paint the marks
pub Painted-marks : (layout : Layout) (row : ℕ) (es : List PlacedEntry) (old : List (List Cell))
    → Painted layout es row old (painted (marks_of layout row es) old)
Painted-marks layout row [] old = Painted-none layout row old
Painted-marks layout row (e ∷ es) old =
    let n = length (e ∷ es) in
    let all : take n (e ∷ es) ≡ e ∷ es = take_all n (e ∷ es) (omega arith) in
    subst (λ xs. Painted layout xs row old (painted (marks_of layout row xs) old)) all (painted_upto layout row (e ∷ es) e old n (omega arith))

-- so the marks of entries are painted in the order of painting
pub AreMarked-marks : (layout : Layout) (row : ℕ) (es : List PlacedEntry) (old : List (List Cell))
    → AreMarked layout es row old (painted (marks_of layout row (painting_order es)) old)
AreMarked-marks layout row es old =
    record {
      order = painting_order es;
      same = IsPermutation-painting_order es;
      ordered = IsPaintingOrder-painting_order es;
      painted = Painted-marks layout row (painting_order es) old;
    }
