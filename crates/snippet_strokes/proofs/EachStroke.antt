-- What holds of each write of a line's strokes: of those of its lines to bars, of bars with their corners, of stems, labels and marks.
use Rattle.snippet_strokes.proofs.Common.{◌≡◌, ◌≢◌, ℕ, suc, ◌+◌, ◌-◌, ◌<◌, ◌≤◌, ◌==◌, cond, Bool, true, false, max, List, [], ◌∷◌, All, map, length, get_or}
use Rattle.snippet_strokes.proofs.Common.{replicate, refl, sym, ap, ◌∙◌, subst, arith, flat_map, range_with_len, both_ways, eq-eqb, eqb-true, nat_tests}
use Rattle.snippet_strokes.proofs.Common.{nat_lt, All-append, All-cons, All-head, All-map, All-nil, All-replicate, All-tail, get_or-range_with_len}
use Rattle.snippet_strokes.proofs.Common.{length-range_with_len, Cell, unlinked_cell, strokes_of, bar_glyphs, ElementStyle, LineAnnotationType, Singleline}
use Rattle.snippet_strokes.proofs.Common.{MultilineStart, MultilineEnd, MultilineLine, Layout, PlacedEntry, foot_glyph, is_primary, stroke_role, has_label}
use Rattle.snippet_strokes.proofs.Common.{has_stem, HasBarCellAt, Write, glyph_at, stretch_of, column_of, connector_of, corner_of, stem_of, label_of}
use Rattle.snippet_strokes.proofs.Common.{connectors_of, corners_of, stems_of, labels_of, is_stem_covered, first_glyph, mark_end, bars_among, stem_glyphs}
use Rattle.snippet_strokes.proofs.Common.{stroke_glyphs, rules, takes_space, cases_Bool, inl, inr}
use Rattle.snippet_strokes.proofs.CellLemmas.{corner_by, drawn_mark, drawn_strokes, line_to, marks_of, stem_write}
use Rattle.snippet_strokes.proofs.PieceWrites.{All-label_of, label_write}
use Rattle.snippet_strokes.proofs.Reach.{Reaches, cell_of_write}
use Rattle.snippet_strokes.proofs.StrokeGlyphs.{IsAmong, code_among, of_first, of_foot, stems_among}
use Rattle.snippet_labels.specs.Positions.{pieces_of}

-- ---- writes

-- so many of one glyph, from a cell on
abbrev pub glyphs_at : ℕ → ℕ → ℕ → ℕ → ElementStyle → Write
glyphs_at row cell n glyph role = record { row = row; cell = cell; text = replicate n glyph; role = role }

-- they leave the glyph in each cell that they reach
pub glyphs_leave : (P : Cell → Type 0) (r c row cell n glyph : ℕ) (role : ElementStyle) → P (unlinked_cell role glyph)
    → Reaches r c (glyphs_at row cell n glyph role) → P (cell_of_write (glyphs_at row cell n glyph role) c)
glyphs_leave P r c row cell n glyph role holds there =
    All-replicate (λ ch. P (unlinked_cell role ch)) n glyph holds (c - cell) 0 (omega (arith, there.from, there.to))

-- what a rule gives for each of some things
pub All-flat_map : {X : Type 0} (P : Write → Type 0) (f : X → List Write) (xs : List X) → All (λ x. All P (f x)) xs → All P (flat_map f xs)
All-flat_map P f [] all = All-nil P
All-flat_map P f (x ∷ xs) all =
    All-append P (f x) (flat_map f xs) (All-head (λ y. All P (f y)) x xs all) (All-flat_map P f xs (All-tail (λ y. All P (f y)) x xs all))

-- what holds of each glyph of a column
pub All-column_of : (P : Write → Type 0) (start end cell glyph : ℕ) (role : ElementStyle) → ((r : ℕ) → start ≤ r → r < end → P (glyph_at r cell glyph role))
    → All P (column_of start end cell glyph role)
All-column_of P start end cell glyph role holds =
    let f : ℕ → Write = λ r. glyph_at r cell glyph role in
    All-map P f (range_with_len start (end - start)) (λ k d within.
    let inside : k < end - start = omega (arith, within, length-range_with_len start (end - start)) in
    subst (λ n. P (f n)) (sym (get_or-range_with_len start (end - start) k d inside)) (holds (start + k) (omega arith) (omega (arith, inside))))

-- ---- depths

-- whether the start or the end of a span has this depth
unfoldable pub is_at : ℕ → LineAnnotationType → Bool
is_at depth Singleline = false
is_at depth (MultilineStart d) = d == depth
is_at depth (MultilineEnd d) = d == depth
is_at depth (MultilineLine d) = false

-- it has one alone
pub apart_at : (depth other : ℕ) (part : LineAnnotationType) → is_at depth part ≡ true → is_at other part ≡ false → depth ≢ other
apart_at depth other part at none same = both_ways (is_at other part) none (ap (λ n. is_at n part) (sym same) ∙ at)

-- where its bar has a cell
pub room_at : (layout : Layout) (depth : ℕ) (part : LineAnnotationType) → HasBarCellAt layout part → is_at depth part ≡ true
    → (0 < depth) × (layout.gutter + 3 + depth < layout.code)
unfolding is_at
room_at layout depth part room at = search (rules, eqb-true)

-- ---- strokes

module _ (Q : Write → Type 0) (layout : Layout) where
  -- what holds of the one text of a stretch
  pub each_stretch : (row from to glyph : ℕ) (role : ElementStyle) → (from < to → Q (glyphs_at row from (to - from) glyph role))
      → All Q (stretch_of row from to glyph role)
  each_stretch row from to glyph role holds = search (rules, nat_tests)

  -- of the line to the bar of an entry at each depth
  pub each_line : (row : ℕ) (es : List PlacedEntry)
      → All (λ e. takes_space e ≡ true → (depth : ℕ) → layout.gutter + 3 + depth < layout.code + e.entry.start.display
      → Q (glyphs_at (row + e.position) (layout.gutter + 3 + depth) (layout.code + e.entry.start.display - (layout.gutter + 3 + depth))
      (strokes_of layout.decor (is_primary e.entry.kind)).connector (stroke_role e))) es → All Q (connectors_of layout row es)
  each_line row es holds =
      All-flat_map Q (connector_of layout row) es (λ k d within.
      let e : PlacedEntry = get_or es k d in
      of_entry e (λ takes depth. each_stretch (row + e.position) (layout.gutter + 3 + depth) (layout.code + e.entry.start.display)
      (strokes_of layout.decor (is_primary e.entry.kind)).connector (stroke_role e) (holds k d within takes depth)))
    where
      of_entry : (e : PlacedEntry) → (takes_space e ≡ true → (depth : ℕ) → All Q (line_to layout row e depth)) → All Q (connector_of layout row e)
      of_entry e each = search rules

  -- of each glyph of an entry's bar and its corner, which stand in rows from the source row on: in it itself only an end's
  pub each_corner : (row count : ℕ) (es : List PlacedEntry) → All (λ e. (depth r glyph : ℕ) → is_at depth e.entry.annotation_type ≡ true
      → row ≤ r → (r ≡ row → e.entry.annotation_type ≡ MultilineEnd depth) → r < max count (row + 1 + e.position + 1)
      → IsAmong (bar_glyphs layout.decor) glyph → Q (glyph_at r (layout.gutter + 2 + depth) glyph (stroke_role e))) es → All Q (corners_of layout row count es)
  unfolding is_at
  each_corner row count es holds =
      All-flat_map Q (corner_of layout row count) es (λ k d within.
      by_part (get_or es k d) (get_or es k d).entry.annotation_type (holds k d within))
    where
      by_part : (e : PlacedEntry) (part : LineAnnotationType) → ((depth r glyph : ℕ) → is_at depth part ≡ true → row ≤ r
          → (r ≡ row → part ≡ MultilineEnd depth) → r < max count (row + 1 + e.position + 1) → IsAmong (bar_glyphs layout.decor) glyph
          → Q (glyph_at r (layout.gutter + 2 + depth) glyph (stroke_role e))) → All Q (corner_by layout row count e part)
      by_part e Singleline holds = All-nil Q
      by_part e (MultilineStart depth) holds =
          let own : (r glyph : ℕ) → row < r → r < max count (row + 1 + e.position + 1) → IsAmong (bar_glyphs layout.decor) glyph
          → Q (glyph_at r (layout.gutter + 2 + depth) glyph (stroke_role e)) = λ r glyph from to among.
          holds depth r glyph (eq-eqb depth depth refl) (omega (arith, from)) (λ same. absurd (omega (arith, same, from))) to among in
          let among = bars_among layout.decor (is_primary e.entry.kind) in
          All-cons Q _ _ (own (row + 1 + e.position) _ (omega arith) (omega arith) among.bar_top)
          (All-column_of Q (row + 1 + e.position + 1) count _ _ _ (λ r from to. own r _ (omega (arith, from)) (omega (arith, to)) among.bar))
      by_part e (MultilineEnd depth) holds =
          let own : (r glyph : ℕ) → row ≤ r → r < row + 1 + e.position + 1 → IsAmong (bar_glyphs layout.decor) glyph
          → Q (glyph_at r (layout.gutter + 2 + depth) glyph (stroke_role e)) = λ r glyph from to among.
          holds depth r glyph (eq-eqb depth depth refl) from (λ same. refl) (omega (arith, to)) among in
          let among = bars_among layout.decor (is_primary e.entry.kind) in
          All-append Q _ _ (All-column_of Q row (row + 1 + e.position) _ _ _ (λ r from to. own r _ from (omega (arith, to)) among.bar))
          (All-cons Q _ [] (own (row + 1 + e.position) _ (omega arith) (omega arith) among.bar_bottom) (All-nil Q))
      by_part e (MultilineLine depth) holds = All-nil Q

  -- of each cell of a stem
  pub each_cell_of_stem : (row : ℕ) (e : PlacedEntry)
      → (has_stem e ≡ true → (below glyph : ℕ) → below ≤ e.position → IsAmong (stem_glyphs layout.decor) glyph
      → Q (glyph_at (row + below) (layout.code + e.entry.start.display) glyph (stroke_role e))) → All Q (stem_of layout row e)
  each_cell_of_stem row e holds =
      let among = stems_among layout.decor (is_primary e.entry.kind) in
      elim (cases_Bool (has_stem e)) [
        | inl stem ↦ subst (All Q) (sym (ap (λ b. cond b (map (stem_write layout row e) (range_with_len 0 (e.position + 1))) []) stem))
            (All-map Q (stem_write layout row e) (range_with_len 0 (e.position + 1)) (λ k d within.
            let inside : k < e.position + 1 = omega (arith, within, length-range_with_len 0 (e.position + 1)) in
            subst (λ n. Q (stem_write layout row e n)) (sym (get_or-range_with_len 0 (e.position + 1) k d inside))
            (holds stem (0 + k) _ (omega (arith, inside))
            (elim (0 + k == e.position) as (λ b. IsAmong (stem_glyphs layout.decor) (cond b (foot_glyph layout.decor e)
            (strokes_of layout.decor (is_primary e.entry.kind)).stem)) [
              | true ↦ of_foot (IsAmong (stem_glyphs layout.decor)) e.entry.annotation_type layout.decor (is_primary e.entry.kind) (has_label e) among
              | false ↦ among.stem
            ]))))
        | inr none ↦ subst (All Q) (sym (ap (λ b. cond b (map (stem_write layout row e) (range_with_len 0 (e.position + 1))) []) none)) (All-nil Q)
      ]

  pub each_stem_cell : (row : ℕ) (es : List PlacedEntry)
      → All (λ e. has_stem e ≡ true → (below glyph : ℕ) → below ≤ e.position → IsAmong (stem_glyphs layout.decor) glyph
      → Q (glyph_at (row + below) (layout.code + e.entry.start.display) glyph (stroke_role e))) es → All Q (stems_of layout row es)
  each_stem_cell row [] holds = All-nil Q
  each_stem_cell row (e ∷ later) holds =
      All-append Q (cond (is_stem_covered e later) [] (stem_of layout row e)) (stems_of layout row later)
      (elim (is_stem_covered e later) as (λ b. All Q (cond b [] (stem_of layout row e))) [
        | true ↦ All-nil Q
        | false ↦ each_cell_of_stem row e (holds 0 e (omega arith))
      ]) (each_stem_cell row later (λ k d within. holds (suc k) d (omega (arith, within))))

  -- of each piece of a label that has a character
  pub each_label : (row : ℕ) (es : List PlacedEntry) → All (λ e. (n : ℕ) → n < length (pieces_of e) → 0 < length (get_or (pieces_of e) n [])
      → Q (label_write layout row e n)) es → All Q (labels_of layout row es)
  each_label row es holds = All-flat_map Q (label_of layout row) es (λ k d within. All-label_of Q layout row (get_or es k d) (holds k d within))

  -- of what stands of a mark, each from its first column on, and by its end
  pub each_mark : (row : ℕ) (es : List PlacedEntry) → All (λ e. (cell n glyph : ℕ) → layout.code + e.entry.start.display ≤ cell
      → cell + n ≤ layout.code + max (e.entry.start.display + 1) e.entry.end.display → IsAmong (stroke_glyphs layout.decor) glyph
      → Q (glyphs_at row cell n glyph (stroke_role e))) es → All Q (marks_of layout row es)
  each_mark row es holds =
      All-flat_map Q (drawn_mark layout row) es (λ k d within.
      let e : PlacedEntry = get_or es k d in
      let from : ℕ = layout.code + e.entry.start.display in
      let to : ℕ = layout.code + mark_end e in
      let each = code_among layout.decor (is_primary e.entry.kind) in
      let first : Write = glyph_at row from (first_glyph layout.decor e) (stroke_role e) in
      let rest : List Write = stretch_of row (from + 1) to (strokes_of layout.decor (is_primary e.entry.kind)).underline (stroke_role e) in
      elim (nat_lt from to) as (λ b. All Q (cond b (first ∷ rest) [])) [
        | true ↦ All-cons Q first rest
            (holds k d within from 1 _ (omega arith) (omega arith) (of_first (IsAmong (stroke_glyphs layout.decor)) layout.decor e each))
            (each_stretch row (from + 1) to _ (stroke_role e) (λ some.
            holds k d within (from + 1) (to - (from + 1)) _ (omega arith) (omega (arith, some, by_end e)) each.underline))
        | false ↦ All-nil Q
      ])
    where
      by_end : (e : PlacedEntry) → mark_end e ≤ max (e.entry.start.display + 1) e.entry.end.display
      by_end e = grind (arith, nat_tests)

  -- so of all of them
  pub each_stroke : (row count : ℕ) (placed order : List PlacedEntry) → All Q (connectors_of layout (row + 1) placed)
      → All Q (corners_of layout row count placed) → All Q (stems_of layout (row + 1) placed) → All Q (labels_of layout (row + 1) placed)
      → All Q (marks_of layout (row + 1) order) → All Q (drawn_strokes layout row count placed order)
  each_stroke row count placed order lines bars stems labels marks = search (rules, All-append)
