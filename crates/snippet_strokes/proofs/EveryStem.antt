-- The stem of an entry that the next one's covers leaves nothing of its own: to draw all stems is to draw those that none covers.
use Rattle.snippet_strokes.proofs.Common.{◌≡◌, ℕ, zero, suc, ◌+◌, ◌-◌, ◌<◌, ◌≤◌, ◌==◌, ◌&&◌, nat_le, cond, true, List, []}
use Rattle.snippet_strokes.proofs.Common.{◌∷◌, map, inl, inr, refl, sym, ap, ◌∙◌, arith, All, flat_map, range_with_len, and_parts}
use Rattle.snippet_strokes.proofs.Common.{cases_Bool, eqb-true, leb-true, All-cons, All-nil, row_at-cells_written_same, cells_written, Layout, code_cell}
use Rattle.snippet_strokes.proofs.Common.{PlacedEntry, has_stem, is_primary, Cell, text_cells, strokes_of, ElementStyle, is_stem_covered, stems_of, stem_of}
use Rattle.snippet_strokes.proofs.Common.{foot_glyph, stroke_role, Write, glyph_at, painted, rules}
use Rattle.snippet_strokes.proofs.CellLemmas.{written_by, stem_write}
use Rattle.snippet_strokes.proofs.SwapLemmas.{move_rows, written-again}
use Rattle.snippet_strokes.proofs.WriteLaws.{painted-append}

-- ---- a stem

-- where a stem stands, and what it is made of
record Stem : Type 0 where
  position : ℕ
  cell : ℕ
  glyph : ℕ
  foot : ℕ
  role : ElementStyle

-- the stem of an entry
abbrev stem_from : Layout → PlacedEntry → Stem
stem_from layout e =
    record {
      position = e.position;
      cell = code_cell layout e.entry.start.display;
      glyph = (strokes_of layout.decor (is_primary e.entry.kind)).stem;
      foot = foot_glyph layout.decor e;
      role = stroke_role e;
    }

-- its cell so many rows below the row of the marks, which is `row`
abbrev cell_of_stem : ℕ → Stem → ℕ → Write
cell_of_stem row s below = glyph_at (row + below) s.cell (cond (below == s.position) s.foot s.glyph) s.role

-- a stem from so many rows below the row of the marks down to its foot
abbrev stem_down : ℕ → ℕ → Stem → List Write
stem_down row below s = map (cell_of_stem row s) (range_with_len below (s.position + 1 - below))

down_rows : (row n k : ℕ) (s : Stem) → All (λ w. row + k ≤ w.row) (map (cell_of_stem row s) (range_with_len k n))
down_rows row zero k s = All-nil (λ (w : Write). row + k ≤ w.row)
down_rows row (suc n) k s = grind (arith, All-cons, down_rows row n (k + 1) s)

-- ---- one write over another

cells_written-again : (rows : List (List Cell)) (r at : ℕ) (x y : Cell)
    → cells_written (cells_written rows r at (x ∷ [])) r at (y ∷ []) ≡ cells_written rows r at (y ∷ [])
cells_written-again rows r at x y = simp (row_at-cells_written_same, written-again)

-- ---- one stem over another

-- from a row down a stem that reaches as far covers another in its column
covers_down : (row n k : ℕ) (s t : Stem) (rows : List (List Cell)) → s.cell ≡ t.cell → s.position + 1 - k ≡ n → s.position ≤ t.position
    → painted (stem_down row k t) (painted (map (cell_of_stem row s) (range_with_len k n)) rows) ≡ painted (stem_down row k t) rows
covers_down row zero k s t rows same many far = refl
covers_down row (suc n) k s t rows same many far =
    let a : Write = cell_of_stem row s k in
    let b : Write = cell_of_stem row t k in
    let rest : List Write = map (cell_of_stem row s) (range_with_len (k + 1) n) in
    let below : List Write = stem_down row (k + 1) t in
    let more : t.position + 1 - k ≡ suc (t.position + 1 - (k + 1)) = omega (arith, many, far) in
    let split : stem_down row k t ≡ b ∷ below = ap (λ m. map (cell_of_stem row t) (range_with_len k m)) more in
    let here : All (λ (v : Write). v.row ≡ row + k) (b ∷ []) = All-cons (λ (v : Write). v.row ≡ row + k) b [] refl (All-nil (λ (v : Write). v.row ≡ row + k)) in
    let low : All (λ (w : Write). row + k < w.row) rest = λ j d within. let next = down_rows row n (k + 1) s j d within in omega (arith, next) in
    let over : written_by (written_by rows a) b ≡ written_by rows b =
    ap (λ c. written_by (cells_written rows (row + k) c (text_cells a.role a.text)) b) same
    ∙ cells_written-again rows (row + k) t.cell _ _ in
    ap (λ ws. painted ws (painted rest (written_by rows a))) split
    ∙ ap (painted below) (move_rows (row + k) rest (b ∷ []) (written_by rows a) low here ∙ ap (painted rest) over)
    ∙ covers_down row n (k + 1) s t (written_by rows b) same (omega (arith, many)) far
    ∙ ap (λ ws. painted ws rows) (sym split)

-- the stem of an entry that has one
own_down : (layout : Layout) (row : ℕ) (e : PlacedEntry) → has_stem e ≡ true → stem_of layout row e ≡ stem_down row 0 (stem_from layout e)
own_down layout row e has = search rules

-- ---- the stems of a line

hidden : (layout : Layout) (row : ℕ) (e : PlacedEntry) (later : List PlacedEntry) (rows : List (List Cell)) → is_stem_covered e later ≡ true
    → painted (flat_map (stem_of layout row) later) (painted (stem_of layout row e) rows) ≡ painted (flat_map (stem_of layout row) later) rows
hidden layout row e [] rows covered = cc
hidden layout row e (next ∷ later) rows covered =
    let own : List Write = stem_of layout row next in
    let others : List Write = flat_map (stem_of layout row) later in
    painted-append own others (painted (stem_of layout row e) rows) ∙ ap (painted others) (elim (cases_Bool (has_stem e)) [
      | inl has ↦ ap (λ ws. painted ws (painted (stem_of layout row e) rows)) next_down
          ∙ ap (λ ws. painted (stem_down row 0 (stem_from layout next)) (painted ws rows)) (own_down layout row e has)
          ∙ covers_down row (e.position + 1 - 0) 0 (stem_from layout e) (stem_from layout next) rows column refl far
          ∙ ap (λ ws. painted ws rows) (sym next_down)
      | inr none ↦ ap (λ b. painted own (painted (cond b (map (stem_write layout row e) (range_with_len 0 (e.position + 1))) []) rows)) none
    ]) ∙ sym (painted-append own others rows)
  where
    parts : (has_stem next ≡ true) × ((next.entry.start.display == e.entry.start.display && nat_le e.position next.position) ≡ true)
    parts = and_parts _ _ covered

    places_too : ((next.entry.start.display == e.entry.start.display) ≡ true) × (nat_le e.position next.position ≡ true)
    places_too = and_parts _ _ parts.1

    next_down : stem_of layout row next ≡ stem_down row 0 (stem_from layout next)
    next_down = own_down layout row next parts.0

    column : layout.code + e.entry.start.display ≡ layout.code + next.entry.start.display
    column = ap (λ n. layout.code + n) (sym (eqb-true next.entry.start.display e.entry.start.display places_too.0))

    far : e.position ≤ next.position
    far = leb-true e.position next.position places_too.1

-- the stems that none covers are drawn as all are
pub stems_painted : (layout : Layout) (row : ℕ) (es : List PlacedEntry) (rows : List (List Cell))
    → painted (flat_map (stem_of layout row) es) rows ≡ painted (stems_of layout row es) rows
stems_painted layout row [] rows = refl
stems_painted layout row (e ∷ later) rows =
    grind (arith, painted-append, hidden, stems_painted layout row later rows, stems_painted layout row later (painted (stem_of layout row e) rows))
