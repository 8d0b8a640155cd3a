-- Laws of the bars of a line's entries: what the last entry of a bar's depth leaves in the bar's cells, and which strokes leave them.
use Rattle.std.proofs.lemmas.Grind.{common_steps}
use Rattle.snippet_strokes.proofs.Common.{◌≡◌, ℕ, zero, suc, ◌+◌, ◌-◌, ◌<◌, ◌≤◌, ◌==◌, ◌||◌, Bool, true, false, cond, List, [], ◌∷◌, ◌++◌, All, Contains, map}
use Rattle.snippet_strokes.proofs.Common.{length, get_or, refl, ap, ◌∙◌, arith, inl, inr, flat_map, list_any, range_with_len, both_ways, cases_Bool, cases_lt}
use Rattle.snippet_strokes.proofs.Common.{or_parts, flat_map-append, All-append, append_assoc, All-cons, All-nil, Cell, unlinked_cell, strokes_of}
use Rattle.snippet_strokes.proofs.Common.{underline_role, ElementStyle, cell_at, is_primary, MultilineStart, MultilineEnd, contains-here, contains-there}
use Rattle.snippet_strokes.proofs.Common.{Layout, PlacedEntry, stroke_role, Write, glyph_at, painted, Solid, Bar, column_of, corner_of, bar_cell_part}
use Rattle.snippet_strokes.proofs.Common.{connectors_of, corners_of, labels_of, stems_of, sym, map-range_with_len_more, text_cells, cells_written, piece_at}
use Rattle.snippet_strokes.proofs.Common.{foot_glyph, nat_tests}
use Rattle.snippet_strokes.proofs.CellLemmas.{written_by, corner_by, drawn_strokes, marks_of, stem_write, drawn_under_marks}
use Rattle.snippet_strokes.proofs.WriteLaws.{painted-append, cell-unwritten, cell-written, painted-last, painted-untouched}
use Rattle.snippet_strokes.proofs.BarFacts.{end_corner, start_corner}
use Rattle.snippet_strokes.proofs.Reach.{Reaches}
use Rattle.snippet_strokes.proofs.EachStroke.{All-column_of, apart_at, each_corner, each_label, each_mark, each_stem_cell, is_at}

-- ---- lists

-- the last element that passes a test, and what stands before and after it
pub record HasLast {X : Type 0} (p : X → Bool) (xs : List X) : Type 0 where
  pub before : List X
  pub one : X
  pub after : List X
  pub split : xs ≡ before ++ one ∷ after
  pub among : Contains xs one
  pub passes : p one ≡ true
  pub none : All (λ x. p x ≡ false) after

none_pass : {X : Type 0} (p : X → Bool) (xs : List X) → list_any p xs ≡ false → All (λ x. p x ≡ false) xs
none_pass p [] none = All-nil (λ x. p x ≡ false)
none_pass p (x ∷ xs) none = grind (arith, common_steps, or_parts, All-cons)

pub last_passing : {X : Type 0} (p : X → Bool) (xs : List X) → list_any p xs ≡ true → HasLast p xs
last_passing p [] some = absurd cc
last_passing p (x ∷ xs) some =
    elim (cases_Bool (list_any p xs)) [
      | inl later ↦
          let rest = last_passing p xs later in
          record {
            before = x ∷ rest.before;
            one = rest.one;
            after = rest.after;
            split = ap (λ ys.
                x ∷ ys) rest.split;
            among = contains-there rest.one x xs rest.among;
            passes = rest.passes;
            none = rest.none;
          }
      | inr none ↦ record {
        before = [];
        one = x;
        after = xs;
        split = refl;
        among = contains-here x x xs refl;
        passes = here (p x)
            (list_any p xs) some none;
        none = none_pass p xs none;
      }
    ]
  where
    here : (a b : Bool) → (a || b) ≡ true → b ≡ false → a ≡ true
    here true b any none = refl
    here false b any none = absurd (both_ways b none any)

-- ---- columns

-- the cells of a column that is drawn
column_stands : (start n cell glyph : ℕ) (role : ElementStyle) (rows : List (List Cell)) (r : ℕ) → start ≤ r → r < start + n
    → cell_at (painted (map (λ row. glyph_at row cell glyph role) (range_with_len start n)) rows) r cell ≡ unlinked_cell role glyph
column_stands start zero cell glyph role rows r from to = absurd (omega (arith, from, to))
column_stands start (suc n) cell glyph role rows r from to =
    let w : Write = glyph_at start cell glyph role in
    elim (cases_lt start r) [
      | inl later ↦ column_stands (start + 1) n cell glyph role (written_by rows w) r (omega (arith, later)) (omega (arith, to))
      | inr first ↦
          let here : start ≡ r = omega (arith, first, from) in
          let beside : All (λ v. Reaches r cell v → ⊥) (map (λ row. glyph_at row cell glyph role) (range_with_len (start + 1) n)) = lower (start + 1) n
          (omega (arith, first)) in
          painted-untouched (map (λ row. glyph_at row cell glyph role) (range_with_len (start + 1) n)) (written_by rows w) r cell beside
          ∙ one_glyph w rows r cell here refl refl
    ]
  where
    lower : (a m : ℕ) → r < a → All (λ v. Reaches r cell v → ⊥) (map (λ row. glyph_at row cell glyph role) (range_with_len a m))
    lower a zero up = All-nil (λ v. Reaches r cell v → ⊥)
    lower a (suc m) up =
        All-cons (λ v. Reaches r cell v → ⊥) (glyph_at a cell glyph role) (map (λ row. glyph_at row cell glyph role) (range_with_len (a + 1) m)) (λ there.
        omega (arith, there.row, up)) (lower (a + 1) m (omega (arith, up)))

    one_glyph : (w : Write) (old : List (List Cell)) (at c : ℕ) → w.row ≡ at → w.cell ≡ c → w.text ≡ glyph ∷ []
        → cell_at (written_by old w) at c ≡ unlinked_cell w.role glyph
    one_glyph w old at c row is text = grind (arith, common_steps, cell-written)

-- ---- the bars of a line's entries

module _ (layout : Layout) (bar : Bar) (room : layout.gutter + 2 + bar.depth < layout.code) (count : ℕ) (placed order : List PlacedEntry)
    (begun : List (List Cell)) where
  -- the cell of the bar's depth
  abbrev cell : ℕ
  cell = layout.gutter + 2 + bar.depth

  -- a write leaves that cell of a row
  abbrev Leaves : ℕ → Write → Type 0
  Leaves r w = Reaches r cell w → ⊥

  -- in it stands what the last entry of its depth leaves there: stems, labels and marks stand right of it
  pub last_stands : (before : List PlacedEntry) (e : PlacedEntry) (after : List PlacedEntry) → placed ≡ before ++ e ∷ after
      → All (λ f. is_at bar.depth f.entry.annotation_type ≡ false) after
      → (old : List (List Cell)) × ((r : ℕ) → cell_at (painted (drawn_strokes layout 0 count placed order) begun) r cell
      ≡ cell_at (painted (corner_of layout 0 count e) old) r cell)
  last_stands before e after split others =
      let f : PlacedEntry → List Write = corner_of layout 0 count in
      let lines : List Write = connectors_of layout 1 placed in
      let stems : List Write = stems_of layout 1 placed in
      let labels : List Write = labels_of layout 1 placed in
      let marks : List Write = marks_of layout 1 order in
      let first : List Write = lines ++ flat_map f before in
      let later : List Write = flat_map f after ++ stems ++ labels ++ marks in
      let old : List (List Cell) = painted first begun in
      let parts : drawn_strokes layout 0 count placed order ≡ first ++ f e ++ later =
      ap (λ ws. lines ++ ws ++ stems ++ labels ++ marks) (ap (flat_map f) split ∙ flat_map-append f before (e ∷ after)) ∙ simp (append_assoc) in (
        old,
        λ r.
            let L : Write → Type 0 = Leaves r in
            ap (λ ws. cell_at (painted ws begun) r cell) parts ∙ ap (λ rows. cell_at rows r cell) (painted-append (first ++ f e) later begun
            ∙ ap (painted later) (painted-append first (f e) begun)) ∙ painted-untouched later (painted (f e) old) r cell
            (All-append L (flat_map f after ++ stems ++ labels) marks (All-append L (flat_map f after ++ stems) labels (All-append L (flat_map f after) stems
            (each_corner L layout 0 count after (λ k d within depth _ _ has _ _ _ _ there.
            apart_at depth bar.depth (get_or after k d).entry.annotation_type has (others k d within) (omega (arith, there.from, there.to))))
            (each_stem_cell L layout 1 placed (λ k d within _ _ _ _ _ there. omega (arith, there.from, room))))
            (each_label L layout 1 placed (λ k d within _ _ _ there. omega (arith, there.from, room))))
            (each_mark L layout 1 order (λ k d within _ _ _ right _ _ there. omega (arith, right, there.from, room)))),
      )

  -- the corner of an entry is drawn as its bar's
  abbrev HasKind : PlacedEntry → Type 0
  HasKind e = is_primary e.entry.kind ≡ bar.primary

  solid_by : (e : PlacedEntry) → HasKind e → unlinked_cell (stroke_role e) (strokes_of layout.decor (is_primary e.entry.kind)).bar
      ≡ bar_cell_part layout Solid bar
  solid_by e kind =
      ap (λ primary. unlinked_cell (underline_role primary) (strokes_of layout.decor primary).bar) kind

  pub start_drawn : (e : PlacedEntry) (old : List (List Cell)) → HasKind e
      → (cell_at (painted (corner_by layout 0 count e (MultilineStart bar.depth)) old) (1 + e.position) cell ≡ start_corner layout bar)
      × ((r : ℕ) → 1 + e.position < r → r < count → cell_at (painted (corner_by layout 0 count e (MultilineStart bar.depth)) old) r cell
      ≡ bar_cell_part layout Solid bar)
  start_drawn e old kind =
      let corner : ℕ = 0 + 1 + e.position in
      let glyph : ℕ = (strokes_of layout.decor (is_primary e.entry.kind)).bar_top in
      let line : ℕ = (strokes_of layout.decor (is_primary e.entry.kind)).bar in
      let own : Write = glyph_at corner cell glyph (stroke_role e) in
      let below : List Write = column_of (corner + 1) count cell line (stroke_role e) in
      let here : corner ≡ 1 + e.position = omega arith in
      let none : cell - cell ≡ 0 = omega arith in
      let leave : All (Leaves (1 + e.position)) below = All-column_of (Leaves (1 + e.position)) (corner + 1) count cell line (stroke_role e)
      (λ n from to there. omega (arith, there.row, from, here)) in
      let first = painted-last [] below own old (1 + e.position) cell (record { row = here; from = omega arith; to = omega arith }) leave
      ∙ ap (λ n. unlinked_cell (stroke_role e) (get_or (glyph ∷ []) n 0)) none in (
        first ∙ ap (λ primary. unlinked_cell (underline_role primary) (strokes_of layout.decor primary).bar_top) kind,
        λ r lower within. column_stands (corner + 1) (count - (corner + 1)) cell line (stroke_role e) (written_by old own) r (omega (arith, lower, here))
            (omega (arith, lower, within, here)) ∙ solid_by e kind,
      )

  pub end_drawn : (e : PlacedEntry) (old : List (List Cell)) → HasKind e
      → (cell_at (painted (corner_by layout 0 count e (MultilineEnd bar.depth)) old) (1 + e.position) cell ≡ end_corner layout bar)
      × ((r : ℕ) → r < 1 + e.position → cell_at (painted (corner_by layout 0 count e (MultilineEnd bar.depth)) old) r cell ≡ bar_cell_part layout Solid bar)
  end_drawn e old kind =
      let corner : ℕ = 0 + 1 + e.position in
      let glyph : ℕ = (strokes_of layout.decor (is_primary e.entry.kind)).bar_bottom in
      let line : ℕ = (strokes_of layout.decor (is_primary e.entry.kind)).bar in
      let own : Write = glyph_at corner cell glyph (stroke_role e) in
      let above : List Write = column_of 0 corner cell line (stroke_role e) in
      let here : corner ≡ 1 + e.position = omega arith in
      let none : cell - cell ≡ 0 = omega arith in
      let last = painted-last above [] own old (1 + e.position) cell (record { row = here; from = omega arith; to = omega arith })
      (All-nil (Leaves (1 + e.position))) ∙ ap (λ n. unlinked_cell (stroke_role e) (get_or (glyph ∷ []) n 0)) none in (
        last ∙ ap (λ primary. unlinked_cell (underline_role primary) (strokes_of layout.decor primary).bar_bottom) kind,
        λ r higher.
            let one : cell_at (painted (above ++ own ∷ []) old) r cell ≡ cell_at (written_by (painted above old) own) r cell = ap (λ rows.
            cell_at rows r cell) (painted-append above (own ∷ []) old) in
            one ∙ cell-unwritten own (painted above old) r cell (λ there. omega (arith, there.row, higher, here))
            ∙ column_stands 0 (corner - 0) cell line (stroke_role e) old r (omega arith) (omega (arith, higher, here)) ∙ solid_by e kind,
      )

-- Labels, stems, columns and all strokes of a line, as writes one after another.
-- a piece is written, if it isn't empty
pub piece_painted : (row cell : ℕ) (role : ElementStyle) (text bytes : List ℕ) (old new : List (List Cell)) → (0 < length bytes → 0 < length text)
    → (bytes ≡ [] → text ≡ []) → (0 < length bytes → new ≡ cells_written old row cell (text_cells role text)) → (bytes ≡ [] → new ≡ old)
    → new ≡ painted (piece_at row cell role text) old
piece_painted row cell role text [] old new some none writes stays =
    stays refl ∙ sym (ap (λ t. painted (piece_at row cell role t) old) (none refl))
piece_painted row cell role text (b ∷ bs) old new some none writes stays =
    writes (omega arith)
    ∙ sym (ap (λ t. painted (cond t [] (record { row = row; cell = cell; text = text; role = role } ∷ [])) old) (not_zero (length text) (some (omega arith))))
  where
    not_zero : (n : ℕ) → 0 < n → (n == 0) ≡ false
    not_zero n some = grind (arith, nat_tests)

-- one cell more of a stem
pub stem_drawn : (layout : Layout) (row : ℕ) (e : PlacedEntry) (n foot stem glyph : ℕ) (role : ElementStyle) (old mid new : List (List Cell))
    → glyph ≡ cond (n == e.position) foot stem → foot ≡ foot_glyph layout.decor e
    → stem ≡ (strokes_of layout.decor (is_primary e.entry.kind)).stem → role ≡ underline_role (is_primary e.entry.kind)
    → new ≡ cells_written mid (row + n) (layout.code + e.entry.start.display) (text_cells role (glyph ∷ []))
    → mid ≡ painted (map (stem_write layout row e) (range_with_len 0 n)) old
    → new ≡ painted (map (stem_write layout row e) (range_with_len 0 (n + 1))) old
stem_drawn layout row e n foot stem glyph role old mid new is_glyph is_foot is_stem is_role writes so_far =
    let cell = layout.code + e.entry.start.display in
    let same : glyph ≡ cond (n == e.position) (foot_glyph layout.decor e) (strokes_of layout.decor (is_primary e.entry.kind)).stem = is_glyph
    ∙ ap (λ f. cond (n == e.position) f stem) is_foot ∙ ap (λ s. cond (n == e.position) (foot_glyph layout.decor e) s) is_stem in
    writes ∙ ap (λ g. cells_written mid (row + n) cell (text_cells role (g ∷ []))) same
    ∙ ap (λ r. cells_written mid (row + n) cell
    (text_cells r (cond (n == e.position) (foot_glyph layout.decor e) (strokes_of layout.decor (is_primary e.entry.kind)).stem
    ∷ []))) is_role ∙ ap (λ rows. written_by rows (stem_write layout row e n)) so_far
    ∙ sym (painted-append (map (stem_write layout row e) (range_with_len 0 n)) (stem_write layout row e n ∷ []) old)
    ∙ sym (ap (λ ws. painted ws old) (map-range_with_len_more (stem_write layout row e) 0 n n (omega arith)))

-- a column grows by a glyph in the next row
pub column_painted : (start row cell glyph : ℕ) (role : ElementStyle) (old mid new : List (List Cell)) → start ≤ row
    → mid ≡ painted (column_of start row cell glyph role) old → new ≡ cells_written mid row cell (text_cells role (glyph ∷ []))
    → new ≡ painted (column_of start (row + 1) cell glyph role) old
column_painted start row cell glyph role old mid new below so_far writes =
    let f : ℕ → Write = λ r. glyph_at r cell glyph role in
    let n : ℕ = row - start in
    let one_more : row + 1 - start ≡ n + 1 = omega (arith, below) in
    let here : start + n ≡ row = omega (arith, below) in
    writes ∙ ap (λ rows. written_by rows (f row)) so_far ∙ sym (painted-append (map f (range_with_len start n)) (f row ∷ []) old)
    ∙ sym (ap (λ ws. painted ws old) (map-range_with_len_more f start n row here)) ∙ sym (ap (λ m. painted (map f (range_with_len start m)) old) one_more)

-- a column with no rows is no write
pub column_of-none : (start cell glyph : ℕ) (role : ElementStyle) → column_of start start cell glyph role ≡ []
column_of-none start cell glyph role =
    ap (λ n. map (λ r. glyph_at r cell glyph role) (range_with_len start n)) (let none : start - start ≡ 0 = omega arith in none)

-- the strokes of a line but its marks, painted one list after another
pub under_painted : (layout : Layout) (row count all : ℕ) (placed : List PlacedEntry) (begun joined barred stemmed labelled : List (List Cell))
    → count ≡ all → joined ≡ painted (connectors_of layout (row + 1) placed) begun → barred ≡ painted (corners_of layout row count placed) joined
    → stemmed ≡ painted (stems_of layout (row + 1) placed) barred → labelled ≡ painted (labels_of layout (row + 1) placed) stemmed
    → labelled ≡ painted (drawn_under_marks layout row all placed) begun
under_painted layout row count all placed begun joined barred stemmed labelled is_all lines bars stems labels = grind (arith, painted-append)

-- and the marks over them
pub marks_painted : (layout : Layout) (row all : ℕ) (placed order : List PlacedEntry) (begun labelled new : List (List Cell))
    → labelled ≡ painted (drawn_under_marks layout row all placed) begun → new ≡ painted (marks_of layout (row + 1) order) labelled
    → new ≡ painted (drawn_strokes layout row all placed order) begun
marks_painted layout row all placed order begun labelled new under marks = grind (arith, painted-append)
