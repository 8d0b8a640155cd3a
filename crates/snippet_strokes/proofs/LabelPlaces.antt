-- The labels of entries, in the order in which the entries are given.
use Rattle.snippet_strokes.proofs.Common.{◌≡◌, ℕ, suc, ◌+◌, ◌<◌, ◌≤◌, ◌==◌, ◌&&◌, nat_le, nat_lt, max, cond, Bool, true, false}
use Rattle.snippet_strokes.proofs.Common.{List, [], ◌∷◌, length, map, get_or, refl, sym, ap, subst, ◌∙◌, arith, inl, inr, ◌⊎◌, All, count_by}
use Rattle.snippet_strokes.proofs.Common.{swap, IsPermutation, cases_Bool, false≢true, nat_tests, get_or-map, map-set, All-cons, All-map, All-nil}
use Rattle.snippet_strokes.proofs.Common.{All-permutation, IsPermutation-keeps, IsPermutation-refl, IsPermutation-swap, IsPermutation-sym, IsPermutation-trans}
use Rattle.snippet_strokes.proofs.Common.{sum_by-IsPermutation, sum_by-cons, cell_at, Cell, SPACE, LineAnnotation, Layout, PlacedEntry, label_text, IsStemCell}
use Rattle.snippet_strokes.proofs.Common.{IsStrokeCell, label_place, HasPlace, ArePlaced, HasItsLabel, label_pieces, shows_any, ◌-◌, count-map, zero, row_at}
use Rattle.snippet_strokes.proofs.Common.{inner_cell}
use Rattle.snippet_strokes.proofs.Common.{IsBarCell, is_mark_role, closing_row, common_steps, rules}
use Rattle.std.proofs.Common.{if◌then◌else◌}
use Rattle.snippet_strokes.proofs.SeenLabels.{EndsBy, EndsRows, HasRowsBy, IsLedTo, IsShownBy, LabelsStand, PlacedLabel, StandsIn, is_cell_of}
use Rattle.snippet_strokes.proofs.PaintedMarks.{StandsWhole}
use Rattle.snippet_strokes.proofs.PieceWrites.{label_write}
use Rattle.snippet_strokes.proofs.Reach.{Reaches}
use Rattle.snippet_strokes.proofs.StrokeCells.{BesideLabels, placed_apart}
use Rattle.snippet_strokes.proofs.StemCells.{IsHung}
use Rattle.snippet_strokes.proofs.LabelKept.{label_parts}
use Rattle.snippet_strokes.proofs.SeenRows.{are_plain, AreSeen, HasNoBars, IsStrokeRow}
use Rattle.snippet_strokes.proofs.DrawLemmas.{bar_space}
use Rattle.snippet_strokes.proofs.RowLemmas.{bare_row_right, bare_row_short, free_bare_row}
use Rattle.snippet_labels.proofs.PieceLemmas.{label_pieces-nil, pieces_are}
use Rattle.snippet_parts.proofs.PartLemmas.{All-unmapped}
use Rattle.snippet_labels.specs.Positions.{pieces_of}
use Rattle.snippet_strokes.proofs.PieceWrites.{label_shows, piece_shows}
use Rattle.snippet_strokes.proofs.Common.{LabelPieces, stands_last}

-- ---- what a rule gives for things in another order

map-swap : {X Y : Type 0} (f : X → Y) (xs : List X) (i j : ℕ) → i < length xs → j < length xs → map f (swap xs i j) ≡ swap (map f xs) i j
map-swap f [] i j first second = refl
map-swap f (d ∷ ys) i j first second = grind (arith, map-set, get_or-map)

-- things whose values were put in another order, in that order
pub record Reordered {X Y : Type 0} (f : X → Y) (xs : List X) (ys : List Y) : Type 0 where
  pub order : List X
  pub are : map f order ≡ ys
  pub same : IsPermutation xs order

pub reordered : {X Y : Type 0} (f : X → Y) (xs : List X) (ys : List Y) → IsPermutation (map f xs) ys → Reordered f xs ys
reordered f xs ys moved =
    IsPermutation-keeps (map f xs) (Reordered f xs) (record { order = xs; are = refl; same = IsPermutation-refl xs }) (λ l i j first second before.
    let order = before.order in
    let long : length order ≡ length l = sym (length_map f order) ∙ ap length before.are in
    let inside_i : i < length order = omega (arith, first, long) in
    let inside_j : j < length order = omega (arith, second, long) in
    record {
      order = swap order i j;
      are = map-swap f order i j inside_i inside_j ∙ ap (λ zs. swap zs i j) before.are;
      same = IsPermutation-trans xs order (swap order i j) before.same (IsPermutation-swap order (swap order i j) i j inside_i inside_j refl);
    }) ys moved
  where
    length_map : {X Y : Type 0} (f : X → Y) (xs : List X) → length (map f xs) ≡ length xs
    length_map f [] = refl
    length_map f (x ∷ xs) = ap suc (length_map f xs)

-- ---- a test that at most one passes

-- where no element passes a test, none is counted
pub none_pass : {X : Type 0} (q : X → Bool) (xs : List X) → ((j : ℕ) (d : X) → j < length xs → q (get_or xs j d) ≡ false) → count_by q xs ≡ 0
none_pass q [] none = refl
none_pass q (x ∷ xs) none =
    let here : ◌≡◌ {A = ℕ} (cond (q x) 1 0) 0 = ap (λ b. cond b 1 0) (none 0 x (omega arith)) in
    omega (arith, sum_by-cons (λ y. cond (q y) 1 0) x xs, here, none_pass q xs (λ j d within. none (suc j) d (omega (arith, within))))

-- if so many pass that none does, each fails
all_fail : {X : Type 0} (q : X → Bool) (xs : List X) → count_by q xs ≡ 0 → All (λ x. q x ≡ false) xs
all_fail q [] none = All-nil (λ x. q x ≡ false)
all_fail {X} q (x ∷ xs) none = grind (arith, common_steps, nat_tests, sum_by-cons, All-cons)

one_passes : {X : Type 0} (q : X → Bool) (xs : List X)
    → ((i j : ℕ) (d d2 : X) → i < j → j < length xs → q (get_or xs i d) ≡ true → q (get_or xs j d2) ≡ true → ⊥) → count_by q xs ≤ 1
one_passes q [] apart = omega arith
one_passes q (x ∷ xs) apart =
    elim (cases_Bool (q x)) [
      | inl passes ↦
          let rest : count_by q xs ≡ 0 = none_pass q xs (λ j d within. elim (cases_Bool (q (get_or xs j d))) [
            | inl other ↦ absurd (apart 0 (suc j) x d (omega arith) (omega (arith, within)) passes other)
            | inr fails ↦ fails
          ]) in
          let here : ◌≡◌ {A = ℕ} (cond (q x) 1 0) 1 = ap (λ b. cond b 1 0) passes in
          omega (arith, sum_by-cons (λ y. cond (q y) 1 0) x xs, here, rest)
      | inr fails ↦
          let here : ◌≡◌ {A = ℕ} (cond (q x) 1 0) 0 = ap (λ b. cond b 1 0) fails in
          omega (
            arith,
            sum_by-cons (λ y. cond (q y) 1 0) x xs,
            here,
            one_passes q xs (λ i j d d2 before within.
                apart (suc i) (suc j) d d2 (omega (arith, before)) (omega (arith, within))),
          )
    ]

-- ---- labels

-- the label of an entry that has its place
abbrev pub placed_label : Layout → PlacedEntry → PlacedLabel
placed_label layout e =
    record { entry = e.entry; pieces = (pieces_of e); row = (label_place e).0; cell = layout.code + (label_place e).1 }

-- where a label begins
stands-at : (layout : Layout) (e : PlacedEntry)
    → let l = placed_label layout e in ((l.row ≡ 0) × (l.cell ≡ layout.code + max e.entry.end.display 1 + 1))
    ⊎ ((0 < l.row) × (l.cell ≡ layout.code + e.entry.start.display))
stands-at layout e = search rules

-- the cell is reached by the write of one of the label's pieces
reached : (layout : Layout) (e : PlacedEntry) (r c : ℕ) → is_cell_of r c (placed_label layout e) ≡ true
    → Reaches r c (label_write layout 0 e (r - (label_place e).0))
reached layout e r c is =
    let parts = in_cell (label_place e).0 (layout.code + (label_place e).1) (length (get_or (pieces_of e) (r - (label_place e).0) [])) is in
    record { row = omega (arith, parts.0); from = parts.1; to = parts.2 }
  where
    in_cell : (row cell n : ℕ) → (nat_le row r && (nat_le cell c && nat_lt c (cell + n))) ≡ true → (row ≤ r) × (cell ≤ c) × (c < cell + n)
    in_cell row cell n is = grind (arith, nat_tests, is)

-- and such a cell is one of the label's
has_cell : (layout : Layout) (row r c n : ℕ) (e : PlacedEntry) → Reaches (row + r) c (label_write layout row e n)
    → is_cell_of r c (placed_label layout e) ≡ true
has_cell layout row r c n e there = grind (arith, common_steps, in_cell)
  where
    in_cell : (row cell n : ℕ) → row ≤ r → cell ≤ c → c < cell + n → (nat_le row r && (nat_le cell c && nat_lt c (cell + n))) ≡ true
    in_cell row cell n below from to = grind (arith, nat_tests, below, from, to)

-- no label of placed entries has a cell, if none has it where they are given
beside_labels : (layout : Layout) (row r c : ℕ) (placed : List PlacedEntry) → count_by (λ e. is_cell_of r c (placed_label layout e)) placed ≡ 0
    → BesideLabels layout row (row + r) c placed
beside_labels layout row r c placed none k d within n there =
    false≢true (sym (all_fail (λ e. is_cell_of r c (placed_label layout e)) placed none k d within) ∙ has_cell layout row r c n (get_or placed k d) there)

-- in the rows from `row` on each cell from the code on that no label reaches is a space or a stroke's
abbrev pub HasStrokesBeside : Layout → ℕ → List PlacedEntry → List (List Cell) → Type 0
HasStrokesBeside layout row placed rows =
    (r c : ℕ) → layout.code ≤ c → BesideLabels layout row (row + r) c placed → IsStrokeCell layout.decor (cell_at rows (row + r) c)

-- where the code begins before a cell, and all entries and what is of their labels in a row end by it, the row does; where labels are broken and
-- one that shows anything has room for 20 columns, so do its rows, if what is of labels in them does; and where nothing may stand right of a
-- label its rows end with it
pub record EndRows (layout : Layout) (es : List LineAnnotation) (placed : List PlacedEntry) (rows : List (List Cell)) : Type 0 where
  pub within : (edge : ℕ) → layout.code < edge → All (EndsBy layout edge) es → (r : ℕ) → All (λ e. IsShownBy r edge (placed_label layout e)) placed
      → length (row_at rows r) ≤ edge
  pub labelled : layout.label_lines ≡ true → (edge : ℕ) → layout.label_end ≤ edge
      → All (λ e. shows_any (pieces_of e) ≡ true → layout.code + (label_place e).1 + 20 ≤ layout.label_end → (n : ℕ) → n < length (pieces_of e)
      → All (λ f. IsShownBy ((label_place e).0 + n) edge (placed_label layout f)) placed → length (row_at rows ((label_place e).0 + n)) ≤ edge) placed
  pub last : All (λ e. e.label.last ≡ true → EndsRows rows (placed_label layout e)) placed

-- labels that stand whole in the rows from `row` on stand so in those rows alone, for each entry as it is given
pub LabelsStand-placed : (layout : Layout) (row : ℕ) (es : List LineAnnotation) (placed : List PlacedEntry) (rows below : List (List Cell))
    → ArePlaced layout es placed → All (λ (e : PlacedEntry). HasPlace e.entry) placed → All (StandsWhole layout row rows) placed
    → HasStrokesBeside layout row placed rows → All (IsHung layout row placed rows) placed
    → ((r c : ℕ) → cell_at below r c ≡ cell_at rows (row + r) c) → EndRows layout es placed below → LabelsStand layout es below
LabelsStand-placed layout row es placed rows below is places stands beside hung same ends =
    let f : PlacedEntry → LineAnnotation = λ e. e.entry in
    let moved : Reordered f placed es = reordered f placed es (IsPermutation-sym es (map f placed) is.same) in
    let order : List PlacedEntry = moved.order in
    let g : PlacedEntry → PlacedLabel = placed_label layout in
    let has : All (HasItsLabel layout) order = All-permutation (HasItsLabel layout) placed order moved.same is.labels in
    let stand : All (StandsWhole layout row rows) order = All-permutation (StandsWhole layout row rows) placed order moved.same stands in
    let leads : All (IsHung layout row placed rows) order = All-permutation (IsHung layout row placed rows) placed order moved.same hung in
    let counted : (r c : ℕ) → count_by (λ e. is_cell_of r c (g e)) placed ≡ count_by (is_cell_of r c) (map g order) = λ r c.
    sym (sum_by-IsPermutation (λ e. cond (is_cell_of r c (g e)) 1 0) placed order moved.same) ∙ sym (count-map (is_cell_of r c) g order) in
    record {
      labels = map g order;
      are = entries order ∙ moved.are;
      pieces = All-map (λ (l : PlacedLabel). l.pieces ≡ label_pieces layout l.cell (label_text l.entry)) g order
          (λ k d within. pieces_are layout (get_or order k d) (has k d within));
      stand = All-map (λ (l : PlacedLabel). shows_any l.pieces ≡ true → StandsIn layout below l) g order (λ k d within some.
          let e : PlacedEntry = get_or order k d in
          record {
            whole = λ m n inside. same ((label_place e).0 + m) (layout.code + (label_place e).1 + n)
                ∙ ap (λ (i : ℕ). cell_at rows i (layout.code + (label_place e).1 + n)) (omega arith) ∙ stand k d within m n inside;
            place = stands-at layout e;
          });
      led = All-map (λ (l : PlacedLabel). shows_any l.pieces ≡ true → IsLedTo layout.decor (map g order) below l) g order
          (λ k d within some r under above none.
          let e : PlacedEntry = get_or order k d in
          let c : ℕ = layout.code + (label_place e).1 in
          let stem : IsStemCell layout.decor (cell_at rows (row + r) c) = elim (label_parts e) [
            | inl at ↦ absurd (omega (arith, at.row, above, under))
            | inr at ↦
                let here : layout.code + e.entry.start.display ≡ c = omega (arith, at.column) in
                let clear : BesideLabels layout row (row + r) c placed = beside_labels layout row r c placed (counted r c ∙ none) in
                subst (λ n. IsStemCell layout.decor (cell_at rows (row + r) n)) here
                (leads k d within (label_shows e some) r under (omega (arith, above, at.row))
                (subst (λ n. BesideLabels layout row (row + r) n placed) (sym here) clear))
          ] in
          subst (IsStemCell layout.decor) (sym (same r c)) stem);
      apart = λ r c.
          let q : PlacedEntry → Bool = λ e. is_cell_of r c (g e) in
          let few : count_by q placed ≤ 1 = one_passes q placed (λ i j d d2 before within one other.
          let here = reached layout (get_or placed i d) r c one in
          let there = reached layout (get_or placed j d2) r c other in
          placed_apart layout 0 es placed i j d d2 is places before within (r - (label_place (get_or placed i d)).0)
          (r - (label_place (get_or placed j d2)).0) r c here there) in
          let kept : count_by q order ≡ count_by q placed = sum_by-IsPermutation (λ e. cond (q e) 1 0) placed order moved.same in
          omega (arith, few, kept, count-map (is_cell_of r c) g order);
      others = λ r c right none.
          subst (IsStrokeCell layout.decor) (sym (same r c)) (beside r c right (beside_labels layout row r c placed (counted r c ∙ none)));
      within = λ edge right end r shown.
          let S : PlacedEntry → Type 0 = λ e. IsShownBy r edge (g e) in
          ends.within edge right end r
          (All-permutation S order placed (IsPermutation-sym placed order moved.same) (All-unmapped (IsShownBy r edge) g order shown));
      labelled = λ cut edge wide.
          let T : List PlacedLabel → PlacedEntry → Type 0 = λ ls e. HasRowsBy layout edge below ls (g e) in
          All-map (HasRowsBy layout edge below (map g order)) g order
          (All-permutation (T (map g order)) placed order moved.same (λ k d within some room n inside shown.
          ends.labelled cut edge wide k d within some room n inside
          (All-permutation (λ e. IsShownBy ((label_place (get_or placed k d)).0 + n) edge (g e)) order placed (IsPermutation-sym placed order moved.same)
          (All-unmapped (IsShownBy ((label_place (get_or placed k d)).0 + n) edge) g order shown))));
      last = All-map (λ (l : PlacedLabel). stands_last layout (label_text l.entry) ≡ true → EndsRows below l) g order (λ k d within is_last.
          All-permutation (λ e. e.label.last ≡ true → EndsRows below (g e)) placed order moved.same ends.last k d within
          (ap (λ (label : LabelPieces). label.last) (has k d within) ∙ is_last));
    }
  where
    entries : (xs : List PlacedEntry) → map (λ (l : PlacedLabel). l.entry) (map (placed_label layout) xs) ≡ map (λ (e : PlacedEntry). e.entry) xs
    entries [] = refl
    entries (x ∷ xs) = ap (λ es. x.entry ∷ es) (entries xs)

-- where no entry has a label to show, none stands anywhere, and where nothing is drawn, spaces do
pub LabelsStand-none : (layout : Layout) (es : List LineAnnotation) (rows : List (List Cell)) → All (λ e. label_text e ≡ []) es
    → ((r c : ℕ) → layout.code ≤ c → cell_at rows r c ≡ SPACE) → ((r : ℕ) → length (row_at rows r) ≤ layout.code) → LabelsStand layout es rows
LabelsStand-none layout es rows none blank short =
    let g : LineAnnotation → PlacedLabel = λ e. record { entry = e; pieces = label_pieces layout 0 (label_text e); row = 0; cell = 0 } in
    let empty_pieces : (k : ℕ) (d : LineAnnotation) → k < length es → label_pieces layout 0 (label_text (get_or es k d)) ≡ [] ∷ [] = λ k d within.
    ap (label_pieces layout 0) (none k d within) ∙ label_pieces-nil layout 0 in
    let nothing : (k : ℕ) (d : LineAnnotation) → k < length es → shows_any (g (get_or es k d)).pieces ≡ true → ⊥ = λ k d within some.
    false≢true (sym (ap shows_any (empty_pieces k d within)) ∙ some) in
    record {
      labels = map g es;
      are = entries es;
      pieces = All-map (λ (l : PlacedLabel). l.pieces ≡ label_pieces layout l.cell (label_text l.entry)) g es (λ k d within. refl);
      stand = All-map (λ (l : PlacedLabel). shows_any l.pieces ≡ true → StandsIn layout rows l) g es (λ k d within some. absurd (nothing k d within some));
      led = All-map (λ (l : PlacedLabel). shows_any l.pieces ≡ true → IsLedTo layout.decor (map g es) rows l) g es (λ k d within some.
          absurd (nothing k d within some));
      apart = λ r c.
          let empty : count_by (λ e. is_cell_of r c (g e)) es ≡ 0 = none_pass (λ e. is_cell_of r c (g e)) es (λ j d within.
          no_cell r c (g (get_or es j d)).pieces (empty_pieces j d within)) in
          omega (arith, empty, count-map (is_cell_of r c) g es);
      others = λ r c right _. inl (blank r c right);
      within = λ edge right _ r _. omega (arith, short r, right);
      labelled = λ cut edge wide. All-map (HasRowsBy layout edge rows (map g es)) g es (λ k d within some. absurd (nothing k d within some));
      last = All-map (λ (l : PlacedLabel). stands_last layout (label_text l.entry) ≡ true → EndsRows rows l) g es (λ k d within _ n some.
          absurd (nothing k d within (piece_shows (g (get_or es k d)).pieces n some)));
    }
  where
    entries : (xs : List LineAnnotation)
        → map (λ (l : PlacedLabel). l.entry) (map (λ e. record { entry = e; pieces = label_pieces layout 0 (label_text e); row = 0; cell = 0 }) xs) ≡ xs
    entries [] = refl
    entries (x ∷ xs) = ap (λ es. x ∷ es) (entries xs)

    no_cell : (r c : ℕ) (ps : List (List ℕ)) → ps ≡ [] ∷ [] → (nat_le 0 r && (nat_le 0 c && nat_lt c (0 + length (get_or ps (r - 0) [])))) ≡ false
    no_cell r c ps is = ap (λ qs. nat_le 0 r && (nat_le 0 c && nat_lt c (0 + length (get_or qs (r - 0) [])))) is ∙ beyond r
      where
        nothing : List (List ℕ)
        nothing = [] ∷ []

        beyond : (r : ℕ) → (nat_le 0 r && (nat_le 0 c && nat_lt c (0 + length (get_or nothing (r - 0) [])))) ≡ false
        beyond zero = grind (arith, nat_tests)
        beyond (suc r) = grind (arith, nat_tests)

-- labels that stand in some rows stand in others, whose cells from the code on are the same, if these go no farther than those or the code
pub LabelsStand-kept : (layout : Layout) (es : List LineAnnotation) (old new : List (List Cell)) → LabelsStand layout es old
    → ((r c : ℕ) → layout.code ≤ c → cell_at new r c ≡ cell_at old r c)
    → ((r : ℕ) → length (row_at new r) ≤ max (length (row_at old r)) layout.code) → LabelsStand layout es new
LabelsStand-kept layout es old new is same short = record {
  labels = is.labels;
  are = is.are;
  pieces = is.pieces;
  stand = λ k d within some.
      let l : PlacedLabel = get_or is.labels k d in
      let before : StandsIn layout old l = is.stand k d within some in
      record {
        whole = λ m n inside. same (l.row + m) (l.cell + n) (right l before.place n) ∙ before.whole m n inside;
        place = before.place;
      };
  led = λ k d within some r under above none.
      let l : PlacedLabel = get_or is.labels k d in
      subst (IsStemCell layout.decor) (sym (same r l.cell (omega (arith, right l (is.stand k d within some).place 0))))
      (is.led k d within some r under above none);
  apart = is.apart;
  others = λ r c right none. subst (IsStrokeCell layout.decor) (sym (same r c right)) (is.others r c right none);
  within = λ edge right end r shown. omega (arith, short r, is.within edge right end r shown, right);
  labelled = λ cut edge wide k d within some room n inside shown.
      let l : PlacedLabel = get_or is.labels k d in
      let own = is.labelled cut edge wide k d within some room n inside shown in
      omega (arith, short (l.row + n), own, room, wide, right l (is.stand k d within some).place 0);
  last = λ k d within is_last n some.
      let l : PlacedLabel = get_or is.labels k d in
      let stands : StandsIn layout old l = is.stand k d within (piece_shows l.pieces n some) in
      omega (arith, short (l.row + n), is.last k d within is_last n some, right l stands.place 0);
}
  where
    right : (l : PlacedLabel) → ((l.row ≡ 0) × (l.cell ≡ layout.code + max l.entry.end.display 1 + 1))
        ⊎ ((0 < l.row) × (l.cell ≡ layout.code + l.entry.start.display)) → (n : ℕ) → layout.code ≤ l.cell + n
    right l place n = grind (arith, common_steps)

-- The rows of a line with no entries.
-- a line with no entries has no strokes, but a row that closes the window where it closes there
pub none_seen : (layout : Layout) (room : ℕ) (closes : Bool) (source : List Cell) → inner_cell layout ≤ layout.code → HasNoBars layout source
    → AreSeen layout room [] closes source (source ∷ (if closes then closing_row layout.decor layout.gutter ∷ [] else []))
none_seen layout room closes source place bare_bars =
    record {
      source = source;
      below = if closes then closing_row layout.decor layout.gutter ∷ [] else [];
      rows_are = refl;
      beside = record {
        front = refl;
        gap = refl;
        bar_cells = bare_bars.1;
        text = refl;
        uncut = λ _. refl;
        free = λ free. free;
      };
      strokes = record {
        some = λ _ some. absurd (omega (arith, some));
        labels = λ _ _. LabelsStand-none layout [] _ (λ k d within. absurd (omega (arith, within))) (blank closes) (short closes);
        marks = λ _. record {
          marks = λ p kind mark. absurd (omega (arith, mark.among.1));
          unmarked = λ p _. ap (λ (c : Cell). is_mark_role c.role) (blank closes 0 (layout.code + p) (omega arith));
          spaces = λ _ p _. blank closes 0 (layout.code + p) (omega arith);
          lone = λ e one some shown. cc one;
        };
        are = rows_are closes;
      };
    }
  where
    blank : (closes : Bool) (r c : ℕ) → layout.code ≤ c → cell_at (if closes then closing_row layout.decor layout.gutter ∷ [] else []) r c ≡ SPACE
    blank true zero c right = bare_row_right layout.decor layout.gutter true c (omega (arith, right, place))
    blank true (suc r) c right = refl
    blank false r c right = refl

    short : (closes : Bool) (r : ℕ) → length (row_at (if closes then closing_row layout.decor layout.gutter ∷ [] else []) r) ≤ layout.code
    short true zero = omega (arith, bare_row_short layout.decor layout.gutter true, place)
    short true (suc r) = omega arith
    short false r = omega arith

    rows_are : (closes : Bool) (k : ℕ) → k < length (if closes then closing_row layout.decor layout.gutter ∷ [] else [])
        → IsStrokeRow layout (are_plain room layout.decor []) []
        (closes && k + 1 == length (if closes then closing_row layout.decor layout.gutter ∷ [] else []))
        (row_at (if closes then closing_row layout.decor layout.gutter ∷ [] else []) k)
    rows_are true zero within =
        record {
          left = λ c before. refl;
          bar_cells = λ c right before. subst (IsBarCell layout.decor) (sym (bare_row_right layout.decor layout.gutter true c right)) (bar_space layout.decor);
          before = λ _ c from right before all. bare_row_right layout.decor layout.gutter true c (omega (arith, right, place));
          free = free_bare_row layout.decor layout.gutter true;
        }
    rows_are true (suc k) within = absurd (omega (arith, within))
    rows_are false k within = absurd (omega (arith, within))
