-- The columns of rows below a line: where the pieces of labels have room for theirs, and marks their place, each row ends by the same cell.
use Rattle.snippet_strokes.proofs.Common.{◌≡◌, ◌⊎◌, ℕ, zero, suc, ◌+◌, ◌-◌, ◌<◌, ◌≤◌, ◌&&◌, nat_le, nat_lt, Bool, true, false, List, [], ◌∷◌, All}
use Rattle.snippet_strokes.proofs.Common.{length, get_or, refl, sym, ap, ◌∙◌, subst, arith, inl, inr, cases_Bool, cases_lt, false≢true, nat_tests}
use Rattle.snippet_strokes.proofs.Common.{All-cons, All-nil, All-weaker, sum_by-cons, Cell, SPACE, list_any, DecorStyle, Ascii, Unicode}
use Rattle.snippet_strokes.proofs.Common.{bar_glyphs, stroke_glyphs, IsBarCell, IsStrokeCell, LineAnnotation, Layout, cell_at, row_at}
use Rattle.snippet_strokes.proofs.Common.{bare_row, inner_cell, label_text, stands_last, row_text, char_width, unicode_width, width_of, ◌++◌, replicate}
use Rattle.snippet_strokes.proofs.Common.{text_cells, closing_of, separator_of, shows_any, LineNumber, get_or_past}
use Rattle.snippet_strokes.proofs.LabelKept.{any_false}
use Rattle.snippet_strokes.proofs.LabelPlaces.{none_pass}
use Rattle.snippet_strokes.proofs.PieceWrites.{label_pieces-all, piece_shows, piece_within}
use Rattle.snippet_strokes.proofs.SeenLabels.{EndsBy, HasPieceRoom, IsShownBy, LabelsStand, PlacedLabel, is_cell_of}
use Rattle.snippet_strokes.proofs.SeenRows.{IsStrokeRow}
use Rattle.snippet_strokes.proofs.StrokeGlyphs.{of_glyph}

-- a character takes a column at most
abbrev IsNarrow : ℕ → Type 0
IsNarrow c = char_width c ≤ 1

-- ---- rows

-- a row of such characters has no more columns than cells
narrow_row : (row : List Cell) → ((c : ℕ) → IsNarrow (get_or row c SPACE).ch) → width_of (row_text row) ≤ length row
narrow_row [] narrow = omega arith
narrow_row (x ∷ row) narrow =
    omega (arith, sum_by-cons char_width x.ch (row_text row), narrow 0, narrow_row row (λ c. narrow (suc c)))

-- one that has such characters before a cell, and from there on a piece with which it ends, no more than so many and those of the piece
row_to_piece : (row : List Cell) (from : ℕ) (piece : List ℕ) → ((c : ℕ) → c < from → IsNarrow (get_or row c SPACE).ch)
    → ((n : ℕ) → n < length piece → (get_or row (from + n) SPACE).ch ≡ get_or piece n 0) → length row ≤ from + length piece
    → width_of (row_text row) ≤ from + width_of piece
row_to_piece [] from piece narrow is ends = omega arith
row_to_piece (x ∷ row) (suc from) piece narrow is ends =
    let next : (n : ℕ) → n < length piece → (get_or row (from + n) SPACE).ch ≡ get_or piece n 0 = λ n inside.
    let one : suc from + n ≡ suc (from + n) = omega arith in
    subst (λ i. (get_or (x ∷ row) i SPACE).ch ≡ get_or piece n 0) one (is n inside) in
    omega (
      arith,
      sum_by-cons char_width x.ch (row_text row),
      narrow 0 (omega arith),
      row_to_piece row from piece (λ c before. narrow (suc c) (omega (arith, before))) next (omega (arith, ends)),
    )
row_to_piece (x ∷ row) zero [] narrow is ends = absurd (omega (arith, ends))
row_to_piece (x ∷ row) zero (p ∷ piece) narrow is ends =
    let next : (n : ℕ) → n < length piece → (get_or row (0 + n) SPACE).ch ≡ get_or piece n 0 = λ n inside.
    let one : 0 + suc n ≡ suc (0 + n) = omega arith in
    subst (λ i. (get_or (x ∷ row) i SPACE).ch ≡ get_or piece n 0) one (is (suc n) (omega (arith, inside))) in
    omega (
      arith,
      sum_by-cons char_width x.ch (row_text row),
      sum_by-cons char_width p piece,
      ap char_width (is 0 (omega arith)),
      row_to_piece row 0 piece (λ c before. absurd (omega (arith, before))) next (omega (arith, ends)),
    )

-- ---- glyphs

one_column : (c : ℕ) → char_width c ≡ 1 → IsNarrow c
one_column c is = omega (arith, is)

narrow_feed : IsNarrow 10
unfolding char_width unicode_width
narrow_feed = one_column 10 refl

narrow_space : IsNarrow 32
unfolding char_width unicode_width
narrow_space = one_column 32 refl

no_wide_stroke : (decor : DecorStyle) → list_any (λ g. nat_lt 1 (char_width g)) (stroke_glyphs decor) ≡ false
unfolding char_width unicode_width
no_wide_stroke Ascii = refl
no_wide_stroke Unicode = refl

no_wide_bar : (decor : DecorStyle) → list_any (λ g. nat_lt 1 (char_width g)) (bar_glyphs decor) ≡ false
unfolding char_width unicode_width
no_wide_bar Ascii = refl
no_wide_bar Unicode = refl

-- characters of which none is wide
none_wide : (cs : List ℕ) → list_any (λ c. nat_lt 1 (char_width c)) cs ≡ false → All IsNarrow cs
none_wide cs none = All-weaker (λ c. nat_lt 1 (char_width c) ≡ false) IsNarrow own cs (any_false (λ c. nat_lt 1 (char_width c)) cs none)
  where
    own : (c : ℕ) → nat_lt 1 (char_width c) ≡ false → IsNarrow c
    own c is = grind (arith, nat_tests, is)

-- a cell of a stroke, and one beside bars
narrow_stroke : (decor : DecorStyle) (cell : Cell) → IsStrokeCell decor cell → IsNarrow cell.ch
narrow_stroke decor cell (inl space) = subst IsNarrow (sym (ap (λ (c : Cell). c.ch) space)) narrow_space
narrow_stroke decor cell (inr glyph) = of_glyph IsNarrow cell.ch (stroke_glyphs decor) (none_wide (stroke_glyphs decor) (no_wide_stroke decor)) glyph.0

narrow_bar : (decor : DecorStyle) (cell : Cell) → IsBarCell decor cell → IsNarrow cell.ch
narrow_bar decor cell bar = of_glyph IsNarrow cell.ch (bar_glyphs decor) (none_wide (bar_glyphs decor) (no_wide_bar decor)) bar.glyph

-- ---- the first of some things

-- one of some things that pass a test, which none that does comes before
record First {X : Type 0} (q : X → Bool) (R : X → X → Type 0) (xs : List X) : Type 0 where
  pub at : ℕ
  pub default : X
  pub inside : at < length xs
  pub passes : q (get_or xs at default) ≡ true
  pub first : All (λ x. q x ≡ true → R (get_or xs at default) x) xs

-- none passes, or there is such a one, in an order in which each two compare
first_of : {X : Type 0} (q : X → Bool) (R : X → X → Type 0) → ((x y : X) → R x y ⊎ R y x) → ((x y z : X) → R x y → R y z → R x z) → (xs : List X)
    → All (λ x. q x ≡ false) xs ⊎ First q R xs
first_of q R total trans [] = inl (All-nil (λ x. q x ≡ false))
first_of {X} q R total trans (x ∷ xs) = either (q x) refl (first_of q R total trans xs)
  where
    same : R x x
    same = elim (total x x) [
      | inl is ↦ is
      | inr is ↦ is
    ]

    either : (b : Bool) → q x ≡ b → All (λ y. q y ≡ false) xs ⊎ First q R xs → All (λ y. q y ≡ false) (x ∷ xs) ⊎ First q R (x ∷ xs)
    either false is (inl none) = inl (All-cons (λ y. q y ≡ false) x xs is none)
    either false is (inr found) = inr (record {
      at = suc found.at;
      default = found.default;
      inside = omega (arith, found.inside);
      passes = found.passes;
      first = All-cons (λ y. q y ≡ true → R (get_or xs found.at found.default) y) x xs (λ yes. absurd (false≢true (sym is ∙ yes))) found.first;
    })
    either true is (inl none) = inr (record {
      at = 0;
      default = x;
      inside = omega arith;
      passes = is;
      first = All-cons (λ y. q y ≡ true → R x y) x xs (λ _. same) (λ k d inside yes. absurd (false≢true (sym (none k d inside) ∙ yes)));
    })
    either true is (inr found) =
        let other : X = get_or xs found.at found.default in
        elim (total x other) [
          | inl before ↦ inr (record {
            at = 0;
            default = x;
            inside = omega arith;
            passes = is;
            first = All-cons (λ y. q y ≡ true → R x y) x xs (λ _. same) (λ k d inside yes.
                trans x other (get_or xs k d) before (found.first k d inside yes));
          })
          | inr after ↦ inr (record {
            at = suc found.at;
            default = found.default;
            inside = omega (arith, found.inside);
            passes = found.passes;
            first = All-cons (λ y. q y ≡ true → R other y) x xs (λ _. after) found.first;
          })
        ]

-- ---- the rows below a line

module _ (layout : Layout) (es : List LineAnnotation) (rows : List (List Cell)) (stand : LabelsStand layout es rows) (cut : layout.label_lines ≡ true)
    (right : layout.code < layout.label_end) (room : All (HasPieceRoom layout.label_end) stand.labels)
    (left : (r c : ℕ) → c < layout.code → IsNarrow (cell_at rows r c).ch) (r : ℕ)
    (ends_by : (edge : ℕ) → layout.label_end ≤ edge → All (IsShownBy r edge) stand.labels → length (row_at rows r) ≤ edge) where
  -- the piece of a label in this row
  abbrev piece : PlacedLabel → List ℕ
  piece l = get_or l.pieces (r - l.row) []

  -- whether it has one there
  abbrev is_here : PlacedLabel → Bool
  is_here l = nat_le l.row r && nat_lt 0 (length (piece l))

  abbrev is_last : PlacedLabel → Bool
  is_last l = stands_last layout (label_text l.entry)

  here : (l : PlacedLabel) → is_here l ≡ true → (l.row + (r - l.row) ≡ r) × (0 < length (piece l))
  here l is = both l.row (length (piece l)) is
    where
      both : (row n : ℕ) → (nat_le row r && nat_lt 0 n) ≡ true → (row + (r - row) ≡ r) × (0 < n)
      both row n is = grind (arith, nat_tests, is)

  -- a cell of a label's
  cell_here : (l : PlacedLabel) (c : ℕ) → is_cell_of r c l ≡ true → (is_here l ≡ true) × (l.cell ≤ c) × (c < l.cell + length (piece l))
  cell_here l c is = parts l.row l.cell (length (piece l)) is
    where
      parts : (row cell n : ℕ) → (nat_le row r && (nat_le cell c && nat_lt c (cell + n))) ≡ true
          → ((nat_le row r && nat_lt 0 n) ≡ true) × (cell ≤ c) × (c < cell + n)
      parts row cell n is = grind (arith, nat_tests, is)

  -- the characters of a label's piece in its cells
  stands : (k : ℕ) (d : PlacedLabel) → k < length stand.labels → let l = get_or stand.labels k d in is_here l ≡ true
      → (n : ℕ) → n < length (piece l) → (get_or (row_at rows r) (l.cell + n) SPACE).ch ≡ get_or (piece l) n 0
  stands k d within is n inside =
      let l : PlacedLabel = get_or stand.labels k d in
      let at = here l is in
      let whole = (stand.stand k d within (piece_shows l.pieces (r - l.row) at.1)).whole (r - l.row) n inside in
      ap (λ i. (cell_at rows i (l.cell + n)).ch) (sym at.0) ∙ ap (λ (c : Cell). c.ch) whole

  -- those of one right of which others may stand are narrow
  narrow_piece : (k : ℕ) (d : PlacedLabel) → k < length stand.labels → is_last (get_or stand.labels k d) ≡ false
      → All (All IsNarrow) (get_or stand.labels k d).pieces
  narrow_piece k d within not_last =
      let l : PlacedLabel = get_or stand.labels k d in
      let text : List ℕ = label_text l.entry in
      let none = no_wide layout.label_lines layout.label_end (list_any (λ c. nat_lt 1 (char_width c)) text) cut (omega (arith, right)) not_last in
      subst (All (All IsNarrow)) (sym (stand.pieces k d within)) (label_pieces-all IsNarrow layout l.cell text narrow_feed (none_wide text none))
    where
      no_wide : (lines : Bool) (n : ℕ) (wide : Bool) → lines ≡ true → 0 < n → (lines && nat_lt 0 n && wide) ≡ false → wide ≡ false
      no_wide true n true is some none = grind (arith, nat_tests, some, none)
      no_wide true n false is some none = refl
      no_wide false n wide is some none = cc is

  -- a cell is narrow if no label right of which nothing may stand has it
  narrow_cell : (c : ℕ) → All (λ l. is_cell_of r c l ≡ true → is_last l ≡ false) stand.labels → IsNarrow (cell_at rows r c).ch
  narrow_cell c others =
      elim (first_of (is_cell_of r c) (λ x y. ◌≡◌ {A = ℕ} 0 0) (λ x y. inl refl) (λ x y z _ _. refl) stand.labels) [
        | inl none ↦ elim (cases_lt c layout.code) [
          | inl before ↦ left r c before
          | inr past ↦ narrow_stroke layout.decor (cell_at rows r c) (stand.others r c past (none_pass (is_cell_of r c) stand.labels none))
        ]
        | inr found ↦
            let l : PlacedLabel = get_or stand.labels found.at found.default in
            let at = cell_here l c found.passes in
            let n : ℕ = c - l.cell in
            let inside : n < length (piece l) = omega (arith, at.1, at.2) in
            let place : l.cell + n ≡ c = omega (arith, at.1) in
            let shown = (here l at.0).1 in
            let narrow = narrow_piece found.at found.default found.inside (others found.at found.default found.inside found.passes) (r - l.row) []
            (piece_within l.pieces (r - l.row) shown) n 0 inside in
            subst (λ i. IsNarrow (get_or (row_at rows r) i SPACE).ch) place
            (subst IsNarrow (sym (stands found.at found.default found.inside at.0 n inside)) narrow)
      ]

  -- a row that ends with a piece, all cells before which are narrow, has room
  ends_with : (k : ℕ) (d : PlacedLabel) → k < length stand.labels → is_here (get_or stand.labels k d) ≡ true
      → ((c : ℕ) → c < (get_or stand.labels k d).cell → IsNarrow (cell_at rows r c).ch)
      → length (row_at rows r) ≤ (get_or stand.labels k d).cell + length (piece (get_or stand.labels k d))
      → width_of (row_text (row_at rows r)) ≤ layout.label_end
  ends_with k d within is narrow ends =
      let l : PlacedLabel = get_or stand.labels k d in
      omega (arith, row_to_piece (row_at rows r) l.cell (piece l) narrow (stands k d within is) ends, room k d within (r - l.row) (here l is).1)

  -- where a label stands in the row right of which nothing may, the row ends with it
  last_row : First (λ l. is_here l && is_last l) (λ x y. x.cell ≤ y.cell) stand.labels → width_of (row_text (row_at rows r)) ≤ layout.label_end
  last_row found =
      let l : PlacedLabel = get_or stand.labels found.at found.default in
      let passes = both (is_here l) (is_last l) found.passes in
      let at = here l passes.0 in
      let ends = stand.last found.at found.default found.inside passes.1 (r - l.row) at.1 in
      ends_with found.at found.default found.inside passes.0
      (λ c before. narrow_cell c (λ k d within covered.
      let other : PlacedLabel = get_or stand.labels k d in
      let there = cell_here other c covered in
      elim (cases_Bool (is_last other)) [
        | inl last ↦ absurd (omega (arith, before, there.1, found.first k d within (all_true there.0 last)))
        | inr not_last ↦ not_last
      ])) (omega (arith, ends, ap (λ i. length (row_at rows i)) at.0))
    where
      both : (a b : Bool) → (a && b) ≡ true → (a ≡ true) × (b ≡ true)
      both true b is = (refl, is)
      both false b is = cc is

      all_true : {a b : Bool} → a ≡ true → b ≡ true → (a && b) ≡ true
      all_true {a} {b} first second = ap (λ x. x && b) first ∙ second

  -- where the piece of a label ends, and whether that is past the cell
  abbrev reach : PlacedLabel → ℕ
  reach l = l.cell + length (piece l)

  abbrev is_past : PlacedLabel → Bool
  is_past l = is_here l && nat_lt layout.label_end (reach l)

  past_parts : (l : PlacedLabel) → is_past l ≡ true → (is_here l ≡ true) × (layout.label_end < reach l)
  past_parts l is = both (is_here l) (reach l) is
    where
      both : (b : Bool) (n : ℕ) → (b && nat_lt layout.label_end n) ≡ true → (b ≡ true) × (layout.label_end < n)
      both true n is = (refl, grind (arith, nat_tests, is))
      both false n is = cc is

  -- a label is shown by a cell no farther left, if where it is past the other it ends by that
  shown_by : (bound : ℕ) → layout.label_end ≤ bound → (l : PlacedLabel) → (is_past l ≡ true → reach l ≤ bound) → IsShownBy r bound l
  shown_by bound far l ends n at some =
      let same : n ≡ r - l.row = omega (arith, at) in
      let long : length (get_or l.pieces n []) ≡ length (piece l) = ap (λ k. length (get_or l.pieces k [])) same in
      elim (cases_lt layout.label_end (reach l)) [
        | inl past ↦ omega (arith, long, ends (is l.row (length (piece l)) (reach l) (omega (arith, at)) (omega (arith, some, long)) past))
        | inr within ↦ omega (arith, long, within, far)
      ]
    where
      is : (row n to : ℕ) → row ≤ r → 0 < n → layout.label_end < to → ((nat_le row r && nat_lt 0 n) && nat_lt layout.label_end to) ≡ true
      is row n to above some past = grind (arith, nat_tests, above, some, past)

  -- where none does, each cell is narrow, and the row ends by the cell where all labels do, or with the piece that goes farthest
  open_row : All (λ l. (is_here l && is_last l) ≡ false) stand.labels → width_of (row_text (row_at rows r)) ≤ layout.label_end
  open_row none =
      let narrow : (c : ℕ) → IsNarrow (cell_at rows r c).ch = λ c. narrow_cell c (λ k d within covered.
      not_both (is_here (get_or stand.labels k d)) (is_last (get_or stand.labels k d)) (cell_here (get_or stand.labels k d) c covered).0 (none k d within)) in
      elim (first_of is_past (λ x y. reach y ≤ reach x) compare (λ x y z one two. omega (arith, one, two)) stand.labels) [
        | inl short ↦ omega (
          arith,
          narrow_row (row_at rows r) narrow,
          ends_by layout.label_end (omega arith) (λ k d within.
              shown_by layout.label_end (omega arith) (get_or stand.labels k d) (λ past. absurd (false≢true (sym (short k d within) ∙ past)))),
        )
        | inr found ↦
            let l : PlacedLabel = get_or stand.labels found.at found.default in
            let past = past_parts l found.passes in
            ends_with found.at found.default found.inside past.0 (λ c _. narrow c)
            (ends_by (reach l) (omega (arith, past.1)) (λ k d within.
            shown_by (reach l) (omega (arith, past.1)) (get_or stand.labels k d) (found.first k d within)))
      ]
    where
      not_both : (a b : Bool) → a ≡ true → (a && b) ≡ false → b ≡ false
      not_both true b first none = none
      not_both false b first none = cc first

      compare : (x y : PlacedLabel) → (reach y ≤ reach x) ⊎ (reach x ≤ reach y)
      compare x y = elim (cases_lt (reach y) (reach x)) [
        | inl less ↦ inl (omega (arith, less))
        | inr more ↦ inr more
      ]

  -- so the row has no more columns than there are up to the cell, if it ends by each that is farther right and by which its labels end
  row_has_room : width_of (row_text (row_at rows r)) ≤ layout.label_end
  row_has_room =
      elim (first_of (λ l. is_here l && is_last l) (λ x y. x.cell ≤ y.cell) compare (λ x y z one two. omega (arith, one, two)) stand.labels) [
        | inl none ↦ open_row none
        | inr found ↦ last_row found
      ]
    where
      compare : (x y : PlacedLabel) → (x.cell ≤ y.cell) ⊎ (y.cell ≤ x.cell)
      compare x y = elim (cases_lt x.cell y.cell) [
        | inl less ↦ inl (omega (arith, less))
        | inr more ↦ inr more
      ]

-- each row has room where all entries end by the cell, and the rows of each label that has room for 20 columns whatever entries do
module _ (layout : Layout) (es : List LineAnnotation) (rows : List (List Cell)) (stand : LabelsStand layout es rows) (cut : layout.label_lines ≡ true)
    (room : All (HasPieceRoom layout.label_end) stand.labels) (left : (r c : ℕ) → c < layout.code → IsNarrow (cell_at rows r c).ch) where
  pub rows_have_room : layout.code < layout.label_end → All (EndsBy layout layout.label_end) es → (r : ℕ)
      → width_of (row_text (row_at rows r)) ≤ layout.label_end
  rows_have_room right end r =
      row_has_room layout es rows stand cut right room left r (λ edge wide shown. stand.within edge (omega (arith, right, wide)) (λ k d within. record {
        begins = omega (arith, (end k d within).begins, wide);
        ends = omega (arith, (end k d within).ends, wide);
      }) r shown)

  pub label_rows_have_room : All (λ l. shows_any l.pieces ≡ true → l.cell + 20 ≤ layout.label_end → (n : ℕ) → n < length l.pieces
      → width_of (row_text (row_at rows (l.row + n))) ≤ layout.label_end) stand.labels
  label_rows_have_room k d within some wide n inside =
      let l : PlacedLabel = get_or stand.labels k d in
      let right : layout.code < layout.label_end = elim (stand.stand k d within some).place [
        | inl at ↦ omega (arith, wide, at.1)
        | inr at ↦ omega (arith, wide, at.1)
      ] in
      row_has_room layout es rows stand cut right room left (l.row + n) (λ edge far shown.
      stand.labelled cut edge far k d within some wide n inside shown)

-- ---- left of the code

-- the cells of a row that isn't written on
spaces_first : (n : ℕ) (after : List Cell) → ((c : ℕ) → IsNarrow (get_or after c SPACE).ch) → (c : ℕ)
    → IsNarrow (get_or (replicate n SPACE ++ after) c SPACE).ch
spaces_first zero after own c = own c
spaces_first (suc n) after own zero = narrow_space
spaces_first (suc n) after own (suc c) = spaces_first n after own c

narrow_separator : (decor : DecorStyle) (c : ℕ) → IsNarrow (get_or (text_cells LineNumber (separator_of decor ∷ [])) c SPACE).ch
unfolding char_width unicode_width
narrow_separator Ascii zero = one_column 0x7C refl
narrow_separator Ascii (suc c) = narrow_space
narrow_separator Unicode zero = one_column 0x2502 refl
narrow_separator Unicode (suc c) = narrow_space

narrow_closing : (decor : DecorStyle) (c : ℕ) → IsNarrow (get_or (text_cells LineNumber (closing_of decor)) c SPACE).ch
unfolding char_width unicode_width
narrow_closing Ascii zero = one_column 0x7C refl
narrow_closing Ascii (suc c) = narrow_space
narrow_closing Unicode zero = one_column 0x2570 refl
narrow_closing Unicode (suc zero) = one_column 0x2574 refl
narrow_closing Unicode (suc (suc c)) = narrow_space

narrow_bare : (decor : DecorStyle) (gutter c : ℕ) (closes : Bool) → IsNarrow (get_or (bare_row decor gutter closes) c SPACE).ch
narrow_bare decor gutter c true = spaces_first (gutter + 1) (text_cells LineNumber (closing_of decor)) (narrow_closing decor) c
narrow_bare decor gutter c false = spaces_first (gutter + 1) (text_cells LineNumber (separator_of decor ∷ [])) (narrow_separator decor) c

-- no cell left of the code is wide
pub narrow_left : (layout : Layout) (plain : Bool) (es : List LineAnnotation) (closes : ℕ → Bool) (rows : List (List Cell))
    → ((k : ℕ) → k < length rows → IsStrokeRow layout plain es (closes k) (row_at rows k)) → (r c : ℕ) → c < layout.code
    → IsNarrow (cell_at rows r c).ch
narrow_left layout plain es closes rows are r c before =
    elim (cases_lt r (length rows)) [
      | inl inside ↦ elim (cases_lt c (inner_cell layout)) [
        | inl outer ↦ subst (λ (x : Cell). IsNarrow x.ch) (sym ((are r inside).left c outer)) (narrow_bare layout.decor layout.gutter c (closes r))
        | inr inner ↦ narrow_bar layout.decor (cell_at rows r c) ((are r inside).bar_cells c inner before)
      ]
      | inr past ↦ subst (λ (row : List Cell). IsNarrow (get_or row c SPACE).ch) (sym (get_or_past rows r [] past)) (nothing c)
    ]
  where
    nothing : (c : ℕ) → IsNarrow (get_or [] c SPACE).ch
    nothing c = narrow_space
