-- Rows in which no stem leads to a label contradict what is promised of labels.
use Rattle.snippet_strokes.proofs.Common.{◌≡◌, ℕ, ◌+◌, ◌-◌, ◌<◌, ◌≤◌, ◌&&◌, nat_le, nat_lt, true, false, List, length}
use Rattle.snippet_strokes.proofs.Common.{count_by, get_or, refl, sym, ap, ◌∙◌, arith, inl, inr, and_parts, cases_Bool, false≢true, nat_tests, cell_at}
use Rattle.snippet_strokes.proofs.Common.{AnnotationKind, Primary, Context, Visible, Cell, SPACE, gives_way, LineAnnotation, Layout, label_role, shows_any}
use Rattle.snippet_strokes.proofs.Common.{[], ◌∷◌, zero, suc}
use Rattle.snippet_strokes.proofs.Common.{is_mark_role}
use Rattle.snippet_strokes.proofs.SeenLabels.{LabelsStand, PlacedLabel, StandsIn, is_cell_of}
use Rattle.snippet_strokes.proofs.LabelPlaces.{none_pass}

-- no cell of a label is a space between other parts
label_role_keeps : (kind : AnnotationKind) → gives_way (label_role kind) ≡ false
label_role_keeps Primary = refl
label_role_keeps Context = refl
label_role_keeps Visible = refl

no_space : (layout : Layout) (rows : List (List Cell)) (l : PlacedLabel) (r c : ℕ) → (shows_any l.pieces ≡ true → StandsIn layout rows l)
    → is_cell_of r c l ≡ true → cell_at rows r c ≡ SPACE → ⊥
no_space layout rows l r c stands is blank =
    let piece : List ℕ = get_or l.pieces (r - l.row) [] in
    let n : ℕ = length piece in
    let outer = and_parts (nat_le l.row r) (nat_le l.cell c && nat_lt c (l.cell + n)) is in
    let inner = and_parts (nat_le l.cell c) (nat_lt c (l.cell + n)) outer.1 in
    let from : l.cell ≤ c = le l.cell c inner.0 in
    let to : c < l.cell + n = lt c (l.cell + n) inner.1 in
    let at : l.cell + (c - l.cell) ≡ c = omega (arith, from) in
    let row : l.row + (r - l.row) ≡ r = omega (arith, le l.row r outer.0) in
    let whole = (stands (any l.pieces (r - l.row) (omega (arith, from, to)))).whole (r - l.row) (c - l.cell) (omega (arith, from, to)) in
    let here : cell_at rows (l.row + (r - l.row)) (l.cell + (c - l.cell)) ≡ SPACE =
    ap (cell_at rows (l.row + (r - l.row))) at ∙ ap (λ m. cell_at rows m c) row ∙ blank in
    false≢true (sym (label_role_keeps l.entry.kind) ∙ sym (ap (λ (cell : Cell). gives_way cell.role) whole) ∙ ap (λ (cell : Cell). gives_way cell.role) here)
  where
    any : (ps : List (List ℕ)) (n : ℕ) → 0 < length (get_or ps n []) → shows_any ps ≡ true
    any [] n some = absurd (omega (arith, some))
    any (p ∷ ps) zero some = grind (arith, nat_tests, some)
    any (p ∷ ps) (suc n) some = grind (arith, any ps n some)

    le : (a b : ℕ) → nat_le a b ≡ true → a ≤ b
    le a b is = grind (arith, nat_tests, is)

    lt : (a b : ℕ) → nat_lt a b ≡ true → a < b
    lt a b is = grind (arith, nat_tests, is)

-- rows with a space between a mark and the label that hangs from it:
--
--     1 | ab cd
--       | -- ^^ y
--       |
--       | x
pub stem_left_out : (layout : Layout) (es : List LineAnnotation) (rows : List (List Cell)) (stand : LabelsStand layout es rows) (k : ℕ) (d : PlacedLabel)
    → k < length stand.labels → shows_any (get_or stand.labels k d).pieces ≡ true → (r : ℕ) → 0 < r → r < (get_or stand.labels k d).row
    → cell_at rows r (get_or stand.labels k d).cell ≡ SPACE → ⊥
stem_left_out layout es rows stand k d within some r under above blank =
    let c : ℕ = (get_or stand.labels k d).cell in
    let none : count_by (is_cell_of r c) stand.labels ≡ 0 = none_pass (is_cell_of r c) stand.labels (λ j x inside.
    elim (cases_Bool (is_cell_of r c (get_or stand.labels j x))) [
      | inl holds ↦ absurd (no_space layout rows (get_or stand.labels j x) r c (stand.stand j x inside) holds blank)
      | inr not ↦ not
    ]) in
    false≢true (sym (ap (λ (c : Cell). is_mark_role c.role) blank) ∙ (stand.led k d within some r under above none).1)
