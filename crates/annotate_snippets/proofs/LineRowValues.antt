-- The rows that a line has by the rule of the graphic form: how many they are where one entry stands on it, and the bar that runs past.
use Rattle.annotate_snippets.proofs.Common.{◌≡◌, ℕ, ◌+◌, ◌<◌, ◌≤◌, cond, Bool, true, false, List, [], ◌∷◌, All, length, map, get_or}
use Rattle.annotate_snippets.proofs.Common.{refl, sym, ap, subst, ◌∙◌, arith, zip, get_or-map, length-map, All-cons, All-nil, cell_at, row_at, Layout}
use Rattle.annotate_snippets.proofs.Common.{Cell, SPACE, slice_index_or-written_inside, LineAnnotation, shifted, line_positions, look_counts, placed_of}
use Rattle.annotate_snippets.proofs.Common.{positions, PlacedEntry, Bar, ends_of_bars, is_whole_line, bar_beside, Other, row_count, line_rows, own_rows}
use Rattle.annotate_snippets.proofs.Common.{stroke_rows, line_positions_low, positions_sole, placed_at, are_starts, max, placed_of-at, stroke_rows-count}
use Rattle.std.specs.Prelude.{◌&&◌, nat_lt}
use Rattle.snippet_strokes.specs.Squeezed.{middles_replaced, squeezed}
use Rattle.snippet_strokes.proofs.SqueezedLemmas.{Line, unbroken_same}

-- one entry whose label is not cut asks for one
lone_count : (layout : Layout) (e : LineAnnotation) → row_count (placed_of (record layout { label_lines = false }) (e ∷ [])) ≡ 1
lone_count layout e =
    let uncut : Layout = record layout { label_lines = false } in
    let bare : PlacedEntry = placed_at uncut (e, (0, 0)) in
    let Low : ℕ → Type 0 = λ q. q ≤ 0 in
    let first : All Low (positions 0 (bare ∷ [])) = subst (All Low) (sym (positions_sole bare)) (All-cons Low 0 [] (omega arith) (All-nil Low)) in
    ap row_count (placed_of-at uncut (e ∷ [])) ∙ counted (line_positions (bare ∷ [])) (look_counts 0 (bare ∷ [])) (line_positions_low 0 (bare ∷ []) first)
  where
    beside : (starts : Bool) → ◌≡◌ {A = ℕ} (cond starts 0 0) 0
    beside true = refl
    beside false = refl

    counted : (ps ls : List ℕ) → All (λ q. q ≤ 0) ps → row_count (map (placed_at (record layout { label_lines = false })) (zip (e ∷ []) (zip ps ls))) ≡ 1
    counted [] ls low = refl
    counted (p ∷ ps) [] low = refl
    counted (p ∷ ps) (l ∷ ls) low =
        let none : p ≡ 0 = omega (arith, low 0 0 (omega arith)) in
        ap (λ q. row_count (placed_at (record layout { label_lines = false }) (e, (q, l)) ∷ [])) none
        ∙ ap (λ n. max 0 n + 1) (beside (are_starts (placed_at (record layout { label_lines = false }) (e, (0, l)) ∷ [])))

-- rows that are changed one by one are as many
mapped_count : (f : List Cell → List Cell) (rows : List (List Cell)) (n : ℕ) → length rows ≡ n → length (map f rows) ≡ n
mapped_count f rows n long = length-map rows f ∙ long

-- what a change leaves in a cell of each row stands there in each row that is changed
mapped_cell : (f : List Cell → List Cell) (rows : List (List Cell)) (c : ℕ) (part : Cell) → ((row : List Cell) → get_or (f row) c SPACE ≡ part)
    → (i : ℕ) → i < length (map f rows) → cell_at (map f rows) i c ≡ part
mapped_cell f rows c part left i within = cc (get_or-map f rows i [] [] (omega (arith, within, length-map rows f)), left (row_at rows i))

-- a row of a line on which no bar begins or ends, with those that are open above it
abbrev with_open : Layout → List Bar → List Cell → List Cell
with_open layout bars row = row_at (line_rows layout 0 false [] 0 bars [] row) 0

-- one of two ways to make rows
few_either : (b : Bool) (row : List Cell) (rows : List (List Cell)) → length rows ≡ 2 → length (cond b (row ∷ []) rows) ≤ 2
few_either true row rows two = omega arith
few_either false row rows two = omega (arith, two)

some_either : (b : Bool) (row : List Cell) (rows : List (List Cell)) (n : ℕ) → length rows ≡ n + 1 → 0 < length (cond b (row ∷ []) rows)
some_either true row rows n some = omega arith
some_either false row rows n some = omega (arith, some)

module _ (layout : Layout) (room : ℕ) (closes : Bool) (text : List ℕ) (dropped : ℕ) (source : List Cell) where
  own_some : (es : List LineAnnotation) → 0 < length (own_rows layout room closes text dropped es source)
  own_some [] = omega arith
  own_some (e ∷ es) =
      let line : Line = squeezed layout room (map (shifted dropped) (e ∷ es)) in
      let now : List Cell = middles_replaced layout room line.1 source in
      some_either (is_whole_line text (e ∷ es)) _ (stroke_rows layout room closes line.0 now) _ (stroke_rows-count layout room closes line.0 now)

  -- a line has a row at least
  pub line_rows-some : (open_bars : List Bar) (es : List LineAnnotation) → 0 < length (line_rows layout room closes text dropped open_bars es source)
  line_rows-some open_bars es = grind (arith, mapped_count, own_some)

  -- a line with one entry, whose label is not cut, has one row below its source row at most
  pub lone_line_rows : layout.label_lines ≡ false → (open_bars : List Bar) (es : List LineAnnotation) → length es ≡ 1
      → length (line_rows layout room closes text dropped open_bars es source) ≤ 2
  lone_line_rows uncut open_bars [] one = absurd (omega (arith, one))
  lone_line_rows uncut open_bars (e ∷ f ∷ es) one = absurd (omega (arith, one))
  lone_line_rows uncut open_bars (e ∷ []) one =
      let rows_of : Line → List (List Cell) = λ line. stroke_rows layout room closes line.0 (middles_replaced layout room line.1 source) in
      let strokes : List (List Cell) = rows_of (squeezed layout room (shifted dropped e ∷ [])) in
      let same_line = unbroken_same layout room (shifted dropped e ∷ []) (ap (λ b. b && nat_lt 0 layout.label_end) uncut) in
      let count : row_count (placed_of layout (shifted dropped e ∷ [])) ≡ 1 =
      ap (λ cut. row_count (placed_of (record layout { label_lines = cut }) (shifted dropped e ∷ []))) uncut ∙ lone_count layout (shifted dropped e) in
      let two : length strokes ≡ 2 = omega (
        arith,
        ap (λ (l : Line). length (rows_of l)) same_line,
        stroke_rows-count layout room closes (shifted dropped e ∷ []) source,
        count,
      ) in
      let few : length (own_rows layout room closes text dropped (e ∷ []) source) ≤ 2 = few_either (is_whole_line text (e ∷ [])) _ strokes two in
      let same : length (line_rows layout room closes text dropped open_bars (e ∷ []) source)
      ≡ length (own_rows layout room closes text dropped (e ∷ []) source) = mapped_count _ (own_rows layout room closes text dropped (e ∷ []) source) _ refl in
      omega (arith, same, few)

  -- the bar that alone is open above a line on which none begins or ends stands beside each of its rows
  pub bar_beside_line : (bar : Bar) (es : List LineAnnotation) → ends_of_bars es ≡ [] → (i : ℕ)
      → i < length (line_rows layout room closes text dropped (bar ∷ []) es source)
      → cell_at (line_rows layout room closes text dropped (bar ∷ []) es source) i (layout.gutter + 2 + bar.depth) ≡ bar_beside layout Other bar
  bar_beside_line bar es none i within =
      let own : List (List Cell) = own_rows layout room closes text dropped es source in
      let part : Cell = bar_beside layout Other bar in
      let cell : ℕ = layout.gutter + 2 + bar.depth in
      let at : cell ≡ cell + 0 = omega arith in
      let same : line_rows layout room closes text dropped (bar ∷ []) es source ≡ map (with_open layout (bar ∷ [])) own = rw none refl in
      let there : i < length (map (with_open layout (bar ∷ [])) own) = omega (arith, within, ap length same) in
      ap (λ rows. cell_at rows i cell) same
      ∙ mapped_cell (with_open layout (bar ∷ [])) own cell part (λ row. ap (λ c. get_or (with_open layout (bar ∷ []) row) c SPACE) at
      ∙ slice_index_or-written_inside SPACE row cell (part ∷ []) 0 SPACE (omega arith)) i there
