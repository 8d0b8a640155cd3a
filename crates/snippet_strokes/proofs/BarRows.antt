-- Rows with bars: what drawing them one side after another makes.
use Rattle.snippet_strokes.proofs.Common.{◌≡◌, ◌≢◌, ℕ, zero, suc, ◌+◌, ◌<◌, Bool, List, [], ◌∷◌, length, get_or, sym, ap, ◌∙◌}
use Rattle.snippet_strokes.proofs.Common.{arith, inl, inr, Contains, cases_eq, cases_lt, get_or-map, length-map, All-head, All-tail, cell_at, row_at, Cell}
use Rattle.snippet_strokes.proofs.Common.{SPACE, slice_index_or-written_after, slice_index_or-written_before, slice_index_or-written_inside, LineAnnotation}
use Rattle.snippet_strokes.proofs.Common.{BarStroke, Solid, OpenBar, Layout, bars_apart, ends_of_bars, HasOwnDepth, bar_cell_part, ◌-◌, ◌≤◌, ◌++◌}
use Rattle.snippet_strokes.proofs.Common.{map, take, drop, replicate, refl, subst, drop_all, ext_get_or, get_or_append_left, get_or-append_right, get_or-drop}
use Rattle.snippet_strokes.proofs.Common.{get_or-take, length-append, length-drop, length-take-le, take_all, take_more, fold-append, cells_written}
use Rattle.snippet_strokes.proofs.Common.{row_at-cells_written_other, row_at-cells_written_same, WritesCells-cells_written, written, StandsBeside, barred}
use Rattle.snippet_strokes.proofs.Common.{changed_from, rules, places}
use Rattle.snippet_strokes.proofs.CellLemmas.{with_parts, with_bar}
use Rattle.snippet_strokes.proofs.WriteLaws.{AreLineRows}

-- ---- rows that were changed by a rule

-- each row from one to before another, as far as there are rows, was changed by this rule, and nothing else
pub record ChangesRows (rule : List Cell → List Cell) (row end : ℕ) (old new : List (List Cell)) : Type 0 where
  pub inside : (r : ℕ) → row ≤ r → r < end → r < length old → row_at new r ≡ rule (row_at old r)
  pub before : (r : ℕ) → r < row → row_at new r ≡ row_at old r
  pub after : (r : ℕ) → end ≤ r → row_at new r ≡ row_at old r
  pub count : length new ≡ length old

-- rows stay where the end is at the first row or above it
pub ChangesRows-none : (rule : List Cell → List Cell) (row end : ℕ) (rows : List (List Cell)) → end ≤ row → ChangesRows rule row end rows rows
ChangesRows-none rule row end rows none = search rules

-- one row more, in which these cells were written
pub ChangesRows-next : (at : ℕ) (cells : List Cell) (row r : ℕ) (old mid new : List (List Cell)) → row ≤ r → r < length old
    → ChangesRows (λ cs. written SPACE cs at cells) row r old mid → new ≡ cells_written mid r at cells
    → ChangesRows (λ cs. written SPACE cs at cells) row (r + 1) old new
ChangesRows-next at cells row r old mid new low there done writes =
    let here : row_at new r ≡ written SPACE (row_at mid r) at cells = ap (λ rows. row_at rows r) writes ∙ row_at-cells_written_same mid r at cells in
    record {
      inside = λ n from to within. elim (cases_eq n r) [
        | inl same ↦
            ap (row_at new) same ∙ here ∙ ap (λ cs. written SPACE cs at cells) (done.after r (omega arith) ∙ ap (row_at old) (sym same))
        | inr other ↦ beside n other ∙ done.inside n from (omega (arith, to, other)) within
      ];
      before = λ n above. beside n (λ same. omega (arith, same, above, low)) ∙ done.before n above;
      after = λ n below. beside n (λ same. omega (arith, same, below)) ∙ done.after n (omega (arith, below));
      count = ap length writes ∙ (let count = (WritesCells-cells_written mid r at cells).count in let long : length (cells_written mid r at cells)
          ≡ length old = omega (arith, count, done.count, there) in long);
    }
  where
    beside : (n : ℕ) → (n ≡ r → ⊥) → row_at new n ≡ row_at mid n
    beside n other = ap (λ rows. row_at rows n) writes ∙ row_at-cells_written_other mid r at cells n other

-- where all rows from `row` on were changed, they are a value
pub changed-is : (rule : List Cell → List Cell) (row end : ℕ) (old new : List (List Cell)) → length old ≤ end → ChangesRows rule row end old new
    → new ≡ changed_from rule row old
changed-is rule row end old new all changes =
    elim (cases_lt row (length old)) [
      | inl inside ↦
          let short : length (take row old) ≡ row = length-take-le row old (omega (arith, inside)) in
          ext_get_or [] new (changed_from rule row old) (omega (
            arith,
            changes.count,
            length-append (take row old) (map rule (drop row old)),
            length-map
                (drop row old) rule,
            length-drop row old,
            short,
            inside,
          )) (λ r within. elim (cases_lt r row) [
            | inl above ↦
                changes.before r above ∙ sym (get_or_append_left (take row old) (map rule (drop row old)) [] r (omega (arith, short, above))
                ∙ get_or-take row old r [] above)
            | inr low ↦
                let there : r < length old = omega (arith, within, changes.count) in
                let place : row + (r - row) ≡ r = omega (arith, low) in
                changes.inside r low (omega (arith, there, all)) there
                ∙ sym (get_or-append_right (take row old) (map rule (drop row old)) row r [] short low
                ∙ get_or-map rule (drop row old) (r - row) [] [] (omega (arith, length-drop row old, there, low))
                ∙ ap rule (get_or-drop row old (r - row) [] ∙ ap (row_at old) place))
          ])
      | inr past ↦
          let whole : take row old ≡ old = take_all row old (omega (arith, past)) in
          let none : drop row old ≡ [] = drop_all row old (omega (arith, past)) in
          ext_get_or [] new old changes.count (λ r within. changes.before r (omega (arith, within, changes.count, past)))
          ∙ sym (ap (λ rows. take row old ++ map rule rows) none ∙ append_none (take row old) ∙ whole)
    ]
  where
    append_none : (rows : List (List Cell)) → rows ++ [] ≡ rows
    append_none [] = refl
    append_none (x ∷ rows) = ap (λ rs. x ∷ rs) (append_none rows)

-- a rule that changes nothing
pub changed_same : (rule : List Cell → List Cell) (row : ℕ) (rows : List (List Cell)) → ((cells : List Cell) → rule cells ≡ cells)
    → changed_from rule row rows ≡ rows
changed_same rule zero [] same = refl
changed_same rule zero (x ∷ rows) same = ap (λ y. y ∷ map rule rows) (same x) ∙ ap (λ rs. x ∷ rs) (changed_same rule zero rows same)
changed_same rule (suc row) [] same = refl
changed_same rule (suc row) (x ∷ rows) same = ap (λ rs. x ∷ rs) (changed_same rule row rows same)

-- one rule after another, where a third one does what both do
pub changed-more : (first second both : List Cell → List Cell) (row : ℕ) (rows : List (List Cell)) → ((cells : List Cell) → second (first cells) ≡ both cells)
    → changed_from second row (changed_from first row rows) ≡ changed_from both row rows
changed-more first second both zero [] same = refl
changed-more first second both zero (x ∷ rows) same =
    ap (λ y. y ∷ map second (map first rows)) (same x) ∙ ap (λ rs. both x ∷ rs) (changed-more first second both zero rows same)
changed-more first second both (suc row) [] same = refl
changed-more first second both (suc row) (x ∷ rows) same = ap (λ rs. x ∷ rs) (changed-more first second both row rows same)

-- bars beside the rows that stand below others
pub barred-below : (layout : Layout) (stroke : BarStroke) (bars : List OpenBar) (above rows : List (List Cell))
    → barred layout stroke bars (length above) (above ++ rows) ≡ above ++ map (with_parts layout stroke bars) rows
barred-below layout stroke bars [] rows = refl
barred-below layout stroke bars (x ∷ above) rows = ap (λ rs. x ∷ rs) (barred-below layout stroke bars above rows)

-- ---- bars that stand side by side

-- a cell more of a text that repeats one
written-next : (row : List Cell) (at n : ℕ) (cell : Cell)
    → written SPACE (written SPACE row at (replicate n cell)) (at + n) (cell ∷ []) ≡ written SPACE row at (replicate (n + 1) cell)
unfolding written
written-next row at n cell = ext_get_or SPACE _ _ (grind (arith, places)) (λ k h. grind (arith, places))

module _ (layout : Layout) (stroke : BarStroke) where
  -- a bar that stands so many cells right of another, in its role, has its part
  beside_part : (first bar : OpenBar) (k : ℕ) (row : List Cell) → StandsBeside first k bar
      → with_bar layout stroke row bar ≡ written SPACE row (layout.gutter + 2 + first.depth + k) (bar_cell_part layout stroke first ∷ [])
  beside_part first bar k row beside = search rules

  -- one bar more
  bars_more : (bars : List OpenBar) (i : ℕ) (d : OpenBar) (row : List Cell) → i < length bars
      → with_parts layout stroke (take (i + 1) bars) row ≡ with_bar layout stroke (with_parts layout stroke (take i bars) row) (get_or bars i d)
  bars_more bars i d row within =
      ap (λ bs. with_parts layout stroke bs row) (take_more bars i d within) ∙ fold-append (with_bar layout stroke) row (take i bars) (get_or bars i d ∷ [])

  -- bars that stand side by side are one text
  side_more : (bars : List OpenBar) (from n : ℕ) (first : OpenBar) (row : List Cell) → from + (n + 1) ≤ length bars
      → ((k : ℕ) (d : OpenBar) → k < n + 1 → StandsBeside first k (get_or bars (from + k) d))
      → written SPACE (with_parts layout stroke (take from bars) row) (layout.gutter + 2 + first.depth)
      (replicate (n + 1) (bar_cell_part layout stroke first)) ≡ with_parts layout stroke (take (from + (n + 1)) bars) row
  side_more bars from zero first row within beside =
      let here : from + 0 ≡ from = omega arith in
      let at : ℕ = layout.gutter + 2 + first.depth in
      let none : at + 0 ≡ at = omega arith in
      let cells : List Cell = bar_cell_part layout stroke first ∷ [] in
      let before : List Cell = with_parts layout stroke (take from bars) row in
      let own : StandsBeside first 0 (get_or bars from first) = subst (λ i. StandsBeside first 0 (get_or bars i first)) here (beside 0 first (omega arith)) in
      sym (bars_more bars from first row (omega (arith, within)) ∙ beside_part first (get_or bars from first) 0 before own
      ∙ ap (λ n. written SPACE before n cells) none)
  side_more bars from (suc m) first row within beside =
      let at : ℕ = layout.gutter + 2 + first.depth in
      let cell : Cell = bar_cell_part layout stroke first in
      let before : List Cell = with_parts layout stroke (take from bars) row in
      let j : ℕ = suc m in
      let one : m + 1 ≡ j = omega arith in
      let further : from + j + 1 ≡ from + (j + 1) = omega arith in
      let so_far : written SPACE before at (replicate j cell) ≡ with_parts layout stroke (take (from + j) bars) row =
      subst (λ i. written SPACE before at (replicate i cell) ≡ with_parts layout stroke (take (from + i) bars) row)
      one (side_more bars from m first row (omega (arith, within)) (λ k d low. beside k d (omega (arith, low)))) in
      let next = bars_more bars (from + j) first row (omega (arith, within))
      ∙ beside_part first (get_or bars (from + j) first) j (with_parts layout stroke (take (from + j) bars) row) (beside j first (omega arith))
      ∙ ap (λ cells. written SPACE cells (at + j) (cell ∷ [])) (sym so_far) ∙ written-next before at j cell in
      sym next ∙ ap (λ i. with_parts layout stroke (take i bars) row) further

  -- the bars from one place to before another
  pub side_drawn : (bars : List OpenBar) (from to : ℕ) (first : OpenBar) (row : List Cell) → from < to → to ≤ length bars
      → ((k : ℕ) (d : OpenBar) → k < to - from → StandsBeside first k (get_or bars (from + k) d))
      → written SPACE (with_parts layout stroke (take from bars) row) (layout.gutter + 2 + first.depth)
      (replicate (to - from) (bar_cell_part layout stroke first)) ≡ with_parts layout stroke (take to bars) row
  side_drawn bars from to first row some within beside = grind (arith, side_more)

-- Laws of the bars beside the rows of a line.
module _ (layout : Layout) (stroke : BarStroke) (bar : OpenBar) where
  -- the cell of the bar's depth, in a row
  abbrev there : List Cell → Cell
  there row = get_or row (layout.gutter + 2 + bar.depth) SPACE

  abbrev part : OpenBar → Cell
  part b = bar_cell_part layout stroke b

  drawn_there : (row : List Cell) → there (with_bar layout stroke row bar) ≡ part bar
  drawn_there row =
      let at : ℕ = layout.gutter + 2 + bar.depth in
      let same : at + 0 ≡ at = omega arith in
      ap (λ c. get_or (with_bar layout stroke row bar) c SPACE) (sym same) ∙ slice_index_or-written_inside SPACE row at (part bar ∷ []) 0 SPACE (omega arith)

  -- a bar of another depth leaves it
  pub drawn_beside : (b : OpenBar) (row : List Cell) → b.depth ≢ bar.depth → there (with_bar layout stroke row b) ≡ there row
  drawn_beside b row other = grind (arith, cases_lt, slice_index_or-written_before, slice_index_or-written_after, cases_eq)

  -- so it stays below bars of other depths
  stays : (bars : List OpenBar) (row : List Cell) → HasOwnDepth bar bars → there row ≡ part bar → there (with_parts layout stroke bars row) ≡ part bar
  stays [] row alone before = before
  stays (b ∷ bars) row alone before =
      let Q : OpenBar → Type 0 = λ x. x.depth ≡ bar.depth → x ≡ bar in
      stays bars (with_bar layout stroke row b) (All-tail Q b bars alone) (elim (cases_eq b.depth bar.depth) [
        | inl same ↦ ap (λ x. there (with_bar layout stroke row x)) (All-head Q b bars alone same) ∙ drawn_there row
        | inr other ↦ drawn_beside b row other ∙ before
      ])

  -- one of some bars stands in the cell of its depth, in a row over which they are drawn, where no other has that depth
  pub bar_stands : (bars : List OpenBar) (row : List Cell) → HasOwnDepth bar bars → Contains bars bar → there (with_parts layout stroke bars row) ≡ part bar
  bar_stands [] row alone (k, within, same) = absurd (omega arith)
  bar_stands (b ∷ bars) row alone (zero, within, same) =
      stays bars (with_bar layout stroke row b) (All-tail (λ x. x.depth ≡ bar.depth → x ≡ bar) b bars alone)
      (ap (λ x. there (with_bar layout stroke row x)) same ∙ drawn_there row)
  bar_stands (b ∷ bars) row alone (suc k, within, same) =
      bar_stands bars (with_bar layout stroke row b) (All-tail (λ x. x.depth ≡ bar.depth → x ≡ bar) b bars alone) (k, omega arith, same)

module _ (layout : Layout) (room : ℕ) (closes : Bool) (text : List ℕ) (dropped : ℕ) (open_bars : List OpenBar) (es : List LineAnnotation) (source : List Cell)
    (rows : List (List Cell)) where
  -- the bars that are open above a line and go on past it
  abbrev past : List OpenBar
  past = bars_apart open_bars (ends_of_bars es)

  -- so each of these stands beside each of the line's rows, in the cell of its depth, where no other has that depth
  pub bar_past : AreLineRows layout room closes text dropped open_bars es source rows → (bar : OpenBar) → Contains past bar → HasOwnDepth bar past → (i : ℕ)
      → i < length rows → cell_at rows i (layout.gutter + 2 + bar.depth) ≡ bar_cell_part layout Solid bar
  bar_past drawn bar among alone i within =
      let rule : List Cell → List Cell = with_parts layout Solid past in
      let inside : i < length drawn.own = omega (arith, within, ap length drawn.rows_are, length-map drawn.own rule) in
      let row : row_at rows i ≡ rule (row_at drawn.own i) = ap (λ rs. row_at rs i) drawn.rows_are ∙ get_or-map rule drawn.own i [] [] inside in
      ap (λ cells. get_or cells (layout.gutter + 2 + bar.depth) SPACE) row ∙ bar_stands layout Solid bar past (row_at drawn.own i) alone among
