-- A grid keeps as many runs as its cells need at least, and no more than they can have.
use Rattle.snippet_grid.proofs.Common.{◌≡◌, ℕ, zero, suc, ◌+◌, ◌-◌, ◌<◌, ◌≤◌, List, ◌∷◌, ◌++◌, length, map, take, drop}
use Rattle.snippet_grid.proofs.Common.{get_or, false, if◌then◌else◌, Option, None, Some, refl, sym, ap, ◌∙◌, subst, arith, inl, inr, All}
use Rattle.snippet_grid.proofs.Common.{cases_Bool, cases_lt, cases_eq, take-append-drop, drop_more, get_or_default, get_or_past, get_or-drop, length-drop}
use Rattle.snippet_grid.proofs.Common.{AllPairs, range_with_len, option_copied, Cell, SPACE, Look, look_of, goes_on, fewest_after, most_after, fewest_runs}
use Rattle.snippet_grid.proofs.Common.{most_runs, IsGrid, Precedes, run_cell, holds, shown_cell, grid_shown, Run}
use Rattle.snippet_grid.proofs.RowWoven.{painted_unheld}
use Rattle.snippet_grid.proofs.RunBoundLemmas.{cells_at, look_is, fewest_gap, fewest_run, most_gap, most_left, most_run}
use Rattle.snippet_grid.proofs.RunLemmas.{none}
use Rattle.snippet_grid.proofs.ShownLemmas.{painted-append, pick, holds_inside, holds_elsewhere, holds_before, holds-after}

-- the look of a run
abbrev run_look : Run → Look
run_look run = record { role = run.role; link = option_copied run.link }

-- a run stands before a cell, and from it on
record Before (row cell : ℕ) (run : Run) : Type 0 where
  rows : run.row ≤ row
  cells : run.row ≡ row → run.cell + run.count ≤ cell

record From (row cell : ℕ) (run : Run) : Type 0 where
  rows : row ≤ run.row
  cells : run.row ≡ row → cell ≤ run.cell

-- so many runs stand before a cell, and the others from it on
record AreSplit (runs : List Run) (row cell k : ℕ) : Type 0 where
  before : (j : ℕ) (d : Run) → j < k → j < length runs → Before row cell (get_or runs j d)
  from : (j : ℕ) (d : Run) → k ≤ j → j < length runs → From row cell (get_or runs j d)

-- no run holds a cell between these
space_between : (text : List ℕ) (runs : List Run) (row low high c k : ℕ) → AreSplit runs row low k → AreSplit runs row high k → low ≤ c → c < high
    → shown_cell text runs row c ≡ SPACE
space_between text runs row low high c k start end after ahead =
    painted_unheld text row c SPACE runs (λ j d within.
    elim (cases_eq (get_or runs j d).row row) [
      | inr other ↦ holds_elsewhere (get_or runs j d) row c other
      | inl here ↦ elim (cases_lt j k) [
        | inl before ↦ holds-after (get_or runs j d) row c (omega (arith, (start.before j d before within).cells here))
        | inr later ↦ holds_before (get_or runs j d) row c (omega (arith, (end.from j d later within).cells here))
      ]
    ])

-- a run's cells have its look
look_within : (text : List ℕ) (runs : List Run) (row c k : ℕ) (d : Run) → AllPairs (λ a b. Precedes a b) runs → k < length runs
    → (let run = get_or runs k d in run.row ≡ row → run.cell ≤ c → c < run.cell + run.count → run_look run ≡ look_of (shown_cell text runs row c))
look_within text runs row c k d ordered within =
    λ here low high.
    let run : Run = get_or runs k d in
    let front = take k runs in
    let back = drop (k + 1) runs in
    let split : runs ≡ front ++ run ∷ back = sym (take-append-drop k runs) ∙ ap (λ (xs : List Run). front ++ xs) (drop_more runs k d within) in
    let below : Cell = shown_cell text front row c in
    let later : All (λ x. holds x row c ≡ false) back = λ j e inside.
    let after : k + 1 + j < length runs = omega (arith, length-drop (k + 1) runs) in
    let precedes : Precedes run (get_or runs (k + 1 + j) e) = subst (λ (x : Run). Precedes x (get_or runs (k + 1 + j) e)) (get_or_default runs k e d within)
    (ordered k (k + 1 + j) e (omega arith) after) in
    let no : holds (get_or runs (k + 1 + j) e) row c ≡ false = elim (cases_eq (get_or runs (k + 1 + j) e).row row) [
      | inr other ↦ holds_elsewhere (get_or runs (k + 1 + j) e) row c other
      | inl same ↦ holds_before (get_or runs (k + 1 + j) e) row c (omega (arith, precedes.cells (here ∙ sym same)))
    ] in
    subst (λ (x : Run). holds x row c ≡ false) (sym (get_or-drop (k + 1) runs j e)) no in
    let cell : shown_cell text runs row c ≡ run_cell text run c =
    ap (λ (xs : List Run). shown_cell text xs row c) split ∙ painted-append text row c SPACE front (run ∷ back) ∙ painted_unheld text row c
    (if holds run row c then run_cell text run c else below) back later ∙ pick (run_cell text run c) below (holds_inside run row c here low high) in
    sym (ap look_of cell)

-- what is counted from a cell of a row on, before which so many runs stand
record IsCounted (text : List ℕ) (runs : List Run) (row cell width k : ℕ) : Type 0 where
  next : ℕ
  within : next ≤ length runs
  split : AreSplit runs (row + 1) 0 next
  least : (s : Option Look) → fewest_after s (cells_at (λ c. shown_cell text runs row c) cell (width - cell)) ≤ next - k
  some : k ≤ next
  free : next ≤ k + most_after None (cells_at (λ c. shown_cell text runs row c) cell (width - cell))
  touched : (look : Look) → ((get_or runs k none).row ≡ row → (get_or runs k none).cell ≡ cell → k < length runs → look ≡ run_look (get_or runs k none) → ⊥)
      → next ≤ k + most_after (Some look) (cells_at (λ c. shown_cell text runs row c) cell (width - cell))

-- where the rest of a row is bare spaces, none is counted
rest_bare : (text : List ℕ) (runs : List Run) (row cell width k : ℕ) → cell ≤ width → k ≤ length runs → AreSplit runs row cell k →
    ((j : ℕ) (d : Run) → k ≤ j → j < length runs → row < (get_or runs j d).row) → IsCounted text runs row cell width k
rest_bare text runs row cell width k fits within split past =
    let f = λ (c : ℕ). shown_cell text runs row c in
    let end : AreSplit runs row width k = record {
      before = λ j d first inside. record {
        rows = (split.before j d first inside).rows;
        cells = λ here. omega (arith, (split.before j d first inside).cells here);
      };
      from = λ j d later inside. record { rows = (split.from j d later inside).rows; cells = λ here. absurd (omega (arith, past j d later inside)) };
    } in
    let space : (c : ℕ) → cell ≤ c → c < width → f c ≡ SPACE = λ c low high. space_between text runs row cell width c k split end low high in
    let bare = fewest_gap f (width - cell) (width - cell) cell width 0 0 (omega arith) (omega arith) space (λ s. omega arith) in
    record {
      next = k;
      within = within;
      split = record {
        before = λ j d first inside. record {
          rows = omega (arith, (split.before j d first inside).rows);
          cells = λ here. absurd (omega (arith, (split.before j d first inside).rows));
        };
        from = λ j d later inside. record { rows = omega (arith, past j d later inside); cells = λ here. omega arith };
      };
      least = λ s. omega (arith, bare s);
      some = omega arith;
      free = omega arith;
      touched = λ look no. omega arith;
    }

-- the runs from one on, in its row, are counted
row_counted : (text : List ℕ) (runs : List Run) (widths : List ℕ) (row width : ℕ) → IsGrid text runs widths → width ≡ get_or widths row 0
    → (left k cell : ℕ) → k + left ≡ length runs → cell ≤ width → AreSplit runs row cell k → IsCounted text runs row cell width k
row_counted text runs widths row width grid is zero k cell all fits split =
    rest_bare text runs row cell width k fits (omega arith) split (λ j d later inside. absurd (omega arith))
row_counted text runs widths row width grid is (suc left) k cell all fits split =
    let f = λ (c : ℕ). shown_cell text runs row c in
    let run : Run = get_or runs k none in
    let within : k < length runs = omega arith in
    let follows : (j : ℕ) (d : Run) → k < j → j < length runs → Precedes run (get_or runs j d) = λ j d later inside. subst
    (λ (x : Run). Precedes x (get_or runs j d)) (get_or_default runs k d none within) (grid.ordered k j d later inside) in
    elim (cases_eq run.row row) [
      | inr other ↦ rest_bare text runs row cell width k fits (omega arith) split (λ j d later inside.
          let first : row < run.row = omega (arith, (split.from k none (omega arith) within).rows, other) in
          elim (cases_eq k j) [
            | inl same ↦ omega (arith, first, ap (λ i. (get_or runs i d).row) same, ap (λ (x : Run). x.row) (get_or_default runs k d none within))
            | inr further ↦ omega (arith, first, (follows j d (omega arith) inside).rows)
          ])
      | inl here ↦
          let starts : cell ≤ run.cell = (split.from k none (omega arith) within).cells here in
          let end : ℕ = run.cell + run.count in
          let reaches : run.cell + run.count ≤ width = omega (arith, grid.inside k none within, ap (λ r. get_or widths r 0) here, is) in
          let some : 0 < run.count = (grid.are_runs k none within).some in
          let at : AreSplit runs row run.cell k = record {
            before = λ j d first inside. record {
              rows = (split.before j d first inside).rows;
              cells = λ same. omega (arith, (split.before j d first inside).cells same, starts);
            };
            from = λ j d later inside. record {
              rows = (split.from j d later inside).rows;
              cells = λ same. elim (cases_eq k j) [
                | inl is_it ↦ omega (arith, ap (λ i. (get_or runs i d).cell) is_it, ap (λ (x : Run). x.cell) (get_or_default runs k d none within))
                | inr further ↦ omega (arith, (follows j d (omega arith) inside).cells (here ∙ sym same))
              ];
            };
          } in
          let done : AreSplit runs row (run.cell + run.count) (k + 1) = record {
            before = λ j d first inside. elim (cases_lt j k) [
              | inl before ↦ record {
                rows = (split.before j d before inside).rows;
                cells = λ same. omega (arith, (split.before j d before inside).cells same, starts);
              }
              | inr last ↦
                  let read : get_or runs j d ≡ run = ap (λ i. get_or runs i d) (let it : j ≡ k = omega arith in it) ∙ get_or_default runs k d none within in
                  record { rows = omega (arith, ap (λ (x : Run). x.row) read, here); cells = λ same. omega (arith, ap (λ (x : Run). x.cell + x.count) read) }
            ];
            from = λ j d later inside. record {
              rows = (split.from j d (omega arith) inside).rows;
              cells = λ same. (follows j d (omega arith) inside).cells (here ∙ sym same);
            };
          } in
          let rest : IsCounted text runs row (run.cell + run.count) width (k + 1) = row_counted text runs widths row width grid is left (k + 1)
          (run.cell + run.count) (omega arith) reaches done in
          let space : (c : ℕ) → cell ≤ c → c < run.cell → f c ≡ SPACE = λ c low high. space_between text runs row cell run.cell c k split at low high in
          let alike : (c : ℕ) → run.cell ≤ c → c < run.cell + run.count → run_look run ≡ look_of (f c) =
          λ c low high. look_within text runs row c k none grid.ordered within here low high in
          let apart : (get_or runs (k + 1) none).row ≡ row → (get_or runs (k + 1) none).cell ≡ run.cell + run.count → k + 1 < length runs
          → run_look run ≡ run_look (get_or runs (k + 1) none) → ⊥ =
          λ in_row touches inside same. grid.apart k (k + 1) none
          (omega arith) inside record {
            row = here ∙ sym in_row;
            touches = sym touches;
            role = ap (λ (l : Look). l.role) same;
            link = ap (λ (l : Look). l.link) same;
          } in
          let more = rest.touched (run_look run) apart in
          let least = fewest_gap f (run.cell - cell) (width - cell) cell run.cell (width - run.cell) (1 + (rest.next - (k + 1))) (omega (arith, starts))
          (omega (arith, starts, reaches)) space
          (fewest_run f (run_look run) run.count (width - run.cell) run.cell (run.cell + run.count) (width - (run.cell + run.count)) (rest.next - (k + 1))
          (omega arith) (omega (arith, reaches)) alike rest.least) in
          let begins : (before : Option Look) → goes_on before (f run.cell) ≡ false → 1 + most_after (Some (run_look run))
          (cells_at f (run.cell + run.count) (width - (run.cell + run.count))) ≤ most_after before (cells_at f run.cell (width - run.cell)) =
          λ before no. most_run f (run_look run) run.count (width - run.cell) run.cell (run.cell + run.count) (width - (run.cell + run.count)) before some
          (omega arith) (omega (arith, reaches)) alike no in
          record {
            next = rest.next;
            within = rest.within;
            split = rest.split;
            least = λ s. omega (arith, least s, rest.some);
            some = omega (arith, rest.some);
            free = omega (
              arith,
              more,
              begins None refl,
              most_gap f (run.cell - cell) (width - cell) cell run.cell (width - run.cell)
                  (omega (arith, starts)) (omega (arith, starts, reaches)) space,
            );
            touched = λ look no. elim (cases_lt cell run.cell) [
              | inl gap ↦ omega (
                arith,
                more,
                begins None refl,
                most_left f look (run.cell - cell) (width - cell) cell run.cell (width - run.cell)
                    (omega arith) (omega (arith, starts)) (omega (arith, starts, reaches)) space,
              )
              | inr touches ↦
                  let same : run.cell ≡ cell = omega (arith, starts, touches) in
                  elim (cases_Bool (goes_on (Some look) (f run.cell))) [
                    | inl on ↦ absurd (no here same within (look_is look (look_of (f run.cell)) on ∙ sym (alike run.cell (omega arith) (omega (arith, some)))))
                    | inr off ↦ omega (arith, more, begins (Some look) off, ap (λ c. most_after (Some look) (cells_at f c (width - c))) same)
                  ]
            ];
          }
    ]

-- the row of this number, as runs show it
abbrev line : List ℕ → List Run → List ℕ → ℕ → List Cell
line text runs widths r = map (λ c. shown_cell text runs r c) (range_with_len 0 (get_or widths r 0))

-- what is counted from a row on, before which so many runs stand
record AreCounted (text : List ℕ) (runs : List Run) (widths : List ℕ) (rows : List (List Cell)) (k : ℕ) : Type 0 where
  next : ℕ
  within : next ≤ length runs
  split : AreSplit runs (length widths) 0 next
  least : fewest_runs rows + k ≤ next
  most : next ≤ k + most_runs rows

rows_counted : (text : List ℕ) (runs : List Run) (widths : List ℕ) → IsGrid text runs widths → (left r k : ℕ) → r + left ≡ length widths → k ≤ length runs
    → AreSplit runs r 0 k → AreCounted text runs widths (map (line text runs widths) (range_with_len r left)) k
rows_counted text runs widths grid zero r k all within split =
    record {
      next = k;
      within = within;
      split = subst (λ i. AreSplit runs i 0 k) (let end : r ≡ length widths = omega arith in end) split;
      least = omega arith;
      most = omega arith;
    }
rows_counted text runs widths grid (suc left) r k all within split =
    let f = λ (c : ℕ). shown_cell text runs r c in
    let width = get_or widths r 0 in
    let row : IsCounted text runs r 0 width k = row_counted text runs widths r width grid refl (length runs - k) k 0 (omega arith) (omega arith) split in
    let below : AreCounted text runs widths (map (line text runs widths) (range_with_len (r + 1) left)) row.next = rows_counted text runs widths grid left
    (r + 1) row.next (omega arith) row.within row.split in
    let whole : width - 0 ≡ width = omega arith in
    record {
      next = below.next;
      within = below.within;
      split = below.split;
      least = omega (arith, below.least, row.least None, row.some, ap (λ n. fewest_after None (cells_at f 0 n)) whole);
      most = omega (arith, below.most, row.free, ap (λ n. most_after None (cells_at f 0 n)) whole);
    }

-- a grid's runs are at least as many as show its rows, and at most as many as can
pub runs_bounded : (text : List ℕ) (runs : List Run) (widths : List ℕ) → IsGrid text runs widths →
    (fewest_runs (grid_shown text runs widths) ≤ length runs) × (length runs ≤ most_runs (grid_shown text runs widths))
unfolding grid_shown
runs_bounded text runs widths grid =
    let all : AreCounted text runs widths (map (line text runs widths) (range_with_len 0 (length widths))) 0 = rows_counted text runs widths grid
    (length widths) 0 0 (omega arith) (omega arith) record {
      before = λ j d first inside. absurd (omega arith);
      from = λ j d later inside. record { rows = omega arith; cells = λ here. omega arith };
    } in
    let end : length runs ≤ all.next = elim (cases_lt all.next (length runs)) [
      | inr past ↦ past
      | inl within ↦
          let run : Run = get_or runs all.next none in
          let below : length widths ≤ run.row = (all.split.from all.next none (omega arith) within).rows in
          absurd (omega (arith, grid.inside all.next none within, get_or_past widths run.row 0 below, (grid.are_runs all.next none within).some))
    ] in (omega (arith, all.least, all.within), omega (arith, all.most, end))
