-- A row whose cells are changed part by part.
use Rattle.snippet_grid.proofs.Common.{common_steps, ◌≡◌, ◌≢◌, ℕ, ◌*◌, ◌+◌, ◌-◌, ◌<◌, ◌≤◌, List, length, get_or, refl, sym, ap, ◌∙◌, arith, inl, inr, All}
use Rattle.snippet_grid.proofs.Common.{cases_lt, cases_eq, changed_by, IsChanged, IsBlankRun, IsPartOfRow, ShowsSpan, Cell, SPACE, IsRun, IsRow, IsPart, IsPut}
use Rattle.snippet_grid.proofs.Common.{BeginsWith, EndsBy, Precedes, run_cell, shown_cell, Change, Run}
use Rattle.snippet_grid.proofs.CopyLemmas.{piece_cell, within_yes, within_before, within_after, span_joined}
use Rattle.snippet_grid.proofs.RowWoven.{painted_unheld, shown_cell-run}
use Rattle.snippet_grid.proofs.ShownLemmas.{pick, painted-grown, holds_inside, holds_elsewhere, holds_before, holds-after}
use Rattle.snippet_grid.proofs.RunLemmas.{BeginsWith-same, BeginsWith-trans}

-- the first cells of a stretch, cut from the run that holds them
pub part_held : (text : List ℕ) (runs : List Run) (part : Run) (d : Run) (row from to end n : ℕ) → IsRow text row runs → n < length runs
    → (get_or runs n d).cell ≤ from → from < end → end ≤ to → end ≤ (get_or runs n d).cell + (get_or runs n d).count
    → IsPart text (get_or runs n d) from end part → IsPartOfRow text row from to (λ c. shown_cell text runs row c) part
part_held text runs part d row from to end n are within low some below high cut =
    let run : Run = get_or runs n d in
    record {
      is_run = cut.is_run;
      row_is = cut.row ∙ are.in_row n d within;
      cell_is = cut.cell;
      within = omega (arith, cut.count);
      cells = λ c first last.
          let place : from + (c - from) ≡ c = omega arith in
          piece_cell text text run part part from from from end c (BeginsWith-same text) (are.are_runs n d within) cut low (omega arith)
          (omega (arith, cut.cell)) refl refl refl refl (omega (arith, cut.cell)) (omega (arith, cut.cell, cut.count))
          ∙ ap (λ i. run_cell text run i) place ∙ sym (shown_cell-run text row c n runs d are within (omega arith) (omega (arith, cut.count)));
    }

-- no run holds a cell between those that end before it and those that begin after it
free_between : (text : List ℕ) (runs : List Run) (row from c n : ℕ) → IsRow text row runs → n ≤ length runs
    → ((d : Run) → 0 < n → (get_or runs (n - 1) d).cell + (get_or runs (n - 1) d).count ≤ from) → from ≤ c
    → ((d : Run) → n < length runs → c < (get_or runs n d).cell) → shown_cell text runs row c ≡ SPACE
free_between text runs row from c n are within before low follows =
    painted_unheld text row c SPACE runs (λ k d inside.
    let x = get_or runs k d in
    elim (cases_lt k n) [
      | inl left ↦ holds-after x row c (elim (cases_eq k (n - 1)) [
        | inl last ↦ omega (arith, ap (λ i. (get_or runs i d).cell + (get_or runs i d).count) last, before d (omega arith))
        | inr other ↦
            let gap : Precedes x (get_or runs (n - 1) d) = are.ordered k (n - 1) d (omega arith) (omega arith) in
            omega (arith, before d (omega arith), gap.cells (are.in_row k d inside ∙ sym (are.in_row (n - 1) d (omega arith))))
      ])
      | inr right ↦ holds_before x row c (elim (cases_eq k n) [
        | inl first ↦ omega (arith, ap (λ i. (get_or runs i d).cell) first, follows d (omega arith))
        | inr other ↦
            let gap : Precedes (get_or runs n d) x = are.ordered n k d (omega arith) inside in
            omega (arith, follows d (omega arith), gap.cells (are.in_row n d (omega arith) ∙ sym (are.in_row k d inside)))
      ])
    ])

-- the first cells of a stretch, which no run holds
pub part_free : (old new : List ℕ) (runs : List Run) (part : Run) (row from to end n : ℕ) → IsRow old row runs → n ≤ length runs
    → ((d : Run) → 0 < n → (get_or runs (n - 1) d).cell + (get_or runs (n - 1) d).count ≤ from)
    → ((d : Run) → n < length runs → end ≤ (get_or runs n d).cell) → end ≤ to → IsBlankRun new row from end part
    → IsPartOfRow new row from to (λ c. shown_cell old runs row c) part
part_free old new runs part row from to end n are within before follows below gap =
    record {
      is_run = gap.is_run;
      row_is = gap.row_is;
      cell_is = gap.cell_is;
      within = omega (arith, gap.count_is);
      cells = λ c first last. gap.cells c ∙ sym (free_between old runs row from c n are within before first (λ d more.
          omega (arith, follows d more, gap.count_is)));
    }

-- what was changed so far, up to a cell
pub record ChangeSoFar (old now : List ℕ) (runs_old runs_now : List Run) (row from to : ℕ) (change : Change) (col : ℕ) : Type 0 where
  pub grows : BeginsWith old now
  pub is_row : IsRow now row runs_now
  pub low : from ≤ col
  pub high : col ≤ to
  pub ends : (n : ℕ) → EndsBy n runs_old → to ≤ n → EndsBy n runs_now
  pub shows : ShowsSpan old now runs_old runs_now row from col (λ c. changed_by change (shown_cell old runs_old row c))
  pub count : length runs_now ≤ length runs_old + 2 * (col - from)

-- a part that was put changed
pub put_span : (now mid new : List ℕ) (runs_now runs_new : List Run) (part changed : Run) (row col to : ℕ) (change : Change) → BeginsWith now mid
    → All (λ x. IsRun now x) runs_now → IsPartOfRow mid row col to (λ c. shown_cell now runs_now row c) part → IsChanged change part changed
    → IsPut mid new runs_now runs_new changed
    → ShowsSpan now new runs_now runs_new row col (col + part.count) (λ c. changed_by change (shown_cell now runs_now row c))
put_span now mid new runs_now runs_new part changed row col to change grows are is same put =
    let g = λ (c : ℕ). changed_by change (shown_cell now runs_now row c) in
    let end : ℕ = col + part.count in
    let row_is : changed.row ≡ row = same.row ∙ is.row_is in
    let cell : changed.cell ≡ col = same.cell ∙ is.cell_is in
    λ c.
    let was : Cell = shown_cell now runs_now row c in
    let kept : shown_cell mid runs_now row c ≡ was = painted-grown now mid row c SPACE runs_now grows are in
    let x : Cell = run_cell mid changed c in
    let y : Cell = shown_cell mid runs_now row c in
    put.shows row c ∙ elim (cases_lt c col) [
      | inl before ↦ pick x y (holds_before changed row c (omega (arith, cell))) ∙ kept ∙ sym (pick (g c) was (within_before col end c before))
      | inr low ↦ elim (cases_lt c end) [
        | inl high ↦ pick x y (holds_inside changed row c row_is (omega (arith, cell)) (omega (arith, cell, same.count))) ∙ same.cells mid c
            ∙ ap (λ (d : Cell). changed_by change d) (is.cells c low high) ∙ sym (pick (g c) was (within_yes col end c low high))
        | inr follows ↦ pick x y (holds-after changed row c (omega (arith, cell, same.count))) ∙ kept ∙ sym (pick (g c) was (within_after col end c follows))
      ]
    ]

-- with one more part changed and put, the row is changed up to the part's end
pub change_next : (old now mid new : List ℕ) (runs_old runs_now runs_new : List Run) (part changed : Run) (row from to : ℕ) (change : Change)
    (col : ℕ) → ChangeSoFar old now runs_old runs_now row from to change col → BeginsWith now mid → BeginsWith mid new
    → IsPartOfRow mid row col to (λ c. shown_cell now runs_now row c) part → IsChanged change part changed → IsPut mid new runs_now runs_new changed
    → ChangeSoFar old new runs_old runs_new row from to change (col + part.count)
change_next old now mid new runs_old runs_now runs_new part changed row from to change col so_far grows more is same put =
    let f = λ (c : ℕ). changed_by change (shown_cell old runs_old row c) in
    let g = λ (c : ℕ). changed_by change (shown_cell now runs_now row c) in
    let here = put_span now mid new runs_now runs_new part changed row col to change grows so_far.is_row.are_runs is same put in
    let ends : changed.cell + changed.count ≤ to = omega (arith, same.cell, is.cell_is, same.count, is.within) in
    record {
      grows = BeginsWith-trans old now new so_far.grows (BeginsWith-trans now mid new grows more);
      is_row = record {
        are_runs = put.are_runs;
        in_row = put.in_row row so_far.is_row.in_row (same.row ∙ is.row_is);
        ordered = put.ordered;
        apart = put.apart;
      };
      low = omega (arith, so_far.low);
      high = is.within;
      ends = λ n all within. put.ends n (so_far.ends n all within) (omega (arith, ends));
      shows = span_joined old now new runs_old runs_now runs_new row from col (col + part.count) f g f so_far.low (omega arith)
          (λ c above below. refl) (λ c above below. ap (λ (d : Cell). changed_by change d)
          (so_far.shows c ∙ pick (f c) (shown_cell old runs_old row c) (within_after from col c above))) so_far.shows here;
      count = omega (arith, so_far.count, put.few, is.is_run.some, so_far.low);
    }

-- the other rows stay
pub put_stays : (now mid new : List ℕ) (runs_now runs_new : List Run) (changed : Run) (r c : ℕ) → BeginsWith now mid → All (λ x. IsRun now x) runs_now
    → IsPut mid new runs_now runs_new changed → r ≢ changed.row → shown_cell new runs_new r c ≡ shown_cell now runs_now r c
put_stays now mid new runs_now runs_new changed r c grows are put other = grind (arith, common_steps, put.shows, pick, holds_elsewhere, painted-grown)

-- a part of a row, in a grid that shows the same row
pub part_same : (text : List ℕ) (row from to : ℕ) (g h : ℕ → Cell) (part : Run) → ((c : ℕ) → g c ≡ h c) → IsPartOfRow text row from to g part
    → IsPartOfRow text row from to h part
part_same text row from to g h part same is =
    record { is_run = is.is_run; row_is = is.row_is; cell_is = is.cell_is; within = is.within; cells = λ c low high. is.cells c low high ∙ same c }
