use Rattle.snippet_grid.proofs.Common.{common_steps, ◌≡◌, ◌∙◌, ◌+◌, ◌≤◌, ap, arith, refl, sym, subst, min, length, string_bytes, get_or, List, ℕ, All}
use Rattle.snippet_grid.proofs.Common.{on_ok_weaker, on_err_weaker, changed_by, RowAt, ShowsSpan, cells_changed, Cell, IsRun, IsPut, FitIn, shown_cell, Run}
use Rattle.snippet_grid.proofs.Common.{◌++◌, ◌-◌, ◌*◌, take, drop, IsRow, EndsBy, Stored}
use Rattle.snippet_grid.proofs.ReplaceLemmas.{cells_changed_none}
use Rattle.snippet_grid.proofs.ChangedRow.{put_span, put_stays, part_same}
use Rattle.snippet_grid.proofs.ReplacedRow.{grid_span, IsExchanged, IsGrid-put, FitIn-put, grid_changed}
use Rattle.snippet_grid.proofs.GridShown.{IsGrid-grown, grid_grown, width_shown, stored_grown}
use Rattle.snippet_grid.proofs.RunLemmas.{on_either, stretch, BeginsWith-trans}
use Rattle.snippet_grid.proofs.PutLemmas.{AreOrdered, AreApart, IsRow-stretch, RowAt-read, row_shows, begins_fit, put_length, length-stretch}
use Rattle.snippet_grid.proofs.ShownLemmas.{All-IsRun-grown}
use Rattle.snippet_grid.proofs.change.change_cells.Goals as goal
use Rattle.snippet_grid.proofs.change.change_cells.Goals.{After-row_bounds-from}

pub returns-then-last-start-clause-ok : goal.returns-then-last-start-clause-ok
returns-then-last-start-clause-ok c =
    grind (arith, common_steps, c.width_of.ensures.value, c.deref.ensures.value, cells_changed_none, c.min-last.ensures, width_shown, c.grid.view_is)

pub row_bounds-from-requires : goal.row_bounds-from-requires
row_bounds-from-requires c = grind (arith, common_steps, c.as_slice-old.ensures.value, c.grid.invariant.0.ordered, begins_fit, c.grid.invariant.0.are_runs)

-- where the runs of the row stand
stands : (c : After-row_bounds-from) → RowAt c.grid.inside.runs.items c.args.cells.row c.row_bounds-from.result.0 c.row_bounds-from.result.1
stands c = RowAt-read c.grid.inside.runs.items c.as_slice-old.result.now c.args.cells.row c.row_bounds-from.result.0 c.row_bounds-from.result.1
    c.as_slice-old.ensures.value record {
      ordered = c.row_bounds-from.ensures.bounds.0;
      within = c.row_bounds-from.ensures.bounds.1;
      above = c.row_bounds-from.ensures.above;
      inside = c.row_bounds-from.ensures.inside;
      below = c.row_bounds-from.ensures.below;
    }

pub part_at-requires-clause-runs : goal.part_at-requires-clause-runs
part_at-requires-clause-runs c =
    let is = sym c.as_slice-old.ensures.value in
    let text = string_bytes c.grid.inside.text in
    IsRow-stretch text c.args.cells.row c.as_slice-old.result.now c.row_bounds-from.result.0 c.row_bounds-from.result.1 c.row_bounds-from.ensures.bounds.0
    c.row_bounds-from.ensures.bounds.1 (subst (λ (l : List Run). All (λ x. IsRun text x) l) is c.grid.invariant.0.are_runs)
    (subst (λ (l : List Run). AreOrdered l) is c.grid.invariant.0.ordered) (subst (λ (l : List Run). AreApart l) is c.grid.invariant.0.apart)
    c.row_bounds-from.ensures.inside

pub invariant_of-grid : goal.invariant_of-grid
invariant_of-grid c = (
  IsGrid-grown (string_bytes c.grid.inside.text) (string_bytes c.part_at.new.text) c.grid.inside.runs.items c.grid.inside.runs.items c.grid.inside.widths.items
      c.grid.inside.widths.items c.in_err-part.ensures.text refl refl c.grid.invariant.0,
  c.grid.invariant.1,
)

pub returns-in_err-part-clause-err : goal.returns-in_err-part-clause-err
returns-in_err-part-clause-err c = grind (arith, common_steps, stored_grown, c.in_err-part.ensures.text, c.grid.invariant.0, c.grid.view_is)

pub put_run-requires-clause-runs : goal.put_run-requires-clause-runs
put_run-requires-clause-runs c = grind (arith, common_steps, All-IsRun-grown, c.in_ok-part.ensures.text, c.grid.invariant.0.are_runs)

-- the part that is changed stands within the row
reach : (c : goal.After-put_run) → c.changed.result.cell + c.changed.result.count ≤ get_or c.grid.inside.widths.items c.changed.result.row 0
reach c =
    let w = c.grid.inside.widths.items in
    let part = c.in_ok-part.ensures.ok in
    omega (
      arith,
      c.changed.ensures.is.cell,
      c.changed.ensures.is.count,
      part.cell_is,
      part.within,
      c.min-last.ensures,
      c.width_of.ensures.value ∙ ap (λ (u : List ℕ). get_or u c.args.cells.row 0) c.deref.ensures.value,
      ap (λ r. get_or w r 0) (c.changed.ensures.is.row ∙ part.row_is),
    )

pub invariant_of-grid-then-part-last : goal.invariant_of-grid-then-part-last
invariant_of-grid-then-part-last c =
    let w = c.grid.inside.widths.items in
    let all = BeginsWith-trans _ _ _ c.in_ok-part.ensures.text c.put_run.ensures.text in (
      on_either c.put_run.result
          (on_ok_weaker c.put_run.result
          (λ put. record { are_runs = put.are_runs; ordered = put.ordered; apart = put.apart; inside = put.inside w c.grid.invariant.0.inside (reach c) })
          c.put_run.ensures.ok) (on_err_weaker c.put_run.result (λ same. IsGrid-grown _ _ _ _ w w all same refl c.grid.invariant.0)
          c.put_run.ensures.err),
      c.grid.invariant.1,
    )

pub returns-then-part-last : goal.returns-then-part-last
returns-then-part-last c =
    let old = string_bytes c.grid.inside.text in
    let mid = string_bytes c.part_at.new.text in
    let new = string_bytes c.put_run.new.text in
    let runs = c.grid.inside.runs.items in
    let now = c.put_run.new.runs.items in
    let w = c.grid.inside.widths.items in
    let row = c.args.cells.row in
    let was : c.width_of.result ≡ get_or c.grid.inside.widths.items c.args.cells.row 0 = c.width_of.ensures.value
    ∙ ap (λ (u : List ℕ). get_or u c.args.cells.row 0) c.deref.ensures.value in
    let count = ap (λ (s : Stored). s.num_runs) c.grid.view_is in
    let from = c.row_bounds-from.result.0 in
    let to = c.row_bounds-from.result.1 in
    let last = c.min-last.result in
    let is = c.as_slice-old.ensures.value in
    let at = stands (goal.at.returns-then-part-last c).After-row_bounds-from in
    let same : (k : ℕ) → shown_cell old (stretch c.as_slice-old.result.now from to) row k ≡ shown_cell old runs row k = λ k.
    ap (λ (l : List Run). shown_cell old (stretch l from to) row k) is ∙ row_shows old runs row from to k at in
    let part = part_same mid row c.args.cells.start last (λ k. shown_cell old (stretch c.as_slice-old.result.now from to) row k) (λ k.
    shown_cell old runs row k) c.in_ok-part.part same c.in_ok-part.ensures.ok in
    let grows = c.in_ok-part.ensures.text in
    let all = BeginsWith-trans old mid new grows c.put_run.ensures.text in
    let same_row : c.changed.result.row ≡ row = c.changed.ensures.is.row ∙ c.in_ok-part.ensures.ok.row_is in
    let f = changed_by c.args.change in
    let whole : c.args.cells.start + c.in_ok-part.part.count ≡ last = omega (arith, c.if-part-last.true, c.if-last-start.false) in
    let fits : IsPut mid new runs now c.changed.result → FitIn w now = λ put. put.inside w c.grid.invariant.0.inside (reach c) in
    let span = λ (put : IsPut mid new runs now c.changed.result). subst
    (λ n. ShowsSpan old new runs now row c.args.cells.start n (λ k. f (shown_cell old runs row k)))
    whole (put_span old mid new runs now c.in_ok-part.part c.changed.result row c.args.cells.start last c.args.change grows c.grid.invariant.0.are_runs
    part c.changed.ensures.is put) in
    record {
      ok = on_ok_weaker c.put_run.result
          (λ put. grid_span f old new runs now w row c.args.cells.start c.args.cells.end last (c.min-last.ensures ∙ ap (min c.args.cells.end) was)
          c.grid.invariant.0.inside (fits put) (span put)
          (λ r k other. put_stays old mid new runs now c.changed.result r k grows c.grid.invariant.0.are_runs put (λ same. other (same ∙ same_row)))
          ∙ ap (λ (s : Stored). cells_changed f s.rows row c.args.cells.start c.args.cells.end) c.grid.view_is)
          c.put_run.ensures.ok;
      runs_added = on_either c.put_run.result (on_ok_weaker c.put_run.result (λ put.
          omega (arith, put.few, c.if-last-start.false, c.min-last.ensures, count)) c.put_run.ensures.ok)
          (on_err_weaker c.put_run.result (λ same. omega (arith, ap length same, count)) c.put_run.ensures.err);
      err = on_err_weaker c.put_run.result (λ same. stored_grown old new runs now w w all same refl c.grid.invariant.0 ∙ c.grid.view_is) c.put_run.ensures.err;
    }

-- a call that fails after spaces were added to the text leaves the grid as it was
pub invariant_of-grid-in_err-extend_from_slice : goal.invariant_of-grid-in_err-extend_from_slice
invariant_of-grid-in_err-extend_from_slice c = (
  IsGrid-grown (string_bytes c.grid.inside.text) (string_bytes c.part_at.new.text) c.grid.inside.runs.items c.grid.inside.runs.items c.grid.inside.widths.items
      c.grid.inside.widths.items c.in_ok-part.ensures.text refl refl c.grid.invariant.0,
  c.grid.invariant.1,
)

pub returns-in_err-extend_from_slice-clause-err : goal.returns-in_err-extend_from_slice-clause-err
returns-in_err-extend_from_slice-clause-err c = grind (arith, common_steps, stored_grown, c.in_ok-part.ensures.text, c.grid.invariant.0, c.grid.view_is)

pub change_row-requires-clause-runs : goal.change_row-requires-clause-runs
change_row-requires-clause-runs c =
    let is = c.as_slice.ensures.value in
    let mid = string_bytes c.part_at.new.text in
    let grid = IsGrid-grown (string_bytes c.grid.inside.text) mid c.grid.inside.runs.items c.grid.inside.runs.items c.grid.inside.widths.items
    c.grid.inside.widths.items
    c.in_ok-part.ensures.text refl refl c.grid.invariant.0 in
    let copied = c.in_ok-extend_from_slice.ensures.items ∙ ap (λ (l : List Run). l
    ++ stretch c.as_slice.result.now c.row_bounds-from.result.0 c.row_bounds-from.result.1) c.clear.ensures.items
    ∙ ap (λ (l : List Run). stretch l c.row_bounds-from.result.0 c.row_bounds-from.result.1) (is ∙ sym c.as_slice-old.ensures.value) in
    subst (λ (l : List Run). IsRow mid c.args.cells.row l) (sym copied)
    (IsRow-stretch mid c.args.cells.row c.as_slice-old.result.now c.row_bounds-from.result.0 c.row_bounds-from.result.1 c.row_bounds-from.ensures.bounds.0
    c.row_bounds-from.ensures.bounds.1
    (subst (λ (l : List Run). All (λ x. IsRun mid x) l) (sym c.as_slice-old.ensures.value) grid.are_runs)
    (subst (λ (l : List Run). AreOrdered l) (sym c.as_slice-old.ensures.value) grid.ordered)
    (subst (λ (l : List Run). AreApart l) (sym c.as_slice-old.ensures.value) grid.apart) c.row_bounds-from.ensures.inside)

pub invariant_of-grid-in_err-change_row : goal.invariant_of-grid-in_err-change_row
invariant_of-grid-in_err-change_row c = (
  IsGrid-grown (string_bytes c.grid.inside.text) (string_bytes c.change_row.new.text) c.grid.inside.runs.items c.grid.inside.runs.items
      c.grid.inside.widths.items
      c.grid.inside.widths.items (BeginsWith-trans _ _ _ c.in_ok-part.ensures.text c.in_err-change_row.ensures.text) refl refl c.grid.invariant.0,
  c.grid.invariant.1,
)

pub returns-in_err-change_row-clause-err : goal.returns-in_err-change_row-clause-err
returns-in_err-change_row-clause-err c =
    grind (arith, common_steps, stored_grown, BeginsWith-trans, c.in_ok-part.ensures.text, c.in_err-change_row.ensures.text, c.grid.invariant.0, c.grid.view_is)

-- the runs that were copied are the row's
copied : (c : goal.After-exchange) → c.extend_from_slice.new.self.items ≡ stretch c.grid.inside.runs.items c.row_bounds-from.result.0
    c.row_bounds-from.result.1
copied c = grind (arith, common_steps, c.as_slice.ensures.value)

-- what is done where the changed runs take their place: these stand within the widths that the rows have
exchanged : (c : goal.After-exchange) → c.exchange.new.runs.items ≡ take c.row_bounds-from.result.0 c.grid.inside.runs.items
    ++ c.change_row.new.runs.items ++ drop c.row_bounds-from.result.1 c.grid.inside.runs.items
    → IsExchanged (string_bytes c.part_at.new.text) (string_bytes c.change_row.new.text) c.grid.inside.runs.items c.exchange.new.runs.items
    c.change_row.new.runs.items c.args.cells.row c.row_bounds-from.result.0 c.row_bounds-from.result.1
exchanged c done = record {
  at = stands (goal.at.returns c).After-row_bounds-from;
  grows = c.in_ok-change_row.ensures.text;
  are_runs = All-IsRun-grown (string_bytes c.grid.inside.text) (string_bytes c.part_at.new.text) c.grid.inside.runs.items c.in_ok-part.ensures.text
      c.grid.invariant.0.are_runs;
  ordered = c.grid.invariant.0.ordered;
  apart = c.grid.invariant.0.apart;
  is_row = c.in_ok-change_row.ensures.row;
  is = done;
}

fitting : (c : goal.After-exchange) → c.exchange.new.runs.items ≡ take c.row_bounds-from.result.0 c.grid.inside.runs.items
    ++ c.change_row.new.runs.items ++ drop c.row_bounds-from.result.1 c.grid.inside.runs.items
    → FitIn c.grid.inside.widths.items c.exchange.new.runs.items
fitting c done =
    let w = c.grid.inside.widths.items in
    let width : ℕ = get_or w c.args.cells.row 0 in
    let was : c.width_of.result ≡ width = c.width_of.ensures.value ∙ ap (λ (u : List ℕ). get_or u c.args.cells.row 0) c.deref.ensures.value in
    FitIn-put _ _ c.grid.inside.runs.items _ c.change_row.new.runs.items w c.args.cells.row _ _ (exchanged c done) c.grid.invariant.0.inside
    (λ all. c.in_ok-change_row.ensures.ends width (subst (λ (l : List Run). EndsBy width l) (sym (copied c)) all) (omega (arith, c.min-last.ensures, was)))

pub invariant_of-grid-2 : goal.invariant_of-grid-2
invariant_of-grid-2 c =
    let w = c.grid.inside.widths.items in
    let all = BeginsWith-trans _ _ _ c.in_ok-part.ensures.text c.in_ok-change_row.ensures.text in (
      on_either c.exchange.result
          (on_ok_weaker c.exchange.result (λ done. IsGrid-put _ _ _ _ _ w w _ _ _ (exchanged c done) (fitting c done)) c.exchange.ensures.ok)
          (on_err_weaker c.exchange.result (λ same. IsGrid-grown _ _ _ _ w w all same refl c.grid.invariant.0) c.exchange.ensures.err),
      c.grid.invariant.1,
    )

pub returns : goal.returns
returns c =
    let is = c.as_slice-old.ensures.value in
    let from = c.row_bounds-from.result.0 in
    let to = c.row_bounds-from.result.1 in
    let old = string_bytes c.grid.inside.text in
    let mid = string_bytes c.part_at.new.text in
    let new = string_bytes c.change_row.new.text in
    let row = c.args.cells.row in
    let was : c.width_of.result ≡ get_or c.grid.inside.widths.items c.args.cells.row 0 = c.width_of.ensures.value
    ∙ ap (λ (u : List ℕ). get_or u c.args.cells.row 0) c.deref.ensures.value in
    let count = ap (λ (s : Stored). s.num_runs) c.grid.view_is in
    let runs = c.grid.inside.runs.items in
    let now = c.exchange.new.runs.items in
    let fresh = c.change_row.new.runs.items in
    let w = c.grid.inside.widths.items in
    let f = changed_by c.args.change in
    let grows = c.in_ok-change_row.ensures.text in
    let all = BeginsWith-trans old mid new c.in_ok-part.ensures.text grows in
    let at = stands (goal.at.returns c).After-row_bounds-from in
    let shows = subst (λ (l : List Run). ShowsSpan mid new l fresh row c.args.cells.start c.min-last.result (λ k.
    f (shown_cell mid l row k))) (copied c) c.in_ok-change_row.ensures.ok in
    let long : length fresh ≤ length (stretch runs from to) + 2 * (c.args.cells.end - c.args.cells.start) = omega
    (arith, c.in_ok-change_row.ensures.count, ap length (copied c), c.min-last.ensures) in
    record {
      ok = on_ok_weaker c.exchange.result (λ done. grid_changed f mid new runs now fresh w row c.args.cells.start c.args.cells.end c.min-last.result from
          to (exchanged c done)
          (c.min-last.ensures ∙ ap (min c.args.cells.end) was) c.grid.invariant.0.inside (fitting c done) shows
          ∙ ap (λ (rows : List (List Cell)). cells_changed f rows row c.args.cells.start c.args.cells.end)
          (grid_grown old mid runs runs w w c.in_ok-part.ensures.text refl refl c.grid.invariant.0)
          ∙ ap (λ (s : Stored). cells_changed f s.rows row c.args.cells.start c.args.cells.end) c.grid.view_is) c.exchange.ensures.ok;
      runs_added = on_either c.exchange.result
          (on_ok_weaker c.exchange.result
          (λ done. omega (arith, put_length runs now fresh row from to at done, long, length-stretch runs row from to at, count)) c.exchange.ensures.ok)
          (on_err_weaker c.exchange.result (λ same. omega (arith, ap length same, count)) c.exchange.ensures.err);
      err = on_err_weaker c.exchange.result (λ same. stored_grown old new runs now w w all same refl c.grid.invariant.0 ∙ c.grid.view_is)
          c.exchange.ensures.err;
    }

pub put_run-requires-clause-ordered : goal.put_run-requires-clause-ordered
put_run-requires-clause-ordered c = c.grid.invariant.0.ordered

pub put_run-requires-clause-apart : goal.put_run-requires-clause-apart
put_run-requires-clause-apart c = c.grid.invariant.0.apart
