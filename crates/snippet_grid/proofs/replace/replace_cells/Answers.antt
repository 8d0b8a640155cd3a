use Rattle.snippet_grid.proofs.Common.{common_steps, rules, ◌≡◌, ◌∙◌, ◌+◌, ◌-◌, ◌<◌, ◌≤◌, ap, arith, refl, sym, subst, inl, inr, string_bytes, get_or, List, ℕ}
use Rattle.snippet_grid.proofs.Common.{All, length, set, cases_lt, length-set, get_or-set_other, get_or_past, length-text_cells, RowAt, ShowsReplaced}
use Rattle.snippet_grid.proofs.Common.{text_cells, IsRun, EndsBy, FitIn, Run, row_at, cells_replaced, Stored}
use Rattle.std.specs.Str.{chars}
use Rattle.snippet_grid.proofs.ReplacedRow.{IsExchanged, IsGrid-put, grid_replaced, FitIn-replaced}
use Rattle.snippet_grid.proofs.GridShown.{IsGrid-grown, width_shown, stored_grown}
use Rattle.snippet_grid.proofs.PutLemmas.{AreOrdered, AreApart, IsRow-stretch, RowAt-read, begins_fit, row_ends, put_length, length-stretch}
use Rattle.snippet_grid.proofs.ReplaceLemmas.{cells_replaced_empty, cells_replaced_past}
use Rattle.snippet_grid.proofs.RunLemmas.{stretch}
use Rattle.snippet_grid.proofs.replace.replace_cells.Goals as goal
use Rattle.snippet_grid.proofs.replace.replace_cells.Goals.{After-row_bounds-from, After-checked_add}

pub returns-then-end-start-clause-ok : goal.returns-then-end-start-clause-ok
returns-then-end-start-clause-ok c =
    let rows = c.args.grid.now.rows in
    let cells = text_cells c.args.role (chars c.args.word.now) in
    let width = width_shown (string_bytes c.grid.inside.text) c.grid.inside.runs.items c.grid.inside.widths.items c.args.cells.row in
    let lent = ap (λ (w : List ℕ). get_or w c.args.cells.row 0) c.deref.ensures.value in
    let seen = ap (λ (s : Stored). length (row_at s.rows c.args.cells.row)) c.grid.view_is in
    elim (cases_lt c.args.cells.start c.args.cells.end) [
      | inr none ↦ sym (cells_replaced_empty rows c.args.cells.row c.args.cells.start c.args.cells.end cells none)
      | inl some ↦ sym (cells_replaced_past rows c.args.cells.row c.args.cells.start c.args.cells.end cells
          (omega (arith, c.then-end-start.either, c.width_of-width.ensures.value, width, lent, seen)))
    ]

pub row_bounds-from-requires : goal.row_bounds-from-requires
row_bounds-from-requires c = grind (arith, common_steps, c.as_slice-old.ensures.value, c.grid.invariant.0.ordered, begins_fit, c.grid.invariant.0.are_runs)

-- where the runs of the row stand
stands : (c : After-row_bounds-from) → RowAt c.grid.inside.runs.items c.args.cells.row c.row_bounds-from.result.0 c.row_bounds-from.result.1
stands c = RowAt-read c.grid.inside.runs.items c.as_slice-old.result.now c.args.cells.row c.row_bounds-from.result.0 c.row_bounds-from.result.1
    c.as_slice-old.ensures.value record {
      ordered = c.row_bounds-from.ensures.bounds.0;
      within = c.row_bounds-from.ensures.bounds.1;
      above = c.row_bounds-from.ensures.above;
      inside = c.row_bounds-from.ensures.inside;
      below = c.row_bounds-from.ensures.below;
    }

pub replaced_row-requires-clause-runs : goal.replaced_row-requires-clause-runs
replaced_row-requires-clause-runs c =
    let is = c.as_slice-old.ensures.value in
    let text = string_bytes c.grid.inside.text in
    IsRow-stretch text c.args.cells.row c.as_slice-old.result.now c.row_bounds-from.result.0 c.row_bounds-from.result.1 c.row_bounds-from.ensures.bounds.0
    c.row_bounds-from.ensures.bounds.1 (subst (λ (l : List Run). All (λ x. IsRun text x) l) (sym is) c.grid.invariant.0.are_runs)
    (subst (λ (l : List Run). AreOrdered l) (sym is) c.grid.invariant.0.ordered)
    (subst (λ (l : List Run). AreApart l) (sym is) c.grid.invariant.0.apart) c.row_bounds-from.ensures.inside

pub invariant_of-grid : goal.invariant_of-grid
invariant_of-grid c = (
  IsGrid-grown (string_bytes c.grid.inside.text) (string_bytes c.replaced_row.new.text) c.grid.inside.runs.items c.grid.inside.runs.items
      c.grid.inside.widths.items
      c.grid.inside.widths.items c.in_err-replaced_row.ensures.text refl refl c.grid.invariant.0,
  c.grid.invariant.1,
)

pub returns-in_err-replaced_row-clause-err : goal.returns-in_err-replaced_row-clause-err
returns-in_err-replaced_row-clause-err c = grind (arith, common_steps, stored_grown, c.in_err-replaced_row.ensures.text, c.grid.invariant.0, c.grid.view_is)

pub invariant_of-grid-in_err-exchange : goal.invariant_of-grid-in_err-exchange
invariant_of-grid-in_err-exchange c = (
  IsGrid-grown (string_bytes c.grid.inside.text) (string_bytes c.replaced_row.new.text) c.grid.inside.runs.items c.exchange.new.runs.items
      c.grid.inside.widths.items
      c.grid.inside.widths.items c.in_ok-replaced_row.ensures.text c.in_err-exchange.ensures.err refl c.grid.invariant.0,
  c.grid.invariant.1,
)

pub returns-in_err-exchange-clause-err : goal.returns-in_err-exchange-clause-err
returns-in_err-exchange-clause-err c =
    grind (arith, common_steps, stored_grown, c.in_ok-replaced_row.ensures.text, c.in_err-exchange.ensures.err, c.grid.invariant.0, c.grid.view_is)

-- the row's runs are exchanged
exchanged : (c : goal.After-grid-1) → IsExchanged (string_bytes c.grid.inside.text) (string_bytes c.replaced_row.new.text) c.grid.inside.runs.items
    c.exchange.new.runs.items c.replaced_row.new.spare.runs.items c.args.cells.row c.row_bounds-from.result.0 c.row_bounds-from.result.1
exchanged c = record {
  at = stands (goal.at.returns c).After-row_bounds-from;
  grows = c.in_ok-replaced_row.ensures.text;
  are_runs = c.grid.invariant.0.are_runs;
  ordered = c.grid.invariant.0.ordered;
  apart = c.grid.invariant.0.apart;
  is_row = c.in_ok-replaced_row.ensures.row;
  is = c.in_ok-exchange.ensures.ok;
}

-- how far the row reaches then
wide : (c : goal.After-grid-1) → get_or (set c.grid.inside.widths.items c.args.cells.row c.in-Some.wide) c.args.cells.row 0
    ≡ c.args.cells.start + length (chars c.args.word.now) + (get_or c.grid.inside.widths.items c.args.cells.row 0 - c.args.cells.end)
wide c =
    grind (
      arith,
      common_steps,
      c.width_of-width.ensures.value,
      c.deref.ensures.value,
      get_or_past,
      c.if-end-start.false,
      c.if-width-end.false,
      c.in-Some.wide,
      c.in-Some.ensures,
      c.char_count.ensures.value,
    )

fitting : (c : goal.After-grid-1) → FitIn (set c.grid.inside.widths.items c.args.cells.row c.in-Some.wide) c.exchange.new.runs.items
fitting c =
    let row = c.args.cells.row in
    let from = c.row_bounds-from.result.0 in
    let to = c.row_bounds-from.result.1 in
    let w = c.grid.inside.widths.items in
    let v = set w row c.in-Some.wide in
    let fresh = c.replaced_row.new.spare.runs.items in
    let ends : EndsBy (get_or w row 0) (stretch c.as_slice-old.result.now from to) = subst (λ (l : List Run). EndsBy (get_or w row 0) (stretch l from to))
    (sym c.as_slice-old.ensures.value) (row_ends w c.grid.inside.runs.items row from to (exchanged c).at c.grid.invariant.0.inside) in
    let new_ends = c.in_ok-replaced_row.ensures.ends (get_or w row 0) ends in
    let all : EndsBy (get_or v row 0) fresh = λ k d inside. omega (arith, new_ends k d inside, wide c) in
    FitIn-replaced _ _ c.grid.inside.runs.items _ fresh w v row from to (exchanged c) c.grid.invariant.0.inside all
    (λ r other. get_or-set_other w row r c.in-Some.wide 0 other)

pub invariant_of-grid-2 : goal.invariant_of-grid-2
invariant_of-grid-2 c = (
  IsGrid-put _ _ _ _ _ c.grid.inside.widths.items _ _ _ _ (exchanged c) (fitting c),
  omega (arith, c.grid.invariant.1, length-set c.grid.inside.widths.items c.args.cells.row c.in-Some.wide),
)

pub returns : goal.returns
returns c =
    let is = c.as_slice-old.ensures.value in
    let old = string_bytes c.grid.inside.text in
    let new = string_bytes c.replaced_row.new.text in
    let from = c.row_bounds-from.result.0 in
    let to = c.row_bounds-from.result.1 in
    let row = c.args.cells.row in
    let runs = c.grid.inside.runs.items in
    let now = c.exchange.new.runs.items in
    let fresh = c.replaced_row.new.spare.runs.items in
    let w = c.grid.inside.widths.items in
    let v = set w row c.in-Some.wide in
    let cells = text_cells c.args.role (chars c.args.word.now) in
    let long = length-text_cells c.args.role (chars c.args.word.now) in
    let was : c.width_of-width.result ≡ get_or w row 0 = c.width_of-width.ensures.value ∙ ap (λ (u : List ℕ). get_or u row 0) c.deref.ensures.value in
    let some : c.args.cells.start < c.args.cells.end = omega (arith, c.if-end-start.false) in
    let within : c.args.cells.end ≤ get_or w row 0 = omega (arith, was, c.if-width-end.false) in
    let at = (exchanged c).at in
    let shows = subst (λ (l : List Run). ShowsReplaced old new (stretch l from to) fresh row c.args.cells.start c.args.cells.end cells) is
    c.in_ok-replaced_row.ensures.ok in
    record {
      ok = grid_replaced old new runs now fresh w v row c.args.cells.start c.args.cells.end from to cells (exchanged c) some within c.grid.invariant.0.inside
          (fitting c) (length-set w row c.in-Some.wide) (omega (arith, wide c, long, some, within))
          (λ r other. get_or-set_other w row r c.in-Some.wide 0 other) shows
          ∙ ap (λ (s : Stored). cells_replaced s.rows row c.args.cells.start c.args.cells.end cells) c.grid.view_is;
      runs_added = omega (
        arith,
        put_length runs now fresh row from to at c.in_ok-exchange.ensures.ok,
        c.in_ok-replaced_row.ensures.count,
        ap
            (λ (l : List Run). length (stretch l from to)) is,
        length-stretch runs row from to at,
        ap (λ (s : Stored). s.num_runs) c.grid.view_is,
      );
      empty_succeeds = search rules;
      past_succeeds = search rules;
      err = search rules;
    }

pub replaced_row-requires-clause-moved : goal.replaced_row-requires-clause-moved
replaced_row-requires-clause-moved c =
    let is = c.as_slice-old.ensures.value in
    let runs = c.grid.inside.runs.items in
    let w = c.grid.inside.widths.items in
    let row = c.args.cells.row in
    let from = c.row_bounds-from.result.0 in
    let to = c.row_bounds-from.result.1 in
    let at = stands (goal.at.replaced_row-requires-clause-moved c).After-row_bounds-from in
    let ends : EndsBy (get_or w row 0) (stretch c.as_slice-old.result.now from to) = subst (λ (l : List Run). EndsBy (get_or w row 0) (stretch l from to))
    (sym is) (row_ends w runs row from to at c.grid.invariant.0.inside) in
    let was : c.width_of-width.result ≡ get_or w row 0 = c.width_of-width.ensures.value ∙ ap (λ (u : List ℕ). get_or u row 0) c.deref.ensures.value in
    λ k d within. omega (arith, ends k d within, was, c.in-Some.ensures, c.char_count.ensures.value, c.if-end-start.false, c.if-width-end.false)

-- where there are such cells, the row isn't too short for them
long_enough : (c : After-checked_add) → length (row_at c.args.grid.now.rows c.args.cells.row) < c.args.cells.end → ⊥
long_enough c past = grind (arith, common_steps, c.if-width-end.false, c.width_of-width.ensures.value, c.deref.ensures.value, width_shown, c.grid.view_is)

pub returns-in_default-clause-past_succeeds : goal.returns-in_default-clause-past_succeeds
returns-in_default-clause-past_succeeds c = λ past. absurd (long_enough (goal.at.returns-in_default-clause-past_succeeds c).After-checked_add past)

pub returns-in_err-replaced_row-clause-past_succeeds : goal.returns-in_err-replaced_row-clause-past_succeeds
returns-in_err-replaced_row-clause-past_succeeds c =
    λ past. absurd (long_enough (goal.at.returns-in_err-replaced_row-clause-past_succeeds c).After-checked_add past)

pub returns-in_err-exchange-clause-past_succeeds : goal.returns-in_err-exchange-clause-past_succeeds
returns-in_err-exchange-clause-past_succeeds c = λ past. absurd (long_enough (goal.at.returns-in_err-exchange-clause-past_succeeds c).After-checked_add past)
