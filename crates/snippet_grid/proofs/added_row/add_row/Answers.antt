use Rattle.snippet_grid.proofs.Common.{common_steps, ◌≡◌, ◌∙◌, ◌++◌, ◌∷◌, [], List, ap, arith, length, map, rules, string_bytes, subst, sym, take, ℕ}
use Rattle.snippet_grid.proofs.Common.{length-map, length_push, AddsRow, BeginsWith, IsGrid, grid_shown, Stored, cell_of, Run, Cell}
use Rattle.snippet_grid.proofs.AddedRows.{grid_added, row_added}
use Rattle.snippet_grid.proofs.GridShown.{count_shown, IsGrid-grown, stored_grown}
use Rattle.snippet_grid.proofs.added_row.add_row.Goals as goal

-- what is let go where memory is refused: all that was added
runs_kept : (old first added kept : List Run) (count : ℕ) → first ≡ old → count ≡ length first → take (length first) added ≡ first
    → kept ≡ take count added → kept ≡ old
runs_kept old first added kept count room counted same cut = cut ∙ ap (λ n. take n added) counted ∙ same ∙ room

pub invariant_of-cells-in-Err : goal.invariant_of-cells-in-Err
invariant_of-cells-in-Err c =
    let grows : BeginsWith (string_bytes c.cells.inside.text) (string_bytes c.add_stretches.new.text) = subst
    (λ (t : List ℕ). BeginsWith t (string_bytes c.add_stretches.new.text)) c.make_first_room.ensures.text c.in-Err.ensures.text in
    let kept = runs_kept c.cells.inside.runs.items c.make_first_room.new.runs.items c.add_stretches.new.runs.items c.truncate.new.self.items
    c.len-count.result c.make_first_room.ensures.runs (search (rules, c.len-count.ensures)) c.in-Err.ensures.err c.truncate.ensures.items in
    let widths = c.make_room.ensures.items ∙ c.make_first_room.ensures.widths in (
      IsGrid-grown (string_bytes c.cells.inside.text) (string_bytes c.add_stretches.new.text) c.cells.inside.runs.items c.truncate.new.self.items
          c.cells.inside.widths.items c.make_room.new.widths.items grows kept widths c.cells.invariant.0,
      omega (arith, c.cells.invariant.1, ap (λ (w : List ℕ). length w) widths),
    )

pub returns-in-Err-clause-err : goal.returns-in-Err-clause-err
returns-in-Err-clause-err c =
    let grows : BeginsWith (string_bytes c.cells.inside.text) (string_bytes c.add_stretches.new.text) = subst
    (λ (t : List ℕ). BeginsWith t (string_bytes c.add_stretches.new.text)) c.make_first_room.ensures.text c.in-Err.ensures.text in
    let kept = runs_kept c.cells.inside.runs.items c.make_first_room.new.runs.items c.add_stretches.new.runs.items c.truncate.new.self.items
    c.len-count.result c.make_first_room.ensures.runs (search (rules, c.len-count.ensures)) c.in-Err.ensures.err c.truncate.ensures.items in
    let widths = c.make_room.ensures.items ∙ c.make_first_room.ensures.widths in
    stored_grown (string_bytes c.cells.inside.text) (string_bytes c.add_stretches.new.text) c.cells.inside.runs.items c.truncate.new.self.items
    c.cells.inside.widths.items c.make_room.new.widths.items grows kept widths c.cells.invariant.0 ∙ c.cells.view_is

-- the grid to which the row is added
module _ (old_text text : List ℕ) (runs first now : List Run) (widths room new : List ℕ) (cells : List Cell) (row : ℕ)
    (grows : BeginsWith old_text text) (grid : IsGrid old_text runs widths) (same_runs : first ≡ runs) (same_widths : room ≡ widths)
    (here : row ≡ length room) (adds : AddsRow text row cells first now) (pushed : new ≡ room ++ length cells ∷ []) where
  at : row ≡ length widths
  at = here ∙ ap length same_widths

  from_runs : AddsRow text row cells runs now
  from_runs = subst (λ (rs : List Run). AddsRow text row cells rs now) same_runs adds

  all : new ≡ widths ++ length cells ∷ []
  all = pushed ∙ ap (λ ws. ws ++ length cells ∷ []) same_widths

  pub is_grid : IsGrid text now new
  is_grid = subst (IsGrid text now) (sym all) (grid_added old_text text runs now widths row cells grows grid at from_runs)

  pub shows : grid_shown text now new ≡ grid_shown old_text runs widths ++ cells ∷ []
  shows = ap (grid_shown text now) all ∙ row_added old_text text runs now widths row cells grows grid at from_runs

pub invariant_of-cells-2 : goal.invariant_of-cells-2
invariant_of-cells-2 c =
    let grows : BeginsWith (string_bytes c.cells.inside.text) (string_bytes c.add_stretches.new.text) = subst
    (λ (t : List ℕ). BeginsWith t (string_bytes c.add_stretches.new.text)) c.make_first_room.ensures.text c.add_stretches.ensures.text in
    let widths = c.make_room.ensures.items ∙ c.make_first_room.ensures.widths in
    let here : c.len-number.result ≡ length c.make_room.new.widths.items = search (rules, c.len-number.ensures) ∙ sym (ap length c.make_room.ensures.items) in
    let long = ap (λ n. c.make_room.new.widths.items ++ n ∷ []) (sym (length-map c.args.row.now cell_of)) in (
      is_grid (string_bytes c.cells.inside.text) (string_bytes c.add_stretches.new.text) c.cells.inside.runs.items c.make_first_room.new.runs.items
          c.add_stretches.new.runs.items c.cells.inside.widths.items c.make_room.new.widths.items c.push.new.self.items (map cell_of c.args.row.now)
          c.len-number.result grows c.cells.invariant.0 c.make_first_room.ensures.runs widths here c.in_default.ensures.ok (c.in_ok-push.ensures.items ∙ long),
      omega (
        arith,
        c.cells.invariant.1,
        ap (λ (w : List ℕ). length w) widths,
        ap (λ (w : List ℕ). length w) c.in_ok-push.ensures.items,
        length_push c.make_room.new.widths.items (length c.args.row.now),
        here,
        c.in_ok-make_room.ensures.few (omega (arith, c.cells.invariant.1, ap (λ (w : List ℕ). length w) c.make_first_room.ensures.widths)),
      ),
    )

pub returns-clause-ok : goal.returns-clause-ok
returns-clause-ok c =
    let grows : BeginsWith (string_bytes c.cells.inside.text) (string_bytes c.add_stretches.new.text) = subst
    (λ (t : List ℕ). BeginsWith t (string_bytes c.add_stretches.new.text)) c.make_first_room.ensures.text c.add_stretches.ensures.text in
    let widths = c.make_room.ensures.items ∙ c.make_first_room.ensures.widths in
    let here : c.len-number.result ≡ length c.make_room.new.widths.items = search (rules, c.len-number.ensures) ∙ sym (ap length c.make_room.ensures.items) in
    let long = ap (λ n. c.make_room.new.widths.items ++ n ∷ []) (sym (length-map c.args.row.now cell_of)) in
    shows (string_bytes c.cells.inside.text) (string_bytes c.add_stretches.new.text) c.cells.inside.runs.items c.make_first_room.new.runs.items
    c.add_stretches.new.runs.items c.cells.inside.widths.items c.make_room.new.widths.items c.push.new.self.items (map cell_of c.args.row.now)
    c.len-number.result grows c.cells.invariant.0 c.make_first_room.ensures.runs widths here c.in_default.ensures.ok (c.in_ok-push.ensures.items ∙ long)
    ∙ ap (λ (s : Stored). s.rows ++ map cell_of c.args.row.now ∷ []) c.cells.view_is

pub returns-clause-small : goal.returns-clause-small
returns-clause-small c = grind (arith, common_steps, c.cells.invariant.1, c.cells.view_is, count_shown)
