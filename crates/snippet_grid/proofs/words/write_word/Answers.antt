use Rattle.snippet_grid.proofs.Common.{◌∙◌, ap, arith, subst, length, string_bytes, List, ℕ, on_ok_weaker, on_err_weaker, cells_written, text_cells}
use Rattle.snippet_grid.proofs.Common.{BeginsWith, run_chars, Stored}
use Rattle.snippet_grid.proofs.GridShown.{on_err_from, IsGrid-grown, stored_grown}
use Rattle.snippet_grid.proofs.words.write_word.Goals as goal

pub invariant_of-cells-in_err-run : goal.invariant_of-cells-in_err-run
invariant_of-cells-in_err-run c =
    let grows : BeginsWith (string_bytes c.cells.inside.text) (string_bytes c.push_word.new.text) = subst
    (λ (t : List ℕ). BeginsWith t (string_bytes c.push_word.new.text)) c.make_first_room.ensures.text c.in_err-run.ensures.text in (
      IsGrid-grown (string_bytes c.cells.inside.text) (string_bytes c.push_word.new.text) c.cells.inside.runs.items c.make_first_room.new.runs.items
          c.cells.inside.widths.items c.make_first_room.new.widths.items grows c.make_first_room.ensures.runs c.make_first_room.ensures.widths
          c.cells.invariant.0,
      omega (arith, c.cells.invariant.1, ap (λ (w : List ℕ). length w) c.make_first_room.ensures.widths),
    )

pub returns-in_err-run-clause-err : goal.returns-in_err-run-clause-err
returns-in_err-run-clause-err c =
    let grows : BeginsWith (string_bytes c.cells.inside.text) (string_bytes c.push_word.new.text) = subst
    (λ (t : List ℕ). BeginsWith t (string_bytes c.push_word.new.text)) c.make_first_room.ensures.text c.in_err-run.ensures.text in
    on_err_from c.from_residual-in_err-run.result
    (stored_grown (string_bytes c.cells.inside.text) (string_bytes c.push_word.new.text) c.cells.inside.runs.items c.make_first_room.new.runs.items
    c.cells.inside.widths.items c.make_first_room.new.widths.items grows c.make_first_room.ensures.runs c.make_first_room.ensures.widths
    c.cells.invariant.0 ∙ c.cells.view_is)

pub place_run-requires-clause-grid : goal.place_run-requires-clause-grid
place_run-requires-clause-grid c =
    let grows : BeginsWith (string_bytes c.cells.inside.text) (string_bytes c.push_word.new.text) = subst
    (λ (t : List ℕ). BeginsWith t (string_bytes c.push_word.new.text)) c.make_first_room.ensures.text c.in_ok-run.ensures.text in
    IsGrid-grown (string_bytes c.cells.inside.text) (string_bytes c.push_word.new.text) c.cells.inside.runs.items c.make_first_room.new.runs.items
    c.cells.inside.widths.items c.make_first_room.new.widths.items grows c.make_first_room.ensures.runs c.make_first_room.ensures.widths c.cells.invariant.0

pub returns : goal.returns
returns c =
    let grows : BeginsWith (string_bytes c.cells.inside.text) (string_bytes c.push_word.new.text) = subst
    (λ (t : List ℕ). BeginsWith t (string_bytes c.push_word.new.text)) c.make_first_room.ensures.text c.in_ok-run.ensures.text in
    let same = stored_grown (string_bytes c.cells.inside.text) (string_bytes c.push_word.new.text) c.cells.inside.runs.items
    c.make_first_room.new.runs.items c.cells.inside.widths.items c.make_first_room.new.widths.items grows c.make_first_room.ensures.runs
    c.make_first_room.ensures.widths c.cells.invariant.0 ∙ c.cells.view_is in
    let run = c.in_ok-run.run' in
    let is = c.in_ok-run.ensures.ok in
    let seen = run_chars (string_bytes c.push_word.new.text) run in
    let was = c.args.cells.now.rows in
    record {
      ok = on_ok_weaker c.place_run.result
          (λ written. written ∙ ap (λ (s : Stored). cells_written s.rows run.row run.cell (text_cells run.role seen)) same
          ∙ ap (λ r. cells_written was r run.cell (text_cells run.role seen)) is.row_is
          ∙ ap (λ at. cells_written was c.args.row at (text_cells run.role seen)) is.cell_is
          ∙ ap (λ role. cells_written was c.args.row c.args.at (text_cells role seen)) is.role_is
          ∙ ap (λ (cs : List ℕ). cells_written was c.args.row c.args.at (text_cells c.args.role cs)) is.chars_are) c.place_run.ensures.ok;
      runs_added = omega (arith, c.place_run.ensures.runs_added, ap (λ (s : Stored). s.num_runs) same);
      err = on_err_weaker c.place_run.result (λ failed. failed ∙ same) c.place_run.ensures.err;
    }
