use Rattle.snippet_grid.proofs.Common.{common_steps, ◌≡◌, ◌+◌, refl, arith, string_bytes, length, ◌≤◌, slice_index_or, IsWidened, IsWord, FitIn, run_bytes}
use Rattle.std.specs.Str.{chars}
use Rattle.snippet_grid.proofs.RunLemmas.{BeginsWith-same}
use Rattle.snippet_grid.proofs.GridShown.{IsGrid-grown, grid_written, FitIn-widened, IsWidened-to, word_end, stored_grown}
use Rattle.snippet_grid.proofs.words.place_run.Goals as goal

pub returns-in_err-put_run-clause-grid : goal.returns-in_err-put_run-clause-grid
returns-in_err-put_run-clause-grid c =
    IsGrid-grown (string_bytes c.args.text.now) (string_bytes c.put_run.new.text) c.args.runs.now.items c.put_run.new.runs.items c.args.widths.now.items
    c.make_room.new.widths.items c.in_err-put_run.ensures.text c.in_err-put_run.ensures.err c.in_ok-make_room.ensures.items c.requires.grid

pub returns-in_err-put_run-clause-err : goal.returns-in_err-put_run-clause-err
returns-in_err-put_run-clause-err c = grind (arith, common_steps, stored_grown, c.in_err-put_run.ensures.text, c.in_err-put_run.ensures.err, c.requires.grid)

pub returns-clause-ok : goal.returns-clause-ok
returns-clause-ok c =
    let text = string_bytes c.args.text.now in
    let widths = c.args.widths.now.items in
    let run = c.args.run.now in
    let word = run_bytes text run in
    let is : IsWord text run.row run.cell run.role word run = record
    { is_run = c.requires.run; row_is = refl; cell_is = refl; role_is = refl; unlinked = c.requires.unlinked; chars_are = refl } in
    let end : run.cell + run.count ≡ run.cell + length (chars word) = word_end text run.row run.cell run.role word run is in
    let wide : IsWidened widths c.widen.new.widths.items run.row (run.cell + length
    (chars word)) = IsWidened-to c.make_room.new.widths.items widths c.widen.new.widths.items run.row _ _ c.in_ok-make_room.ensures.items end
    c.in_ok-widen.ensures.wide in
    let wide_run : FitIn c.widen.new.widths.items c.args.runs.now.items = FitIn-widened widths c.widen.new.widths.items run.row _ c.args.runs.now.items wide
    c.requires.grid.inside in
    let within : run.cell + run.count ≤ slice_index_or c.widen.new.widths.items run.row 0 = omega (arith, end, wide.here) in
    grid_written text text (string_bytes c.put_run.new.text)
    c.args.runs.now.items c.put_run.new.runs.items widths c.widen.new.widths.items run run.row run.cell run.role word (BeginsWith-same text)
    c.requires.grid.are_runs c.requires.grid.inside (c.in_ok-put_run.ensures.ok.inside c.widen.new.widths.items wide_run within)
    is c.in_ok-put_run.ensures.ok.shows wide
