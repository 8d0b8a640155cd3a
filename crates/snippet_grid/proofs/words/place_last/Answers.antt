use Rattle.snippet_grid.proofs.Common.{common_steps, ◌≡◌, ◌+◌, ◌≤◌, refl, set, arith, string_bytes, length, slice_index_or, length-set, FitIn, IsPut, IsWidened}
use Rattle.snippet_grid.proofs.Common.{IsWord, run_bytes}
use Rattle.std.specs.Str.{chars}
use Rattle.snippet_grid.proofs.GridShown.{FitIn-widened, IsGrid-grown, IsWidened-to, grid_written, word_end, stored_grown}
use Rattle.snippet_grid.proofs.LastLemmas.{last_before, last_widened}
use Rattle.snippet_grid.proofs.RunLemmas.{BeginsWith-same}
use Rattle.snippet_grid.proofs.TouchLemmas.{IsPut-added}
use Rattle.snippet_grid.proofs.words.place_last.Goals as goal

pub add_run-requires-clause-runs : goal.add_run-requires-clause-runs
add_run-requires-clause-runs c = c.requires.grid.are_runs

pub returns-in_err-add_run-clause-grid : goal.returns-in_err-add_run-clause-grid
returns-in_err-add_run-clause-grid c =
    IsGrid-grown (string_bytes c.args.text.now) (string_bytes c.add_run.new.text) c.args.runs.now.items c.add_run.new.runs.items
    c.args.widths.now.items c.args.widths.now.items c.in_err-add_run.ensures.text c.in_err-add_run.ensures.err refl c.requires.grid

pub returns-in_err-add_run-clause-err : goal.returns-in_err-add_run-clause-err
returns-in_err-add_run-clause-err c = grind (arith, common_steps, stored_grown, c.in_err-add_run.ensures.text, c.in_err-add_run.ensures.err, c.requires.grid)

pub returns : goal.returns
returns c =
    let text = string_bytes c.args.text.now in
    let new = string_bytes c.add_run.new.text in
    let runs = c.args.runs.now.items in
    let now = c.add_run.new.runs.items in
    let w = c.args.widths.now.items in
    let run = c.args.run.now in
    let v = set w run.row (run.cell + run.count) in
    let grid = c.requires.grid in
    let before = last_before text w runs run grid.are_runs grid.inside c.requires.last in
    let put : IsPut text new runs now run = IsPut-added text new runs now run c.in_ok-add_run.ensures.ok c.in_ok-add_run.ensures.are_runs
    grid.ordered grid.apart before c.in_ok-add_run.ensures.adds in
    let word = run_bytes text run in
    let is : IsWord text run.row run.cell run.role word run = record
    { is_run = c.requires.run; row_is = refl; cell_is = refl; role_is = refl; unlinked = c.requires.unlinked; chars_are = refl } in
    let end : run.cell + run.count ≡ run.cell + length (chars word) = word_end text run.row run.cell run.role word run is in
    let wide : IsWidened w v run.row (run.cell + length (chars word)) = IsWidened-to w w v run.row _ _ refl end
    (last_widened w run (run.cell + run.count) c.requires.last (omega arith)) in
    let within : run.cell + run.count ≤ slice_index_or v run.row 0 = omega (arith, end, wide.here) in
    let fits : FitIn v now = put.inside v (FitIn-widened w v run.row _ runs wide grid.inside) within in
    record {
      ok = grid_written text text new runs now w v run run.row run.cell run.role word (BeginsWith-same text) grid.are_runs grid.inside fits is put.shows
          wide;
      grid = record { are_runs = put.are_runs; ordered = put.ordered; apart = put.apart; inside = fits };
      runs_added = put.few;
      rows = λ few. omega (arith, few, length-set w run.row (run.cell + run.count));
      err = tt;
    }
