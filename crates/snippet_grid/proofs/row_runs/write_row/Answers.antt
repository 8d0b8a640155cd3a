use Rattle.snippet_grid.proofs.Common.{common_steps, arith, refl}
use Rattle.snippet_grid.proofs.PutLemmas.{IsRow-stretch, row_ends}
use Rattle.snippet_grid.proofs.RowWoven.{begins_next, cells_of_row}
use Rattle.snippet_grid.proofs.row_runs.write_row.Goals as goal

pub write_runs-requires : goal.write_runs-requires
write_runs-requires g c =
    let grid = c.requires.grid in
    let at = c.row_end-to.ensures.at in
    let runs = IsRow-stretch c.args.text.now c.args.row c.args.runs.now c.args.from c.row_end-to.result at.ordered at.within grid.are_runs grid.ordered
    grid.apart at.inside in
    let ends = row_ends c.args.widths.now c.args.runs.now c.args.row c.args.from c.row_end-to.result at grid.inside in
    λ k. ((refl, tt), (runs, ends))

pub returns : goal.returns
returns g c = grind (arith, common_steps, c.row_end-to.ensures.at, begins_next, g.S.RowSink.adds, cells_of_row, c.in_ok-write_runs.ensures.added)
