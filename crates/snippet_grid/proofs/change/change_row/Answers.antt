use Rattle.snippet_grid.proofs.Common.{common_steps, arith, string_bytes, subst, sym, List, IsPartOfRow, IsRow, shown_cell, Run}
use Rattle.snippet_grid.proofs.ChangedRow.{change_next}
use Rattle.snippet_grid.proofs.ShownLemmas.{All-IsRun-grown}
use Rattle.snippet_grid.proofs.change.change_row.Goals as goal

pub put_run-requires-clause-runs : goal.put_run-requires-clause-runs
put_run-requires-clause-runs c = grind (arith, common_steps, All-IsRun-grown, c.loop-col.text, c.in_ok-part.ensures.text, c.loop-col.invariant.is_row.are_runs)

pub loop-col-preserved : goal.loop-col-preserved
loop-col-preserved c =
    let now = string_bytes c.loop-col.text in
    let mid = string_bytes c.part_at.new.text in
    let part = subst (λ (l : List Run). IsPartOfRow mid c.args.cells.row c.loop-col.col c.args.cells.end (λ k.
    shown_cell now l c.args.cells.row k) c.in_ok-part.part) c.as_slice.ensures.value c.in_ok-part.ensures.ok in
    change_next (string_bytes c.args.text.now) now mid (string_bytes c.put_run.new.text)
    c.args.runs.now.items c.loop-col.runs.items c.put_run.new.runs.items c.in_ok-part.part c.changed.result c.args.cells.row c.args.cells.start c.args.cells.end
    c.args.change c.loop-col.col c.loop-col.invariant c.in_ok-part.ensures.text c.in_ok-put_run.ensures.text part c.changed.ensures.is
    c.in_ok-put_run.ensures.ok

pub part_at-requires-clause-runs : goal.part_at-requires-clause-runs
part_at-requires-clause-runs c =
    subst (λ (l : List Run). IsRow (string_bytes c.loop-col.text) c.args.cells.row l) (sym c.as_slice.ensures.value) c.loop-col.invariant.is_row

pub put_run-requires-clause-ordered : goal.put_run-requires-clause-ordered
put_run-requires-clause-ordered c = c.loop-col.invariant.is_row.ordered

pub put_run-requires-clause-apart : goal.put_run-requires-clause-apart
put_run-requires-clause-apart c = c.loop-col.invariant.is_row.apart
