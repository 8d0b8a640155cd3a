use Rattle.snippet_grid.proofs.Common.{◌≡◌, refl, sym, subst, get_or, string_bytes, List, ℕ, get_or_default, IsRun, IsPart, Run}
use Rattle.snippet_grid.proofs.CopyLemmas.{copy_start, copy_next, copy_past}
use Rattle.snippet_grid.proofs.RunLemmas.{none, IsRun-grown}
use Rattle.snippet_grid.proofs.runs.copy_cells.Goals as goal
use Rattle.snippet_grid.proofs.runs.copy_cells.Goals.{then-start-end+in_ok-add_run, else-start-end}

pub loop-run-init : goal.loop-run-init
loop-run-init c =
    copy_start (string_bytes c.args.text.now) c.args.out.now.items c.args.runs.now c.args.cells.row c.args.cells.start c.args.cells.end c.args.at
    c.requires.out c.requires.before

pub clipped-part-requires-clause-run : goal.clipped-part-requires-clause-run
clipped-part-requires-clause-run c =
    let is = IsRun-grown (string_bytes c.args.text.now) (string_bytes c.loop-run.text)
    (get_or c.args.runs.now c.loop-run.run-index none) c.loop-run.invariant.grows
    (c.requires.runs.are_runs c.loop-run.run-index none c.loop-run-test.true) in
    subst (λ (t : List ℕ). IsRun t (get_or c.args.runs.now c.loop-run.run-index none)) (sym c.as_str.ensures.value) is

pub loop-run-preserved : goal.loop-run-preserved
loop-run-preserved c =
    let run : Run = get_or c.args.runs.now c.loop-run.run-index none in
    let read : run ≡ get_or c.args.runs.now c.loop-run.run-index run = get_or_default c.args.runs.now c.loop-run.run-index none run c.loop-run-test.true in
    elim c.if-start-end.branch [
      | then-start-end+in_ok-add_run w ↦
          let part = subst (λ (t : List ℕ). IsPart t run c.max-start.result c.min-end.result w.clipped-part.result) w.as_str.ensures.value
          w.clipped-part.ensures.part in
          rw (w.text-is, w.out-is)
          (copy_next (string_bytes c.args.text.now) (string_bytes c.loop-run.text) (string_bytes w.add_run.new.text)
          c.args.out.now.items c.loop-run.out.items w.add_run.new.runs.items c.args.runs.now run w.clipped-part.result _ c.args.cells.row c.args.cells.start
          c.args.cells.end c.args.at c.loop-run.run-index c.max-start.result c.min-end.result c.loop-run-test.true read c.requires.runs
          c.loop-run.invariant part c.max-start.ensures c.min-end.ensures w.if-start-end.true refl refl refl refl refl refl refl
          w.in_ok-add_run.ensures.text w.in_ok-add_run.ensures.ok w.in_ok-add_run.ensures.are_runs w.in_ok-add_run.ensures.adds)
      | else-start-end w ↦
          rw (w.text-is, w.out-is)
          (copy_past (string_bytes c.args.text.now) (string_bytes c.loop-run.text)
          c.args.out.now.items c.loop-run.out.items c.args.runs.now run c.args.cells.row c.args.cells.start c.args.cells.end c.args.at c.loop-run.run-index
          c.max-start.result c.min-end.result c.loop-run-test.true read c.loop-run.invariant c.max-start.ensures c.min-end.ensures
          w.if-start-end.false)
    ]
