use Rattle.snippet_grid.proofs.Common.{common_steps, ◌∙◌, ◌-◌, ◌++◌, List, Cell, Run, SPACE, ap, append_assoc, arith, cells_to, get_or, cells_alike}
use Rattle.snippet_grid.proofs.Common.{option_copied, refl, replicate, run_chars, subst, sym}
use Rattle.snippet_grid.proofs.RunLemmas.{none}
use Rattle.snippet_grid.proofs.RowWoven.{cells_gap, cells_run, first_ahead, stands_first, stands_next}
use Rattle.snippet_grid.proofs.row_runs.write_runs.Goals as goal

pub loop-run-init : goal.loop-run-init
loop-run-init g c = grind (arith, common_steps, g.S.RowSink.adds, stands_first)

pub write_run-requires : goal.write_run-requires
write_run-requires g c = λ k. ((refl, tt), c.requires.runs.are_runs c.loop-run.run-index none c.loop-run-test.true)

pub loop-run-preserved : goal.loop-run-preserved
loop-run-preserved g c =
    let text = c.args.text.now in
    let runs = c.args.runs.now in
    let row = c.args.row in
    let i = c.loop-run.run-index in
    let run : Run = get_or runs i none in
    let stands = c.loop-run.invariant.stands in
    let gap = cells_gap text runs row i c.loop-run.col run.cell stands (stands.ahead i none (omega arith) c.loop-run-test.true)
    (first_ahead text row runs i none c.requires.runs c.loop-run-test.true) in
    let whole : List Cell = cells_to text runs row c.loop-run.col in
    let spaces : List Cell = replicate (run.cell - c.loop-run.col) SPACE in
    let word : List Cell = cells_alike run.role (option_copied run.link) (run_chars text run) in
    record {
      added = λ start cells adds. subst (λ (done : List Cell). g.S.RowSink.adds start c.write_run.new.sink done)
          (ap (λ (done : List Cell). done ++ word) (append_assoc cells whole spaces ∙ ap (λ (done : List Cell). cells ++ done) (sym gap))
          ∙ append_assoc cells (cells_to text runs row run.cell) word
          ∙ ap (λ (done : List Cell). cells ++ done) (sym (cells_run text runs row i none c.requires.runs c.loop-run-test.true)))
          (c.in_ok-write_run.ensures.added start ((cells ++ whole) ++ spaces)
          (c.in_ok-add_spaces.ensures.added start (cells ++ whole) (c.loop-run.invariant.added start cells adds)));
      stands = stands_next text row i c.loop-run.col runs none c.requires.runs c.loop-run-test.true stands;
      inside = c.requires.ends i none c.loop-run-test.true;
    }

pub overflow_sub-run : goal.overflow_sub-run
overflow_sub-run g c = omega (arith, c.loop-run.invariant.stands.ahead c.loop-run.run-index none (omega arith) c.loop-run-test.true)

pub returns : goal.returns
returns g c =
    grind (
      arith,
      common_steps,
      c.loop-run.run-index,
      c.loop-run-test.false,
      cells_gap,
      c.loop-run.col,
      c.loop-run.invariant.stands,
      g.S.RowSink.adds,
      c.loop-run.invariant.added,
      c.add_spaces-2.ensures.added,
    )
