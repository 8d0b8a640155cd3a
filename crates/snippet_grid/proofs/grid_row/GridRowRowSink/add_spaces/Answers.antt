use Rattle.snippet_grid.proofs.Common.{common_steps, arith, on_ok_weaker, refl}
use Rattle.snippet_grid.proofs.AppendLemmas.{row_more, spaces_added}
use Rattle.snippet_grid.proofs.grid_row.GridRowRowSink.add_spaces.Goals as goal

pub returns-then-count-eq0 : goal.returns-then-count-eq0
returns-then-count-eq0 c = grind (arith, common_steps, row_more, c.if-count-eq0.true)

pub putc-requires-clause-end : goal.putc-requires-clause-end
putc-requires-clause-end c = omega (arith, c.if-count-eq0.false, c.if-count-end.false, c.width-end.type_inv)

pub returns : goal.returns
returns c = record {
  added = on_ok_weaker c.putc.result (λ ok start cells adds. row_more start c.args.self.now _ cells _ refl
      (spaces_added _ _ _ _ c.args.count c.width-end.ensures.value (omega (arith, c.if-count-eq0.false)) ok) adds) c.putc.ensures.ok;
}
