use Rattle.snippet_grid.proofs.Common.{on_ok_weaker, refl}
use Rattle.snippet_grid.proofs.AppendLemmas.{appended_text, row_more}
use Rattle.snippet_grid.proofs.grid_row.GridRowRowSink.add_word.Goals as goal

pub returns : goal.returns
returns c = record {
  added = on_ok_weaker c.append.result (λ ok start cells adds. row_more start c.args.self.now _ cells _ refl
      (appended_text _ _ _ _ _ c.utf8.word ok c.append.ensures.empty) adds) c.append.ensures.ok;
}
