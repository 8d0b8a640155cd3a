use Rattle.snippet_grid.proofs.Common.{on_ok_weaker}
use Rattle.snippet_grid.proofs.OpenRowLemmas.{adds_more}
use Rattle.snippet_grid.proofs.printed_row.PrintedRowRowSink.add_word.Goals as goal

pub returns-then-is_some : goal.returns-then-is_some
returns-then-is_some c = record {
  added = on_ok_weaker c.add_stretch.result (λ added start cells adds. adds_more start _ _ cells _ added adds) c.add_stretch.ensures.added;
}

pub returns : goal.returns
returns c = record {
  added = on_ok_weaker c.add_unlinked.result (λ added start cells adds. adds_more start _ _ cells _ added adds) c.add_unlinked.ensures.added;
}
