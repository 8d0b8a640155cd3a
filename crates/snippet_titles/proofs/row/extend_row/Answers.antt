use Rattle.snippet_grid.proofs.AppendLemmas.{appended_text}
use Rattle.snippet_titles.proofs.row.extend_row.Goals as goal

pub returns : goal.returns
returns c = record {
  extended = appended_text _ _ _ _ _ c.utf8.text c.in_ok-append.ensures.ok c.append.ensures.empty;
}
