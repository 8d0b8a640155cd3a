-- Below the first row there is a row for each line so far.
use Rattle.snippet_titles.proofs.Common.{◌≡◌, ◌++◌, ◌∷◌, take, row_at, indent_cells, without_empty_end}
use Rattle.snippet_titles.proofs.LineLemmas.{further_rows}
use Rattle.snippet_titles.proofs.heading.draw_lines.Given as goal

abbrev pub invariant-loop-index : goal.invariant-loop-index
invariant-loop-index g l =
    l.buffer ≡ take l.row l.initial.buffer ++ without_empty_end (row_at l.initial.buffer l.row ∷ further_rows (indent_cells l.style l.width) l.role l.yielded)
