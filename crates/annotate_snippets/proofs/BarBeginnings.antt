-- A bar begins in one of its rows: in the words of the laws and in those of the painters.
use Rattle.std.proofs.lemmas.Grind.{common_steps}
use Rattle.annotate_snippets.proofs.Common.{List, inl, inr, arith, cases_eq, cond-false, cond-true, eq-eqb, Cell, Layout, strokes_of, Bar}
use Rattle.annotate_snippets.proofs.Common.{BarBegins, above_zero, BarStarts, part_of_bar}

-- the top of a bar, beside a line that is marked as a whole
abbrev bar_top : Layout → Bar → Cell
bar_top layout bar = part_of_bar bar (strokes_of layout.decor bar.primary).whole_line

-- a bar that begins in one of two ways begins in one of its rows, and the other way round
pub begins_so : (layout : Layout) (bar : Bar) (rows : List (List Cell)) → BarBegins layout bar rows → BarStarts layout bar rows
begins_so layout bar rows (inl beside) = grind (arith, beside.alone, beside.top)
begins_so layout bar rows (inr below) =
    grind (arith, cond-false, above_zero, below.corner, below.within, below.corner_is, below.below, below.source, below.beside)

pub starts_so : (layout : Layout) (bar : Bar) (rows : List (List Cell)) → BarStarts layout bar rows → BarBegins layout bar rows
starts_so layout bar rows starts = grind (arith, common_steps, cases_eq, cond-true, eq-eqb, cond-false, above_zero)
