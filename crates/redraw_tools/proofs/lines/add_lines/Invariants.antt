use Rattle.std.proofs.Common.{◌≡◌, drop}
use Rattle.json_lines.specs.Field.{lent_texts}
use Rattle.redraw_tools.specs.Found.{found_view}
use Rattle.redraw_tools.specs.Told.{with_lines}
use Rattle.redraw_tools.proofs.lines.add_lines.Given as goal

-- what the lines from here on add to the finding so far is what all of them add
abbrev pub invariant-loop-line : goal.invariant-loop-line
invariant-loop-line l =
    with_lines l.unit (found_view l.finding) (lent_texts (drop l.line-index l.more)) ≡ with_lines l.unit (found_view l.initial.finding) (lent_texts l.more)
