use Rattle.std.proofs.Common.{take}
use Rattle.redraw_read.specs.ShownLines.{AreNumbersOf, texts}
use Rattle.redraw_read.proofs.shown_lines.numbers_of.Given as goal

-- the numbers of the lines so far
abbrev pub invariant-loop-number : goal.invariant-loop-number
invariant-loop-number l = AreNumbersOf l.place l.numbers (texts (take l.number l.lines))
