use Rattle.std.proofs.Common.{◌≡◌, ◌++◌, take}
use Rattle.snippet_grid.specs.Html as html
use Rattle.redraw_run.proofs.html.add_line.Given as goal

-- the bytes so far are there, with their escapes
abbrev pub invariant-loop-byte : goal.invariant-loop-byte
invariant-loop-byte l = l.text.items ≡ l.fn.text.items ++ html.escaped (take l.byte-index l.line)
