use Rattle.std.proofs.Common.{◌≡◌, ◌++◌}
use Rattle.std.specs.List.{range_with_len}
use Rattle.redraw_tools.proofs.steps.add_indexes.Given as goal

-- the indexes so far
abbrev pub invariant-loop-offset : goal.invariant-loop-offset
invariant-loop-offset l = l.shown.items ≡ l.initial.shown.items ++ range_with_len l.first l.offset
