use Rattle.std.proofs.Common.{◌≡◌, ◌++◌, List}
use Rattle.redraw_report.specs.declared.diagnostic.FileSpan.{FileSpan}
use Rattle.redraw_read.specs.Places.{shown_from, shown_of}
use Rattle.redraw_read.proofs.unsaid.drop_unsaid.Given as goal

-- what is shown of the places so far is kept, and the last of it is at hand
abbrev pub invariant-loop-span : goal.invariant-loop-span
invariant-loop-span l = (rest : List FileSpan) → shown_of (l.yielded ++ rest) ≡ l.kept.items ++ shown_from l.last rest
