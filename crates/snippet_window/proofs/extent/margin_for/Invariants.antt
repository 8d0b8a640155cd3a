use Rattle.snippet_window.proofs.Common.{take, ReachesLines, kept_of}
use Rattle.snippet_window.proofs.extent.margin_for.Given as goal

-- those of the lines so far that are kept are taken in
abbrev pub invariant-loop-line : goal.invariant-loop-line
invariant-loop-line l = ReachesLines (kept_of (take l.line-index l.lines)) l.extent
