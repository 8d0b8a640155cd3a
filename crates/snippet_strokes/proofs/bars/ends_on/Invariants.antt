use Rattle.snippet_strokes.proofs.Common.{◌≡◌, take, ends_of_bars}
use Rattle.snippet_strokes.proofs.bars.ends_on.Given as goal

-- the bars of the entries so far are listed
abbrev pub invariant-loop-entry : goal.invariant-loop-entry
invariant-loop-entry l = l.bars.items ≡ ends_of_bars (take l.entry-index l.entries)
