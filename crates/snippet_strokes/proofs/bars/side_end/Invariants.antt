use Rattle.snippet_strokes.proofs.Common.{ℕ, ◌-◌, ◌<◌, ◌≤◌, length, slice_index_or, OpenBar, StandsBeside}
use Rattle.snippet_strokes.proofs.bars.side_end.Given as goal

-- the bars before this one stand side by side
abbrev pub invariant-loop-to : goal.invariant-loop-to
invariant-loop-to l =
    (l.from < l.to) × (l.to ≤ length l.bars) × ((k : ℕ) (d : OpenBar) → l.from ≤ k → k < l.to
    → StandsBeside (slice_index_or l.bars l.from d) (k - l.from) (slice_index_or l.bars k d))

abbrev pub decreases-loop-to : goal.decreases-loop-to
decreases-loop-to l = length l.bars - l.to
