use Rattle.snippet_strokes.proofs.Common.{◌≡◌, ◌-◌, ◌≤◌, length, take, barred}
use Rattle.snippet_strokes.proofs.bars.draw_sides.Given as goal

-- the bars before this one are drawn
abbrev pub invariant-loop-from : goal.invariant-loop-from
invariant-loop-from l =
    (l.from ≤ length l.bars) × (l.buffer ≡ barred l.layout l.stroke (take l.from l.bars) l.row l.initial.buffer)

abbrev pub decreases-loop-from : goal.decreases-loop-from
decreases-loop-from l = length l.bars - l.from
