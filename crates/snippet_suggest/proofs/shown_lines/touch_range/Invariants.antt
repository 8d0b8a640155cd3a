use Rattle.snippet_suggest.proofs.Common.{◌≡◌, ◌<◌, ℕ, leb, ltb, false, ◌&&◌, ◌||◌, length, get_or}
use Rattle.snippet_suggest.proofs.shown_lines.touch_range.Given as goal

-- the lines so far are marked, and the others are as they were
abbrev pub invariant-loop-line : goal.invariant-loop-line
invariant-loop-line l =
    (k : ℕ) → k < length l.touched
    → get_or l.touched k false ≡ (get_or l.fn.touched k false || (leb l.fn.range.first k && (leb k l.fn.range.last && ltb k l.line)))
