use Rattle.snippet_strokes.proofs.Common.{◌≡◌, ◌∙◌, ◌+◌, ◌==◌, ◌||◌, Bool, ℕ, List, ap, arith, are_starts, greatest, if◌then◌else◌, map}
use Rattle.snippet_strokes.proofs.Common.{PlacedEntry, rows_below, sym}
use Rattle.snippet_strokes.proofs.PositionLemmas.{positions_low, rows_of_whole}
use Rattle.snippet_strokes.proofs.strokes.lowest_label.Goals as goal
use Rattle.snippet_strokes.proofs.Common.{common_steps}
use Rattle.snippet_strokes.proofs.strokes.lowest_label.Goals.{then-lowest-eq0, else-lowest-eq0}

pub overflow_add-result : goal.overflow_add-result
overflow_add-result c = omega (arith, c.greatest_position-lowest.ensures.value, positions_low c.args.placed.now c.requires.low)

-- so many rows stand below that of the marks, by whether none hangs or all are starts
rows_are : (placed : List PlacedEntry) (lowest : ℕ) → lowest ≡ greatest (map (λ e. e.position) placed)
    → greatest (map (rows_below (are_starts placed)) placed)
    ≡ (let g = greatest (map (λ e. e.position) placed) in if g == 0 || are_starts placed then g else g + 1)
    → (b : Bool) → b ≡ (lowest == 0 || are_starts placed)
    → (if b then lowest else lowest + 1) ≡ greatest (map (rows_below (are_starts placed)) placed)
rows_are placed lowest is rows b tells =
    ap (λ x. if x then lowest else lowest + 1) tells ∙ ap (λ n. if n == 0 || are_starts placed then n else n + 1) is ∙ sym rows

pub returns-then-are_starts : goal.returns-then-are_starts
returns-then-are_starts c = grind (arith, common_steps, then-lowest-eq0, else-lowest-eq0, rows_are, rows_of_whole, positions_low)

pub returns-else-are_starts : goal.returns-else-are_starts
returns-else-are_starts c = grind (arith, common_steps, then-lowest-eq0, else-lowest-eq0, rows_are, rows_of_whole, positions_low)
