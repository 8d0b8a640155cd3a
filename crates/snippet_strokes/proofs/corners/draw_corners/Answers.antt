use Rattle.snippet_strokes.proofs.Common.{◌≡◌, ◌∙◌, ◌+◌, List, ℕ, ap, arith, length, take, All, take_all, All-take, Cell, Layout}
use Rattle.snippet_strokes.proofs.Common.{PlacedEntry, HasRows, corners_of, HasBarCell, painted}
use Rattle.snippet_strokes.proofs.BarWrites.{DrawsBarCells-corners}
use Rattle.snippet_strokes.proofs.WriteLaws.{painted_more}
use Rattle.snippet_strokes.proofs.Common.{common_steps}
use Rattle.snippet_strokes.proofs.corners.draw_corners.Goals as goal

-- bars add no row
count_kept : (layout : Layout) (row i : ℕ) (es : List PlacedEntry) (old mid : List (List Cell))
    → mid ≡ painted (corners_of layout row (length old) (take i es)) old → All (λ (e : PlacedEntry). HasBarCell layout e.entry) es
    → All (HasRows (row + 1) (length old)) es → length mid ≡ length old
count_kept layout row i es old mid so_far bar_cells rows =
    let n = length old in
    ap length so_far ∙ (DrawsBarCells-corners layout row (take i es) old (All-take (λ (e : PlacedEntry). HasBarCell layout e.entry) i es bar_cells)
    (All-take (HasRows (row + 1) n) i es rows)).draws.count

pub draw_corner-requires-clause-small : goal.draw_corner-requires-clause-small
draw_corner-requires-clause-small g c = grind (arith, common_steps, count_kept)

pub draw_corner-requires-clause-rows : goal.draw_corner-requires-clause-rows
draw_corner-requires-clause-rows g c = grind (arith, common_steps, count_kept)

pub loop-entry-preserved : goal.loop-entry-preserved
loop-entry-preserved g c = grind (arith, common_steps, count_kept, painted_more)

pub returns : goal.returns
returns g c = grind (arith, common_steps, take_all)
