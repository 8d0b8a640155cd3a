use Rattle.snippet_strokes.proofs.Common.{◌≡◌, map, range_with_len, painted}
use Rattle.snippet_strokes.proofs.CellLemmas.{stem_write}
use Rattle.snippet_strokes.proofs.stems.draw_stem.Given as goal

-- the stem is drawn down to this row
abbrev pub invariant-loop-below : goal.invariant-loop-below
invariant-loop-below g l =
    (g.C.Canvas.rows l.buffer) ≡ painted (map (stem_write l.fn.layout l.fn.row l.placed) (range_with_len 0 l.below)) (g.C.Canvas.rows l.initial.buffer)
