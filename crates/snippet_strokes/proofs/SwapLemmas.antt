-- Cells written one after another: over one another the last stand, and apart they may change places.
use Rattle.snippet_strokes.proofs.Common.{◌≡◌, ◌≢◌, ℕ, ◌+◌, ◌-◌, ◌<◌, ◌≤◌, ◌&&◌, cond, nat_le, nat_lt, List, [], ◌∷◌}
use Rattle.snippet_strokes.proofs.Common.{length, refl, ap, ◌∙◌, arith, nat_tests, places, All, All-head, All-tail, ext_get_or, length-written}
use Rattle.snippet_strokes.proofs.Common.{slice_index_or, Cell, row_at-cells_written_same, row_at-cells_written_other, cells_written, written}
use Rattle.snippet_strokes.proofs.Common.{Write, painted}
use Rattle.snippet_strokes.proofs.Common.{common_steps}
use Rattle.snippet_strokes.proofs.CellLemmas.{written_by}

-- what stands at a place after a write
slice_index_or-written : {X : Type 0} (blank : X) (xs : List X) (at : ℕ) (new : List X) (k : ℕ) → slice_index_or (written blank xs at new) k blank
    ≡ cond (nat_le at k && nat_lt k (at + length new)) (slice_index_or new (k - at) blank) (slice_index_or xs k blank)
unfolding written
slice_index_or-written blank xs at new k = grind (arith, nat_tests, places)

-- one thing after another at the same place
pub written-again : {X : Type 0} (blank : X) (row : List X) (at : ℕ) (x y : X)
    → written blank (written blank row at (x ∷ [])) at (y ∷ []) ≡ written blank row at (y ∷ [])
unfolding written
written-again blank row at x y = ext_get_or blank _ _ (grind (arith, places)) (λ k h. grind (arith, places))

-- cells of a row that end before others begin may be written after them
pub written-swap : {X : Type 0} (blank : X) (row xs ys : List X) (at from : ℕ) → at + length xs ≤ from
    → written blank (written blank row at xs) from ys ≡ written blank (written blank row from ys) at xs
written-swap blank row xs ys at from left =
    ext_get_or blank _ _ (grind (arith, length-written)) (λ k h. grind (arith, nat_tests, slice_index_or-written))

-- cells of two rows may be written in either order
pub rows-swap : (rows : List (List Cell)) (r q at from : ℕ) (xs ys : List Cell) → r ≢ q
    → cells_written (cells_written rows r at xs) q from ys ≡ cells_written (cells_written rows q from ys) r at xs
rows-swap rows r q at from xs ys two =
    ext_get_or [] _ _ (grind (arith, length-written)) (λ k h.
    grind (arith, nat_tests, slice_index_or-written, row_at-cells_written_same, row_at-cells_written_other))

-- so may cells of a grid, of whatever rows
pub cells-swap : (rows : List (List Cell)) (r q at from : ℕ) (xs ys : List Cell) → at + length xs ≤ from
    → cells_written (cells_written rows r at xs) q from ys ≡ cells_written (cells_written rows q from ys) r at xs
cells-swap rows r q at from xs ys left =
    ext_get_or [] _ _ (grind (arith, length-written)) (λ k h.
    grind (arith, nat_tests, slice_index_or-written, row_at-cells_written_same, row_at-cells_written_other, written-swap))

-- a write may come before those of a row above it
move_row : (n : ℕ) (w : Write) (vs : List Write) (rows : List (List Cell)) → n < w.row → All (λ v. v.row ≡ n) vs
    → painted vs (written_by rows w) ≡ written_by (painted vs rows) w
move_row n w [] rows low here = refl
move_row n w (v ∷ vs) rows low here =
    grind (arith, common_steps, All-head, rows-swap, All-tail, move_row n w vs (written_by rows v) low (All-tail (λ (v : Write). v.row ≡ n) v vs here))

-- writes of a row may come before those of rows below it
pub move_rows : (n : ℕ) (ws vs : List Write) (rows : List (List Cell)) → All (λ w. n < w.row) ws → All (λ v. v.row ≡ n) vs
    → painted vs (painted ws rows) ≡ painted ws (painted vs rows)
move_rows n [] vs rows low here = refl
move_rows n (w ∷ ws) vs rows low here =
    move_rows n ws vs (written_by rows w) (All-tail (λ (w : Write). n < w.row) w ws low) here
    ∙ ap (painted ws) (move_row n w vs rows (All-head (λ (w : Write). n < w.row) w ws low) here)
