-- What a row becomes where spaces or a stroke are drawn into it.
use Rattle.snippet_titles.proofs.Common.{common_steps, ◌≡◌, ℕ, ◌<◌, List, [], ◌∷◌, ◌++◌, length, replicate, ap, ◌∙◌, arith, row_at, cells_written, Cell, SPACE}
use Rattle.snippet_titles.proofs.Common.{appended}
use Rattle.snippet_grid.proofs.AppendLemmas.{appended-appended, written-appended}

-- cells after the gutter of an empty row
pub after_gutter : (old new : List (List Cell)) (row at : ℕ) (cells : List Cell) → row_at old row ≡ [] → 0 < length cells → new ≡ cells_written old row at cells
    → new ≡ appended old row (replicate at SPACE ++ cells)
after_gutter old new row at cells none some is = grind (arith, common_steps, written-appended)

-- and spaces after them
pub bar_drawn : (old mid new : List (List Cell)) (row at count : ℕ) (cell : Cell) → row_at old row ≡ [] → mid ≡ cells_written old row at (cell ∷ [])
    → new ≡ appended mid row (replicate count SPACE) → new ≡ appended old row (replicate at SPACE ++ cell ∷ replicate count SPACE)
bar_drawn old mid new row at count cell none written more =
    grind (arith, common_steps, more, after_gutter, none, written, appended-appended old row (replicate at SPACE ++ cell ∷ []) (replicate count SPACE))

-- cells in two and in three parts
pub appended-two : (old one new : List (List Cell)) (row : ℕ) (xs ys : List Cell) → one ≡ appended old row xs → new ≡ appended one row ys
    → new ≡ appended old row (xs ++ ys)
appended-two old one new row xs ys first second =
    second ∙ ap (λ rs. appended rs row ys) first ∙ appended-appended old row xs ys
