-- A line that fits the room is shown as it is, where lines aren't cut on the left.
use Rattle.snippet_strokes.proofs.Common.{◌≡◌, ℕ, ◌-◌, ◌≤◌, min, cond, ltb, false, None, List, ap, arith, le-leb, take_all, Margin}
use Rattle.snippet_strokes.proofs.Common.{window_left, window_right, inner_part, covered_columns, uncovered_part, covered_end, DecorStyle, Quotation}
use Rattle.snippet_strokes.proofs.Common.{placeholder_of, Cell, text_cells, width_of, window_cells, begun_cells, ended_cells, reaching-none, fitting_all, rules}

-- a window with no bound on the left begins at column 0
pub left_none : (text : List ℕ) → window_left 0 text ≡ 0
left_none text = omega arith

right-whole : (room right : ℕ) (text : List ℕ) → width_of text ≤ room → window_right room 0 right text ≡ width_of text
right-whole room right text fits =
    ap (λ b. cond b (width_of text) (min (width_of text) right)) (le-leb (width_of text - window_left 0 text) room (omega arith))

inner-whole : (room right : ℕ) (text : List ℕ) → width_of text ≤ room → inner_part room 0 right text ≡ text
inner-whole room right text fits = grind (arith, right-whole, left_none, reaching-none, fitting_all, take_all)

not_less : (n : ℕ) → ltb n n ≡ false
not_less n = grind arith

end_none : (room right : ℕ) (placeholder text : List ℕ) → width_of text ≤ room → covered_end room 0 right placeholder text ≡ None
end_none room right placeholder text fits = search rules

-- the cells between any bounds
cells_between : DecorStyle → ℕ → ℕ → ℕ → List ℕ → List Cell
cells_between decor room left right text =
    let placeholder = placeholder_of decor in
    let inner = inner_part room left right text in
    ended_cells decor (covered_end room left right placeholder text)
    (begun_cells decor (covered_columns left placeholder inner) (uncovered_part left placeholder inner))

whole_between : (decor : DecorStyle) (room right : ℕ) (text : List ℕ) → width_of text ≤ room → cells_between decor room 0 right text ≡ text_cells Quotation text
unfolding cells_between
whole_between decor room right text fits = grind (arith, end_none, inner-whole)

-- a text that fits the room, of which nothing is cut on the left, is shown whole
pub window_cells-whole : (decor : DecorStyle) (margin : Margin) (text : List ℕ) → margin.computed_left ≡ 0 → width_of text ≤ margin.term_width
    → window_cells decor margin text ≡ text_cells Quotation text
unfolding cells_between
window_cells-whole decor margin text uncut fits = grind (arith, whole_between)
