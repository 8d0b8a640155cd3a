-- Rows that are kept cell by cell, after a write and as they are added to a grid.
use Rattle.std.proofs.lemmas.Grind.{common_steps}
use Rattle.snippet_strokes.proofs.Common.{◌≡◌, ℕ, zero, suc, ◌+◌, ◌-◌, ◌<◌, ◌≤◌, List, [], ◌∷◌, ◌++◌, length, ◌⊎◌}
use Rattle.snippet_strokes.proofs.Common.{map, take, drop, get_or, replicate, All, inl, inr, refl, sym, ap, ◌∙◌, arith, append_assoc, append-nil}
use Rattle.snippet_strokes.proofs.Common.{length-append, length-map, length-replicate, map-append, map-set, places, same_lists, drop-map, take-map, get_or-map}
use Rattle.snippet_strokes.proofs.Common.{get_or-replicate, replicate-append-replicate, set_split, All-head, All-tail, Vec}
use Rattle.snippet_strokes.proofs.Common.{cells_written, cell_of, cells_of, StyledChar, Cell, SPACE, written}
use Rattle.std.proofs.Math.ListN.{set}

-- ---- writes into a row

-- a write that goes on where another ends is one write of both
pub written_more : {X : Type 0} (blank : X) (xs : List X) (at : ℕ) (ys zs : List X)
    → written blank (written blank xs at ys) (at + length ys) zs ≡ written blank xs at (ys ++ zs)
written_more blank xs at ys zs =
    same_lists _ _ (unfold written in grind (arith, places)) (λ k d h. unfold written in grind (arith, places))

-- a write of nothing fills up
pub written_none : {X : Type 0} (blank : X) (xs : List X) (at : ℕ) → written blank xs at [] ≡ xs ++ replicate (at - length xs) blank
written_none blank xs at =
    same_lists _ _ (unfold written in grind (arith, places)) (λ k d h. unfold written in grind (arith, places))

-- a write of one into a list that reaches as far replaces what stands there
pub written_set : {X : Type 0} (blank : X) (xs : List X) (at : ℕ) (y : X) → at < length xs → written blank xs at (y ∷ []) ≡ set xs at y
unfolding written
written_set blank xs at y within = grind (arith, append-nil, append_assoc, set_split)

-- a write past all that is there
pub written_past : {X : Type 0} (blank : X) (xs : List X) (at : ℕ) (ys : List X) → length xs ≤ at
    → written blank xs at ys ≡ (xs ++ replicate (at - length xs) blank) ++ ys
written_past blank xs at ys past =
    same_lists _ _ (unfold written in grind (arith, places, past)) (λ k d h. unfold written in grind (arith, places, past))

-- the cells of a row after one is set
pub set_cell : (xs : List StyledChar) (at : ℕ) (new : StyledChar) → at < length xs
    → map cell_of (set xs at new) ≡ written SPACE (map cell_of xs) at (cell_of new ∷ [])
set_cell xs at new within =
    map-set cell_of xs at new ∙ sym (written_set SPACE (map cell_of xs) at (cell_of new) (omega (arith, within, length-map xs cell_of)))

-- and after one is added
pub add_cell : (xs mid : List StyledChar) (at : ℕ) (new : StyledChar) → length xs ≤ at → map cell_of mid ≡ written SPACE (map cell_of xs) at []
    → map cell_of (mid ++ new ∷ []) ≡ written SPACE (map cell_of xs) at (cell_of new ∷ [])
add_cell xs mid at new past filled = grind (arith, map-append, written_none, written_past, length-map)

-- one character more of a write
pub more_cells : (xs mid new : List Cell) (at next : ℕ) (ys : List Cell) (y : Cell) → next ≡ at + length ys → mid ≡ written SPACE xs at ys
    → new ≡ written SPACE mid next (y ∷ []) → new ≡ written SPACE xs at (ys ++ y ∷ [])
more_cells xs mid new at next ys y here so_far writes =
    writes ∙ ap (λ n. written SPACE mid n (y ∷ [])) here ∙ ap (λ m. written SPACE m (at + length ys) (y ∷ [])) so_far ∙ written_more SPACE xs at ys (y ∷ [])

-- a row is filled up with blanks
pub are_blanks : (blank : StyledChar) → cell_of blank ≡ SPACE → All (λ (c : StyledChar). cell_of c ≡ SPACE) (replicate 64 blank)
are_blanks blank is k d within =
    ap cell_of (get_or-replicate 64 k blank d (omega (arith, within, length-replicate {A = StyledChar} 64 blank))) ∙ is

-- the cells of the first of some blanks
pub blank_part : (blanks : List StyledChar) (count : ℕ) → count ≤ length blanks → All (λ (c : StyledChar). cell_of c ≡ SPACE) blanks
    → map cell_of (take count blanks) ≡ replicate count SPACE
blank_part blanks zero within are = refl
blank_part [] (suc n) within are = absurd (omega (arith, within))
blank_part (b ∷ bs) (suc n) within are =
    ap (λ c. c ∷ map cell_of (take n bs)) (All-head (λ (c : StyledChar). cell_of c ≡ SPACE) b bs are)
    ∙ ap (λ ys. SPACE ∷ ys) (blank_part bs n (omega (arith, within)) (All-tail (λ (c : StyledChar). cell_of c ≡ SPACE) b bs are))

-- more blanks after some
pub more_blanks : (xs mid new : List Cell) (a b n : ℕ) → a + b ≡ n → mid ≡ xs ++ replicate a SPACE → new ≡ mid ++ replicate b SPACE
    → new ≡ xs ++ replicate n SPACE
more_blanks xs mid new a b n sums so_far adds = grind (arith, append_assoc, replicate-append-replicate)

-- characters that are all the same
cells-replicate : (n : ℕ) (new : StyledChar) → map cell_of (replicate n new) ≡ replicate n (cell_of new)
cells-replicate zero new = refl
cells-replicate (suc n) new = ap (λ cells. cell_of new ∷ cells) (cells-replicate n new)

-- a write of one cell many times, over the cells that are there and then after them
written_stretch : {X : Type 0} (blank : X) (xs : List X) (start there end : ℕ) (y : X) → start ≤ there → there ≤ end → there ≤ length xs
    → (there ≡ end) ⊎ (there ≡ length xs)
    → (take start xs ++ replicate (there - start) y ++ drop there xs) ++ replicate (end - length xs) y ≡ written blank xs start (replicate (end - start) y)
written_stretch blank xs start there end y from to within ends =
    same_lists _ _ (unfold written in grind (arith, places, from, to, within, ends)) (λ k d h. unfold written in grind (arith, places, from, to, within, ends))

-- what is painted over leaves as many
pub painted_over : (mid : List StyledChar) (start there : ℕ) (new : StyledChar) → start ≤ there → there ≤ length mid
    → length (take start mid ++ replicate (there - start) new ++ drop there mid) ≡ length mid
painted_over mid start there new from within = grind (arith, places, from, within)

-- the cells of a row after a stretch of it is written: over what it is filled up to, and then after that
pub stretch_over : (xs mid : List StyledChar) (start there end : ℕ) (new : StyledChar) → map cell_of mid ≡ written SPACE (map cell_of xs) start []
    → start ≤ there → there ≤ end → there ≤ length mid → (there ≡ end) ⊎ (there ≡ length mid)
    → map cell_of ((take start mid ++ replicate (there - start) new ++ drop there mid) ++ replicate (end - length mid) new)
    ≡ written SPACE (map cell_of xs) start (replicate (end - start) (cell_of new))
stretch_over xs mid start there end new filled from to within ends =
    let cells : List Cell = map cell_of xs in
    let ms : List Cell = map cell_of mid in
    let cell : Cell = cell_of new in
    let many : length ms ≡ length mid = length-map mid cell_of in
    map-append cell_of (take start mid ++ replicate (there - start) new ++ drop there mid) (replicate (end - length mid) new)
    ∙ ap (λ ys. ys ++ map cell_of (replicate (end - length mid) new)) (
    map-append cell_of (take start mid ++ replicate (there - start) new) (drop there mid)
    ∙ ap (λ ys. ys ++ map cell_of (drop there mid)) (
    map-append cell_of (take start mid) (replicate (there - start) new)
    ∙ ap (λ ys. map cell_of (take start mid) ++ ys) (cells-replicate (there - start) new)
    ∙ ap (λ ys. ys ++ replicate (there - start) cell) (sym (take-map cell_of start mid))
    )
    ∙ ap (λ ys. (take start ms ++ replicate (there - start) cell) ++ ys) (sym (drop-map cell_of there mid))
    )
    ∙ ap (λ ys. (take start ms ++ replicate (there - start) cell ++ drop there ms) ++ ys) (cells-replicate (end - length mid) new
    ∙ ap (λ n. replicate (end - n) cell) (sym many))
    ∙ written_stretch SPACE ms start there end cell from to (omega (arith, within, many)) (elim ends [ inl is ↦ inl is | inr is ↦ inr (is ∙ sym many) ])
    ∙ ap (λ rs. written SPACE rs start (replicate (end - start) cell)) filled
    ∙ ap (λ n. written SPACE (written SPACE cells start []) n (replicate (end - start) cell)) (let same : start ≡ start + 0 = omega arith in same)
    ∙ written_more SPACE cells start [] (replicate (end - start) cell)

-- ---- rows that are written

drop_padded : (rows : List (List Cell)) (n : ℕ) → drop n (rows ++ replicate (n - length rows) []) ≡ drop n rows
drop_padded rows n = same_lists _ _ (grind (arith, places)) (λ k d h. grind (arith, places))

-- the rows after one is written, where rows are made as far as it
pub row_set : (rows made : List (List Cell)) (row at : ℕ) (cells : List Cell) → made ≡ rows ++ replicate (row + 1 - length rows) []
    → set made row (written SPACE (get_or made row []) at cells) ≡ cells_written rows row at cells
unfolding written
row_set rows made row at cells is = grind (arith, common_steps, filled, length-append, length-replicate, set, set_split, parts, append_assoc)
  where
    filled : (k : ℕ) → get_or (rows ++ replicate (row + 1 - length rows) []) k [] ≡ get_or rows k []
    filled k = grind (arith, places)

    front : take row (rows ++ replicate (row + 1 - length rows) []) ≡ take row (rows ++ replicate (row - length rows) [])
    front = same_lists _ _ (grind (arith, places)) (λ k d h. grind (arith, places))

    back : drop (suc row) (rows ++ replicate (row + 1 - length rows) []) ≡ drop (row + 1) rows
    back =
        let next : suc row ≡ row + 1 = omega arith in
        ap (λ n. drop n (rows ++ replicate (row + 1 - length rows) [])) next ∙ drop_padded rows (row + 1)

    parts : (new : List Cell) → take row (rows ++ replicate (row + 1 - length rows) []) ++ new ∷ drop (suc row) (rows ++ replicate (row + 1 - length rows) [])
        ≡ take row (rows ++ replicate (row - length rows) []) ++ new ∷ drop (row + 1) rows
    parts new = ap (λ rs. rs ++ new ∷ drop (suc row) (rows ++ replicate (row + 1 - length rows) [])) front
        ∙ ap (λ rs. take row (rows ++ replicate (row - length rows) []) ++ new ∷ rs) back

-- a row that is written, among those that are kept cell by cell
pub row_written : (rows : List (List Cell)) (items : List (Vec StyledChar)) (old new : Vec StyledChar) (row at : ℕ) (cells : List Cell)
    → map cells_of items ≡ rows ++ replicate (row + 1 - length rows) [] → old ≡ get_or items row old
    → cells_of new ≡ written SPACE (cells_of old) at cells → map cells_of (set items row new) ≡ cells_written rows row at cells
row_written rows items old new row at cells made is writes =
    let many : row < length items = grind (arith, common_steps, length-map, length-append, length-replicate) in
    let here : cells_of old ≡ get_or (map cells_of items) row [] = ap cells_of is ∙ sym (get_or-map cells_of items row old [] many) in
    map-set cells_of items row new ∙ ap (set (map cells_of items) row) (writes ∙ ap (λ r. written SPACE r at cells) here)
    ∙ row_set rows (map cells_of items) row at cells made
