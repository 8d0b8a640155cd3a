-- What a row holds once characters were put into it.
use Rattle.snippet_suggest.proofs.Common.{◌≡◌, ◌≢◌, ℕ, zero, suc, ◌+◌, ◌-◌, ◌<◌, ◌≤◌, false, All, List, [], ◌∷◌, ◌++◌, length, take, drop, replicate, refl, sym}
use Rattle.snippet_suggest.proofs.Common.{arith, inl, inr, subst, slice_index_or, cases_lt, append-nil, drop_all, get_or_past, places, same_lists, take_at}
use Rattle.snippet_suggest.proofs.Common.{ElementStyle, Cell, SPACE, text_cells, unlinked_cell, written, All-text_cells, drop-written, length-text_cells}
use Rattle.snippet_suggest.proofs.Common.{length-written, slice_index_or-written_after, slice_index_or-written_before, slice_index_or-written_inside}
use Rattle.snippet_suggest.proofs.Common.{written-nil, row_text, row_text-text_cells, free_drawn, free_written, IsFree, is_listed, put, common_steps}

-- the character of a cell
pub ch_at : (row : List Cell) (c : ℕ) → (slice_index_or row c SPACE).ch ≡ slice_index_or (row_text row) c 32
ch_at [] c = refl
ch_at (cell ∷ row) zero = refl
ch_at (cell ∷ row) (suc c) = ch_at row c

-- what holds of a cell of a row, and of each that is written into it, holds of the cell that stands there then
pub cell_after_write : (P : Cell → Type 0) (row : List Cell) (at c : ℕ) (cells : List Cell) → P (slice_index_or row c SPACE) → All P cells
    → P (slice_index_or (written SPACE row at cells) c SPACE)
cell_after_write P row at c cells there all =
    elim (cases_lt c at) [
      | inl before ↦ subst P (sym (slice_index_or-written_before SPACE row at cells c before)) there
      | inr not_before ↦
          elim (cases_lt c (at + length cells)) [
            | inl inside ↦
                let here : at + (c - at) ≡ c = omega arith in
                let within : c - at < length cells = omega arith in grind (arith, common_steps, slice_index_or-written_inside, here, within)
            | inr after ↦ subst P (sym (slice_index_or-written_after SPACE row at cells c SPACE after)) there
          ]
    ]

-- the same of characters that are put into it
pub put_cell : (P : Cell → Type 0) (role : ElementStyle) (cs : List ℕ) (at c : ℕ) (row : List Cell) → P (slice_index_or row c SPACE)
    → All (λ ch. P (unlinked_cell role ch)) cs → P (slice_index_or (put role cs at row) c SPACE)
unfolding put
put_cell P role [] at c row there all = there
put_cell P role (x ∷ cs) at c row there all = cell_after_write P row at c (text_cells role (x ∷ cs)) there (All-text_cells P role (x ∷ cs) all)

-- the cells before them stay, and those after them
pub put_before : (role : ElementStyle) (cs : List ℕ) (at c : ℕ) (row : List Cell) → c < at
    → slice_index_or (put role cs at row) c SPACE ≡ slice_index_or row c SPACE
unfolding put
put_before x y z u v w = grind (arith, slice_index_or-written_before)

pub put_after : (role : ElementStyle) (cs : List ℕ) (at c : ℕ) (row : List Cell) → at + length cs ≤ c
    → slice_index_or (put role cs at row) c SPACE ≡ slice_index_or row c SPACE
unfolding put
put_after x y z u v w = grind (arith, slice_index_or-written_after, length-text_cells)

-- each of them stands where it was put
pub put_inside : (role : ElementStyle) (cs : List ℕ) (at c k : ℕ) (row : List Cell) → c ≡ at + k → k < length cs
    → (slice_index_or (put role cs at row) c SPACE).ch ≡ slice_index_or cs k 32
unfolding put
put_inside x y z u v w a b = grind (arith, common_steps, slice_index_or-written_inside, length-text_cells, ch_at, row_text-text_cells)

-- in a row with no cells spaces stand before and after them
pub put_alone : (role : ElementStyle) (cs : List ℕ) (at c k : ℕ) → c ≡ at + k
    → (slice_index_or (put role cs at []) c SPACE).ch ≡ slice_index_or cs k 32
put_alone role cs at c k here = grind (arith, put_inside, put_after, get_or_past)

-- a row holds no listed character and no link, where it held none, and none of them is listed
pub put_free : (role : ElementStyle) (cs : List ℕ) (at : ℕ) (row : List Cell) → IsFree row → All (λ c. is_listed c ≡ false) cs → IsFree (put role cs at row)
unfolding put
put_free role [] at row free unlisted = free
put_free role (x ∷ cs) at row free unlisted = free_written row at (text_cells role (x ∷ cs)) free (free_drawn role (x ∷ cs) unlisted)

-- how long the row is then
pub put_within : (role : ElementStyle) (cs : List ℕ) (at width : ℕ) (row : List Cell) → length row ≤ width → at + length cs ≤ width
    → length (put role cs at row) ≤ width
unfolding put
put_within x y z u v w a = grind (arith, length-written, length-text_cells)

pub put_grows : (role : ElementStyle) (cs : List ℕ) (at : ℕ) (row : List Cell) → length row ≤ length (put role cs at row)
unfolding put
put_grows x y z u = grind (arith, length-written)

pub put_long : (role : ElementStyle) (cs : List ℕ) (at : ℕ) (row : List Cell) → cs ≢ [] → at + length cs ≤ length (put role cs at row)
unfolding put
put_long x y z u v = grind (arith, length-written, length-text_cells)

pub put_covers : (role : ElementStyle) (cs : List ℕ) (row : List Cell) → length cs ≤ length (put role cs 0 row)
unfolding put
put_covers x y z = grind (arith, length-written, length-text_cells)

-- what stands before them
pub put_take : (role : ElementStyle) (cs : List ℕ) (at n : ℕ) (row : List Cell) → n ≤ at → n ≤ length row → take n (put role cs at row) ≡ take n row
unfolding put
put_take role [] at n row left within = refl
put_take role (x ∷ cs) at n row left within =
    same_lists _ _ (unfold written in grind (arith, places)) (λ k d h. unfold written in grind (arith, places))

-- they stand there
pub put_stands : (role : ElementStyle) (cs : List ℕ) (at : ℕ) (row : List Cell) → row_text (take (length cs) (drop at (put role cs at row))) ≡ cs
unfolding put
put_stands x y z u = grind (arith, drop-written, take_at, length-text_cells, row_text-text_cells)

-- to the end of a row that was no longer
pub put_ends : (role : ElementStyle) (cs : List ℕ) (at : ℕ) (row : List Cell) → length row ≤ at → row_text (drop at (put role cs at row)) ≡ cs
unfolding put
put_ends x y z u v = grind (arith, drop_all, drop-written, append-nil, row_text-text_cells)

-- a row that is begun by them alone
pub put_begun : (role : ElementStyle) (cs : List ℕ) (at : ℕ) → cs ≢ [] → put role cs at [] ≡ replicate at SPACE ++ text_cells role cs
unfolding put
put_begun x y z u = grind (arith, written-nil)
