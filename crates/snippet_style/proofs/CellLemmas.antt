-- Texts as cells, and lists that are written.
use Rattle.std.proofs.Common.{◌≡◌, ℕ, zero, suc, ◌*◌, ◌+◌, ◌-◌, ◌<◌, ◌≤◌, max, List, [], ◌∷◌, ◌++◌, length, take, drop, replicate, arith, All}
use Rattle.std.proofs.lemmas.List.Elements.{All-map}
use Rattle.std.proofs.lemmas.List.{places, same_lists, get_or-map, map-append, length-map}
use Rattle.std.specs.List.{slice_index_or}
use Rattle.std.specs.Str.{chars, chars_after, continuation_len, lead_bits}
use Rattle.snippet_style.specs.declared.role.ElementStyle.{ElementStyle}
use Rattle.snippet_style.specs.Cell.{Cell, unlinked_cell, text_cells, written}

-- a text has no more characters than bytes
length-chars_after : (n c : ℕ) (bs : List ℕ) → length (chars_after n c bs) ≤ length bs + 1
length-chars_after zero c [] = omega arith
length-chars_after zero c (b ∷ bs) =
    omega (arith, length-chars_after (continuation_len b) (lead_bits b) bs)
length-chars_after (suc n) c [] = omega arith
length-chars_after (suc n) c (b ∷ bs) = omega (arith, length-chars_after n (c * 64 + (b - 128)) bs)

-- a text has no more characters than bytes
pub length-chars_le : (bs : List ℕ) → length (chars bs) ≤ length bs
unfolding chars
length-chars_le [] = omega arith
length-chars_le (b ∷ bs) = omega (arith, length-chars_after (continuation_len b) (lead_bits b) bs)

-- one cell for each character
pub length-text_cells : (role : ElementStyle) (chars : List ℕ) → length (text_cells role chars) ≡ length chars
length-text_cells role chars = length-map chars (λ (c : ℕ). unlinked_cell role c)

-- the cell of a character
pub slice_index_or-text_cells : (role : ElementStyle) (chars : List ℕ) (k : ℕ) (d : Cell) → k < length chars
    → slice_index_or (text_cells role chars) k d ≡ unlinked_cell role (slice_index_or chars k 0)
slice_index_or-text_cells role chars k d within = get_or-map (λ (c : ℕ). unlinked_cell role c) chars k 0 d within

-- the cells of two texts, one after the other
pub text_cells-append : (role : ElementStyle) (front back : List ℕ) → text_cells role (front ++ back) ≡ text_cells role front ++ text_cells role back
text_cells-append role front back = map-append (λ (c : ℕ). unlinked_cell role c) front back

-- what holds of each character's cell
pub All-text_cells : (P : Cell → Type 0) (role : ElementStyle) (chars : List ℕ) → All (λ c. P (unlinked_cell role c)) chars → All P (text_cells role chars)
All-text_cells P role chars all = All-map P (λ (c : ℕ). unlinked_cell role c) chars all

-- how long a list is after a write
pub length-written : {X : Type 0} (blank : X) (xs : List X) (at : ℕ) (new : List X) → length (written blank xs at new) ≡ max (length xs) (at + length new)
unfolding written
length-written blank xs at new = grind (arith, places)

-- what stands before, in and after a write
pub slice_index_or-written_before : {X : Type 0} (blank : X) (xs : List X) (at : ℕ) (new : List X) (k : ℕ) → k < at
    → slice_index_or (written blank xs at new) k blank ≡ slice_index_or xs k blank
unfolding written
slice_index_or-written_before blank xs at new k before = grind (arith, places)

-- a cell that is written over holds what is written there
pub slice_index_or-written_inside : {X : Type 0} (blank : X) (xs : List X) (at : ℕ) (new : List X) (k : ℕ) (d : X) → k < length new
    → slice_index_or (written blank xs at new) (at + k) d ≡ slice_index_or new k d
unfolding written
slice_index_or-written_inside blank xs at new k d inside = grind (arith, places)

-- a cell right of what is written is as it was
pub slice_index_or-written_after : {X : Type 0} (blank : X) (xs : List X) (at : ℕ) (new : List X) (k : ℕ) (d : X) → at + length new ≤ k
    → slice_index_or (written blank xs at new) k d ≡ slice_index_or xs k d
unfolding written
slice_index_or-written_after blank xs at new k d after = grind (arith, places)

-- a list that was written, from the write on
pub drop-written : {X : Type 0} (blank : X) (xs : List X) (at : ℕ) (new : List X) → drop at (written blank xs at new) ≡ new ++ drop (at + length new) xs
drop-written blank xs at new =
    same_lists _ _ (unfold written in grind (arith, places)) (λ k d h. unfold written in grind (arith, places))

-- the same, where the list ends at the write or before it
pub take-written_past : {X : Type 0} (blank : X) (xs : List X) (at : ℕ) (new : List X) → length xs ≤ at
    → take at (written blank xs at new) ≡ xs ++ replicate (at - length xs) blank
take-written_past blank xs at new past =
    same_lists _ _ (unfold written in grind (arith, places)) (λ k d h. unfold written in grind (arith, places))

-- writing at a list's end appends
pub written_end : {X : Type 0} (blank : X) (xs new : List X) → written blank xs (length xs) new ≡ xs ++ new
written_end blank xs new =
    same_lists _ _ (unfold written in grind (arith, places)) (λ k d h. unfold written in grind (arith, places))

-- writing a list's last element replaces it
pub written_last : {X : Type 0} (blank : X) (xs : List X) (x y : X) → written blank (xs ++ x ∷ []) (length xs) (y ∷ []) ≡ xs ++ y ∷ []
written_last blank xs x y =
    same_lists _ _ (unfold written in grind (arith, places)) (λ k d h. unfold written in grind (arith, places))
