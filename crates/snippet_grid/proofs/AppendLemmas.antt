-- What a grid becomes where cells are added after those of a row.
use Rattle.snippet_grid.proofs.Common.{common_steps, ◌≡◌, ◌≢◌, ℕ, ◌+◌, ◌-◌, ◌<◌, ◌≤◌, map, set, List, [], ◌∷◌, ◌++◌, length, take, drop, replicate, get_or}
use Rattle.snippet_grid.proofs.Common.{refl, sym, ap, ◌∙◌, arith, inl, inr, chars-nil, encodes-chars, cases_eq, cases_lt, append-nil, append_assoc, get_or_past}
use Rattle.snippet_grid.proofs.Common.{get_or-set_same, get_or-set_other, set-get_or, length-set, places, same_lists, linked, row_at, cells_written}
use Rattle.snippet_grid.proofs.Common.{changed_within, Cell, SPACE, text_cells, written, ElementStyle, slice_index_or-written_inside, length-written}
use Rattle.snippet_grid.proofs.Common.{written_end, AddsToRow, GridRow, appended}
use Rattle.std.specs.Str.{chars, IsUtf8}
use Rattle.std.proofs.Math.Utf8.{encodes}
use Rattle.snippet_grid.specs.Calls.{cells_linked}
use Rattle.snippet_grid.proofs.ReplaceLemmas.{changed_within_none, changed_within_one}

-- a text, by its characters, after a row's cells
pub appended_text : (old new : List (List Cell)) (row : ℕ) (role : ElementStyle) (text : List ℕ) → IsUtf8 text
    → (0 < length text → new ≡ cells_written old row (length (row_at old row)) (text_cells role (chars text))) → (text ≡ [] → new ≡ old)
    → new ≡ appended old row (text_cells role (chars text))
appended_text old new row role text utf8 full empty = by text (chars text) refl utf8 full empty
  where
    by : (t cs : List ℕ) → chars t ≡ cs → IsUtf8 t → (0 < length t → new ≡ cells_written old row (length (row_at old row)) (text_cells role (chars t)))
        → (t ≡ [] → new ≡ old) → new ≡ appended old row (text_cells role (chars t))
    by t [] is spelled filled none =
        let nothing : t ≡ [] = sym (encodes-chars t spelled) ∙ ap encodes is in
        rw is (none nothing)
    by [] (c ∷ cs) is spelled filled none = absurd (omega (arith, ap length (sym is ∙ chars-nil)))
    by (b ∷ bs) (c ∷ cs) is spelled filled none =
        rw is (filled (omega arith) ∙ ap (λ ds. cells_written old row (length (row_at old row)) (text_cells role ds)) is)

-- one row put in the place of another, or below all
pub row_at-placed : (rows : List (List Cell)) (row : ℕ) (r : List Cell) → row_at (written [] rows row (r ∷ [])) row ≡ r
row_at-placed rows row r =
    let here : row + 0 ≡ row = omega arith in
    ap (λ n. row_at (written [] rows row (r ∷ [])) n) (sym here) ∙ slice_index_or-written_inside [] rows row (r ∷ []) 0 [] (omega arith)

placed-twice : (rows : List (List Cell)) (row : ℕ) (r s : List Cell) → written [] (written [] rows row (r ∷ [])) row (s ∷ []) ≡ written [] rows row (s ∷ [])
placed-twice rows row r s =
    same_lists _ _ (unfold written in grind (arith, places)) (λ k d h. unfold written in grind (arith, places))

-- cells after those of a row put the longer row in its place
pub appended-is : (rows : List (List Cell)) (row : ℕ) (cells : List Cell) → 0 < length cells
    → appended rows row cells ≡ written [] rows row ((row_at rows row ++ cells) ∷ [])
appended-is rows row [] some = absurd (omega (arith, some))
appended-is rows row (cell ∷ cells) some =
    ap (λ (r : List Cell). written [] rows row (r ∷ [])) (written_end SPACE (row_at rows row) (cell ∷ cells))

-- the row that they were added to, and the number of rows
pub row_at-appended : (rows : List (List Cell)) (row : ℕ) (cells : List Cell) → row_at (appended rows row cells) row ≡ row_at rows row ++ cells
row_at-appended rows row [] = sym (append-nil (row_at rows row))
row_at-appended rows row (cell ∷ cells) =
    let all : List Cell = row_at rows row ++ cell ∷ cells in
    ap (λ rs. row_at rs row) (appended-is rows row (cell ∷ cells) (omega arith)) ∙ row_at-placed rows row all

-- cells and more cells
pub appended-appended : (rows : List (List Cell)) (row : ℕ) (xs ys : List Cell) → appended (appended rows row xs) row ys ≡ appended rows row (xs ++ ys)
appended-appended rows row [] ys = refl
appended-appended rows row (x ∷ xs) [] = ap (appended rows row) (sym (append-nil (x ∷ xs)))
appended-appended rows row (x ∷ xs) (y ∷ ys) =
    let front : List Cell = row_at rows row ++ x ∷ xs in
    let once : appended rows row (x ∷ xs) ≡ written [] rows row (front ∷ []) = appended-is rows row (x ∷ xs) (omega arith) in
    appended-is (appended rows row (x ∷ xs)) row (y ∷ ys) (omega arith) ∙ ap (λ rs. written [] rs row ((row_at rs row ++ y ∷ ys) ∷ [])) once
    ∙ ap (λ (r : List Cell). written [] (written [] rows row (front ∷ [])) row ((r ++ y ∷ ys) ∷ [])) (row_at-placed rows row front)
    ∙ placed-twice rows row front (front ++ y ∷ ys)
    ∙ ap (λ (r : List Cell). written [] rows row (r ∷ [])) (append_assoc (row_at rows row) (x ∷ xs) (y ∷ ys))
    ∙ sym (appended-is rows row (x ∷ xs ++ y ∷ ys) (omega arith))

-- a change of a list from one element on to its end
changed_to_end : {X : Type 0} (f : X → X) (start end : ℕ) (xs : List X) → start ≤ end → length xs ≤ end
    → changed_within f start end xs ≡ take start xs ++ map f (drop start xs)
unfolding changed_within
changed_to_end f start end xs before within = grind (arith, common_steps)

changed_after : {X : Type 0} (f : X → X) (end : ℕ) (xs ys : List X) → length xs + length ys ≤ end → changed_within f (length xs) end (xs ++ ys) ≡ xs ++ map f ys
changed_after f end xs ys within = grind (arith, common_steps, changed_to_end)

-- the rows beside the one that was put in its place
placed-other : (rows : List (List Cell)) (row : ℕ) (r s : List Cell) (k : ℕ) (d : List Cell) → k ≢ row
    → get_or (written [] rows row (r ∷ [])) k d ≡ get_or (written [] rows row (s ∷ [])) k d
unfolding written
placed-other rows row r s k d other = grind (arith, places)

-- an element changed in its place
set_placed : (rows : List (List Cell)) (row : ℕ) (r s : List Cell) → set (written [] rows row (r ∷ [])) row s ≡ written [] rows row (s ∷ [])
set_placed rows row r s =
    let old : List (List Cell) = written [] rows row (r ∷ []) in
    let new : List (List Cell) = written [] rows row (s ∷ []) in
    let size = length-written [] rows row (r ∷ []) in
    let same : length old ≡ length new = omega (arith, size, length-written [] rows row (s ∷ [])) in
    same_lists _ _ (length-set old row s ∙ same) (λ k d h. elim (cases_eq k row) [
      | inl here ↦ ap (λ n. get_or (set old row s) n d) here ∙ get_or-set_same old row s d (omega (arith, size))
          ∙ sym (slice_index_or-written_inside [] rows row (s ∷ []) 0 d (omega arith)) ∙ ap (λ n. get_or new n d) (omega (arith, here))
      | inr other ↦ get_or-set_other old row k s d other ∙ placed-other rows row r s k d other
    ])

-- the cells that were added, linked
pub linked_row : (rows : List (List Cell)) (row end : ℕ) (cells : List Cell) (url : List ℕ) → length (row_at rows row) + length cells ≤ end
    → cells_linked (appended rows row cells) row (length (row_at rows row)) end url ≡ appended rows row (map (linked url) cells)
linked_row rows row end [] url within =
    let xs : List Cell = row_at rows row in
    elim (cases_lt row (length rows)) [
      | inl inside ↦ changed_within_one (changed_within (linked url) (length xs) end) row rows [] inside
          ∙ ap (set rows row) (changed_within_none (linked url) (length xs) end xs (omega arith)) ∙ set-get_or rows row []
      | inr past ↦ changed_within_none (changed_within (linked url) (length xs) end) row (row + 1) rows (omega (arith, past))
    ]
linked_row rows row end (cell ∷ cells) url within =
    let xs : List Cell = row_at rows row in
    let all : List Cell = xs ++ cell ∷ cells in
    let change = changed_within (linked url) (length xs) end in
    let placed : List (List Cell) = written [] rows row (all ∷ []) in
    ap (λ rs. cells_linked rs row (length xs) end url) (appended-is rows row (cell ∷ cells) (omega arith))
    ∙ changed_within_one change row placed [] (omega (arith, length-written [] rows row (all ∷ [])))
    ∙ ap (λ (r : List Cell). set placed row (change r)) (row_at-placed rows row all) ∙ set_placed rows row all (change all)
    ∙ ap (λ (r : List Cell). written [] rows row (r ∷ [])) (changed_after (linked url) end xs (cell ∷ cells) within)
    ∙ sym (appended-is rows row (map (linked url) (cell ∷ cells)) (omega arith))

-- what is written past the end of a list stands after it and blanks
pub written_past : {X : Type 0} (blank : X) (xs new : List X) (at : ℕ) → length xs ≤ at
    → written blank xs at new ≡ xs ++ replicate (at - length xs) blank ++ new
written_past blank xs new at past =
    same_lists _ _ (unfold written in grind (arith, places)) (λ k d h. unfold written in grind (arith, places))

-- cells that are written past a row's end stand after it and spaces
pub written-appended : (rows : List (List Cell)) (row at : ℕ) (cells : List Cell) → length (row_at rows row) ≤ at → 0 < length cells
    → cells_written rows row at cells ≡ appended rows row (replicate (at - length (row_at rows row)) SPACE ++ cells)
written-appended rows row at cells past some = grind (arith, common_steps, written_past, appended-is)

-- a space after spaces
replicate-more : (count : ℕ) → 0 < count → replicate (count - 1) SPACE ++ SPACE ∷ [] ≡ replicate count SPACE
replicate-more count some = same_lists _ _ (grind (arith, places)) (λ k d h. grind (arith, places))

-- spaces up to a cell
pub spaces_added : (old new : List (List Cell)) (row end count : ℕ) → end ≡ length (row_at old row) → 0 < count
    → new ≡ cells_written old row (end + count - 1) (SPACE ∷ []) → new ≡ appended old row (replicate count SPACE)
spaces_added old new row end count size some is = grind (arith, common_steps, size, some, is, written-appended, replicate-more count some)

-- a row below all others
pub appended-below : (rows : List (List Cell)) (cells : List Cell) → 0 < length cells → appended rows (length rows) cells ≡ rows ++ cells ∷ []
appended-below rows cells some = grind (arith, common_steps, get_or_past, appended-is, written_end)

-- cells more in a row of a grid
pub row_more : (start old new : GridRow) (cells more : List Cell) → new.number ≡ old.number → new.grid ≡ appended old.grid old.number more
    → AddsToRow start old cells → AddsToRow start new (cells ++ more)
row_more start old new cells more same is adds = grind (arith, common_steps, adds.number, old.grid, start.number, adds.grid, appended-appended, start.grid)
