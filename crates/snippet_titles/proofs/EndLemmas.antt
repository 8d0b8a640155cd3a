-- Rows that are drawn below all others.
use Rattle.snippet_titles.proofs.Common.{common_steps, ◌≡◌, ℕ, suc, ◌+◌, ◌-◌, ◌<◌, ◌≤◌, List, [], ◌∷◌, ◌++◌, length, take, replicate, refl, sym, ap, ◌∙◌, arith}
use Rattle.snippet_titles.proofs.Common.{append-nil, get_or_past, length-append, length-take, places, row_at, Cell, IsAtEnd, appended, on_top}
use Rattle.snippet_titles.proofs.Common.{without_empty_end}
use Rattle.snippet_grid.proofs.AppendLemmas.{appended-appended, appended-is, written_past}

-- an empty row at the end isn't there
pub trimmed-empty : (rows : List (List Cell)) → without_empty_end (rows ++ [] ∷ []) ≡ without_empty_end rows
trimmed-empty [] = refl
trimmed-empty (row ∷ rows) = ap (on_top row) (trimmed-empty rows)

-- with a row of cells at the end all rows are there
on_top-more : (row : List Cell) (rows : List (List Cell)) → 0 < length rows → on_top row rows ≡ row ∷ rows
on_top-more row [] some = absurd (omega (arith, some))
on_top-more [] (r ∷ rows) some = refl
on_top-more (cell ∷ cells) (r ∷ rows) some = refl

pub trimmed-full : (rows : List (List Cell)) (cells : List Cell) → 0 < length cells → without_empty_end (rows ++ cells ∷ []) ≡ rows ++ cells ∷ []
trimmed-full [] [] some = absurd (omega (arith, some))
trimmed-full [] (cell ∷ cells) some = refl
trimmed-full (row ∷ rows) cells some =
    ap (on_top row) (trimmed-full rows cells some) ∙ on_top-more row (rows ++ cells ∷ []) (omega (arith, length-append rows (cells ∷ [])))

-- the rows that aren't there are empty
on_top-refilled : (row : List Cell) (rows all : List (List Cell)) → rows ++ replicate (length all - length rows) [] ≡ all → length rows ≤ length all
    → (on_top row rows ++ replicate (suc (length all) - length (on_top row rows)) [] ≡ row ∷ all) × (length (on_top row rows) ≤ suc (length all))
on_top-refilled [] [] all is within =
    let more : suc (length all) - 0 ≡ suc (length all - 0) = omega arith in
    let none : List Cell = [] in
    (ap (λ n. replicate n none) more ∙ ap (λ (rs : List (List Cell)). none ∷ rs) is, omega arith)
on_top-refilled [] (r ∷ rows) all is within = grind (arith, common_steps)
on_top-refilled (cell ∷ cells) rows all is within = grind (arith, common_steps)

-- rows that are trimmed are the same once empty ones are added below
pub refilled : (rows : List (List Cell)) → (without_empty_end rows ++ replicate (length rows - length (without_empty_end rows)) [] ≡ rows)
    × (length (without_empty_end rows) ≤ length rows)
refilled [] = (refl, omega arith)
refilled (row ∷ rows) =
    let rest = refilled rows in on_top-refilled row (without_empty_end rows) rows rest.0 rest.1

-- a row reads the same
pub get_or-append_seam : (xs ys : List (List Cell)) → row_at (xs ++ ys) (length xs) ≡ row_at ys 0
get_or-append_seam xs ys = grind (arith, places)

past_rows : (xs : List (List Cell)) (n k : ℕ) → row_at (xs ++ replicate n []) k ≡ row_at xs k
past_rows xs n k = grind (arith, common_steps, get_or_past)

-- trimming changes no row
pub row_at-trimmed : (rows : List (List Cell)) (k : ℕ) → row_at (without_empty_end rows) k ≡ row_at rows k
row_at-trimmed rows k =
    sym (past_rows (without_empty_end rows) (length rows - length (without_empty_end rows)) k) ∙ ap (λ rs. row_at rs k) (refilled rows).0

-- cells that are appended in a row below those so far are one more row
pub appended-further : (base done : List (List Cell)) (row : ℕ) (cells : List Cell) → row ≡ length base + length done
    → appended (base ++ without_empty_end done) row cells ≡ base ++ without_empty_end (done ++ cells ∷ [])
appended-further base done row [] at = ap (λ rs. base ++ rs) (sym (trimmed-empty done))
appended-further base done row (cell ∷ cells) at = grind (arith, common_steps, refilled done, at, appended-is, get_or_past, written_past, trimmed-full)

-- cells below all rows
pub appended_below : (rows : List (List Cell)) (row : ℕ) (cells : List Cell) → row ≡ length rows → appended rows row cells ≡ rows
    ++ without_empty_end (cells ∷ [])
appended_below rows row cells at =
    ap (λ rs. appended rs row cells) (sym (append-nil rows)) ∙ appended-further rows [] row cells (omega (arith, at))

-- the row that stands there is the last one
pub IsAtEnd-is : (base rows : List (List Cell)) (row : ℕ) (cells : List Cell) → row ≡ length base → rows ≡ base ++ without_empty_end (cells ∷ [])
    → (take row rows ≡ base) × (row_at rows row ≡ cells) × IsAtEnd row rows
IsAtEnd-is base rows row cells at is = grind (arith, common_steps, get_or-append_seam, row_at-trimmed)

-- cells after those of the last row
pub appended-last : (rows : List (List Cell)) (row : ℕ) (cells : List Cell) → IsAtEnd row rows
    → appended rows row cells ≡ take row rows ++ without_empty_end ((row_at rows row ++ cells) ∷ [])
appended-last rows row cells end =
    let base : List (List Cell) = take row rows in
    let r : List Cell = row_at rows row in
    let at : row ≡ length base = omega (arith, length-take row rows, end.within) in
    ap (λ rs. appended rs row cells) (end.last ∙ sym (appended_below base row r at)) ∙ appended-appended base row r cells
    ∙ appended_below base row (r ++ cells) at

-- it stays the last one
pub IsAtEnd-more : (rows new : List (List Cell)) (row : ℕ) (cells : List Cell) → IsAtEnd row rows → new ≡ appended rows row cells
    → (take row new ≡ take row rows) × (row_at new row ≡ row_at rows row ++ cells) × IsAtEnd row new
IsAtEnd-more rows new row cells end is =
    IsAtEnd-is (take row rows) new row (row_at rows row ++ cells) (omega (arith, length-take row rows, end.within)) (is ∙ appended-last rows row cells end)

-- cells that are appended in the first row below stand there, at the end
pub IsAtEnd-begun : (rows new : List (List Cell)) (row : ℕ) (cells : List Cell) → row ≡ length rows → new ≡ appended rows row cells
    → (take row new ≡ rows) × (row_at new row ≡ cells) × IsAtEnd row new
IsAtEnd-begun rows new row cells at is =
    IsAtEnd-is rows new row cells at (is ∙ appended_below rows row cells at)
