-- What the writes of a source row make of it.
use Rattle.snippet_strokes.proofs.Common.{◌≡◌, ◌≢◌, ℕ, ◌+◌, ◌-◌, ◌<◌, ◌≤◌, false, List, [], ◌∷◌, ◌++◌, length, take}
use Rattle.snippet_strokes.proofs.Common.{drop, replicate, refl, sym, ap, ◌∙◌, arith, All, max, slice_index_or, cases_lt, places, same_lists, append-nil}
use Rattle.snippet_strokes.proofs.Common.{length-replicate, length-append, get_or_at, get_or_append_left, get_or-replicate, get_or_past, take_at, take-take}
use Rattle.snippet_strokes.proofs.Common.{take-append-le, drop_all, chars-nil, DecorStyle, LineNumber, separator_of, cells_written, Cell, SPACE, text_cells}
use Rattle.snippet_strokes.proofs.Common.{unlinked_cell, written, length-text_cells, length-written, drop-written, take-written_past}
use Rattle.snippet_strokes.proofs.Common.{slice_index_or-written_before, slice_index_or-written_after, is_listed, IsFree, free_drawn, Layout, source_row}
use Rattle.snippet_strokes.proofs.Common.{with_cells, separator_row, texted, text_put, free_separator_row, free_written, rules}
use Rattle.std.proofs.Common.{chars}
use Rattle.snippet_strokes.proofs.WriteLaws.{IsSourceRow}
use Rattle.snippet_grid.proofs.ReplaceLemmas.{separator_row-begun as begun}

-- writing from a list's start on
written_start : (xs new : List Cell) → written SPACE xs 0 new ≡ new ++ drop (length new) xs
written_start xs new =
    same_lists _ _ (unfold written in grind (arith, places)) (λ k d h. unfold written in grind (arith, places))

-- the row that has its number
abbrev pub front : Layout → List ℕ → List Cell
front layout shown = written SPACE (separator_row layout.decor layout.gutter) 0 (text_cells LineNumber shown)

-- a text put at the row's start, also one with no bytes
texted_start : (bytes : List ℕ) (row : List Cell)
    → texted bytes row 0 (text_cells LineNumber (chars bytes)) ≡ written SPACE row 0 (text_cells LineNumber (chars bytes))
texted_start [] row =
    sym (ap (λ cs. written SPACE row 0 (text_cells LineNumber cs)) chars-nil ∙ written_start row [])
texted_start (b ∷ bs) row = refl

-- a separator row ends with the separator
pub length-separator_row : (decor : DecorStyle) (gutter : ℕ) → length (separator_row decor gutter) ≡ gutter + 2
length-separator_row decor gutter =
    omega (arith, length-append (replicate (gutter + 1) SPACE) (text_cells LineNumber (separator_of decor ∷ [])), length-replicate (gutter + 1) SPACE)

-- the separator row, read cell by cell
pub separator_row_at : (decor : DecorStyle) (gutter : ℕ)
    → slice_index_or (separator_row decor gutter) (gutter + 1) SPACE ≡ unlinked_cell LineNumber (separator_of decor)
separator_row_at decor gutter =
    get_or_at (replicate (gutter + 1) SPACE) (unlinked_cell LineNumber (separator_of decor)) [] SPACE (gutter + 1) (length-replicate (gutter + 1) SPACE)

-- a separator row is blank but for its separator
pub separator_row_blank : (decor : DecorStyle) (gutter c : ℕ) → c ≢ gutter + 1 → slice_index_or (separator_row decor gutter) c SPACE ≡ SPACE
separator_row_blank decor gutter c other = grind (arith, length-replicate, cases_lt, get_or_append_left, get_or-replicate, get_or_past, length-separator_row)

-- the row that has its number, read
length-front : (layout : Layout) (shown : List ℕ) → length shown ≤ layout.gutter + 1 → length (front layout shown) ≡ layout.gutter + 2
length-front layout shown short = grind (arith, length-written, length-separator_row, length-text_cells)

take-front : (layout : Layout) (shown : List ℕ) → take (length shown) (front layout shown) ≡ text_cells LineNumber shown
take-front layout shown = simp (written_start, take_at, length-text_cells)

front_after : (layout : Layout) (shown : List ℕ) (c : ℕ) → length shown ≤ c
    → slice_index_or (front layout shown) c SPACE ≡ slice_index_or (separator_row layout.decor layout.gutter) c SPACE
front_after layout shown c after = grind (arith, slice_index_or-written_after, length-text_cells)

free_front : (layout : Layout) (shown : List ℕ) → All (λ c. is_listed c ≡ false) shown → IsFree (front layout shown)
free_front layout shown free = search (rules, free_written, free_separator_row, free_drawn)

-- the row of a line that has no text
source_bare : (layout : Layout) (shown : List ℕ) → layout.gutter + 3 ≤ layout.code → length shown ≤ layout.gutter + 1 → All (λ c. is_listed c ≡ false) shown
    → IsSourceRow layout shown [] (front layout shown)
source_bare layout shown place short free = search (rules, take-front, drop_all, length-front, front_after, separator_row_at, separator_row_blank, free_front)

-- the row of a line of which some cells are shown
source_full : (layout : Layout) (shown : List ℕ) (cells : List Cell) → layout.gutter + 3 ≤ layout.code → length shown ≤ layout.gutter + 1
    → All (λ c. is_listed c ≡ false) shown → IsFree cells
    → source_row layout shown cells ≡ written SPACE (front layout shown) layout.code cells
    → IsSourceRow layout shown cells (written SPACE (front layout shown) layout.code cells)
source_full layout shown cells place short free_shown free_cells is =
    let start = front layout shown in
    let row = written SPACE start layout.code cells in
    let ends : length start ≤ layout.code = omega (arith, length-front layout shown short) in
    let bare = source_bare layout shown place short free_shown in
    let before : (c : ℕ) → c < layout.code → slice_index_or row c SPACE ≡ slice_index_or start c SPACE = λ c left.
    slice_index_or-written_before SPACE start layout.code cells c left in
    record {
      is = sym is;
      shows = record {
        number = sym (take-take (length shown) layout.code row (omega arith))
            ∙ ap (take (length shown)) (take-written_past SPACE start layout.code cells ends)
            ∙ take-append-le (length shown) start (replicate (layout.code - length start) SPACE) (omega (arith, length-front layout shown short))
            ∙ take-front layout shown;
        code = drop-written SPACE start layout.code cells ∙ ap (λ rest. cells ++ rest) (drop_all (layout.code + length cells) start (omega arith))
            ∙ append-nil cells;
      };
      separator = before (layout.gutter + 1) (omega arith) ∙ bare.separator;
      blank = λ c after other left. before c left ∙ bare.blank c after other left;
      free = free_written start layout.code cells bare.free free_cells;
    }

-- a source row reaches as far as its cells
pub source_row_short : (layout : Layout) (shown : List ℕ) (cells : List Cell) → length shown ≤ layout.gutter + 1
    → length (source_row layout shown cells) ≤ max (layout.gutter + 2) (layout.code + length cells)
source_row_short layout shown [] short = omega (arith, length-front layout shown short)
source_row_short layout shown (cell ∷ cells) short =
    omega (arith, length-front layout shown short, length-written SPACE (front layout shown) layout.code (cell ∷ cells))

-- the row of a line, whether any of its cells are shown or not
pub source_celled : (layout : Layout) (shown : List ℕ) (cells : List Cell) → layout.gutter + 3 ≤ layout.code → length shown ≤ layout.gutter + 1
    → All (λ c. is_listed c ≡ false) shown → IsFree cells → IsSourceRow layout shown cells (with_cells layout.code cells (front layout shown))
source_celled layout shown [] place short free_shown free_cells = source_bare layout shown place short free_shown
source_celled layout shown (cell ∷ cells) place short free_shown free_cells =
    source_full layout shown (cell ∷ cells) place short free_shown free_cells refl

-- the number is written
pub number_written : (layout : Layout) (number : List ℕ) (old begun mid : List (List Cell)) (row : ℕ) → row ≡ length old
    → begun ≡ old ++ separator_row layout.decor layout.gutter ∷ []
    → (0 < length number → mid ≡ cells_written begun row 0 (text_cells LineNumber (chars number))) → (number ≡ [] → mid ≡ begun)
    → mid ≡ old ++ front layout (chars number) ∷ []
number_written layout number old begun mid row last begins numbers number_stays =
    text_put old begun mid (separator_row layout.decor layout.gutter) row 0 number (text_cells LineNumber (chars number)) begins last numbers number_stays
    ∙ ap (λ r. old ++ r ∷ []) (texted_start number (separator_row layout.decor layout.gutter))

-- the row that has its number ends left of the code
pub front_short : (layout : Layout) (shown : List ℕ) → layout.gutter + 3 ≤ layout.code → length shown ≤ layout.gutter + 1
    → length (front layout shown) ≤ layout.code
front_short layout shown place short = omega (arith, length-front layout shown short)
