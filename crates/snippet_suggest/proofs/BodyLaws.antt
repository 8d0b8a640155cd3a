-- What the rows of a suggestion show, one below the other.
use Rattle.snippet_suggest.proofs.Common.{◌≡◌, ℕ, ◌+◌, ◌-◌, ◌^◌, ◌<◌, Bool, true, false, if◌then◌else◌, All, List, [], ◌∷◌}
use Rattle.snippet_suggest.proofs.Common.{◌++◌, length, map, ◌==◌, arith, cow_str_bytes, AllZip, All-append, All-cons, All-head, All-nil, All-tail}
use Rattle.snippet_suggest.proofs.Common.{get_or-range_with_len, length-range_with_len, Snippet, Patch, Cell, NoStyle, Removal, source_lines, line_of-within}
use Rattle.snippet_suggest.proofs.Common.{numbered_source, SubstitutionHighlight, DisplaySuggestion, SuggestionLayout, SuggestionStart, SuggestionLine, Gap}
use Rattle.snippet_suggest.proofs.Common.{Line, end_cells, on_last, emptied_lines, first_given, given_lines, given_ranges, is_left_out, last_reached}
use Rattle.snippet_suggest.proofs.Common.{lines_touched, removed_lines, shown_kind, trimmed_of, IsSuggestible, Begins, Empty, Ends, Offers, Removes, Skips}
use Rattle.snippet_suggest.proofs.Common.{SuggestionRow, removed_number, rows_of_suggestion, body_cells, suggested_cells, cells_over, marked_edits, new_on}
use Rattle.snippet_suggest.proofs.Common.{removed_in, suggested_stretches, with_left_out, is_touched, shown_from, IsBareRow, HasGutter, IsRowOfRemoved, IsUnder}
use Rattle.snippet_suggest.proofs.Common.{NumberFits, Shows, capped_sum, nat_tests, common_steps}
use Rattle.snippet_suggest.proofs.ByKind.{removed_of, row_of_shown, rows_where}
use Rattle.snippet_suggest.proofs.BareLemmas.{bare_none, stroke_none}
use Rattle.snippet_suggest.proofs.GutterFits.{numbers_fit}
use Rattle.snippet_suggest.proofs.RepaintLemmas.{same_shows, without_role}
use Rattle.snippet_suggest.proofs.RisingLemmas.{rooms_shown}
use Rattle.snippet_suggest.proofs.RowLaws.{begin_shows, end_shows, gap_shows, marks_show, offered_shows, removed_shows, replaced_shows, under_bare, with_same}
use Rattle.snippet_suggest.proofs.OrderLaws.{removed_row, changed_rows}

-- two lists, and others after them
pub zip_append : {A B : Type 0} (R : A → B → Type 0) (xs vs : List A) (ys ws : List B) → AllZip R xs ys → AllZip R vs ws → AllZip R (xs ++ vs) (ys ++ ws)
zip_append R [] vs [] ws front back = back
zip_append R [] vs (y ∷ ys) ws front back = elim front [ ]
zip_append R (x ∷ xs) vs [] ws front back = elim front [ ]
zip_append R (x ∷ xs) vs (y ∷ ys) ws front back = (front.0, zip_append R xs vs ys ws front.1 back)

-- ---- what holds of each row by its cells, whatever their roles

-- a fact of the first of some rows, over what that is drawn over, and of the others, over rows with no cells
abbrev pub AreEach : (List Cell → SuggestionRow → Type 0) → List Cell → List SuggestionRow → Type 0
AreEach Q under [] = Unit {0}
AreEach Q under (row ∷ rows) = Q under row × All (Q []) rows

module _ (layout : SuggestionLayout) (s : Snippet Patch) (P : SuggestionRow → List Cell → Type 0)
    (kept : (shown : SuggestionRow) (now row : List Cell) → map without_role now ≡ map without_role row → P shown row → P shown now) where
  abbrev Holds : List Cell → SuggestionRow → Type 0
  Holds under shown = P shown (suggested_cells layout s under shown)

  holds_later : (rows : List SuggestionRow) → All (Holds []) rows → AllZip P rows (map (suggested_cells layout s []) rows)
  holds_later [] all = tt
  holds_later (row ∷ rows) all = (All-head (Holds []) row rows all, holds_later rows (All-tail (Holds []) row rows all))

  holds_over : (under : List Cell) (rows : List SuggestionRow) → AreEach Holds under rows → AllZip P rows (cells_over (suggested_cells layout s) under rows)
  holds_over x y z = grind (arith, holds_later)

  -- also where the last row takes other roles
  holds_last : (f : List Cell → List Cell) (shown : List SuggestionRow) (rows : List (List Cell))
      → ((row : List Cell) → map without_role (f row) ≡ map without_role row) → AllZip P shown rows → AllZip P shown (on_last f rows)
  unfolding on_last
  holds_last f [] [] same have = tt
  holds_last f [] (row ∷ rows) same have = elim have [ ]
  holds_last f (x ∷ shown) [] same have = elim have [ ]
  holds_last f (x ∷ shown) (row ∷ []) same have = (kept x (f row) row (same row) have.0, have.1)
  holds_last f (x ∷ shown) (row ∷ next ∷ rows) same have = (have.0, holds_last f shown (next ∷ rows) same have.1)

  holds_left_out : (lines : List (List ℕ)) (shown : List SuggestionRow) (rows : List (List Cell)) → AllZip P shown rows
      → AllZip P shown (with_left_out layout s lines rows)
  holds_left_out x y z u = grind (arith, with_same, holds_last)

  -- so it holds of the rows of a suggestion but the last
  pub body_each : (start : SuggestionStart) (under : List Cell) → AreEach Holds under (rows_of_suggestion start s)
      → AllZip P (rows_of_suggestion start s) (body_cells layout start s under)
  unfolding body_cells
  body_each start under all = grind (arith, holds_left_out, holds_over)

  -- also where it holds of each, whatever it is drawn over
  pub body_all : (start : SuggestionStart) (under : List Cell) → ((u : List Cell) (row : SuggestionRow) → Holds u row)
      → AllZip P (rows_of_suggestion start s) (body_cells layout start s under)
  body_all start under each = grind (arith, body_each)

-- ---- what the rows of a suggestion show, where the gutter has room

-- the lines that a span touches are lines of the source
touched_within : (source : List ℕ) (start end : ℕ) → All (λ k. k < length (source_lines source)) (lines_touched source start end)
touched_within source start end i d inside = grind (arith, common_steps, length-range_with_len, get_or-range_with_len, line_of-within)

-- the number beside a line that is removed fits
emptied_within : (s : Snippet Patch) → All (λ k. k < length (source_lines (cow_str_bytes s.source.text))) (emptied_lines s)
emptied_within s = grind (arith, common_steps, touched_within)

none_of_some : (line : List ℕ) (lines : List (List ℕ)) → (length (line ∷ lines) == 0) ≡ false
none_of_some line lines = grind (arith, nat_tests)

beside_small : (lines : List (List ℕ)) (kind : DisplaySuggestion) (own counted : ℕ → ℕ) (emptied replaced : List ℕ) → All (λ k. own k < 2 ^ 64) emptied
    → ((k : ℕ) → counted k < 2 ^ 64) → All (λ k. (if length lines == 0 then own k else counted k) < 2 ^ 64) (removed_of lines kind emptied replaced)
beside_small x y z u v w a b = grind (arith, common_steps, none_of_some)

removed_small : (s : Snippet Patch) → IsSuggestible s → All (λ k. removed_number s k < 2 ^ 64) (removed_lines s)
removed_small s can = grind (arith, common_steps, beside_small, emptied_within, s.source.text, s.line_start, can.lines)

module _ (layout : SuggestionLayout) (s : Snippet Patch) where
  -- what a row asks, and what it is drawn over
  abbrev Fits : List Cell → SuggestionRow → Type 0
  Fits under (Begins start) = IsUnder layout.base.decor layout.base.gutter start under
  Fits under (Offers k) = NumberFits layout (s.line_start + first_given s) (Line k)
  Fits under Skips = Unit {0}
  Fits under (Removes i number text) = (number < 2 ^ 64) × IsBareRow layout.base.decor layout.base.gutter under
  Fits under Empty = Unit {0}
  Fits under (Ends follows) = Unit {0}

  abbrev IsShown : SuggestionRow → List Cell → Type 0
  IsShown = Shows layout (s.line_start + first_given s) (given_lines s)

  removed_shown : (lines : List (List ℕ)) (ss : List SubstitutionHighlight) (number : ℕ) (text : List ℕ) (under : List Cell) → number < 2 ^ 64
      → IsBareRow layout.base.decor layout.base.gutter under → IsRowOfRemoved layout (number, text) (removed_in layout lines ss number text under)
  removed_shown [] ss number text under small bare = removed_shows layout Removal number text under small bare
  removed_shown (line ∷ lines) ss number text under small bare = replaced_shows layout NoStyle Removal number text ss under small bare

  -- then it shows what it is to show
  row_shows : (under : List Cell) (shown : SuggestionRow) → Fits under shown → IsShown shown (suggested_cells layout s under shown)
  unfolding suggested_cells
  row_shows under (Begins start) fits = begin_shows layout start under fits
  row_shows under (Offers k) fits = offered_shows layout (shown_kind s) (length (given_lines s)) (capped_sum (s.line_start + first_given s) k) _
      (new_on s k) (omega arith) fits
  row_shows under Skips fits = gap_shows layout
  row_shows under (Removes i number text) fits = removed_shown (given_lines s) (suggested_stretches s (i - first_given s)) number text under fits.0 fits.1
  row_shows under Empty fits = stroke_none layout.base.decor layout.base.gutter
  row_shows under (Ends follows) fits =
      marks_show layout (numbered_source s) [] (marked_edits (shown_kind s) (trimmed_of s)) _ (end_cells layout follows) (end_shows layout follows)

  rows_show : (under : List Cell) (rows : List SuggestionRow) → AreEach Fits under rows
      → AreEach (λ u row. IsShown row (suggested_cells layout s u row)) under rows
  rows_show x y z = grind (arith, common_steps, row_shows, All-tail)

  abbrev NoCells : IsBareRow layout.base.decor layout.base.gutter []
  NoCells = bare_none layout.base.decor layout.base.gutter

  -- the rows of lines that are removed, of those that are shown, and of a diff
  removed_fit : (ks : List ℕ) → All (λ k. removed_number s k < 2 ^ 64) ks → All (Fits []) (map (removed_row s) ks)
  removed_fit [] small = All-nil (Fits [])
  removed_fit (k ∷ ks) small = All-cons (Fits []) (removed_row s k) (map (removed_row s) ks)
      (All-head (λ k. removed_number s k < 2 ^ 64) k ks small, NoCells) (removed_fit ks (All-tail (λ k. removed_number s k < 2 ^ 64) k ks small))

  removed_over : (under : List Cell) (ks : List ℕ) → IsBareRow layout.base.decor layout.base.gutter under → All (λ k. removed_number s k < 2 ^ 64) ks
      → AreEach Fits under (map (removed_row s) ks)
  removed_over under [] bare small = tt
  removed_over under (k ∷ ks) bare small =
      ((All-head (λ k. removed_number s k < 2 ^ 64) k ks small, bare), removed_fit ks (All-tail (λ k. removed_number s k < 2 ^ 64) k ks small))

  shown_fit : (shown : List SuggestionLine) → All (NumberFits layout (s.line_start + first_given s)) shown → All (Fits []) (map row_of_shown shown)
  shown_fit [] rooms = All-nil (Fits [])
  shown_fit (Line k ∷ shown) rooms = All-cons (Fits []) (Offers k) (map row_of_shown shown)
      (All-head (NumberFits layout (s.line_start + first_given s)) (Line k) shown rooms)
      (shown_fit shown (All-tail (NumberFits layout (s.line_start + first_given s)) (Line k) shown rooms))
  shown_fit (Gap ∷ shown) rooms = All-cons (Fits []) Skips (map row_of_shown shown) tt
      (shown_fit shown (All-tail (NumberFits layout (s.line_start + first_given s)) Gap shown rooms))

  changed_fit : (touched left : Bool) (removed : List SuggestionRow) → All (Fits []) removed → NumberFits layout (s.line_start + first_given s) (Line 0)
      → All (Fits []) (changed_rows touched left removed)
  changed_fit true true removed fit room = All-append (Fits []) removed [] fit (All-nil (Fits []))
  changed_fit true false removed fit room = All-append (Fits []) removed (Offers 0 ∷ []) fit (All-cons (Fits []) (Offers 0) [] room (All-nil (Fits [])))
  changed_fit false left removed fit room = All-cons (Fits []) Empty [] tt (All-nil (Fits []))

  fit_where : (lines : List (List ℕ)) (kind : DisplaySuggestion) (touched left : Bool) (start : SuggestionStart) (under : List Cell)
      (removed shown : List SuggestionRow)
      → IsUnder layout.base.decor layout.base.gutter start under → AreEach Fits under removed → All (Fits []) removed → All (Fits []) shown
      → (0 < length lines → NumberFits layout (s.line_start + first_given s) (Line 0))
      → AreEach Fits under (rows_where lines kind (Begins start) removed (changed_rows touched left removed) shown)
  fit_where x y z u v w a b c d e f g = grind (arith, common_steps, changed_fit)

  -- the rows of a suggestion show what they are to show, each, where the gutter has room for the number that it counts
  pub body_shows : (start : SuggestionStart) (under : List Cell) → IsSuggestible s → HasGutter layout s
      → IsUnder layout.base.decor layout.base.gutter start under → AllZip IsShown (rows_of_suggestion start s) (body_cells layout start s under)
  body_shows start under can room begun =
      let touched : ℕ → Bool = is_touched s.fold (given_ranges s) in
      let n : ℕ = length (given_lines s) in
      let fits : (k : ℕ) → k < n → NumberFits layout (s.line_start + first_given s) (Line k) = numbers_fit layout s can room in
      let small : All (λ k. removed_number s k < 2 ^ 64) (removed_lines s) = removed_small s can in
      body_each layout s IsShown (same_shows layout (s.line_start + first_given s) (given_lines s)) start under
      (rows_show under (rows_of_suggestion start s)
      (fit_where (given_lines s) (shown_kind s) (touched 0) (is_left_out (shown_kind s) (given_lines s) (last_reached s)) start under
      (map (removed_row s) (removed_lines s)) (map row_of_shown (shown_from touched 0 0 n)) begun
      (removed_over under (removed_lines s) (under_bare layout start under begun) small) (removed_fit (removed_lines s) small)
      (shown_fit (shown_from touched 0 0 n) (rooms_shown layout (s.line_start + first_given s) n touched fits)) (fits 0)))

  -- and the last one what it ends with
  pub last_shows : (follows : Bool) → IsShown (Ends follows) (suggested_cells layout s [] (Ends follows))
  last_shows follows = row_shows [] (Ends follows) tt
