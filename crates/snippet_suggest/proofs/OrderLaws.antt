-- What the rows of a suggestion show in order: by cases, and which lines they offer and show as removed.
use Rattle.snippet_suggest.proofs.Common.{◌≡◌, ◌≢◌, ℕ, ◌≤◌, Bool, true, false, if◌then◌else◌, List, [], ◌∷◌, ◌++◌, All, length, map, refl, ap, ◌∙◌, arith}
use Rattle.snippet_suggest.proofs.Common.{cow_str_bytes, append-nil, length-map, All-append, All-cons, All-nil, filter_map-append, Snippet, Patch}
use Rattle.snippet_suggest.proofs.Common.{source_lines, text_at, LineRange, DisplaySuggestion, Diff, SuggestionStart, SuggestionLine, Gap, Line}
use Rattle.snippet_suggest.proofs.Common.{emptied_lines, given_lines, given_ranges, is_left_out, last_reached, removed_lines, replaced_lines, shown_kind}
use Rattle.snippet_suggest.proofs.Common.{Begins, Empty, Ends, Offers, Removes, Skips, SuggestionRow, removed_number, rows_of_suggestion, is_touched}
use Rattle.snippet_suggest.proofs.Common.{shown_from, numbers_given, numbers_of, lines_taken, numbers_offered, numbers_shown, common_steps, rules}
use Rattle.snippet_suggest.proofs.ByKind.{removed_of, row_of_shown, rows_where}
use Rattle.snippet_suggest.proofs.GutterFits.{one_given}
use Rattle.snippet_suggest.proofs.KnownNumbers.{diff_numbers, none_numbers}

-- ---- which rows stand there

-- where no line is given, and where some are, the rows of any kind but a diff
none_where : (kind : DisplaySuggestion) (begin : SuggestionRow) (removed changed shown : List SuggestionRow) → kind ≢ Diff
    → rows_where [] kind begin removed changed shown ≡ removed
none_where x y z u v w = search rules

some_where : (line : List ℕ) (lines : List (List ℕ)) (kind : DisplaySuggestion) (begin : SuggestionRow) (removed changed shown : List SuggestionRow)
    → kind ≢ Diff → rows_where (line ∷ lines) kind begin removed changed shown ≡ begin ∷ shown
some_where x y z u v w a b = grind (arith)

-- no line is left out but of a diff
pub none_left_out : (kind : DisplaySuggestion) (lines : List (List ℕ)) (last : List ℕ) → kind ≢ Diff → is_left_out kind lines last ≡ false
none_left_out x y z u = search rules

-- the row of line i of the source, as removed
abbrev pub removed_row : Snippet Patch → ℕ → SuggestionRow
removed_row s i = Removes i (removed_number s i) (text_at (source_lines (cow_str_bytes s.source.text)) i)

-- the rows of a diff below the one that it begins with
abbrev pub changed_rows : Bool → Bool → List SuggestionRow → List SuggestionRow
changed_rows touched left_out removed =
    if touched then removed ++ (if left_out then [] else Offers 0 ∷ []) else Empty ∷ []

module _ (start : SuggestionStart) (s : Snippet Patch) where
  abbrev taken : List SuggestionRow
  taken = map (removed_row s) (removed_lines s)

  abbrev touched_first : Bool
  touched_first = is_touched s.fold (given_ranges s) 0

  abbrev left_out : Bool
  left_out = is_left_out (shown_kind s) (given_lines s) (last_reached s)

  abbrev offered : List SuggestionRow
  offered = map row_of_shown (shown_from (is_touched s.fold (given_ranges s)) 0 0 (length (given_lines s)))

  abbrev in_diff : List SuggestionRow
  in_diff = changed_rows touched_first left_out taken

  by_case : (lines : List (List ℕ)) (kind : DisplaySuggestion) → given_lines s ≡ lines → shown_kind s ≡ kind
      → rows_of_suggestion start s ≡ rows_where lines kind (Begins start) taken in_diff offered
  by_case lines kind lines_are kind_is = search rules

  -- where no line is given
  pub rows_none_diff : given_lines s ≡ [] → shown_kind s ≡ Diff → rows_of_suggestion start s ≡ Begins start ∷ map (removed_row s) (removed_lines s)
  rows_none_diff none diff = by_case [] Diff none diff

  -- a suggestion that gives no line, and is no diff, has the rows of removed lines alone
  pub rows_none : given_lines s ≡ [] → shown_kind s ≢ Diff → rows_of_suggestion start s ≡ map (removed_row s) (removed_lines s)
  rows_none none other = by_case [] (shown_kind s) none refl ∙ none_where (shown_kind s) (Begins start) taken in_diff offered other

  -- in a diff, where lines are given
  pub rows_diff : (line : List ℕ) (lines : List (List ℕ)) (touched left : Bool) → given_lines s ≡ line ∷ lines → shown_kind s ≡ Diff
      → is_touched s.fold (given_ranges s) 0 ≡ touched → is_left_out Diff (line ∷ lines) (last_reached s) ≡ left
      → rows_of_suggestion start s ≡ Begins start ∷ changed_rows touched left (map (removed_row s) (removed_lines s))
  rows_diff line lines touched left some diff touches leaves = grind arith

  -- in another kind
  pub rows_others : (line : List ℕ) (lines : List (List ℕ)) → given_lines s ≡ line ∷ lines → shown_kind s ≢ Diff
      → rows_of_suggestion start s ≡ Begins start ∷ map row_of_shown (shown_from (is_touched s.fold (given_ranges s)) 0 0 (length (given_lines s)))
  rows_others line lines some other = grind (arith, some_where)

-- ---- laws

shown_offer : (shown : List SuggestionLine) → numbers_offered (map row_of_shown shown) ≡ numbers_shown shown
shown_offer [] = refl
shown_offer (Line k ∷ shown) = ap (λ ks. k ∷ ks) (shown_offer shown)
shown_offer (Gap ∷ shown) = shown_offer shown

shown_take : (shown : List SuggestionLine) → lines_taken (map row_of_shown shown) ≡ []
shown_take [] = refl
shown_take (Line k ∷ shown) = shown_take shown
shown_take (Gap ∷ shown) = shown_take shown

removed_offer : (s : Snippet Patch) (is : List ℕ) → numbers_offered (map (removed_row s) is) ≡ []
removed_offer s [] = refl
removed_offer s (i ∷ is) = removed_offer s is

removed_take : (s : Snippet Patch) (is : List ℕ) → lines_taken (map (removed_row s) is) ≡ is
removed_take s [] = refl
removed_take s (i ∷ is) = ap (λ ks. i ∷ ks) (removed_take s is)

-- the rows of a diff
changed_offer : (touched left : Bool) (removed : List SuggestionRow) → numbers_offered removed ≡ []
    → numbers_offered (changed_rows touched left removed) ≡ (if touched then (if left then [] else 0 ∷ []) else [])
changed_offer x y z u = grind (arith, filter_map-append)

changed_take : (touched left : Bool) (removed : List SuggestionRow) (ks : List ℕ) → lines_taken removed ≡ ks → (touched ≡ false → ks ≡ [])
    → lines_taken (changed_rows touched left removed) ≡ ks
changed_take x y z u v w = grind (arith, filter_map-append, append-nil)

-- a line is offered for each number that is given, in order
offered_where : (kind : DisplaySuggestion) (lines : List (List ℕ)) (folds : Bool) (ranges : List LineRange) (last : List ℕ) (start : SuggestionStart)
    (removed : List SuggestionRow) → numbers_offered removed ≡ [] → (kind ≡ Diff → length lines ≤ 1)
    → numbers_offered (rows_where lines kind (Begins start)
    removed (changed_rows (is_touched folds ranges 0) (is_left_out kind lines last) removed)
    (map row_of_shown (shown_from (is_touched folds ranges) 0 0 (length lines)))) ≡ numbers_of kind folds ranges lines last
offered_where x y z u v w a b c = grind (arith, common_steps, none_numbers, changed_offer, diff_numbers, shown_offer)

few_in_diff : (s : Snippet Patch) → shown_kind s ≡ Diff → length (given_lines s) ≤ 1
few_in_diff s diff = grind (arith, common_steps, one_given, length-map)

-- the rows of a suggestion offer the numbers that are given, in order
pub rows-offer : (start : SuggestionStart) (s : Snippet Patch) → numbers_offered (rows_of_suggestion start s) ≡ numbers_given s
rows-offer start s =
    offered_where (shown_kind s) (given_lines s) s.fold (given_ranges s) (last_reached s) start (map (removed_row s) (removed_lines s))
    (removed_offer s (removed_lines s)) (few_in_diff s)

-- each line that is removed is shown as removed, in order
taken_where : (kind : DisplaySuggestion) (lines : List (List ℕ)) (touched left : Bool) (start : SuggestionStart) (removed : List SuggestionRow)
    (shown : List SuggestionLine) (emptied replaced : List ℕ) → lines_taken removed ≡ removed_of lines kind emptied replaced
    → (touched ≡ false → replaced ≡ []) → lines_taken
    (rows_where lines kind (Begins start) removed (changed_rows touched left removed) (map row_of_shown shown))
    ≡ removed_of lines kind emptied replaced
taken_where x y z u v w a b c d e = grind (arith, common_steps, changed_take, shown_take)

none_untouched : (touched : Bool) (ks : List ℕ) → touched ≡ false → ◌≡◌ {A = List ℕ} (if touched then ks else []) []
none_untouched x y z = grind (arith)

-- the rows of a suggestion show as removed the lines that are removed, in order
pub rows-take : (start : SuggestionStart) (s : Snippet Patch) → lines_taken (rows_of_suggestion start s) ≡ removed_lines s
rows-take start s =
    let touched : Bool = is_touched s.fold (given_ranges s) 0 in
    taken_where (shown_kind s) (given_lines s) touched (is_left_out (shown_kind s) (given_lines s) (last_reached s))
    start (map (removed_row s) (removed_lines s)) (shown_from (is_touched s.fold (given_ranges s)) 0 0 (length (given_lines s))) (emptied_lines s)
    (replaced_lines s) (removed_take s (removed_lines s)) (none_untouched touched _)

-- the row of a line that is removed is that of the snippet
abbrev pub IsRowOf : Snippet Patch → SuggestionRow → Type 0
IsRowOf s (Begins start) = Unit {0}
IsRowOf s (Offers k) = Unit {0}
IsRowOf s Skips = Unit {0}
IsRowOf s (Removes i number text) =
    (number ≡ removed_number s i) × (text ≡ text_at (source_lines (cow_str_bytes s.source.text)) i)
IsRowOf s Empty = Unit {0}
IsRowOf s (Ends follows) = Unit {0}

shown_rows : (s : Snippet Patch) (shown : List SuggestionLine) → All (IsRowOf s) (map row_of_shown shown)
shown_rows s [] = All-nil (IsRowOf s)
shown_rows s (Line k ∷ shown) = All-cons (IsRowOf s) (Offers k) (map row_of_shown shown) tt (shown_rows s shown)
shown_rows s (Gap ∷ shown) = All-cons (IsRowOf s) Skips (map row_of_shown shown) tt (shown_rows s shown)

own_rows : (s : Snippet Patch) (is : List ℕ) → All (IsRowOf s) (map (removed_row s) is)
own_rows s [] = All-nil (IsRowOf s)
own_rows s (i ∷ is) = All-cons (IsRowOf s) (removed_row s i) (map (removed_row s) is) (refl, refl) (own_rows s is)

changed_own : (s : Snippet Patch) (touched left : Bool) (removed : List SuggestionRow) → All (IsRowOf s) removed
    → All (IsRowOf s) (changed_rows touched left removed)
changed_own s true true removed own = All-append (IsRowOf s) removed [] own (All-nil (IsRowOf s))
changed_own s true false removed own =
    All-append (IsRowOf s) removed (Offers 0 ∷ []) own (All-cons (IsRowOf s) (Offers 0) [] tt (All-nil (IsRowOf s)))
changed_own s false left removed own = All-cons (IsRowOf s) Empty [] tt (All-nil (IsRowOf s))

own_where : (s : Snippet Patch) (lines : List (List ℕ)) (kind : DisplaySuggestion) (start : SuggestionStart) (removed changed shown : List SuggestionRow)
    → All (IsRowOf s) removed → All (IsRowOf s) changed → All (IsRowOf s) shown → All (IsRowOf s) (rows_where lines kind (Begins start) removed changed shown)
own_where x y z u v w a b c d = grind (arith, common_steps)

-- each row of a suggestion is one that a row of it may be
pub rows-own : (start : SuggestionStart) (s : Snippet Patch) → All (IsRowOf s) (rows_of_suggestion start s)
rows-own start s =
    let touched : ℕ → Bool = is_touched s.fold (given_ranges s) in
    let removed : List SuggestionRow = map (removed_row s) (removed_lines s) in
    let left : Bool = is_left_out (shown_kind s) (given_lines s) (last_reached s) in
    let shown : List SuggestionLine = shown_from touched 0 0 (length (given_lines s)) in
    own_where s (given_lines s) (shown_kind s) start removed (changed_rows (touched 0) left removed) (map row_of_shown shown)
    (own_rows s (removed_lines s)) (changed_own s (touched 0) left removed (own_rows s (removed_lines s))) (shown_rows s shown)
