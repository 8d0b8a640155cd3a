-- The rows of a suggestion's lines, with their names.
use Rattle.annotate_snippets.proofs.Common.{◌≡◌, ◌≢◌, ℕ, ◌+◌, ◌-◌, ◌<◌, ◌≤◌, Option, None, Some, List, [], ◌∷◌, map, length, take, get_or, refl, sym, ap, subst}
use Rattle.annotate_snippets.proofs.Common.{◌∙◌, arith, AllZip, cons_option, filter_map, zip, All-nil, All-cons, All-head, All-tail, Patch, Snippet, Cell}
use Rattle.annotate_snippets.proofs.Common.{SPACE, suggestion_glyph_of, row_text, norm, shown_number, IsFree, sign_of, first_given, given_lines, shown_kind}
use Rattle.annotate_snippets.proofs.Common.{IsSuggestible, Begins, Empty, Ends, Offers, Removes, Skips, SuggestionRow, removed_number, new_on, IsRemovedRow}
use Rattle.annotate_snippets.proofs.Common.{HasSign, Shows, lines_taken, numbers_offered, AreRising, given-is-patched, suggestion_layout, line_numbers}
use Rattle.annotate_snippets.proofs.Common.{number_text, Elision, NamedRow, OfferedLine, Other, RemovedLine, RowName, SourceRow, cells_of, line_offered}
use Rattle.annotate_snippets.proofs.Common.{lines_offered, HasStrokes, IsOfferedRow, IsSuggestionRow, name_of_row, Renderer, Layout, capped_sum}
use Rattle.std.proofs.Common.{chars}
use Rattle.std.specs.List.{All}
use Rattle.snippet_suggest.proofs.OrderLaws.{IsRowOf}
use Rattle.annotate_snippets.proofs.Ascending.{IsAscending}
use Rattle.snippet_suggest.proofs.RisingLemmas.{rising_bound as rising_within}

-- numbers that rise between two bounds ascend
pub rising_ascends : (from to : ℕ) (ks : List ℕ) → AreRising from to ks → IsAscending ks
rising_ascends from to [] rising = tt
rising_ascends from to (j ∷ []) rising = tt
rising_ascends from to (j ∷ k ∷ ks) rising = (omega (arith, rising.1.0), rising_ascends (j + 1) to (k ∷ ks) rising.1)

-- rows of a suggestion with their names
abbrev pub named_rows : Snippet Patch → List SuggestionRow → List (List Cell) → List NamedRow
named_rows s shown rows = map (λ pair. record { name = name_of_row s pair.0; cells = pair.1 }) (zip shown rows)

-- with a row for each, they hold the rows, and have their names
pub cells_of-named : (P : SuggestionRow → List Cell → Type 0) (s : Snippet Patch) (shown : List SuggestionRow) (part : List (List Cell)) → AllZip P shown part
    → cells_of (named_rows s shown part) ≡ part
cells_of-named P s [] [] are = refl
cells_of-named P s [] (row ∷ part) are = absurd are
cells_of-named P s (shows ∷ shown) [] are = absurd are
cells_of-named P s (shows ∷ shown) (row ∷ part) are = ap (λ rows. row ∷ rows) (cells_of-named P s shown part are.1)

-- the names of a suggestion's rows are those of what they show
pub names_of-named : (P : SuggestionRow → List Cell → Type 0) (s : Snippet Patch) (shown : List SuggestionRow) (part : List (List Cell)) → AllZip P shown part
    → map (λ row. row.name) (named_rows s shown part) ≡ map (name_of_row s) shown
names_of-named P s [] [] are = refl
names_of-named P s [] (row ∷ part) are = absurd are
names_of-named P s (shows ∷ shown) [] are = absurd are
names_of-named P s (shows ∷ shown) (row ∷ part) are = ap (λ names. name_of_row s shows ∷ names) (names_of-named P s shown part are.1)

-- so they offer the lines that these offer
offered_names : (rows : List NamedRow) → lines_offered rows ≡ filter_map line_offered (map (λ (row : NamedRow). row.name) rows)
offered_names [] = refl
offered_names (row ∷ rows) = ap (cons_option (line_offered row.name)) (offered_names rows)

offers_of : (s : Snippet Patch) (shown : List SuggestionRow)
    → filter_map line_offered (map (name_of_row s) shown) ≡ map (λ k. first_given s + k) (numbers_offered shown)
offers_of s [] = refl
offers_of s (Begins start ∷ shown) = offers_of s shown
offers_of s (Offers k ∷ shown) = ap (λ (ks : List ℕ). (first_given s + k) ∷ ks) (offers_of s shown)
offers_of s (Skips ∷ shown) = offers_of s shown
offers_of s (Removes i number text ∷ shown) = offers_of s shown
offers_of s (Empty ∷ shown) = offers_of s shown
offers_of s (Ends follows ∷ shown) = offers_of s shown

pub lines_offered-order : (s : Snippet Patch) (shown : List SuggestionRow) (rows : List NamedRow)
    → map (λ row. row.name) rows ≡ map (name_of_row s) shown → lines_offered rows ≡ map (λ k. first_given s + k) (numbers_offered shown)
lines_offered-order s shown rows order = offered_names rows ∙ ap (filter_map line_offered) order ∙ offers_of s shown

-- the line that a row names as removed, and those that some rows name so
abbrev pub line_removed : RowName → Option ℕ
line_removed (SourceRow k) = None
line_removed Elision = None
line_removed (OfferedLine j) = None
line_removed (RemovedLine i) = Some i
line_removed Other = None

abbrev pub lines_removed : List NamedRow → List ℕ
lines_removed rows = filter_map (λ (row : NamedRow). line_removed row.name) rows

-- and show as removed those that these take
removed_names : (rows : List NamedRow) → lines_removed rows ≡ filter_map line_removed (map (λ (row : NamedRow). row.name) rows)
removed_names [] = refl
removed_names (row ∷ rows) = ap (cons_option (line_removed row.name)) (removed_names rows)

takes_of : (s : Snippet Patch) (shown : List SuggestionRow) → filter_map line_removed (map (name_of_row s) shown) ≡ lines_taken shown
takes_of s [] = refl
takes_of s (Begins start ∷ shown) = takes_of s shown
takes_of s (Offers k ∷ shown) = takes_of s shown
takes_of s (Skips ∷ shown) = takes_of s shown
takes_of s (Removes i number text ∷ shown) = ap (λ (ks : List ℕ). i ∷ ks) (takes_of s shown)
takes_of s (Empty ∷ shown) = takes_of s shown
takes_of s (Ends follows ∷ shown) = takes_of s shown

pub lines_removed-order : (s : Snippet Patch) (shown : List SuggestionRow) (rows : List NamedRow)
    → map (λ row. row.name) rows ≡ map (name_of_row s) shown → lines_removed rows ≡ lines_taken shown
lines_removed-order s shown rows order = removed_names rows ∙ ap (filter_map line_removed) order ∙ takes_of s shown

module _ (r : Renderer) (layout : Layout) (s : Snippet Patch) where
  -- the rows of a suggestion, each of which shows this
  abbrev pub AreShown : List SuggestionRow → List (List Cell) → Type 0
  AreShown shown rows =
      AllZip (Shows (suggestion_layout r layout s) (s.line_start + first_given s) (given_lines s)) shown rows

  -- hold no listed character and no link
  pub lines_free : (shown : List SuggestionRow) (part : List (List Cell)) → AreShown shown part → All IsFree part
  lines_free [] [] are = All-nil IsFree
  lines_free [] (row ∷ part) are = absurd are
  lines_free (row_is ∷ shown) [] are = absurd are
  lines_free (shows ∷ shown) (row ∷ part) are = All-cons IsFree row part (free_of shows row are.0) (lines_free shown part are.1)
    where
      free_of : (shows : SuggestionRow) (row : List Cell) → Shows (suggestion_layout r layout s) (s.line_start + first_given s) (given_lines s) shows row
          → IsFree row
      free_of (Begins start) row is = is.bare.free
      free_of (Offers k) row is = is.free
      free_of Skips row is = is.bare.free
      free_of (Removes i number text) row is = is.free
      free_of Empty row is = is.bare.free
      free_of (Ends follows) row is = is.bare.free

  -- and have left of the lines what they are to have there
  pub strokes_shown : (shown : List SuggestionRow) (part : List (List Cell)) → AreShown shown part → AllZip (HasStrokes layout.decor layout.gutter) shown part
  strokes_shown [] [] are = tt
  strokes_shown [] (row ∷ part) are = absurd are
  strokes_shown (shows ∷ shown) [] are = absurd are
  strokes_shown (shows ∷ shown) (row ∷ part) are = (stroke_of shows row are.0, strokes_shown shown part are.1)
    where
      stroke_of : (shows : SuggestionRow) (row : List Cell) → Shows (suggestion_layout r layout s) (s.line_start + first_given s) (given_lines s) shows row
          → HasStrokes layout.decor layout.gutter shows row
      stroke_of (Begins start) row is = is.left_is
      stroke_of (Offers k) row is = tt
      stroke_of Skips row is = is.left_is
      stroke_of (Removes i number text) row is = tt
      stroke_of Empty row is = is.left_is
      stroke_of (Ends follows) row is = is.left_is

  module _ (suggestible : IsSuggestible s) (some : s.markers.items ≢ []) where
    -- there is a number for each line that is given, and it is shown
    number_is : (k : ℕ) → k < length (given_lines s)
        → shown_number (line_numbers r s.line_numbering) layout.gutter (capped_sum (s.line_start + first_given s) k)
        ≡ number_text r s.line_numbering layout.gutter (s.line_start + (first_given s + k))
    number_is k within =
        let same : capped_sum (s.line_start + first_given s) k ≡ s.line_start + (first_given s + k) = omega (arith, suggestible.numbers) in cc same

    -- the row of a line that is given offers it
    offered_row : (k : ℕ) (row : List Cell) → k < length (given_lines s)
        → Shows (suggestion_layout r layout s) (s.line_start + first_given s) (given_lines s) (Offers k) row
        → HasSign (suggestion_layout r layout s) s (Offers k) row → IsOfferedRow r layout.decor layout.gutter s (first_given s + k) row
    offered_row k row within shows signed =
        let number = number_is k within in
        let back : first_given s + k - first_given s ≡ k = omega arith in
        record {
          from = omega arith;
          within = omega arith;
          number = subst (λ shown. row_text (take (length shown) row) ≡ shown) number shows.numbered;
          beside = λ c right left. shows.beside c (omega (arith, ap length number, right)) left;
          sign = shows.sign;
          asked = λ fits.
              let left : length (shown_number (line_numbers r s.line_numbering) layout.gutter (capped_sum (s.line_start + first_given s) k))
              ≤ layout.gutter + 1 = omega (arith, fits, ap length number) in
              subst (λ i. (get_or row (layout.gutter + 1) SPACE).ch ≡ get_or (suggestion_glyph_of layout.decor
              (sign_of (shown_kind s) (length (given_lines s)) (get_or (given_lines s) i []) (new_on s i))) 0 32) (sym back) (signed left);
          space = shows.space;
          line = shows.holds ∙ ap (λ i. norm (chars (get_or (given_lines s) i []))) (sym back);
          patched_line = λ offerable.
              let patched_is = given-is-patched s suggestible.spans suggestible.disjoint some offerable k within in
              (patched_is.0, shows.holds ∙ ap (λ text. norm (chars text)) patched_is.1);
        }

    abbrev IsNamed : NamedRow → Type 0
    IsNamed row = IsSuggestionRow r layout.decor layout.gutter s row.name row.cells

    -- that of a line that is removed shows it
    removed_row_shown : (i number : ℕ) (text : List ℕ) (row : List Cell) → IsRowOf s (Removes i number text)
        → Shows (suggestion_layout r layout s) (s.line_start + first_given s) (given_lines s) (Removes i number text) row
        → IsSuggestionRow r layout.decor layout.gutter s (RemovedLine i) row
    removed_row_shown i number text row of shows =
        let numbers = line_numbers r s.line_numbering in
        let Is : ℕ → List ℕ → Type 0 = λ n t. IsRemovedRow numbers layout.decor layout.gutter (shown_number numbers layout.gutter n) (norm (chars t)) row in
        subst (Is (removed_number s i)) of.1 (subst (λ (n : ℕ). Is n text) of.0 shows)

    -- so each row is what its name says
    pub rows_named : (from : ℕ) (shown : List SuggestionRow) (part : List (List Cell))
        → AreRising from (first_given s + length (given_lines s)) (map (λ k. first_given s + k) (numbers_offered shown)) → All (IsRowOf s) shown
        → AreShown shown part → AllZip (HasSign (suggestion_layout r layout s) s) shown part → All IsNamed (named_rows s shown part)
    rows_named from [] part rising own are signs = All-nil IsNamed
    rows_named from (shows ∷ shown) [] rising own are signs = absurd are
    rows_named from (Offers k ∷ shown) (row ∷ part) rising own are signs =
        let last : first_given s + k + 1 ≤ first_given s + length (given_lines s) = rising_within (first_given s + k + 1)
        (first_given s + length (given_lines s)) _ rising.1 in
        All-cons IsNamed (record { name = OfferedLine (first_given s + k); cells = row }) (named_rows s shown part)
        (offered_row k row (omega (arith, last)) are.0 signs.0) (rows_named (first_given s + k + 1) shown part rising.1
        (All-tail (IsRowOf s) (Offers k) shown own) are.1 signs.1)
    rows_named from (Removes i number text ∷ shown) (row ∷ part) rising own are signs =
        let of = All-head (IsRowOf s) (Removes i number text) shown own in
        All-cons IsNamed (record { name = RemovedLine i; cells = row }) (named_rows s shown part) (removed_row_shown i number text row of are.0)
        (rows_named from shown part rising (All-tail (IsRowOf s) (Removes i number text) shown own) are.1 signs.1)
    rows_named from (Begins start ∷ shown) (row ∷ part) rising own are signs =
        All-cons IsNamed (record { name = Other; cells = row }) (named_rows s shown part) are.0.bare
        (rows_named from shown part rising (All-tail (IsRowOf s) (Begins start) shown own) are.1 signs.1)
    rows_named from (Skips ∷ shown) (row ∷ part) rising own are signs =
        All-cons IsNamed (record { name = Other; cells = row }) (named_rows s shown part) are.0.bare
        (rows_named from shown part rising (All-tail (IsRowOf s) Skips shown own) are.1 signs.1)
    rows_named from (Empty ∷ shown) (row ∷ part) rising own are signs =
        All-cons IsNamed (record { name = Other; cells = row }) (named_rows s shown part) are.0.bare
        (rows_named from shown part rising (All-tail (IsRowOf s) Empty shown own) are.1 signs.1)
    rows_named from (Ends follows ∷ shown) (row ∷ part) rising own are signs =
        All-cons IsNamed (record { name = Other; cells = row }) (named_rows s shown part) are.0.bare
        (rows_named from shown part rising (All-tail (IsRowOf s) (Ends follows) shown own) are.1 signs.1)
