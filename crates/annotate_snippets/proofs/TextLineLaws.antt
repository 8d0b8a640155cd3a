-- The lines of a page's text are its rows, where no row holds a line feed.
use Rattle.annotate_snippets.proofs.Common.{◌≡◌, ℕ, ◌<◌, ◌==◌, Bool, true, false, List, [], ◌∷◌, ◌++◌, All, codes, length, map, refl, sym, ap, ◌∙◌, arith}
use Rattle.annotate_snippets.proofs.Common.{flat_map, onto_first, append-nil, All-head, All-map, All-tail, length-slice_split, slice_split-cons_no}
use Rattle.annotate_snippets.proofs.Common.{slice_split-cons_yes, slice_split_at, slice_split_none, further_text, plain_text, row_text, Cell, text_cells}
use Rattle.annotate_snippets.proofs.Common.{LineNumber, Error, HasNoFeed, or_empty_line, page_lines, text_lines, GroupPage, group_rows, page_text}
use Rattle.annotate_snippets.proofs.PageWords.{Page}
use Rattle.annotate_snippets.proofs.OneLineTexts.{HasOneLineRows, IsNoFeed}

-- the lines that a group's rows are
abbrev group_lines : GroupPage → List (List ℕ)
group_lines g = or_empty_line (map row_text (group_rows g))

-- ---- two texts with a line feed between them

onto_front : (c : ℕ) (lines more : List (List ℕ)) → 0 < length lines → onto_first c (lines ++ more) ≡ onto_first c lines ++ more
onto_front c [] more some = absurd (omega (arith, some))
onto_front c (line ∷ lines) more some = refl

one_more : (c : ℕ) (xs ys : List ℕ) (feed : Bool) → (c == 10) ≡ feed → text_lines (xs ++ 10 ∷ ys) ≡ text_lines xs ++ text_lines ys
    → text_lines (c ∷ (xs ++ 10 ∷ ys)) ≡ text_lines (c ∷ xs) ++ text_lines ys
one_more c xs ys true is later = grind (arith, slice_split-cons_yes)
one_more c xs ys false is later = grind (arith, slice_split-cons_no, onto_front, length-slice_split)

-- have the lines of both
lines_joined : (xs ys : List ℕ) → text_lines (xs ++ 10 ∷ ys) ≡ text_lines xs ++ text_lines ys
lines_joined [] ys = refl
lines_joined (c ∷ xs) ys = one_more c xs ys (c == 10) refl (lines_joined xs ys)

-- ---- rows

-- a row without line feeds, and those below it, are one line each
lines_from : (row : List Cell) (rows : List (List Cell)) → HasNoFeed row → All HasNoFeed rows
    → text_lines (row_text row ++ further_text rows) ≡ row_text row ∷ map row_text rows
lines_from row [] plain all =
    ap text_lines (append-nil (row_text row)) ∙ slice_split_none (λ c. c == 10) (row_text row) (All-map IsNoFeed (λ (cell : Cell). cell.ch) row plain)
lines_from row (next ∷ rows) plain all =
    slice_split_at (λ c. c == 10) (row_text row) 10 (row_text next ++ further_text rows) (All-map IsNoFeed (λ (cell : Cell). cell.ch) row plain) refl
    ∙ ap (λ lines. row_text row ∷ lines) (lines_from next rows (All-head HasNoFeed next rows all) (All-tail HasNoFeed next rows all))

lines_of_rows : (rows : List (List Cell)) → All HasNoFeed rows → text_lines (plain_text rows) ≡ or_empty_line (map row_text rows)
lines_of_rows [] all = refl
lines_of_rows (row ∷ rows) all = lines_from row rows (All-head HasNoFeed row rows all) (All-tail HasNoFeed row rows all)

-- ---- groups

some_lines : (lines more : List (List ℕ)) → or_empty_line (or_empty_line lines ++ more) ≡ or_empty_line lines ++ more
some_lines [] more = refl
some_lines (line ∷ lines) more = refl

-- the lines of a page's text are its rows, where these hold no line feed
pub lines_of_page : (page : Page) → All HasOneLineRows page → text_lines (page_text page) ≡ page_lines page
lines_of_page [] all = refl
lines_of_page (g ∷ []) all =
    lines_of_rows (group_rows g) (All-head HasOneLineRows g [] all) ∙ sym (append-nil (group_lines g)) ∙ sym (some_lines (map row_text (group_rows g)) [])
lines_of_page (g ∷ h ∷ page) all =
    let later : Page = h ∷ page in
    lines_joined (plain_text (group_rows g)) (page_text later)
    ∙ ap (λ lines. lines ++ text_lines (page_text later)) (lines_of_rows (group_rows g) (All-head HasOneLineRows g later all))
    ∙ ap (λ lines. group_lines g ++ lines) (lines_of_page (h ∷ page) (All-tail HasOneLineRows g later all)
    ∙ some_lines (map row_text (group_rows h)) (flat_map group_lines page)) ∙ sym (some_lines (map row_text (group_rows g)) (flat_map group_lines later))

-- ---- computed on small inputs

-- two groups of one row each, and between them one without rows, are three lines, the second of which is empty
abbrev one_row : GroupPage
one_row = record { level = Error; title = text_cells LineNumber (codes "ab") ∷ []; elements = [] }

abbrev small_page : Page
small_page = one_row ∷ record { level = Error; title = []; elements = [] } ∷ one_row ∷ []

small_lines : page_lines small_page ≡ codes "ab" ∷ [] ∷ codes "ab" ∷ []
small_lines = refl

small_text : text_lines (page_text small_page) ≡ codes "ab" ∷ [] ∷ codes "ab" ∷ []
small_text = refl
