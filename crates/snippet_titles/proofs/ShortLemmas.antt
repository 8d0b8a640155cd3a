-- The rows of the short form, from what is drawn of them.
use Rattle.snippet_titles.proofs.Common.{common_steps, ◌≡◌, ℕ, List, [], ◌∷◌, ◌++◌, length, take, Bool, refl, sym, ap, ◌∙◌, arith, append-nil, places}
use Rattle.snippet_titles.proofs.Common.{same_lists, row_at, Cell, text_cells, written, LineAndColumn, NoStyle, Level, Heading, HeadingRoles, Short, appended}
use Rattle.snippet_titles.proofs.Common.{heading_lines, indent_cells, label_cells, label_width, lines_below, on_top, roles_of, without_empty_end, short_rows}
use Rattle.snippet_titles.proofs.Common.{with_end}
use Rattle.snippet_grid.proofs.AppendLemmas.{appended-is, written_past}
use Rattle.snippet_titles.proofs.EndLemmas.{IsAtEnd-begun, appended_below, get_or-append_seam, row_at-trimmed}
use Rattle.snippet_titles.proofs.HeadingLemmas.{roles_known}

-- a row with cells in the place of the first of some rows, or where none of them is there
first_written : (base : List (List Cell)) (row : List Cell) (rows : List (List Cell)) (new : List Cell)
    → written [] (base ++ on_top row rows) (length base) (new ∷ []) ≡ base ++ new ∷ rows
first_written base [] [] new = grind (arith, common_steps, written_past)
first_written base [] (r ∷ rows) new =
    same_lists _ _ (unfold written in grind (arith, places)) (λ k d h. unfold written in grind (arith, places))
first_written base (cell ∷ cells) rows new =
    same_lists _ _ (unfold written in grind (arith, places)) (λ k d h. unfold written in grind (arith, places))

-- cells after those of the first of some rows
on_top-full : (row : List Cell) (cell : Cell) (cells : List Cell) (rows : List (List Cell)) → on_top (row ++ cell ∷ cells) rows ≡ (row ++ cell ∷ cells) ∷ rows
on_top-full [] cell cells rows = refl
on_top-full (r ∷ row) cell cells rows = refl

pub appended-first : (base rows : List (List Cell)) (row : ℕ) (cells : List Cell) → row ≡ length base
    → appended (base ++ without_empty_end rows) row cells ≡ base ++ without_empty_end (with_end cells rows)
appended-first base [] row cells at =
    ap (λ rs. appended rs row cells) (append-nil base) ∙ appended_below base row cells at
appended-first base (r ∷ rows) row [] at =
    ap (λ (first : List Cell). base ++ without_empty_end (first ∷ rows)) (sym (append-nil r))
appended-first base (r ∷ rows) row (cell ∷ cells) at =
    let there : List (List Cell) = base ++ without_empty_end (r ∷ rows) in
    let here : row_at there row ≡ r = ap (λ n. row_at there n) at ∙ get_or-append_seam base (without_empty_end (r ∷ rows)) ∙ row_at-trimmed (r ∷ rows) 0 in
    appended-is there row (cell ∷ cells) (omega arith) ∙ ap (λ (first : List Cell). written [] there row ((first ++ cell ∷ cells) ∷ [])) here
    ∙ ap (λ n. written [] there n ((r ++ cell ∷ cells) ∷ [])) at ∙ first_written base r (without_empty_end rows) (r ++ cell ∷ cells)
    ∙ ap (λ (rs : List (List Cell)). base ++ rs) (sym (on_top-full r cell cells (without_empty_end rows)))

-- a text, a label and a heading's text after it, and a text after the first row
pub short_drawn : (old two three new : List (List Cell)) (row : ℕ) (hyperlink : Bool) (before after : List ℕ) (heading : Heading) (level : Level)
    (trusted : Bool) (roles : HeadingRoles) → row ≡ length old → level ≡ heading.level → trusted ≡ heading.allows_styling
    → roles ≡ roles_of Short level.kind trusted → two ≡ appended old row (text_cells LineAndColumn before ++ label_cells hyperlink roles heading)
    → three ≡ take row two ++ without_empty_end (lines_below (row_at two row) (indent_cells Short (label_width heading)) roles.text (heading_lines heading))
    → new ≡ appended three row (text_cells NoStyle after) → new ≡ old ++ short_rows hyperlink before after heading
unfolding short_rows
short_drawn old two three new row hyperlink before after heading level trusted roles at leveled trusts roles_are second third fourth =
    grind (arith, common_steps, IsAtEnd-begun, heading.level.kind, roles_known, roles.text, appended-first)
