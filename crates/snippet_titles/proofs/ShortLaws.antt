-- What the rows of the short form show.
use Rattle.snippet_titles.proofs.Common.{common_steps, ◌≡◌, ◌∙◌, ℕ, ◌==◌, Bool, false, None, List, [], ◌∷◌, ◌++◌, All, map, refl, sym, subst, ap, arith}
use Rattle.snippet_titles.proofs.Common.{slice_index_or, append-nil, All-nil, All-append, All-cons, All-head, All-tail, length-slice_split, LineAndColumn}
use Rattle.snippet_titles.proofs.Common.{NoStyle, row_at, Cell, text_cells, row_text, links_after, links_of, is_listed, Heading, HeadingRoles, Short}
use Rattle.snippet_titles.proofs.Common.{shown_text, heading_lines, indent_cells, label_cells, heading_label_text, label_width, lines_below, roles_of}
use Rattle.snippet_titles.proofs.Common.{short_rows, short_texts, with_end, IsFreeButText, id_links, row_text-text_cells}
use Rattle.snippet_titles.proofs.EndLemmas.{row_at-trimmed}
use Rattle.snippet_titles.proofs.FreeLemmas.{All-slice_split, All-trimmed, IsUnlisted, IsOwn, from_free, indent-all, label-all, lines_all, own_text}
use Rattle.snippet_titles.proofs.FreeLemmas.{own_unlisted, row-all}
use Rattle.snippet_titles.proofs.LinkLemmas.{IsUnlinked, drawn_unlinked, indent_unlinked, label-links, lines-links, links-before, links_after-unlinked}
use Rattle.snippet_titles.proofs.LinkLemmas.{trimmed-links}
use Rattle.snippet_titles.proofs.TextLemmas.{row_text-append, row_text-after, row_text-label, text_at, texts_of_lines}

-- the row that a text and a label begin
first_text : (hyperlink : Bool) (roles : HeadingRoles) (before : List ℕ) (heading : Heading)
    → row_text (text_cells LineAndColumn before ++ label_cells hyperlink roles heading) ≡ before ++ heading_label_text heading
first_text hyperlink roles before heading = grind (arith, common_steps, row_text-append, row_text-text_cells, row_text-label)

-- a text after the first row
with_end-texts : (after : List ℕ) (rows : List (List Cell)) → map row_text (with_end (text_cells NoStyle after) rows) ≡ with_end after (map row_text rows)
with_end-texts after [] = ap (λ t. t ∷ []) (row_text-text_cells NoStyle after)
with_end-texts after (row ∷ rows) =
    ap (λ t. t ∷ map row_text rows) (row_text-after row (row_text row) NoStyle after refl)

-- the text of each row
pub row_text-short_rows : (hyperlink : Bool) (before after : List ℕ) (heading : Heading) (i : ℕ)
    → row_text (row_at (short_rows hyperlink before after heading) i) ≡ slice_index_or (short_texts before after heading) i []
unfolding short_rows
row_text-short_rows hyperlink before after heading i =
    grind (arith, common_steps, heading.level.kind, row_at-trimmed, text_at, with_end-texts, texts_of_lines, first_text)

-- a text after the first row links to nothing
with_end-links : (cells : List Cell) (rows : List (List Cell)) → All IsUnlinked cells → links_of (with_end cells rows) ≡ links_of rows
with_end-links cells [] none = append-nil (links_after None cells) ∙ links_after-unlinked None [] cells none
with_end-links cells (row ∷ rows) none =
    ap (λ (urls : List (List ℕ)). urls ++ links_of rows) (links_after-unlinked None row cells none)

-- the addresses that the rows link to
pub links_of-short_rows : (hyperlink : Bool) (before after : List ℕ) (heading : Heading)
    → links_of (short_rows hyperlink before after heading) ≡ id_links hyperlink heading.id
unfolding short_rows
links_of-short_rows hyperlink before after heading =
    let roles : HeadingRoles = roles_of Short heading.level.kind heading.allows_styling in
    let label : List Cell = label_cells hyperlink roles heading in
    let first : List Cell = text_cells LineAndColumn before ++ label in
    let further : List Cell = indent_cells Short (label_width heading) in
    let lines : List (List ℕ) = heading_lines heading in
    let rows : List (List Cell) = lines_below first further roles.text lines in
    trimmed-links (with_end (text_cells NoStyle after) rows) ∙ with_end-links (text_cells NoStyle after) rows (drawn_unlinked NoStyle after)
    ∙ lines-links first further roles.text lines (omega (arith, length-slice_split (λ c. c == 10) (shown_text heading)))
    (indent_unlinked Short (label_width heading)) ∙ links-before (text_cells LineAndColumn before) label (drawn_unlinked LineAndColumn before)
    ∙ label-links hyperlink roles heading

-- what holds of each character that isn't listed, and of those of the title's text, holds of those of each row, where no
-- character of the texts before and after is listed
module _ (P : ℕ → Type 0) (free : (c : ℕ) → IsUnlisted c → P c) where
  with_end-all : (after : List ℕ) (rows : List (List Cell)) → All P after → All (λ row. All P (row_text row)) rows
      → All (λ row. All P (row_text row)) (with_end (text_cells NoStyle after) rows)
  with_end-all after [] more all = grind (arith, common_steps, All-cons, row-all P free [] NoStyle (All-nil P) after more, All-nil P, more, All-nil)
  with_end-all after (row ∷ rows) more all =
      All-cons (λ r. All P (row_text r)) (row ++ text_cells NoStyle after) rows
      (row-all P free row NoStyle (All-head (λ r. All P (row_text r)) row rows all) after more) (All-tail (λ r. All P (row_text r)) row rows all)

  short_rows-all : (hyperlink : Bool) (before after : List ℕ) (heading : Heading) → All IsUnlisted before → All IsUnlisted after → All P (shown_text heading)
      → All (λ row. All P (row_text row)) (short_rows hyperlink before after heading)
  unfolding short_rows
  short_rows-all hyperlink before after heading front back all =
      let roles : HeadingRoles = roles_of Short heading.level.kind heading.allows_styling in
      let first : List Cell = text_cells LineAndColumn before ++ label_cells hyperlink roles heading in
      let further : List Cell = indent_cells Short (label_width heading) in
      let lines : List (List ℕ) = heading_lines heading in
      let rows : List (List Cell) = lines_below first further roles.text lines in
      let begun : All P (row_text first) = subst (All P) (sym (first_text hyperlink roles before heading))
      (All-append P before (heading_label_text heading) (from_free P free before front) (label-all P free heading)) in
      let below : All (λ row. All P (row_text row)) rows = lines_all P free first further roles.text lines begun
      (indent-all P free Short (label_width heading)) (All-slice_split P (λ c. c == 10) (shown_text heading) all) in
      All-trimmed (λ row. All P (row_text row)) (with_end (text_cells NoStyle after) rows) (with_end-all after rows (from_free P free after back) below)

-- each listed character of the rows stands in the title's text, and that is trusted
pub short-free : (hyperlink : Bool) (before after : List ℕ) (heading : Heading) → All (λ c. is_listed c ≡ false) before → All (λ c. is_listed c ≡ false) after
    → All (IsFreeButText heading) (short_rows hyperlink before after heading)
short-free hyperlink before after heading front back =
    short_rows-all (IsOwn heading) (own_unlisted heading) hyperlink before after heading front back (own_text heading heading.allows_styling refl)
