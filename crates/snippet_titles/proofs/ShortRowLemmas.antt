-- A title in the short form that has one row, put together from its parts.
use Rattle.snippet_titles.proofs.Common.{common_steps, ◌≡◌, ℕ, ◌<◌, Bool, List, [], ◌∷◌, ◌++◌, length, map, refl, sym, ap, ◌∙◌, arith, All, length-append}
use Rattle.snippet_titles.proofs.Common.{IsUtf8, Cell, text_cells, ElementStyle, LineAndColumn, NoStyle, length-text_cells, Heading, IsPlain, HeadingRoles}
use Rattle.snippet_titles.proofs.Common.{Short, heading_lines, label_cells, on_top, roles_of, short_rows, LevelInner, Stylesheet, PrintedRow, Prints}
use Rattle.snippet_titles.proofs.Common.{WeavesRows}
use Rattle.snippet_grid.proofs.WovenLemmas.{Prints-from_adds}
use Rattle.std.proofs.Common.{chars}
use Rattle.snippet_titles.proofs.HeadingLemmas.{plain_shown}
use Rattle.snippet_titles.proofs.LineLemmas.{lines_at-plain}
use Rattle.snippet_text.proofs.SplitLemmas.{lines_at, lines_at-chars}

-- the lines of a text of printable ASCII
pub plain_lines : (heading : Heading) (text : List ℕ) → IsUtf8 text → text ≡ heading.text → All IsPlain text → heading_lines heading ≡ chars text ∷ []
plain_lines heading text utf8 is plain =
    ap lines_at (sym (plain_shown heading.allows_styling text heading.text is plain)) ∙ sym (lines_at-chars text utf8)
    ∙ ap (map chars) (lines_at-plain text plain)

-- a row that has cells stands
on_top-some : (row : List Cell) → 0 < length row → on_top row [] ≡ row ∷ []
on_top-some [] some = absurd (omega (arith, some))
on_top-some (cell ∷ cells) some = refl

-- the rows of a title whose text is one line
pub one_row : (hyperlink : Bool) (before after line : List ℕ) (heading : Heading) (roles : HeadingRoles)
    → roles ≡ roles_of Short heading.level.kind heading.allows_styling → heading_lines heading ≡ line ∷ [] → 0 < length line
    → short_rows hyperlink before after heading
    ≡ (((text_cells LineAndColumn before ++ label_cells hyperlink roles heading) ++ text_cells roles.text line) ++ text_cells NoStyle after) ∷ []
unfolding short_rows
one_row hyperlink before after line heading roles known lines some = grind (arith, common_steps, heading.level.kind, on_top-some, length-text_cells)

-- the row of a title whose text is one line, from its parts
pub row_is : (hyperlink : Bool) (before after line a b c : List ℕ) (heading : Heading) (roles : HeadingRoles)
    → roles ≡ roles_of Short heading.level.kind heading.allows_styling → heading_lines heading ≡ line ∷ [] → 0 < length line → a ≡ before → b ≡ line → c ≡ after
    → (((text_cells LineAndColumn a ++ label_cells hyperlink roles heading) ++ text_cells roles.text b) ++ text_cells NoStyle c) ∷ []
    ≡ short_rows hyperlink before after heading
row_is hyperlink before after line a b c heading roles known lines some first words last = grind (arith, common_steps, roles.text, one_row)

-- it has cells
pub row_some : (front last : List Cell) (role : ElementStyle) (line : List ℕ) → 0 < length line → 0 < length ((front ++ text_cells role line) ++ last)
row_some front last role line some =
    omega (arith, length-append (front ++ text_cells role line) last, length-append front (text_cells role line), length-text_cells role line, some)

-- a row that is printed after no text prints the rows that it is
pub row_printed : (sheet : Stylesheet) (level : LevelInner) (start : PrintedRow) (row : List Cell) (rows : List (List Cell)) (room text : List ℕ)
    → start.codes.now ≡ sheet → start.level ≡ level → row ∷ [] ≡ rows → room ≡ [] → WeavesRows start.codes.now start.level (row ∷ []) room text
    → Prints sheet level rows text
row_printed sheet level start row rows room text under in_level is none adds = grind (arith, common_steps, Prints-from_adds)
