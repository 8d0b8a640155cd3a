-- Rows as values: what the texts that are put into them make of them.
use Rattle.snippet_suggest.proofs.Common.{◌≡◌, ◌≢◌, ℕ, ◌+◌, ◌-◌, ◌<◌, ◌≤◌, Bool, List, [], ◌∷◌, ◌++◌, length}
use Rattle.snippet_suggest.proofs.Common.{replicate, refl, sym, ap, ◌∙◌, arith, append_assoc, append-nil, chars-nil, encodes-chars, IsUtf8, DecorStyle}
use Rattle.snippet_suggest.proofs.Common.{ElementStyle, Addition, LineNumber, NoStyle, Removal, Cell, SPACE, text_cells, written, placeholder_of}
use Rattle.snippet_suggest.proofs.Common.{removed_sign_of, length-chars_le, length-text_cells, cells_written, row_at, cells_written_below, cells_written_last}
use Rattle.snippet_suggest.proofs.Common.{norm, width_of, shown_number, SuggestionGlyph, SuggestionLayout, SubstitutionHighlight, DisplaySuggestion, Diff, Next}
use Rattle.snippet_suggest.proofs.Common.{Opening, Path, begin_cells, end_cells, gap_cells, line_cells, offered_cells, put, removed_cells, opened_cells}
use Rattle.snippet_suggest.proofs.Common.{lines_shown, row_shown, sign_of, with_stretches, SuggestedText, Line, line_stretches, slice_index_or, end_glyph}
use Rattle.snippet_suggest.proofs.Common.{get_or_past, length-map, places, same_lists, suggestion_glyph_of, suggestion_role_of, capped_sum, common_steps, rules}
use Rattle.std.proofs.Common.{chars}
use lib.Utf8.{encodes}
use Rattle.snippet_style.specs.declared.glyphs.SuggestionGlyph.TheVariants as sign

-- a text that isn't empty has characters
chars_some : (b : ℕ) (bs : List ℕ) → IsUtf8 (b ∷ bs) → chars (b ∷ bs) ≢ []
chars_some b bs text = λ none. let same : encodes (chars (b ∷ bs)) ≡ b ∷ bs = encodes-chars (b ∷ bs) text in
    let empty : encodes (chars (b ∷ bs)) ≡ [] = ap encodes none in cc

-- no characters that are put leave the row as it is
pub put_none : (role : ElementStyle) (at : ℕ) (row : List Cell) → put role [] at row ≡ row
unfolding put
put_none role at row = refl

pub put_some : (role : ElementStyle) (cs : List ℕ) (at : ℕ) (row : List Cell) → cs ≢ [] → put role cs at row ≡ written SPACE row at (text_cells role cs)
unfolding put
put_some x y z u v = search rules

-- what a grid has where the rows below some are one row, or none
pub over : (above tail : List (List Cell)) (at : ℕ) (cells : List Cell) → length tail ≤ 1
    → cells_written (above ++ tail) (length above) at cells ≡ above ++ written SPACE (row_at tail 0) at cells ∷ []
over above [] at cells few = simp (append-nil, cells_written_below)
over above (row ∷ []) at cells few = cells_written_last above row at cells
over above (row ∷ next ∷ tail) at cells few = absurd (omega arith)

-- a text that isn't empty was put there
pub put_begun : (role : ElementStyle) (cs : List ℕ) (at r : ℕ) (above tail old new : List (List Cell)) → cs ≢ [] → r ≡ length above → old ≡ above ++ tail
    → length tail ≤ 1 → new ≡ cells_written old r at (text_cells role cs) → new ≡ above ++ put role cs at (row_at tail 0) ∷ []
put_begun role cs at r above tail old new some here is few writes = grind (arith, over, put_some)

-- a text that may be empty was put into the last row
pub put_more : (role : ElementStyle) (bytes : List ℕ) (at r : ℕ) (above : List (List Cell)) (row : List Cell) (old new : List (List Cell))
    → IsUtf8 bytes → r ≡ length above → old ≡ above ++ row ∷ [] → (0 < length bytes → new ≡ cells_written old r at (text_cells role (chars bytes)))
    → (bytes ≡ [] → new ≡ old) → new ≡ above ++ put role (chars bytes) at row ∷ []
put_more role [] at r above row old new text here is writes stays = grind (arith, chars-nil, put_none)
put_more role (b ∷ bs) at r above row old new text here is writes stays =
    put_begun role (chars (b ∷ bs)) at r above (row ∷ []) old new (chars_some b bs text) here is (omega arith) (writes (omega arith))

-- the same in the row that is there or not: what stands there after it
pub record IsOver (above : List (List Cell)) (row : List Cell) (rows : List (List Cell)) : Type 0 where
  pub tail : List (List Cell)
  pub few : length tail ≤ 1
  pub row_is : row_at tail 0 ≡ row
  pub is : rows ≡ above ++ tail

pub put_over : (role : ElementStyle) (bytes : List ℕ) (at r : ℕ) (above tail old new : List (List Cell)) → IsUtf8 bytes → r ≡ length above
    → old ≡ above ++ tail → length tail ≤ 1 → (0 < length bytes → new ≡ cells_written old r at (text_cells role (chars bytes)))
    → (bytes ≡ [] → new ≡ old) → IsOver above (put role (chars bytes) at (row_at tail 0)) new
put_over role [] at r above tail old new text here is few writes stays = grind (arith, common_steps, chars-nil, put_none)
put_over role (b ∷ bs) at r above tail old new text here is few writes stays =
    record {
      tail = put role (chars (b ∷ bs)) at (row_at tail 0) ∷ [];
      few = omega arith;
      row_is = refl;
      is = put_begun role (chars (b ∷ bs)) at r above tail old new (chars_some b bs text) here is few (writes (omega arith));
    }

-- each glyph has characters
pub glyph_some : (decor : DecorStyle) (glyph : SuggestionGlyph) → suggestion_glyph_of decor glyph ≢ []
glyph_some x y = grind (arith, common_steps)

pub placeholder_some : (decor : DecorStyle) → placeholder_of decor ≢ []
placeholder_some x = grind (arith)

-- two texts that are put into an empty row, the first of them left of the other
swapped : (new first : List Cell) (at : ℕ) → length first ≤ at
    → written SPACE (written SPACE [] 0 first) at new ≡ written SPACE (written SPACE [] at new) 0 first
swapped new first at few =
    same_lists _ _ (unfold written in grind (arith, places)) (λ k d h. unfold written in grind (arith, places))

-- it is the same in which order they are put
put_swap : (role other : ElementStyle) (cs ds : List ℕ) (at : ℕ) → length ds ≤ at → put role cs at (put other ds 0 []) ≡ put other ds 0 (put role cs at [])
unfolding put
put_swap x y z u v w = grind (arith, swapped, length-text_cells)

-- what stands left of a line was drawn, from left to right
pub begun_in_order : (layout : SuggestionLayout) (glyph : SuggestionGlyph) (number : ℕ) (role : ElementStyle)
    (signed digits : List ℕ) (r : ℕ) (old one new : List (List Cell)) → r ≡ length old → role ≡ suggestion_role_of glyph
    → chars signed ≡ suggestion_glyph_of layout.base.decor glyph
    → chars digits ≡ shown_number layout.numbers layout.base.gutter number → IsUtf8 digits → length digits ≤ layout.base.gutter + 1
    → (0 < length digits → one ≡ cells_written old r 0 (text_cells LineNumber (chars digits))) → (digits ≡ [] → one ≡ old)
    → new ≡ cells_written one r (layout.base.gutter + 1) (text_cells role (chars signed))
    → new ≡ old ++ opened_cells layout glyph number ∷ []
unfolding opened_cells
begun_in_order layout glyph number role signed digits r old one new here role_is sign_is digits_are utf8 few numbers no_number signs =
    let at = layout.base.gutter + 1 in
    let k = suggestion_role_of glyph in
    let sign = suggestion_glyph_of layout.base.decor glyph in
    let first = put_over LineNumber digits 0 r old [] old one utf8 here (sym (append-nil old)) (omega arith) numbers no_number in
    let second = put_begun k sign at r old first.tail one new (glyph_some layout.base.decor glyph) here first.is first.few
    (signs ∙ ap (λ (t : ElementStyle). cells_written one r at (text_cells t (chars signed))) role_is
    ∙ ap (λ (cs : List ℕ). cells_written one r at (text_cells k cs)) sign_is) in
    cc (second, first.row_is, put_swap k LineNumber sign (chars digits) at (omega (arith, few, length-chars_le digits)), digits_are)

-- the same where the number is put over the glyph
pub begun_over : (layout : SuggestionLayout) (glyph : SuggestionGlyph) (number : ℕ) (role : ElementStyle)
    (signed digits : List ℕ) (r : ℕ) (old one new : List (List Cell)) → r ≡ length old → role ≡ suggestion_role_of glyph
    → chars signed ≡ suggestion_glyph_of layout.base.decor glyph
    → chars digits ≡ shown_number layout.numbers layout.base.gutter number → IsUtf8 digits
    → one ≡ cells_written old r (layout.base.gutter + 1) (text_cells role (chars signed))
    → (0 < length digits → new ≡ cells_written one r 0 (text_cells LineNumber (chars digits))) → (digits ≡ [] → new ≡ one)
    → new ≡ old ++ opened_cells layout glyph number ∷ []
unfolding opened_cells
begun_over layout glyph number role signed digits r old one new here role_is sign_is digits_are utf8 signs numbers no_number =
    let at = layout.base.gutter + 1 in
    let k = suggestion_role_of glyph in
    let sign = suggestion_glyph_of layout.base.decor glyph in
    let first : one ≡ old ++ put k sign at [] ∷ [] =
    put_begun k sign at r old [] old one (glyph_some layout.base.decor glyph) here (sym (append-nil old)) (omega arith)
    (signs ∙ ap (λ (t : ElementStyle). cells_written old r at (text_cells t (chars signed))) role_is
    ∙ ap (λ (cs : List ℕ). cells_written old r at (text_cells k cs)) sign_is) in
    put_more LineNumber digits 0 r old (put k sign at []) one new utf8 here first numbers no_number
    ∙ ap (λ (cs : List ℕ). old ++ put LineNumber cs 0 (put k sign at []) ∷ []) digits_are

-- the line after that is its row
pub line_is : (layout : SuggestionLayout) (glyph : SuggestionGlyph) (number : ℕ) (line : List ℕ)
    → put NoStyle (norm (chars line)) (layout.base.gutter + 3) (opened_cells layout glyph number) ≡ line_cells layout glyph number line
unfolding opened_cells line_cells
line_is layout glyph number line = refl

-- the row of a line was drawn
pub line_drawn : (layout : SuggestionLayout) (glyph : SuggestionGlyph) (number : ℕ) (line text : List ℕ) (r : ℕ) (old one new : List (List Cell))
    → r ≡ length old → one ≡ old ++ opened_cells layout glyph number ∷ [] → chars text ≡ norm (chars line) → IsUtf8 text
    → (0 < length text → new ≡ cells_written one r (layout.base.gutter + 3) (text_cells NoStyle (chars text))) → (text ≡ [] → new ≡ one)
    → new ≡ old ++ line_cells layout glyph number line ∷ []
line_drawn layout glyph number line text r old one new here begun text_is utf8 texts no_text =
    let g = layout.base.gutter in
    put_more NoStyle text (g + 3) r old (opened_cells layout glyph number) one new utf8 here begun texts no_text
    ∙ ap (λ (cs : List ℕ). old ++ put NoStyle cs (g + 3) (opened_cells layout glyph number) ∷ []) text_is
    ∙ ap (λ (row : List Cell). old ++ row ∷ []) (line_is layout glyph number line)

-- the row of a line that is removed was drawn, over one that is there or not
pub removed_drawn : (layout : SuggestionLayout) (role : ElementStyle) (number : ℕ) (line : List ℕ) (sign digits text : List ℕ) (r : ℕ)
    (above tail old one two new : List (List Cell)) → r ≡ length above → old ≡ above ++ tail → length tail ≤ 1 → chars sign ≡ removed_sign_of layout.base.decor
    → chars digits ≡ shown_number layout.numbers layout.base.gutter number → chars text ≡ norm (chars line) → IsUtf8 digits → IsUtf8 text
    → (0 < length digits → one ≡ cells_written old r 0 (text_cells LineNumber (chars digits))) → (digits ≡ [] → one ≡ old)
    → two ≡ cells_written one r (layout.base.gutter + 1) (text_cells Removal (chars sign))
    → (0 < length text → new ≡ cells_written two r (layout.base.gutter + 3) (text_cells role (chars text))) → (text ≡ [] → new ≡ two)
    → new ≡ above ++ removed_cells layout role number line (row_at tail 0) ∷ []
unfolding removed_cells
removed_drawn layout role number line sign digits text r above tail old one two new here is few sign_is digits_are text_is utf8_digits utf8_text numbers
    no_number signs texts no_text =
    let g = layout.base.gutter in
    let under = row_at tail 0 in
    let first = put_over LineNumber digits 0 r above tail old one utf8_digits here is few numbers no_number in
    let numbered = put LineNumber (chars digits) 0 under in
    let removed : List ℕ = removed_sign_of layout.base.decor in
    let second : two ≡ above ++ put Removal removed (g + 1) numbered ∷ [] =
    put_begun Removal removed (g + 1) r above first.tail one two (λ none. cc)
    here first.is first.few (signs ∙ ap (λ (cs : List ℕ). cells_written one r (g + 1) (text_cells Removal cs)) sign_is)
    ∙ ap (λ (row : List Cell). above ++ put Removal removed (g + 1) row ∷ []) first.row_is in
    let third = put_more role text (g + 3) r above (put Removal removed (g + 1) numbered) two new utf8_text here second texts no_text in
    third ∙ ap (λ (cs : List ℕ). above ++ put role cs (g + 3) (put Removal removed (g + 1) numbered) ∷ []) text_is
    ∙ ap (λ (cs : List ℕ). above ++ put role (norm (chars line)) (g + 3) (put Removal removed (g + 1) (put LineNumber cs 0 under)) ∷ []) digits_are

-- the row in place of lines that are left out was drawn
pub gap_drawn : (layout : SuggestionLayout) (text : List ℕ) (r at : ℕ) (old new : List (List Cell)) → r ≡ length old
    → at ≡ layout.base.gutter - width_of (placeholder_of layout.base.decor) → chars text ≡ placeholder_of layout.base.decor
    → (0 < length text → new ≡ cells_written old r at (text_cells LineNumber (chars text))) → new ≡ old ++ gap_cells layout ∷ []
unfolding gap_cells
gap_drawn layout [] r at old new here right is writes = absurd (placeholder_some layout.base.decor (sym is ∙ chars-nil))
gap_drawn layout (b ∷ bs) r at old new here right is writes =
    let cs = placeholder_of layout.base.decor in
    put_begun LineNumber cs at r old [] old new (placeholder_some layout.base.decor) here (sym (append-nil old)) (omega arith)
    (writes (omega arith) ∙ ap (λ (t : List ℕ). cells_written old r at (text_cells LineNumber t)) is)
    ∙ ap (λ (n : ℕ). old ++ put LineNumber cs n [] ∷ []) right

-- the row of a line that is offered
pub offered_is : (layout : SuggestionLayout) (kind : DisplaySuggestion) (glyph : SuggestionGlyph) (count counted number numbered : ℕ)
    (line text : List ℕ) (ss new : List SubstitutionHighlight) → glyph ≡ sign_of kind count line ss → count ≡ counted → number ≡ numbered
    → line ≡ text → ss ≡ new → with_stretches Addition layout.base.gutter (chars line) ss (line_cells layout glyph number line)
    ≡ offered_cells layout kind counted numbered text new
unfolding offered_cells
offered_is layout kind glyph count counted number numbered line text ss new sign counts numbers lines stretches = grind (arith, common_steps)

-- the row of a line of a text
pub shown_is : (layout : SuggestionLayout) (text : SuggestedText) (k : ℕ) (glyph : SuggestionGlyph) (number : ℕ) (line : List ℕ)
    (new : List SubstitutionHighlight) → glyph ≡ sign_of text.kind (length text.lines.now) line new → number ≡ capped_sum text.first k
    → line ≡ slice_index_or (lines_shown text) k [] → new ≡ line_stretches text.stretches.now k
    → with_stretches Addition layout.base.gutter (chars line) new (line_cells layout glyph number line) ≡ row_shown layout text (Line k)
shown_is layout text k glyph number line new sign numbers lines stretches = grind (arith, common_steps, offered_is, length-map)

-- writing so many rows below all
skipped_written : (rows : List (List Cell)) (skipped at : ℕ) (cells : List Cell)
    → cells_written rows (length rows + skipped) at cells ≡ rows ++ (replicate skipped [] ++ written SPACE [] at cells ∷ [])
skipped_written rows skipped at cells = grind (arith, common_steps, get_or_past, filled)
  where
    filled : (row : List Cell) → written [] rows (length rows + skipped) (row ∷ []) ≡ rows ++ (replicate skipped [] ++ row ∷ [])
    filled row = same_lists _ _ (unfold written in grind (arith, places)) (λ k d h. unfold written in grind (arith, places))

-- a glyph that was drawn below all rows and so many empty ones
pub glyph_below : (role : ElementStyle) (decor : DecorStyle) (glyph : SuggestionGlyph) (cs : List ℕ) (at r skipped : ℕ) (old new : List (List Cell))
    → cs ≡ suggestion_glyph_of decor glyph → r ≡ length old + skipped → new ≡ cells_written old r at (text_cells role cs)
    → new ≡ (old ++ replicate skipped []) ++ put role (suggestion_glyph_of decor glyph) at [] ∷ []
glyph_below role decor glyph cs at r skipped old new is here writes = grind (arith, skipped_written, append_assoc, replicate, put_some, glyph_some)

-- a glyph that is written over the first row below is put there
pub glyph_over : (role : ElementStyle) (decor : DecorStyle) (glyph : SuggestionGlyph) (cs : List ℕ) (at r : ℕ) (above tail old new : List (List Cell))
    → cs ≡ suggestion_glyph_of decor glyph → r ≡ length above → old ≡ above ++ tail → length tail ≤ 1 → new ≡ cells_written old r at (text_cells role cs)
    → new ≡ above ++ put role (suggestion_glyph_of decor glyph) at (row_at tail 0) ∷ []
glyph_over role decor glyph cs at r above tail old new is here old_is few writes = grind (arith, put_begun, glyph_some)

-- what a suggestion begins and ends with
pub begin_opening : (layout : SuggestionLayout) (under : List Cell)
    → put LineNumber (suggestion_glyph_of layout.base.decor sign.Opening) (layout.base.gutter + 1) under ≡ begin_cells layout Opening under
unfolding begin_cells
begin_opening layout under = refl

-- the glyph of a next suggestion makes the row that begins it
pub begin_next : (layout : SuggestionLayout) (under : List Cell)
    → put LineNumber (suggestion_glyph_of layout.base.decor sign.Next) (layout.base.gutter + 1) under ≡ begin_cells layout Next under
unfolding begin_cells
begin_next layout under = refl

-- a suggestion below a path begins in the path's row
pub begin_path : (layout : SuggestionLayout) (above tail old : List (List Cell)) → old ≡ above ++ tail → length tail ≡ 1
    → old ≡ above ++ begin_cells layout Path (row_at tail 0) ∷ []
unfolding begin_cells
begin_path layout above [] old is one = absurd (omega (arith, one))
begin_path layout above (row ∷ []) old is one = is
begin_path layout above (row ∷ next ∷ rows) old is one = absurd (omega (arith, one))

-- the glyph of the end makes the row that ends a suggestion
pub end_is : (layout : SuggestionLayout) (follows : Bool)
    → put LineNumber (end_glyph layout.base.decor follows) (layout.base.gutter + 1) [] ≡ end_cells layout follows
unfolding end_cells
end_is layout follows = refl

-- the line in place of removed ones
diff_sign : (line : List ℕ) (ss : List SubstitutionHighlight) → sign.Added ≡ sign_of Diff 1 line ss
unfolding sign_of
diff_sign line ss = refl

-- an added line of a diff, with its stretches, is the row of that offered line
pub diff_offered : (layout : SuggestionLayout) (number : ℕ) (line : List ℕ) (ss : List SubstitutionHighlight)
    → with_stretches Addition layout.base.gutter (chars line) ss (line_cells layout sign.Added number line) ≡ offered_cells layout Diff 1 number line ss
diff_offered layout number line ss =
    offered_is layout Diff sign.Added 1 1 number number line line ss ss (diff_sign line ss) refl refl refl refl
