-- The sign beside a line that is offered stands in its row, whatever else is written there.
use Rattle.snippet_suggest.proofs.Common.{◌≡◌, ℕ, ◌+◌, ◌≤◌, List, length, map, ◌∙◌, arith, AllZip, slice_index_or, Snippet, Patch}
use Rattle.snippet_suggest.proofs.Common.{Addition, Cell, SPACE, shown_number, SubstitutionHighlight, SuggestionGlyph, DisplaySuggestion, SuggestionLayout}
use Rattle.snippet_suggest.proofs.Common.{SuggestionStart, line_cells, offered_cells, sign_of, with_stretches, suggestion_glyph_of, SuggestionRow}
use Rattle.snippet_suggest.proofs.Common.{rows_of_suggestion, body_cells, suggested_cells, HasSign, common_steps}
use Rattle.std.proofs.Common.{chars}
use Rattle.snippet_suggest.proofs.BodyLaws.{body_all}
use Rattle.snippet_suggest.proofs.RepaintLemmas.{same_ch, without_role}
use Rattle.snippet_suggest.proofs.PutRows.{put_after, put_alone, put_before}
use Rattle.snippet_suggest.proofs.RowLaws.{with_same}

-- the sign stands in the row of a line
line_sign : (layout : SuggestionLayout) (glyph : SuggestionGlyph) (number : ℕ) (line : List ℕ)
    → length (shown_number layout.numbers layout.base.gutter number) ≤ layout.base.gutter + 1
    → (slice_index_or (line_cells layout glyph number line) (layout.base.gutter + 1) SPACE).ch
    ≡ slice_index_or (suggestion_glyph_of layout.base.decor glyph) 0 32
unfolding line_cells
line_sign layout glyph number line fits = grind (arith, common_steps, put_before, put_after, put_alone)

offered_sign : (layout : SuggestionLayout) (kind : DisplaySuggestion) (count number : ℕ) (line : List ℕ) (ss : List SubstitutionHighlight)
    → length (shown_number layout.numbers layout.base.gutter number) ≤ layout.base.gutter + 1
    → (slice_index_or (offered_cells layout kind count number line ss) (layout.base.gutter + 1) SPACE).ch ≡ slice_index_or
    (suggestion_glyph_of layout.base.decor (sign_of kind count line ss)) 0 32
unfolding offered_cells
offered_sign layout kind count number line ss fits =
    let row : List Cell = line_cells layout (sign_of kind count line ss) number line in
    same_ch (layout.base.gutter + 1) (with_stretches Addition layout.base.gutter (chars line) ss row) row
    (with_same Addition layout.base.gutter (chars line) ss row) ∙ line_sign layout (sign_of kind count line ss) number line fits

-- each row has its sign
pub has_sign : (layout : SuggestionLayout) (s : Snippet Patch) (under : List Cell) (shown : SuggestionRow)
    → HasSign layout s shown (suggested_cells layout s under shown)
unfolding suggested_cells
has_sign x y z u = grind (arith, common_steps, offered_sign)

-- so it has in another role
sign_kept : (layout : SuggestionLayout) (s : Snippet Patch) (shown : SuggestionRow) (now row : List Cell) → map without_role now ≡ map without_role row
    → HasSign layout s shown row → HasSign layout s shown now
sign_kept x y z u v w a = grind (arith, common_steps, same_ch)

-- the rows of a suggestion have their signs
pub body_signs : (layout : SuggestionLayout) (start : SuggestionStart) (s : Snippet Patch) (under : List Cell)
    → AllZip (HasSign layout s) (rows_of_suggestion start s) (body_cells layout start s under)
body_signs layout start s under =
    body_all layout s (HasSign layout s) (sign_kept layout s) start under (has_sign layout s)
