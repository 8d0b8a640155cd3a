-- What each row of a suggestion shows, and how all of them are drawn over the row that they begin in.
use Rattle.std.specs.Prelude.{◌≡◌, ℕ, ◌+◌, ◌<◌, ◌≤◌, Bool, true, false, List, [], length, take, drop, chars, if◌then◌else◌, ◌∷◌, ◌++◌}
use Rattle.std.specs.Char.{is_ascii_alphanumeric}
use Rattle.std.specs.List.{slice_index_or}
use Rattle.snippet_model.specs.declared.snippet.Snippet.{Snippet}
use Rattle.snippet_model.specs.declared.snippet.Patch.{Patch}
use Rattle.snippet_style.specs.declared.glyphs.DecorStyle.{DecorStyle}
use Rattle.snippet_style.specs.Cell.{Cell, SPACE}
use Rattle.snippet_grid.specs.Print.{row_text}
use Rattle.snippet_text.specs.Normalized.{norm}
use Rattle.snippet_lines.specs.Number.{number_width, shown_number}
use Rattle.snippet_model.specs.FreeRows.{IsFree}
use Rattle.snippet_suggest.specs.declared.layout.SuggestionLayout.{SuggestionLayout}
use Rattle.snippet_suggest.specs.declared.layout.SuggestionStart.{SuggestionStart}
use Rattle.snippet_suggest.specs.declared.layout.SuggestionStart.TheVariants.{Opening, Next, Path}
use Rattle.snippet_suggest.specs.declared.shown_lines.SuggestionLine.{SuggestionLine}
use Rattle.snippet_suggest.specs.declared.shown_lines.SuggestionLine.TheVariants.{Line, Gap}
use Rattle.snippet_suggest.specs.Given.{counted_line, first_given, given_lines, shown_kind}
use Rattle.snippet_suggest.specs.RowOrder.{Begins, Empty, Ends, Offers, Removes, Skips, SuggestionRow}
use Rattle.snippet_grid.specs.Layout.{separator_cell}
use Rattle.snippet_window.specs.Margin.{capped_sum}
use Rattle.snippet_suggest.specs.SuggestionRows.{IsSign, IsRemovedRow, IsBareRow, beside_gutter, begin_glyph, end_glyph, gap_left, HasLeft}
use Rattle.snippet_suggest.specs.Cells.{sign_of}
use Rattle.snippet_style.specs.Glyphs.{suggestion_glyph_of}
use Rattle.snippet_suggest.specs.Suggested.{new_on, suggested_cells, body_cells}

-- a row that offers a line: its number, the sign after it with a space, and no letter or digit between them and the line's
-- normalised text, which goes from three cells after the gutter to the row's end
pub record IsLineRow (decor : DecorStyle) (gutter : ℕ) (number text : List ℕ) (row : List Cell) : Type 0 where
  pub numbered : row_text (take (length number) row) ≡ number
  pub beside : (c : ℕ) → length number ≤ c → c < gutter + 3 → is_ascii_alphanumeric (slice_index_or row c SPACE).ch ≡ false
  pub sign : IsSign decor (slice_index_or row (gutter + 1) SPACE).ch
  pub space : (slice_index_or row (gutter + 2) SPACE).ch ≡ 32
  pub holds : row_text (drop (gutter + 3) row) ≡ text
  pub free : IsFree row

-- a row that shows no line, and just this left of the lines
pub record IsEdgeRow (decor : DecorStyle) (gutter : ℕ) (left : List ℕ) (row : List Cell) : Type 0 where
  pub bare : IsBareRow decor gutter row
  pub left_is : HasLeft gutter left row

-- a row of a line that is removed, with this number beside it, and this text
abbrev pub IsRowOfRemoved : SuggestionLayout → ℕ × List ℕ → List Cell → Type 0
IsRowOfRemoved layout line row =
    IsRemovedRow layout.numbers layout.base.decor layout.base.gutter (shown_number layout.numbers layout.base.gutter line.0) (norm (chars line.1)) row

-- the row shows this, of some lines of which the first has this number
abbrev pub Shows : SuggestionLayout → ℕ → List (List ℕ) → SuggestionRow → List Cell → Type 0
Shows layout first lines (Begins start) row =
    IsEdgeRow layout.base.decor layout.base.gutter (beside_gutter layout.base.gutter (begin_glyph layout.base.decor start)) row
Shows layout first lines (Offers k) row =
    IsLineRow layout.base.decor layout.base.gutter (shown_number layout.numbers layout.base.gutter (capped_sum first k))
    (norm (chars (slice_index_or lines k []))) row
Shows layout first lines Skips row =
    IsEdgeRow layout.base.decor layout.base.gutter (gap_left layout.base.decor layout.base.gutter) row
Shows layout first lines (Removes i number text) row = IsRowOfRemoved layout (number, text) row
Shows layout first lines Empty row = IsEdgeRow layout.base.decor layout.base.gutter [] row
Shows layout first lines (Ends follows) row =
    IsEdgeRow layout.base.decor layout.base.gutter (beside_gutter layout.base.gutter (end_glyph layout.base.decor follows)) row

-- the number of a line that is shown stands left of the sign
abbrev pub NumberFits : SuggestionLayout → ℕ → SuggestionLine → Type 0
NumberFits layout first (Line k) =
    length (shown_number layout.numbers layout.base.gutter (capped_sum first k)) ≤ separator_cell layout.base
NumberFits layout first Gap = Unit {0}

-- whether a suggestion begins in a row that is there
abbrev pub begins_in_last : SuggestionStart → Bool
begins_in_last Opening = false
begins_in_last Next = true
begins_in_last Path = true

-- how many rows it finds there: that one, or none
abbrev pub rows_shared : SuggestionStart → ℕ
rows_shared start = if begins_in_last start then 1 else 0

-- what the first row of a suggestion is drawn over: a row with no cells, the last row of a suggestion before, or the row that sets its
-- path off
abbrev pub IsUnder : DecorStyle → ℕ → SuggestionStart → List Cell → Type 0
IsUnder decor gutter Opening row = row ≡ []
IsUnder decor gutter Next row =
    (follows : Bool) × IsEdgeRow decor gutter (beside_gutter gutter (end_glyph decor follows)) row
IsUnder decor gutter Path row = IsEdgeRow decor gutter (beside_gutter gutter (begin_glyph decor Path)) row

-- the gutter has room for the number that a suggestion counts
abbrev pub HasGutter : SuggestionLayout → Snippet Patch → Type 0
HasGutter layout s = number_width layout.numbers (counted_line s) ≤ layout.base.gutter

-- all rows of a suggestion, the first of them over one that is there or has no cells
unfoldable pub suggestion_cells : SuggestionLayout → SuggestionStart → Bool → Snippet Patch → List Cell → List (List Cell)
suggestion_cells layout start follows s under =
    body_cells layout start s under ++ suggested_cells layout s [] (Ends follows) ∷ []

-- the row of a line that is offered has its sign one cell after the gutter: the one that the kind, the number of lines and the line's
-- new stretches ask for; where its number ends before that
abbrev pub HasSign : SuggestionLayout → Snippet Patch → SuggestionRow → List Cell → Type 0
HasSign layout s (Offers k) row =
    let glyph = sign_of (shown_kind s) (length (given_lines s)) (slice_index_or (given_lines s) k []) (new_on s k) in
    NumberFits layout (s.line_start + first_given s) (Line k) → (slice_index_or row (separator_cell layout.base) SPACE).ch
    ≡ slice_index_or (suggestion_glyph_of layout.base.decor glyph) 0 32
HasSign layout s shown row = Unit {0}
