-- What the rows of a suggestion show.
use Rattle.std.specs.Prelude.{◌≡◌, ◌⊎◌, ℕ, ◌+◌, ◌-◌, ◌<◌, ◌≤◌, ◌==◌, Bool, true, false, List, [], ◌∷◌, ◌++◌, length, replicate, take, drop}
use Rattle.std.specs.List.{list_any, slice_index_or}
use Rattle.snippet_style.specs.declared.glyphs.DecorStyle.{DecorStyle}
use Rattle.snippet_style.specs.Glyphs.{added_mark_of, changed_mark_of, char_of, placeholder_of, removed_sign_of}
use Rattle.snippet_style.specs.Cell.{Cell, SPACE}
use Rattle.snippet_grid.specs.Print.{row_text}
use Rattle.snippet_text.specs.Width.{width_of}
use Rattle.snippet_lines.specs.declared.number.LineNumbers.{LineNumbers}
use Rattle.snippet_lines.specs.declared.number.LineNumbers.TheVariants.{Shown, Anonymized, Hidden}
use Rattle.snippet_model.specs.FreeRows.{IsFree}
use Rattle.snippet_suggest.specs.declared.layout.SuggestionStart.{SuggestionStart}
use Rattle.snippet_suggest.specs.declared.layout.SuggestionStart.TheVariants.{Opening, Next, Path}
use Rattle.snippet_style.specs.declared.glyphs.SuggestionGlyph.TheVariants as sign
use Rattle.snippet_style.specs.Glyphs.{separator_of, suggestion_glyph_of}

-- what stands beside a line that is offered: a separator, or the glyph of a changed or of a new line
abbrev pub IsSign : DecorStyle → ℕ → Type 0
IsSign decor c = (c ≡ separator_of decor) ⊎ (c ≡ changed_mark_of decor) ⊎ (c ≡ added_mark_of decor)

-- what stands left of the lines in a row that shows none: spaces, what stands for lines that are left out, and the glyphs that
-- suggestions begin and end with
abbrev pub is_stroke : DecorStyle → ℕ → Bool
is_stroke decor c =
    list_any (λ d. d == c) (32 ∷ (placeholder_of decor ++ suggestion_glyph_of decor sign.Opening ++ suggestion_glyph_of decor sign.Next
    ++ suggestion_glyph_of decor sign.Leading ++ suggestion_glyph_of decor sign.Closing))

-- what stands in a row of marks: spaces, and the marks below what is put in and below what is changed
abbrev pub IsMarkOrSpace : DecorStyle → ℕ → Type 0
IsMarkOrSpace decor c = (c ≡ 32) ⊎ (c ≡ added_mark_of decor) ⊎ (c ≡ changed_mark_of decor)

-- a character of what the gutter shows beside a line: a digit, or one of `LL`
abbrev pub IsOfNumber : LineNumbers → ℕ → Type 0
IsOfNumber Shown c = (48 ≤ c) × (c ≤ 57)
IsOfNumber Anonymized c = c ≡ 76
IsOfNumber Hidden c = ⊥

-- the row of a line that is removed: it begins with the number beside the line, if that ends before the sign; `-` and a space stand
-- after the gutter. Left of them stands what the gutter shows beside the line, or what stands left of the lines in a row that shows none:
-- no letter but those of `LL`, where that stands in place of numbers. From three cells after it on stands the line's normalised text; and
-- after that what stood there before, which is a mark or a space, or a digit of a number that is too long for the gutter
pub record IsRemovedRow (numbers : LineNumbers) (decor : DecorStyle) (gutter : ℕ) (number text : List ℕ) (row : List Cell) : Type 0 where
  pub numbered : length number ≤ gutter + 1 → row_text (take (length number) row) ≡ number
  pub before : (c : ℕ) → c ≤ gutter → let ch = (slice_index_or row c SPACE).ch in (is_stroke decor ch ≡ true) ⊎ IsOfNumber numbers ch
  pub minus : (slice_index_or row (gutter + 1) SPACE).ch ≡ char_of (removed_sign_of decor)
  pub space : (slice_index_or row (gutter + 2) SPACE).ch ≡ 32
  pub begins : row_text (take (length text) (drop (gutter + 3) row)) ≡ text
  pub after : (c : ℕ) → gutter + 3 + length text ≤ c → let ch = (slice_index_or row c SPACE).ch in IsMarkOrSpace decor ch ⊎ ((48 ≤ ch) × (ch ≤ 57))
  pub free : IsFree row

-- a row that shows no line: up to three cells after the gutter nothing but what stands left of the lines there, so no letter
-- or digit, and from there on nothing but marks
pub record IsBareRow (decor : DecorStyle) (gutter : ℕ) (row : List Cell) : Type 0 where
  pub strokes : (c : ℕ) → c < gutter + 3 → is_stroke decor (slice_index_or row c SPACE).ch ≡ true
  pub marks : (c : ℕ) → gutter + 3 ≤ c → IsMarkOrSpace decor (slice_index_or row c SPACE).ch
  pub free : IsFree row

-- what stands left of the lines in a row that shows none, from the row's first cell on: a glyph one cell after the gutter
abbrev pub beside_gutter : ℕ → List ℕ → List ℕ
beside_gutter gutter glyph = replicate (gutter + 1) 32 ++ glyph

-- in the row that a suggestion begins with: its opening glyph, or one that joins it to the suggestion before, in the last row of
-- that; or below its path a separator
abbrev pub begin_glyph : DecorStyle → SuggestionStart → List ℕ
begin_glyph decor Opening = suggestion_glyph_of decor sign.Opening
begin_glyph decor Next = suggestion_glyph_of decor sign.Next
begin_glyph decor Path = separator_of decor ∷ []

-- in the row that it ends with: a separator before a further element, or else its closing glyph
abbrev pub end_glyph : DecorStyle → Bool → List ℕ
end_glyph decor true = suggestion_glyph_of decor sign.Leading
end_glyph decor false = suggestion_glyph_of decor sign.Closing

-- in a row in place of lines that are left out: what stands for these, right-aligned in the gutter, or from the first cell on where that
-- is too narrow
abbrev pub gap_left : DecorStyle → ℕ → List ℕ
gap_left decor gutter = replicate (gutter - width_of (placeholder_of decor)) 32 ++ placeholder_of decor

-- left of the lines the row holds these characters, from its first cell on, and then spaces
abbrev pub HasLeft : ℕ → List ℕ → List Cell → Type 0
HasLeft gutter left row = (c : ℕ) → c < gutter + 3 → (slice_index_or row c SPACE).ch ≡ slice_index_or left c 32
