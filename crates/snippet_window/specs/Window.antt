-- The window of a line: the part of it that is shown.
use Rattle.std.specs.Prelude.{◌≡◌, ℕ, ◌+◌, ◌-◌, ◌≤◌, ◌==◌, ◌&&◌, ◌||◌, ◌⊎◌, nat_lt, nat_le, min, zero, suc, Bool, false, not, List, [], ◌∷◌, ◌++◌, Option, Some}
use Rattle.std.specs.Prelude.{None, is_none, chars, unwrap_or, length, take, drop, if◌then◌else◌, reverse}
use Rattle.std.specs.List.{list_all, list_any}
use Rattle.std.specs.Option.{option_map, option_map_or}
use Rattle.std.specs.Char.{is_whitespace}
use Rattle.snippet_model.specs.declared.snippet.Annotation.{Annotation}
use Rattle.snippet_style.specs.Cell.{written}
use Rattle.snippet_text.specs.Width.{char_width, width_of}
use Rattle.snippet_lines.specs.Lines.{source_lines, text_at}
use Rattle.snippet_lines.specs.Place.{end_location}
use Rattle.snippet_parts.specs.Mark.{is_marking, is_single_line, is_marked_on, is_wide, start_column}
use Rattle.snippet_parts.specs.Kept.{kept_lines}
use Rattle.snippet_window.specs.declared.margin.Margin.{Margin}

-- the width of the whitespace that a line begins with, four columns of a tab, one of any other; none of a blank line, which is
-- nothing else
abbrev pub leading_whitespace : List ℕ → Option ℕ
leading_whitespace [] = None
leading_whitespace (c ∷ cs) = if is_whitespace c then option_map (λ columns. (if c == 9 then 4 else 1) + columns) (leading_whitespace cs) else Some 0

-- how many characters, from the first on, reach so many columns: the fewest, or all
abbrev pub reaching : ℕ → List ℕ → ℕ
reaching columns [] = 0
reaching columns (c ∷ cs) = if columns == 0 then 0 else reaching (columns - char_width c) cs + 1

-- how many characters, from the first on, fit in so many columns: the most
abbrev pub fitting : ℕ → List ℕ → ℕ
fitting columns [] = 0
fitting columns (c ∷ cs) = if nat_le (char_width c) columns then fitting (columns - char_width c) cs + 1 else 0

-- the column at which the window of a text begins: the left bound, or the end of a shorter text
abbrev pub window_left : ℕ → List ℕ → ℕ
window_left left text = min left (width_of text)

-- the column at which the window of a text ends, in a room of so many: the right bound, but a text that fits after its beginning isn't cut
-- at the right
abbrev pub window_right : ℕ → ℕ → ℕ → List ℕ → ℕ
window_right room left right text = if nat_le (width_of text - window_left left text) room then width_of text else min (width_of text) right

-- the characters left of the window
abbrev pub dropped_part : ℕ → List ℕ → List ℕ
dropped_part left text = take (reaching (window_left left text) text) text

-- the characters in the window
abbrev pub inner_part : ℕ → ℕ → ℕ → List ℕ → List ℕ
inner_part room left right text =
    let rest = drop (reaching (window_left left text) text) text in
    take (fitting (window_right room left right text - window_left left text) rest) rest

-- where lines are cut on the left, the columns of the first characters in the window that give their place to the placeholder: as many as
-- reach its width
abbrev pub covered_columns : ℕ → List ℕ → List ℕ → Option ℕ
covered_columns left placeholder inner = if left == 0 then None else Some (width_of (take (reaching (width_of placeholder) inner) inner))

-- the characters in the window after those that give their place to the placeholder on the left
abbrev pub uncovered_part : ℕ → List ℕ → List ℕ → List ℕ
uncovered_part left placeholder inner = if left == 0 then inner else drop (reaching (width_of placeholder) inner) inner

-- where the line is cut on the right, the cell from which on the placeholder covers its last characters, as many as reach
-- its width
abbrev pub covered_end : ℕ → ℕ → ℕ → List ℕ → List ℕ → Option ℕ
covered_end room left right placeholder text =
    let inner = inner_part room left right text in
    let at = unwrap_or (covered_columns left placeholder inner) 0 + length (uncovered_part left placeholder inner) in
    if nat_lt (window_right room left right text) (width_of text) then Some (at - reaching (width_of placeholder) (reverse inner)) else None

-- the window of a text between these bounds: what stands in it, with the placeholder over each end that is cut. On the left what comes
-- after the columns that the placeholder covers follows it; where that is nothing, there is the placeholder alone
abbrev pub window : List ℕ → ℕ → ℕ → ℕ → List ℕ → List ℕ
window placeholder room left right text =
    let inner = inner_part room left right text in
    let rest = uncovered_part left placeholder inner in
    let begun = option_map_or (λ columns. if length rest == 0 then placeholder else written 32 placeholder columns rest)
    (covered_columns left placeholder inner) rest in
    option_map_or (λ at. written 32 begun at placeholder) (covered_end room left right placeholder text) begun

-- at most n stretches of a text are replaced by the placeholder, one after the other: none, or one and then others
abbrev pub AreReplaced : List ℕ → ℕ → List ℕ → List ℕ → Type 0
AreReplaced placeholder zero before after = after ≡ before
AreReplaced placeholder (suc n) before after =
    (after ≡ before) ⊎ ((front stretch back : List ℕ) × (before ≡ front ++ stretch ++ back) × AreReplaced placeholder n (front ++ placeholder ++ back) after)

-- `shown` is the window of a text between the bounds of a margin, left of which so many columns are dropped; where the line has wide
-- spans, one stretch for each may then be replaced by the placeholder
pub record IsWindowOf (placeholder : List ℕ) (margin : Margin) (wide : ℕ) (text : List ℕ) (dropped : ℕ) (shown : List ℕ) : Type 0 where
  pub ordered : margin.computed_left ≤ margin.computed_right
  pub dropped_is : dropped ≡ width_of (dropped_part margin.computed_left text)
  pub shown_is : AreReplaced placeholder wide (window placeholder margin.term_width margin.computed_left margin.computed_right text) shown

-- the characters of line k of a source
abbrev pub chars_at : List ℕ → ℕ → List ℕ
chars_at source k = chars (text_at (source_lines source) k)

-- the column of the mark at the end of a span of several lines: it is one column wide, and ends where the span does, which
-- is one column farther right where the span ends after the end of its line's text
abbrev pub end_mark_column : List ℕ → Annotation → ℕ
end_mark_column source a =
    (end_location (record { text = source; first = 0 }) a.span.start a.span.end).display - 1

-- whether a span that is marked starts in a column up to 26, or the mark at its end does: up to there, the six columns before a span and 20
-- of whitespace, nothing is cut from the left
abbrev pub is_near_span : List ℕ → Annotation → Bool
is_near_span source a =
    is_marking a.kind && (nat_le (start_column source a) 26 || (not (is_single_line source a) && nat_le (end_mark_column source a) 26))

-- whether nothing is cut from the left of these lines: all are blank, or one begins after whitespace of at most 26 columns, or a
-- span starts as near, or none is marked
abbrev pub is_near_left : List ℕ → List ℕ → List Annotation → Bool
is_near_left source kept marks =
    list_all (λ k. is_none (leading_whitespace (chars_at source k))) kept
    || list_any (λ k. option_map_or (λ columns. nat_le columns 26) (leading_whitespace (chars_at source k)) false) kept
    || list_any (is_near_span source) marks || list_all (λ a. not (is_marking a.kind)) marks

-- whether line k stands whole, in a room of so many columns: it and all lines that are kept fit the room, nothing is
-- cut from the left, and no span on the line is wide
abbrev pub stands_whole : ℕ → ℕ → Bool → List ℕ → List Annotation → ℕ → Bool
stands_whole room placeholder_width fold source marks k =
    let kept = kept_lines fold source marks in
    nat_le (width_of (chars_at source k)) room && list_all (λ j. nat_le (width_of (chars_at source j)) room) kept && is_near_left source kept marks
    && list_all (λ a. not (is_marked_on source k a && is_wide room placeholder_width source a)) marks
