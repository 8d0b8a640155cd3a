-- Which lines a suggestion offers and which it removes, by their numbers.
use Rattle.std.specs.Prelude.{ℕ, ◌+◌, ◌≤◌, List, [], ◌∷◌, Option, Some, None, ◌≡◌, Bool, length, map, if◌then◌else◌}
use Rattle.std.specs.List.{filter_map}
use Rattle.snippet_suggest.specs.declared.shown_lines.SuggestionLine.{SuggestionLine}
use Rattle.snippet_suggest.specs.declared.shown_lines.SuggestionLine.TheVariants.{Line, Gap}
use Rattle.std.specs.Cow.{cow_str_bytes}
use Rattle.snippet_model.specs.declared.snippet.Snippet.{Snippet}
use Rattle.snippet_model.specs.declared.snippet.Patch.{Patch}
use Rattle.snippet_lines.specs.Lines.{lines_of, source_lines, text_at}
use Rattle.snippet_splice.specs.declared.splice.LineRange.{LineRange}
use Rattle.snippet_splice.specs.Patched.{spliced_text, texts_of}
use Rattle.snippet_suggest.specs.declared.kind.DisplaySuggestion.{DisplaySuggestion}
use Rattle.snippet_suggest.specs.SuggestedLines.{is_touched, shown_from}
use Rattle.snippet_suggest.specs.Given.{edits_of, given_lines, first_given, given_ranges, shown_kind, last_reached, is_left_out}
use Rattle.snippet_suggest.specs.RowOrder.{SuggestionRow, Offers, Removes}

-- the number of a line that is shown
abbrev pub number_of : SuggestionLine → Option ℕ
number_of (Line k) = Some k
number_of Gap = None

-- the numbers of some lines that are shown
abbrev pub numbers_shown : List SuggestionLine → List ℕ
numbers_shown shown = filter_map number_of shown

-- numbers ascend, from one on and to before another
abbrev pub AreRising : ℕ → ℕ → List ℕ → Type 0
AreRising from to [] = from ≤ to
AreRising from to (k ∷ ks) = (from ≤ k) × AreRising (k + 1) to ks

-- which of some lines are shown, counted from the first of them
abbrev pub numbers_of : DisplaySuggestion → Bool → List LineRange → List (List ℕ) → List ℕ → List ℕ
numbers_of kind folds ranges lines last =
    if is_left_out kind lines last then [] else numbers_shown (shown_from (is_touched folds ranges) 0 0 (length lines))

-- which of its lines a suggestion shows: unfolded all; folded those that patches touch, and of the lines between two of
-- these all, or of more than three the first and the last; but not one that is left out
abbrev pub numbers_given : Snippet Patch → List ℕ
numbers_given s = numbers_of (shown_kind s) s.fold (given_ranges s) (given_lines s) (last_reached s)

-- which lines of the patched source it offers
abbrev pub offered_lines : Snippet Patch → List ℕ
offered_lines s = map (λ k. first_given s + k) (numbers_given s)

-- the texts of some lines of the source
abbrev pub texts_of_source : Snippet Patch → List ℕ → List (List ℕ)
texts_of_source s ks = map (text_at (source_lines (cow_str_bytes s.source.text))) ks

-- the spliced text has one line, and that is the last source line that is reached
abbrev pub IsAsItWas : Snippet Patch → Type 0
IsAsItWas s =
    texts_of (lines_of (spliced_text s.fold (cow_str_bytes s.source.text) (edits_of s))) ≡ last_reached s ∷ []

-- the line that a row of a suggestion offers, and the line of the source that it shows as removed
abbrev pub number_offered : SuggestionRow → Option ℕ
number_offered (Offers k) = Some k
number_offered row = None

abbrev pub line_taken : SuggestionRow → Option ℕ
line_taken (Removes i number text) = Some i
line_taken row = None

-- those of some rows
abbrev pub numbers_offered : List SuggestionRow → List ℕ
numbers_offered shown = filter_map number_offered shown

-- the lines of the source that some rows show as removed
abbrev pub lines_taken : List SuggestionRow → List ℕ
lines_taken shown = filter_map line_taken shown
