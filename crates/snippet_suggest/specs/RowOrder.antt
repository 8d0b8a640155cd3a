-- What the rows of a suggestion show, from top to bottom: a value, by short rules from its snippet.
use Rattle.std.specs.Prelude.{ℕ, ◌+◌, ◌-◌, Bool, List, [], ◌∷◌, ◌++◌, length, map, if◌then◌else◌, ◌==◌}
use Rattle.std.specs.Cow.{cow_str_bytes}
use Rattle.snippet_window.specs.Margin.{capped_sum}
use Rattle.snippet_model.specs.declared.snippet.Snippet.{Snippet}
use Rattle.snippet_model.specs.declared.snippet.Patch.{Patch}
use Rattle.snippet_lines.specs.Lines.{source_lines, text_at}
use Rattle.snippet_lines.specs.Place.{line_of}
use Rattle.snippet_splice.specs.ShownText.{first_start}
use Rattle.snippet_suggest.specs.declared.kind.DisplaySuggestion.TheVariants.{Diff}
use Rattle.snippet_suggest.specs.declared.layout.SuggestionStart.{SuggestionStart}
use Rattle.snippet_suggest.specs.declared.shown_lines.SuggestionLine.TheVariants.{Line, Gap}
use Rattle.snippet_suggest.specs.Given.{first_given, given_lines, given_ranges, is_left_out, last_reached, removed_lines, shown_kind, trimmed_of}
use Rattle.snippet_suggest.specs.SuggestedLines.{is_touched, shown_from}

-- what a row of a suggestion shows: what the suggestion begins with; a line that it offers, counted from the first that is given;
-- that lines are left out; line i of the source as removed, with this number beside it and this text; nothing; or what it ends
-- with, before a further element or not
pub data SuggestionRow : Type 0 where
  Begins : (start : SuggestionStart) → SuggestionRow
  Offers : (k : ℕ) → SuggestionRow
  Skips : SuggestionRow
  Removes : (i number : ℕ) (text : List ℕ) → SuggestionRow
  Empty : SuggestionRow
  Ends : (follows : Bool) → SuggestionRow

-- the number beside line i of the source, if that is removed: its own where no line is given. Where one stands in the place of those that
-- are removed, they are counted as it is: the first of them has its number
abbrev pub removed_number : Snippet Patch → ℕ → ℕ
removed_number s i =
    let begin = line_of (source_lines (cow_str_bytes s.source.text)) (first_start (trimmed_of s)) in
    if length (given_lines s) == 0 then s.line_start + i else capped_sum (s.line_start + first_given s) (i - begin)

-- what the rows of a suggestion show, but the last one, which is what it ends with. A line of the source that is removed has a row with
-- the number beside it and its text. Where no line is given, these are all, in a diff below the row that the suggestion begins with. Where
-- lines are given, below that row stand in a diff the lines that are removed, and then the line in their place, unless that is left out;
-- or, where no patch touches that, one empty row; and else those of the lines that are shown
abbrev pub rows_of_suggestion : SuggestionStart → Snippet Patch → List SuggestionRow
rows_of_suggestion start s =
    let touched = is_touched s.fold (given_ranges s) in
    let removed = map (λ i. Removes i (removed_number s i) (text_at (source_lines (cow_str_bytes s.source.text)) i)) (removed_lines s) in
    let left_out = is_left_out (shown_kind s) (given_lines s) (last_reached s) in
    let changed = if touched 0 then removed ++ (if left_out then [] else Offers 0 ∷ []) else Empty ∷ [] in
    let shown = map (λ line. elim line [ Line k ↦ Offers k | Gap ↦ Skips ]) (shown_from touched 0 0 (length (given_lines s))) in
    elim (given_lines s) [
      | [] ↦ elim (shown_kind s) [ Diff ↦ Begins start ∷ removed | kind ↦ removed ]
      | line ∷ lines ↦ elim (shown_kind s) [ Diff ↦ Begins start ∷ changed | kind ↦ Begins start ∷ shown ]
    ]
