-- What the rows, the removed lines and the counted number of a suggestion are, by the lines that are given and how these are shown.
use Rattle.snippet_suggest.proofs.Common.{ℕ, List, [], ◌∷◌, DisplaySuggestion, Underline, Diff, SuggestionLine, Line, Gap, Offers, Skips, SuggestionRow}

-- the number that is counted where lines are folded
abbrev pub counted_folded : DisplaySuggestion → ℕ → ℕ → ℕ → ℕ
counted_folded shown first removed last = elim shown [ Underline ↦ first | Diff ↦ removed | kind ↦ last ]

-- the lines that are removed
abbrev pub removed_of : List (List ℕ) → DisplaySuggestion → List ℕ → List ℕ → List ℕ
removed_of given shown emptied replaced =
    elim given [
      | [] ↦ emptied
      | line ∷ lines ↦ elim shown [ Diff ↦ replaced | kind ↦ [] ]
    ]

-- the row of a line that is shown, and one between two lines in place of those that are left out
abbrev pub row_of_shown : SuggestionLine → SuggestionRow
row_of_shown shown = elim shown [ Line k ↦ Offers k | Gap ↦ Skips ]

-- the rows that stand there
abbrev pub rows_where : List (List ℕ) → DisplaySuggestion → SuggestionRow → List SuggestionRow → List SuggestionRow → List SuggestionRow → List SuggestionRow
rows_where given kind_shown begin removed changed shown =
    elim given [
      | [] ↦ elim kind_shown [ Diff ↦ begin ∷ removed | kind ↦ removed ]
      | line ∷ lines ↦ elim kind_shown [ Diff ↦ begin ∷ changed | kind ↦ begin ∷ shown ]
    ]

-- ---- what takes text away, by whether an edit stands over text
