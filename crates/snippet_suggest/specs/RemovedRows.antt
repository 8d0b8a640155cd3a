-- The rows of lines that are removed, as they are drawn: with the lines that the code has, and the row above them.
use Rattle.std.specs.Prelude.{ℕ, ◌-◌, List, [], length, map, ◌+◌, ◌∷◌, Bool, ◌++◌, chars, take, if◌then◌else◌}
use Rattle.std.specs.List.{slice_index_or}
use Rattle.snippet_parts.specs.declared.source_map.LineInfo.{LineInfo}
use Rattle.snippet_window.specs.Margin.{capped_sum}
use Rattle.snippet_suggest.specs.RowOrder.{SuggestionRow, Removes}
use Rattle.std.specs.Str.{bytes_eq}
use Rattle.snippet_style.specs.declared.role.ElementStyle.TheVariants.{NoStyle, Removal}
use Rattle.snippet_style.specs.Cell.{Cell}
use Rattle.snippet_splice.specs.declared.stretches.SubstitutionHighlight.{SubstitutionHighlight}
use Rattle.snippet_suggest.specs.declared.kind.DisplaySuggestion.TheVariants.{Diff}
use Rattle.snippet_suggest.specs.declared.layout.SuggestionLayout.{SuggestionLayout}
use Rattle.snippet_suggest.specs.Given.{is_left_out}
use Rattle.snippet_suggest.specs.Cells.{with_stretches, offered_cells, removed_cells, on_last, left_out_cells}

-- the texts of some lines, and that of the last of them
abbrev pub texts_at : List LineInfo → List (List ℕ)
texts_at infos = map (λ info. info.line.now) infos

abbrev pub last_removed : List LineInfo → List ℕ
last_removed infos = slice_index_or (texts_at infos) (length infos - 1) []

-- lines that are removed, with the numbers beside them: their own
abbrev pub numbered_at : List LineInfo → List (ℕ × List ℕ)
numbered_at infos = map (λ info. (info.line_index, info.line.now)) infos

-- or counted, from so many after the first number on
abbrev pub counted_from : ℕ → ℕ → List (List ℕ) → List (ℕ × List ℕ)
counted_from first k [] = []
counted_from first k (text ∷ texts) = (capped_sum first k, text) ∷ counted_from first (k + 1) texts

-- the rows of such lines, of which the first is line i of the source
abbrev pub removed_from : ℕ → List (ℕ × List ℕ) → List SuggestionRow
removed_from i [] = []
removed_from i (line ∷ lines) = Removes i line.0 line.1 ∷ removed_from (i + 1) lines

-- the rows of lines that are removed with nothing in their place, all of each in the role of removal; the first stands over a row
-- that is there or has no cells
unfoldable pub emptied_cells : SuggestionLayout → List (ℕ × List ℕ) → List Cell → List (List Cell)
emptied_cells layout [] under = []
emptied_cells layout (line ∷ lines) under =
    removed_cells layout Removal line.0 line.1 under ∷ emptied_cells layout lines []

-- the rows of lines that are removed above one in their place, so many after the first: in each the stretches that are replaced
-- have the role of removal. The line of number `first` has the first of these stretches
unfoldable pub taken_cells : SuggestionLayout → ℕ → (ℕ → List SubstitutionHighlight) → ℕ → List LineInfo → List (List Cell)
taken_cells layout first replaced k [] = []
taken_cells layout first replaced k (info ∷ infos) =
    with_stretches Removal layout.base.gutter (chars info.line.now) (replaced (info.line_index - first))
    (removed_cells layout NoStyle (capped_sum first k) info.line.now [])
    ∷ taken_cells layout first replaced (k + 1) infos

-- the stretches of the last of some lines that are replaced, where that stays
abbrev pub gone_of : Bool → ℕ → (ℕ → List SubstitutionHighlight) → List LineInfo → List SubstitutionHighlight
gone_of stays first replaced infos =
    if stays then replaced (slice_index_or (map (λ info. info.line_index) infos) (length infos - 1) 0 - first) else []

-- some items, without the last if that stays
abbrev pub unless_stays : {A : Type 0} → Bool → List A → List A
unless_stays stays xs = if stays then take (length xs - 1) xs else xs

-- the rows of a diff from the one that the suggestion begins with on: the lines that are removed, but the last where it is the same
-- as the line in their place, and that line; where it isn't shown, the row above it gets its roles
unfoldable pub diff_cells : SuggestionLayout → ℕ → List LineInfo → (ℕ → List SubstitutionHighlight) → List ℕ → List SubstitutionHighlight → List Cell
    → List (List Cell)
diff_cells layout first infos replaced line added last =
    let stays = bytes_eq line (last_removed infos) in
    let rows = last ∷ taken_cells layout first replaced 0 (unless_stays stays infos) in
    if is_left_out Diff (line ∷ []) (last_removed infos) then on_last
    (left_out_cells layout.base.gutter line (gone_of stays first replaced infos) added) rows else rows ++ offered_cells layout Diff 1 first line added ∷ []
