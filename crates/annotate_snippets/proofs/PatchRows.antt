-- What a suggestion's rows stand below, and the element that they are.
use Rattle.std.proofs.lemmas.Grind.{common_steps}
use Rattle.std.proofs.Common.{arith, append_assoc}
use Rattle.annotate_snippets.proofs.Common.{◌≡◌, ℕ, not, Bool, true, false, if◌then◌else◌, Option, None, Some, List, [], ◌∷◌, ◌++◌, length, refl, sym, ap, ◌∙◌}
use Rattle.annotate_snippets.proofs.Common.{AllocError, flat_map, is_some, option_to_list, append-nil, on_ok_weaker, row_at, Cell, LineNumbers, Suggestion}
use Rattle.annotate_snippets.proofs.Common.{Patch, Snippet, SuggestionLayout, SuggestionStart, Opening, Path, Ends, body_cells, rows_shared, suggestion_cells}
use Rattle.annotate_snippets.proofs.Common.{is_end, suggestion_layout, line_numbers, path_row, suggestion_head, HasPathFor, begins_in_row_above}
use Rattle.annotate_snippets.proofs.Common.{is_next_start, shared_row, drawn_rows, path_head, Renderer, Layout, ElementContext, separator_row}
use Rattle.std.specs.Prelude.{OnOk}
use Rattle.std.specs.declared.result.Result.{Result}
use Rattle.snippet_suggest.specs.declared.SuggestionStart.TheVariants.{Next}
use Rattle.snippet_suggest.specs.Suggested.{suggested_cells as row_cells}
use Rattle.annotate_snippets.proofs.PageWords.{suggestion_head_at, under_of}
use Rattle.annotate_snippets.proofs.SuggestionShown.{patch_cells}

-- the row of a path with the separator row below it
path_head_is : (r : Renderer) (layout : Layout) (first : Bool) (s : Snippet Patch) (path : Option (List ℕ)) → is_some path ≡ true
    → flat_map (λ path. path_row r layout first s (Some path) ++ (separator_row layout.decor layout.gutter ∷ [])) (option_to_list path)
    ≡ path_row r layout first s path ++ (separator_row layout.decor layout.gutter ∷ [])
path_head_is r layout first s None some = absurd (cc)
path_head_is r layout first s (Some path) some = refl

-- what stands below some rows where a suggestion begins: the row in which it begins, if it shares that
pub record Begun (r : Renderer) (layout : Layout) (at : SuggestionStart) (found : List Cell) (rows mid : List (List Cell)) : Type 0 where
  pub end : List (List Cell)
  pub is : mid ≡ rows ++ end
  pub count : length end ≡ rows_shared at
  pub under : row_at end 0 ≡ under_of r layout at found

-- so stand its head, and that row
begun_below : (r : Renderer) (layout : Layout) (at : SuggestionStart) (first : Bool) (s : Snippet Patch) (found : List Cell)
    (above old mid : List (List Cell)) → old ≡ above ++ shared_row (is_next_start at) found → HasPathFor at s
    → (at ≡ Path → mid ≡ old ++ path_head r layout first s) → ((at ≡ Path → ⊥) → mid ≡ old)
    → Begun r layout at found (above ++ suggestion_head_at at r layout first s) mid
begun_below r layout Opening first s found above old mid is path headed same = grind (arith, common_steps, append-nil)
begun_below r layout Next first s found above old mid is path headed same = grind (arith, common_steps, append-nil)
begun_below r layout Path first s found above old mid is path headed same = grind (arith, common_steps, path_head_is, append-nil, append_assoc)

-- whether an element follows
abbrev pub follows : ElementContext → Bool
follows around = not (is_end around.next)

-- the rows of a suggestion are all but the last, and that one
whole : (suggested : SuggestionLayout) (at : SuggestionStart) (next : Bool) (s : Snippet Patch) (under : List Cell)
    → suggestion_cells suggested at next s under ≡ body_cells suggested at s under ++ row_cells suggested s [] (Ends next) ∷ []
unfolding suggestion_cells
whole suggested at next s under = refl

-- rows and a last one, which is shared or not
last_shared : (shares : Bool) (head body : List (List Cell)) (last : List Cell)
    → head ++ (body ++ last ∷ []) ≡ (head ++ (body ++ (if shares then [] else last ∷ []))) ++ shared_row shares last
last_shared true head body last = sym (append_assoc head body (last ∷ [])) ∙ ap (λ rows. (head ++ rows) ++ last ∷ []) (sym (append-nil body))
last_shared false head body last = sym (append-nil (head ++ (body ++ last ∷ [])))

-- the rows of a suggestion below those that it begins with are the element's: its last row is its own, or the next one begins in it
suggestion_added : (r : Renderer) (layout : Layout) (around : ElementContext) (s : Snippet Patch) (found : List Cell) (above new : List (List Cell))
    → new ≡ (above ++ suggestion_head r layout around s)
    ++ suggestion_cells (suggestion_layout r layout s) around.start (follows around) s (under_of r layout around.start found)
    → new ≡ above ++ drawn_rows r layout around found (Suggestion s)
suggestion_added r layout around s found above new drawn = grind (arith, append_assoc, whole, last_shared, patch_cells, around.start, around.shared)

-- the suggested, where this stands in the gutter
abbrev pub layout_with : Renderer → Layout → LineNumbers → SuggestionLayout
layout_with r layout numbers = record { base = layout; numbers = numbers }

-- the rows that drawing a suggestion adds in a suggested, if it succeeds
abbrev pub DrawsCells : Snippet Patch → SuggestionStart → Bool → List (List Cell) → List (List Cell) → Result (Unit {0}) AllocError → SuggestionLayout → Type 0
DrawsCells s at next mid new result suggested =
    (above tail : List (List Cell)) → mid ≡ above ++ tail → length tail ≡ rows_shared at
    → OnOk result (new ≡ above ++ suggestion_cells suggested at next s (row_at tail 0))

-- the rows of a suggestion stand below what is there
pub patches_added : (r : Renderer) (layout : Layout) (around : ElementContext) (s : Snippet Patch) (found : List Cell) (above old mid new : List (List Cell))
    (numbers : LineNumbers) (next : Bool) (result : Result (Unit {0}) AllocError) → numbers ≡ line_numbers r s.line_numbering → next ≡ follows around
    → old ≡ above ++ shared_row (begins_in_row_above around) found
    → HasPathFor around.start s → (around.start ≡ Path → mid ≡ old ++ path_head r layout around.first s) → ((around.start ≡ Path → ⊥) → mid ≡ old)
    → DrawsCells s around.start next mid new result (layout_with r layout numbers)
    → OnOk result (new ≡ above ++ drawn_rows r layout around found (Suggestion s))
patches_added r layout around s found above old mid new numbers next result numbers_are next_is is path headed same draws =
    let begun = begun_below r layout around.start around.first s found above old mid is path headed same in
    let Draws : Bool → SuggestionLayout → Type 0 = λ b suggested. DrawsCells s around.start b mid new result suggested in
    let drawn : Draws (follows around) (suggestion_layout r layout s) = grind (arith, common_steps, Draws) in
    let below : List (List Cell) = above ++ suggestion_head r layout around s in
    on_ok_weaker result (λ cells. suggestion_added r layout around s found above new
    (cells ∙ ap (λ under. below ++ suggestion_cells (suggestion_layout r layout s) around.start (follows around) s under) begun.under))
    (drawn below begun.end begun.is begun.count)
