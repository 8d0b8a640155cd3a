-- The rows of a suggestion show it.
use Rattle.std.proofs.Common.{arith}
use Rattle.annotate_snippets.proofs.Common.{◌≡◌, ◌≢◌, ◌∙◌, ℕ, ◌+◌, Bool, true, false, not, if◌then◌else◌, Option, None, Some}
use Rattle.annotate_snippets.proofs.Common.{List, [], ◌∷◌, ◌++◌, map, length, refl, sym, ap, subst, inl, inr, cow_str_bytes, AllZip, Contains}
use Rattle.annotate_snippets.proofs.Common.{append-nil, All-append, All-cons, All-nil, filter_map-append, Suggestion, Patch, Snippet, Cell, IsFree}
use Rattle.annotate_snippets.proofs.Common.{All-unmapped, lines_of, spliced_text, texts_of, AreDisjoint, IsOfferable, edits_of, first_given, given_lines}
use Rattle.annotate_snippets.proofs.Common.{last_reached, removed_lines, Ends, SuggestionRow, rows_of_suggestion, IsSuggestible, body_signs, HasSign, Shows}
use Rattle.annotate_snippets.proofs.Common.{IsAsItWas, numbers_given, offered_lines, line_taken, lines_taken, number_offered, numbers_offered, AreRising}
use Rattle.annotate_snippets.proofs.Common.{SuggestionStart, HaveSpans, given-part, offered-ascends, rows-offer, rows-own, rows-take, touched-offered}
use Rattle.annotate_snippets.proofs.Common.{primary_start, origin_row-free, is_end, path_bytes, suggestion_rows, suggestion_layout, suggestion_lines}
use Rattle.annotate_snippets.proofs.Common.{begins_in_row_above, HasRoomFor, element_rows, name_of_row, NamedRow, cells_of, lines_offered, others}
use Rattle.annotate_snippets.proofs.Common.{origin_layout, path_row, suggestion_head, HasStrokes, ShowsSuggestion, HasNoFeed, Renderer, Layout, ElementContext}
use Rattle.std.specs.List.{All}
use Rattle.snippet_suggest.specs.declared.SuggestionStart.TheVariants as start
use Rattle.snippet_suggest.proofs.OrderLaws.{IsRowOf}
use Rattle.annotate_snippets.proofs.PageWords.{under_of, patch_place, suggestion_head_at}
use Rattle.annotate_snippets.proofs.AreTexts.{IsTextSuggestion}
use Rattle.annotate_snippets.proofs.Ascending.{IsAscending, ascends}
use Rattle.annotate_snippets.proofs.ElementShown.{ElementShown}
use Rattle.annotate_snippets.proofs.NamedRows.{cells_of-append, cells_of-others}
use Rattle.annotate_snippets.proofs.SuggestFeedLaws.{suggestion_one_line}
use Rattle.annotate_snippets.proofs.SuggestionLines.{IsEnding, lines_each, lines_show}
use Rattle.annotate_snippets.proofs.SuggestionLemmas.{cells_of-named, lines_free, lines_offered-order, lines_removed, lines_removed-order, names_of-named}
use Rattle.annotate_snippets.proofs.SuggestionLemmas.{named_rows, rising_ascends, rows_named, strokes_shown}

-- the row of its path holds no listed character and no link
path_row-free : (r : Renderer) (layout : Layout) (first : Bool) (s : Snippet Patch) (path : Option (List ℕ)) → All IsFree (path_row r layout first s path)
path_row-free r layout first s None = All-nil IsFree
path_row-free r layout first s (Some path) =
    All-cons IsFree _ [] (origin_row-free (origin_layout r layout) (primary_start first) path (patch_place s)) (All-nil IsFree)

suggestion_head-free : (r : Renderer) (layout : Layout) (begins : SuggestionStart) (first : Bool) (s : Snippet Patch)
    → All IsFree (suggestion_head_at begins r layout first s)
suggestion_head-free r layout start.Opening first s = All-nil IsFree
suggestion_head-free r layout start.Next first s = All-nil IsFree
suggestion_head-free r layout start.Path first s = path_row-free r layout first s (path_bytes s.path)

-- the rows that a suggestion has offer just the lines that it offers, show as removed those that it removes, and are its own
module _ (around : ElementContext) (s : Snippet Patch) where
  abbrev rows : List SuggestionRow
  rows = rows_of_suggestion around.start s

  abbrev ends : Bool → List SuggestionRow
  ends shared = if shared then [] else Ends (not (is_end around.next)) ∷ []

  ends_offer : (shared : Bool) → numbers_offered (ends shared) ≡ []
  ends_offer true = refl
  ends_offer false = refl

  ends_take : (shared : Bool) → lines_taken (ends shared) ≡ []
  ends_take true = refl
  ends_take false = refl

  ends_own : (shared : Bool) → All (IsRowOf s) (ends shared)
  ends_own true = All-nil (IsRowOf s)
  ends_own false = All-cons (IsRowOf s) (Ends (not (is_end around.next))) [] tt (All-nil (IsRowOf s))

  all_offer : numbers_offered (suggestion_rows around s) ≡ numbers_given s
  all_offer =
      cc (filter_map-append number_offered rows (ends around.shared), ends_offer around.shared, append-nil (numbers_offered rows), rows-offer around.start s)

  all_take : lines_taken (suggestion_rows around s) ≡ removed_lines s
  all_take = cc (filter_map-append line_taken rows (ends around.shared), ends_take around.shared, append-nil (lines_taken rows), rows-take around.start s)

  -- so rows with their names, in their order, offer just the lines that the suggestion offers, and show as removed those that it takes away
  pub offered_in_order : (after : List NamedRow) → map (λ row. row.name) after ≡ map (name_of_row s) (suggestion_rows around s)
      → lines_offered after ≡ offered_lines s
  offered_in_order after order = lines_offered-order s (suggestion_rows around s) after order ∙ ap (map (λ k. first_given s + k)) all_offer

  pub removed_in_order : (after : List NamedRow) → map (λ row. row.name) after ≡ map (name_of_row s) (suggestion_rows around s)
      → lines_removed after ≡ removed_lines s
  removed_in_order after order = lines_removed-order s (suggestion_rows around s) after order ∙ all_take

  all_own : All (IsRowOf s) (suggestion_rows around s)
  all_own = All-append (IsRowOf s) rows (ends around.shared) (rows-own around.start s) (ends_own around.shared)

-- the lines that are given are those of the spliced text, so either is as it was where the other is
same_lines_given : (s : Snippet Patch) → HaveSpans s → AreDisjoint (edits_of s) → s.markers.items ≢ [] → IsOfferable s
    → texts_of (lines_of (spliced_text s.fold (cow_str_bytes s.source.text) (edits_of s))) ≡ given_lines s
same_lines_given s spans disjoint some offerable =
    let part = given-part s spans disjoint some offerable in ap (λ text. texts_of (lines_of text)) (part.spliced ∙ sym part.text)

pub given_as_it_was : (s : Snippet Patch) → HaveSpans s → AreDisjoint (edits_of s) → s.markers.items ≢ [] → IsOfferable s → IsAsItWas s
    → given_lines s ≡ last_reached s ∷ []
given_as_it_was s spans disjoint some offerable as_it_was = sym (same_lines_given s spans disjoint some offerable) ∙ as_it_was

pub spliced_as_it_was : (s : Snippet Patch) → HaveSpans s → AreDisjoint (edits_of s) → s.markers.items ≢ [] → IsOfferable s
    → given_lines s ≡ last_reached s ∷ [] → IsAsItWas s
spliced_as_it_was s spans disjoint some offerable same = same_lines_given s spans disjoint some offerable ∙ same

-- each row of its lines has the sign that it asks for
lines_signed : (r : Renderer) (layout : Layout) (around : ElementContext) (found : List Cell) (s : Snippet Patch)
    → AllZip (HasSign (suggestion_layout r layout s) s) (suggestion_rows around s) (suggestion_lines r layout around found s)
lines_signed r layout around found s =
    lines_each r layout around found s _ (body_signs (suggestion_layout r layout s) around.start s (under_of r layout around.start found)) tt

-- the cells of a suggestion's rows are those of its head and of its lines
pub patch_cells : (r : Renderer) (layout : Layout) (around : ElementContext) (found : List Cell) (s : Snippet Patch)
    → cells_of (element_rows r layout around found (Suggestion s)) ≡ suggestion_head r layout around s ++ suggestion_lines r layout around found s
patch_cells r layout around found s = grind (arith, cells_of-append, cells_of-others, cells_of-named, lines_signed)

-- the rows of a suggestion show it: after the row of its path those of its lines
pub suggestion_shown : (r : Renderer) (layout : Layout) (around : ElementContext) (found : List Cell) (s : Snippet Patch) → IsSuggestible s
    → s.markers.items ≢ [] → HasRoomFor r layout (Suggestion s) → (begins_in_row_above around ≡ true → IsEnding layout found) → IsTextSuggestion s
    → ElementShown r layout around found (Suggestion s)
suggestion_shown r layout around found s suggestible some room ends texts =
    let IsShown : SuggestionRow → List Cell → Type 0 = Shows (suggestion_layout r layout s) (s.line_start + first_given s) (given_lines s) in
    let shown : List SuggestionRow = suggestion_rows around s in
    let head : List (List Cell) = suggestion_head r layout around s in
    let lines_are : List (List Cell) = suggestion_lines r layout around found s in
    let are : AllZip IsShown shown lines_are = lines_show r layout around found s suggestible some room ends in
    let after : List NamedRow = named_rows s shown lines_are in
    let same : map (λ k. first_given s + k) (numbers_offered shown) ≡ offered_lines s = ap (map (λ k. first_given s + k)) (all_offer around s) in
    let lines : lines_offered after ≡ offered_lines s = offered_in_order around s after (names_of-named IsShown s shown lines_are are) in
    let end : ℕ = first_given s + length (given_lines s) in
    let cells : cells_of (others head ++ after) ≡ head ++ lines_are = patch_cells r layout around found s in
    let free : All IsFree (head ++ lines_are) = All-append IsFree head lines_are (suggestion_head-free r layout around.start around.first s)
    (lines_free r layout s shown lines_are are) in
    let shows : ShowsSuggestion r layout around found s (others head ++ after) = record {
      after = after;
      rows_are = refl;
      offered = λ offerable j touched visible. elim (touched-offered s suggestible.spans suggestible.disjoint offerable j touched visible) [
        | inl as_it_was ↦ inl (given_as_it_was s suggestible.spans suggestible.disjoint some offerable as_it_was)
        | inr among ↦ inr (subst (λ js. Contains js j) (sym lines) among)
      ];
      ordered = ascends (lines_offered after) (subst IsAscending (sym lines) (rising_ascends (first_given s) end (offered_lines s) (offered-ascends s)));
      order = names_of-named IsShown s shown lines_are are;
      cells = cells_of-named IsShown s shown lines_are are;
      strokes = subst (AllZip (HasStrokes layout.decor layout.gutter) shown) (sym (cells_of-named IsShown s shown lines_are are))
          (strokes_shown r layout s shown lines_are are);
      named = rows_named r layout s suggestible some (first_given s) shown lines_are (subst (AreRising (first_given s) end) (sym same) (offered-ascends s))
          (all_own around s) are (lines_signed r layout around found s);
    } in
    record {
      shows = shows;
      free = All-unmapped IsFree (λ (row : NamedRow). row.cells) (others head ++ after) (subst (All IsFree) (sym cells) free);
      one_line = λ plain. subst (All HasNoFeed) (sym cells) (suggestion_one_line r layout around found s texts are (all_own around s) plain);
    }
