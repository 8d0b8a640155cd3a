-- What the rows of a suggestion's lines show, by their value.
use Rattle.std.proofs.lemmas.Grind.{common_steps}
use Rattle.annotate_snippets.proofs.Common.{◌≡◌, ◌≢◌, ℕ, zero, suc, ◌+◌, ◌-◌, ◌≤◌, nat_eq, ◌&&◌, not, Bool, true, false, if◌then◌else◌, Some, List, [], ◌∷◌}
use Rattle.annotate_snippets.proofs.Common.{drop, length, refl, sym, ap, arith, subst, decimal, AllZip, list_all, list_any, slice_get, and_parts, nat_tests}
use Rattle.annotate_snippets.proofs.Common.{Element, Cause, Message, Origin, Padding, Suggestion, Patch, Snippet, DecorStyle, Ascii, Unicode, LineNumber, Cell}
use Rattle.annotate_snippets.proofs.Common.{separator_of, separator_row, Layout, is_listed, number_width, Shown, Anonymized, Hidden, SuggestionStart, Opening}
use Rattle.annotate_snippets.proofs.Common.{Path, counted_line, first_given, given_lines, IsSuggestible, Ends, SuggestionRow, rows_of_suggestion, body_cells}
use Rattle.annotate_snippets.proofs.Common.{begin_glyph, beside_gutter, end_glyph, is_stroke, HasGutter, IsEdgeRow, IsUnder, Shows, stroke_led, body_shows}
use Rattle.annotate_snippets.proofs.Common.{last_shows, zip_append, first_two_share, is_end, share_file, suggestion_rows, last_row, suggestion_layout}
use Rattle.annotate_snippets.proofs.Common.{suggestion_lines, begins_in_row_above, is_next_start, HasRoomFor, Renderer, ElementContext}
use Rattle.snippet_suggest.specs.declared.SuggestionStart.TheVariants.{Next}
use Rattle.snippet_suggest.specs.Suggested.{suggested_cells as row_cells}
use Rattle.annotate_snippets.proofs.PageWords.{found_at, under_of}
use Rattle.annotate_snippets.proofs.AroundLaws.{shares_before}

-- ---- the row that a suggestion finds

-- a row that a suggestion ends with, before a further element or not
abbrev pub IsEnding : Layout → List Cell → Type 0
IsEnding layout row =
    (follows : Bool) × IsEdgeRow layout.decor layout.gutter (beside_gutter layout.gutter (end_glyph layout.decor follows)) row

-- the first of two elements that share a file is a suggestion
sharing : (e d : Element) → share_file e d ≡ true → (s : Snippet Patch) × (e ≡ Suggestion s)
sharing (Message message) d shares = absurd (cc)
sharing (Cause snippet) d shares = absurd (cc)
sharing (Suggestion snippet) d shares = (snippet, refl)
sharing (Origin origin) d shares = absurd (cc)
sharing (Padding padding) d shares = absurd (cc)

shared_suggestion : (es : List Element) (k : ℕ) → first_two_share (drop k es) ≡ true → (s : Snippet Patch) × (slice_get es k ≡ Some (Suggestion s))
shared_suggestion [] zero shares = absurd (cc)
shared_suggestion [] (suc k) shares = absurd (cc)
shared_suggestion (e ∷ []) zero shares = absurd (cc)
shared_suggestion (e ∷ d ∷ es) zero shares = let is = sharing e d shares in (is.0, ap Some is.1)
shared_suggestion (e ∷ es) (suc k) shares = shared_suggestion es k shares

-- where an element begins in the row above it, that is one that a suggestion ends with
pub found_ends : (r : Renderer) (layout : Layout) (es : List Element) (i : ℕ) → shares_before es i ≡ true → IsEnding layout (found_at r layout es i)
found_ends r layout es i shares =
    let before = shared_suggestion es (i - 1) (and_parts (not (nat_eq i 0)) (first_two_share (drop (i - 1) es)) shares).1 in
    subst (λ x. IsEnding layout (last_row r layout true x)) (sym before.1) (true, last_shows (suggestion_layout r layout before.0) before.0 true)

-- the separator row shows no line
separator_stroke : (decor : DecorStyle) (gutter : ℕ) → IsEdgeRow decor gutter (beside_gutter gutter (begin_glyph decor Path)) (separator_row decor gutter)
separator_stroke decor gutter = stroke_led decor gutter (gutter + 1) LineNumber (separator_of decor ∷ []) (omega arith) (strokes decor) (unlisted decor)
  where
    strokes : (decor : DecorStyle) → list_all (is_stroke decor) (separator_of decor ∷ []) ≡ true
    strokes Ascii = refl
    strokes Unicode = refl

    unlisted : (decor : DecorStyle) → list_any is_listed (separator_of decor ∷ []) ≡ false
    unlisted Ascii = refl
    unlisted Unicode = refl

-- what a suggestion is drawn over, where it finds such a row if it begins in the row above it
under_is : (r : Renderer) (layout : Layout) (at : SuggestionStart) (found : List Cell) → (is_next_start at ≡ true → IsEnding layout found)
    → IsUnder layout.decor layout.gutter at (under_of r layout at found)
under_is r layout Opening found ends = refl
under_is r layout Next found ends = ends refl
under_is r layout Path found ends = separator_stroke layout.decor layout.gutter

-- ---- the rows

-- a gutter that has room for a suggestion has it for the number that it counts
wide_enough : (numbered anonymized none : Bool) (width gutter : ℕ) (counted : ℕ) → none ≡ false → (anonymized ≡ true → 2 ≤ gutter)
    → (anonymized ≡ false → (if numbered && not none then length (decimal counted) else 0) ≤ gutter)
    → number_width (if numbered then (if anonymized then Anonymized else Shown) else Hidden) counted ≤ gutter
wide_enough false anonymized none width gutter counted some wide room = omega arith
wide_enough true true none width gutter counted some wide room = wide refl
wide_enough true false true width gutter counted some wide room = absurd (cc)
wide_enough true false false width gutter counted some wide room = room refl

none_not : {A : Type 0} (xs : List A) → xs ≢ [] → nat_eq (length xs) 0 ≡ false
none_not [] some = absurd (some refl)
none_not (x ∷ xs) some = grind (arith, nat_tests)

gutter_room : (r : Renderer) (layout : Layout) (s : Snippet Patch) → s.markers.items ≢ [] → HasRoomFor r layout (Suggestion s)
    → HasGutter (suggestion_layout r layout s) s
gutter_room r layout s some room =
    wide_enough s.line_numbering r.anonymized_snippet_line_numbers (nat_eq (length s.markers.items) 0) 0 layout.gutter (counted_line s)
    (none_not s.markers.items some) room.anonymized room.numbers

module _ (r : Renderer) (layout : Layout) (around : ElementContext) (found : List Cell) (s : Snippet Patch) where
  -- what holds of a suggestion's rows and of its last one holds of those of its lines
  pub lines_each : (P : SuggestionRow → List Cell → Type 0)
      → AllZip P (rows_of_suggestion around.start s) (body_cells (suggestion_layout r layout s) around.start s (under_of r layout around.start found))
      → P (Ends (not (is_end around.next))) (row_cells (suggestion_layout r layout s) s [] (Ends (not (is_end around.next))))
      → AllZip P (suggestion_rows around s) (suggestion_lines r layout around found s)
  lines_each P body last = grind (arith, common_steps, zip_append, under_of, ends)
    where
      ends : (shared : Bool) → AllZip P (if shared then [] else Ends (not (is_end around.next)) ∷ [])
          (if shared then [] else row_cells (suggestion_layout r layout s) s [] (Ends (not (is_end around.next))) ∷ [])
      ends true = tt
      ends false = (last, tt)

  -- each of them shows what the suggestion has there
  pub lines_show : IsSuggestible s → s.markers.items ≢ [] → HasRoomFor r layout (Suggestion s)
      → (begins_in_row_above around ≡ true → IsEnding layout found)
      → AllZip (Shows (suggestion_layout r layout s) (s.line_start + first_given s) (given_lines s)) (suggestion_rows around s)
      (suggestion_lines r layout around found s)
  lines_show suggestible some room ends =
      let suggested = suggestion_layout r layout s in
      lines_each (Shows suggested (s.line_start + first_given s) (given_lines s))
      (body_shows suggested s around.start (under_of r layout around.start found) suggestible (gutter_room r layout s some room)
      (under_is r layout around.start found ends)) (last_shows suggested s (not (is_end around.next)))
