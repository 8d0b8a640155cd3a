-- What is known of the lines that a diff removes, and of its rows.
use Rattle.snippet_suggest.proofs.Common.{◌≡◌, ℕ, ◌+◌, ◌-◌, ◌^◌, ◌<◌, ◌≤◌, Bool, true, List, [], ◌∷◌, length, map, refl}
use Rattle.snippet_suggest.proofs.Common.{sym, ap, ◌∙◌, arith, cow_str_bytes, range_with_len, bytes_eq, length-map, length-range_with_len, Source}
use Rattle.snippet_suggest.proofs.Common.{source_lines, text_at, line_of, LineInfo, table_entry, touched_entries, end_from, Edit, trimmed_edit_of, first_start}
use Rattle.snippet_suggest.proofs.Common.{Diff, SuggestionStart, PreparedSuggestion, edits_of, first_given, given_lines, given_ranges, is_left_out}
use Rattle.snippet_suggest.proofs.Common.{last_reached, trimmed_of, Begins, SuggestionRow, rows_of_suggestion, last_removed, texts_at, unless_stays}
use Rattle.snippet_suggest.proofs.Common.{counted_from, numbered_at, removed_from, IsPrepared, is_touched}
use Rattle.snippet_suggest.proofs.KnownLemmas.{known_apart, known_reached}
use Rattle.snippet_suggest.proofs.KnownRemoved.{known_replaced, known_replaced_rows, replaced_touched, unless_range}
use Rattle.snippet_suggest.proofs.OrderLaws.{rows_diff, changed_rows}
use Rattle.snippet_suggest.proofs.ReachLemmas.{reached, touched_numbered, touched_some}
use Rattle.snippet_suggest.proofs.SuggestedRows.{AreReplaced, shown_count}

-- what a diff is drawn of
pub record IsDiff (p : PreparedSuggestion) (line : List ℕ) (infos : List LineInfo) (start end first : ℕ) : Type 0 where
  pub prepared : IsPrepared p
  pub diff : p.kind ≡ Diff
  pub one : given_lines p.snippet.now ≡ line ∷ []
  pub touches : true ≡ is_touched p.snippet.now.fold p.splice.ranges.items 0
  pub starts : start ≡ first_start (map trimmed_edit_of p.splice.patches.items)
  pub ends : end ≡ end_from 0 (map trimmed_edit_of p.splice.patches.items)
  pub ordered : start ≤ end
  pub are : map table_entry infos ≡ touched_entries p.map start end
  pub numbered : first ≡ p.snippet.now.line_start + first_given p.snippet.now
  pub small : first < 2 ^ 64

module _ (p : PreparedSuggestion) (line : List ℕ) (infos : List LineInfo) (start end first : ℕ) (is : IsDiff p line infos start end first) where
  abbrev source : List ℕ
  source = cow_str_bytes p.snippet.now.source.text

  abbrev es : List Edit
  es = edits_of p.snippet.now

  -- the first of the lines in the source, and how many there are
  abbrev pub from : ℕ
  from = line_of (source_lines source) (first_start (trimmed_of p.snippet.now))

  abbrev to : ℕ
  to = line_of (source_lines source) (end_from 0 (trimmed_of p.snippet.now))

  abbrev pub count : ℕ
  count = to + 1 - from

  abbrev pub text : ℕ → List ℕ
  text = text_at (source_lines source)

  last : last_removed infos ≡ last_reached p.snippet.now
  last = known_reached p is.prepared infos start end is.ordered is.ends is.are

  numbers : numbered_at infos ≡ map {B = ℕ × List ℕ} (λ j. (p.snippet.now.line_start + j, text j)) (range_with_len from count)
  numbers =
      let Lines : Source → ℕ → ℕ → List (ℕ × List ℕ) = λ s i j. map {B = ℕ × List ℕ} (λ k.
      (s.first + k, text_at (source_lines s.text) k)) (range_with_len (line_of (source_lines s.text) i)
      (line_of (source_lines s.text) j + 1 - line_of (source_lines s.text) i)) in
      let s : Source = record { text = source; first = p.snippet.now.line_start } in
      touched_numbered p.map infos start end is.are ∙ ap (λ m. Lines m start end) is.prepared.lines
      ∙ ap (λ n. Lines s n end) (is.starts ∙ ap first_start is.prepared.edits)
      ∙ ap (Lines s (first_start (trimmed_of p.snippet.now))) (is.ends ∙ ap (end_from 0) is.prepared.edits)

  -- the lines that a diff removes stand one after another in the source
  pub known_diff : AreReplaced p.snippet.now line text from count infos
  known_diff =
      let some : 0 < length infos = touched_some p.map infos start end is.ordered is.are in
      let long : length infos ≡ count = sym (length-map infos (λ (info : LineInfo). (info.line_index, info.line.now))) ∙ ap length numbers
      ∙ length-map (range_with_len from count) _ ∙ length-range_with_len from count in
      let there : to ≡ from + (count - 1) = omega (arith, some, long) in
      record {
        one = is.one;
        diff = sym is.prepared.kind ∙ is.diff;
        touched = ap (λ rs. is_touched p.snippet.now.fold rs 0) (sym is.prepared.ranges) ∙ sym is.touches;
        small = omega (arith, is.small, is.numbered);
        are = numbers;
        some = omega (arith, some, long);
        last = last;
        reached = sym there ∙ sym (reached source es (known_apart p is.prepared));
      }

  -- the rows of a diff are its beginning, the removed lines and the line that is given
  pub known_diff_rows : (at : SuggestionStart) → let s = p.snippet.now in
      rows_of_suggestion at s ≡ Begins at ∷ changed_rows true (is_left_out Diff (line ∷ []) (last_reached s))
      (removed_from from (counted_from (s.line_start + first_given s) 0 (map text (range_with_len from (shown_count s line count)))))
  known_diff_rows at =
      let s = p.snippet.now in
      let left : Bool = is_left_out Diff (line ∷ []) (last_reached s) in
      let Removed : List (List ℕ) → ℕ → List SuggestionRow = λ ts n. removed_from from (counted_from n 0 ts) in
      let texts : unless_stays (bytes_eq line (last_removed infos)) (texts_at infos) ≡ map text (range_with_len from (shown_count s line count)) =
      known_replaced p is.prepared line infos start end is.one is.touches is.starts is.ends is.are last
      ∙ ap (map text) (replaced_touched p is.prepared line is.one is.touches ∙ unless_range (bytes_eq line (last_reached s)) from count) in
      let removed = known_replaced_rows p is.prepared line infos start end first is.diff is.one is.touches is.starts is.ends is.are last is.numbered in
      let touched : is_touched s.fold (given_ranges s) 0 ≡ true = ap (λ rs. is_touched s.fold rs 0) (sym is.prepared.ranges) ∙ sym is.touches in
      rows_diff at s line [] true left is.one (sym is.prepared.kind ∙ is.diff) touched refl
      ∙ ap (λ rs. Begins at ∷ changed_rows true left rs) (sym removed ∙ ap (λ ts. Removed ts first) texts
      ∙ ap (Removed (map text (range_with_len from (shown_count s line count)))) is.numbered)
