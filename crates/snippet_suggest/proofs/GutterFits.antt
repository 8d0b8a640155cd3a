-- Why the gutter that has room for the number that a suggestion counts has room for the number of each line that it gives.
use Rattle.snippet_suggest.proofs.Common.{◌≡◌, ℕ, ◌+◌, ◌<◌, ◌≤◌, ◌^◌, ◌&&◌, Bool, true, if◌then◌else◌, List, [], ◌∷◌, common_steps}
use Rattle.snippet_suggest.proofs.Common.{All, length, map, arith, cow_str_bytes, cond-true, cond_both, length-map, All-map, Snippet, Patch}
use Rattle.snippet_suggest.proofs.Common.{lines_of, source_lines, newline_count, number_width, shown_number, LineNumbers, line_of, IsSpan, length-source_lines}
use Rattle.snippet_suggest.proofs.Common.{length-shown_number, number_width_monotone, line_of-mono, line_of-within, Edit, edit_of, in_order, trimmed_edit}
use Rattle.snippet_suggest.proofs.Common.{first_start, trimmed_edit-shrunk, DisplaySuggestion, Underline, Diff, Plain, Add, SuggestionLayout, Line}
use Rattle.snippet_suggest.proofs.Common.{counted_line, edits_of, first_end, first_given, given_lines, given_text, shown_kind, trimmed_of, kind_of}
use Rattle.snippet_suggest.proofs.Common.{IsSuggestible, HasGutter, NumberFits, capped_sum, rules}
use Rattle.snippet_suggest.proofs.ByKind.{counted_folded}
use Rattle.snippet_suggest.proofs.SpanLemmas.{spans_in_order}

-- the test of the kinds, each question answered. Of a kind that gives one line at most the last one is never counted
abbrev kind_by : Bool → Bool → Bool → Bool → DisplaySuggestion
kind_by few takes replaces adds =
    if few && takes then Diff else if replaces then (if adds then Add else Plain) else if few then Underline else Plain

few_by : (few takes replaces adds : Bool) (kind : DisplaySuggestion) → kind_by few takes replaces adds ≡ kind → counted_folded kind 0 0 1 ≡ 0 → few ≡ true
few_by x y z u v w a = search rules

-- in a diff, and as one line with marks, at most one line is given
pub one_given : (source : List ℕ) (ts : List Edit) (text : List ℕ) → counted_folded (kind_of source ts text) 0 0 1 ≡ 0 → length (lines_of text) ≤ 1
one_given source ts text one = grind (arith, few_by)

-- a text that has lines has one more than newlines are counted in it
lines_counted : (text : List ℕ) → 0 < length (lines_of text) → length (lines_of text) ≡ newline_count text + 1
lines_counted [] some = absurd (omega (arith, some))
lines_counted (b ∷ bs) some = length-source_lines (b ∷ bs)

-- the number of a line is at most the one that is counted, folded
folded_fits : (kind : DisplaySuggestion) (first removed last k : ℕ) → (counted_folded kind 0 0 1 ≡ 0 → k ≡ 0) → first ≤ removed → first + k ≤ last
    → first + k ≤ counted_folded kind first removed last
folded_fits x y z u v w a b = grind (arith)

-- the number that is counted of a folded suggestion fits 64 bits where its lines do
pub folded_small : (kind : DisplaySuggestion) (first removed last : ℕ) → first < 2 ^ 64 → removed < 2 ^ 64 → last < 2 ^ 64
    → counted_folded kind first removed last < 2 ^ 64
folded_small x y z u v w a = search rules

-- trimmed the first edit ends no sooner than it started
first_before : (source : List ℕ) (es : List Edit) → All (λ e. IsSpan source e.start e.end) es → first_start es ≤ first_end (map (trimmed_edit source) es)
first_before x y z = grind (arith, trimmed_edit-shrunk)

-- the number of each line that is given is at most the one that is counted, and that one fits
counted_last : (s : Snippet Patch) → IsSuggestible s → (k : ℕ) → k < length (given_lines s)
    → (s.line_start + first_given s + k ≤ counted_line s) × (counted_line s < 2 ^ 64)
counted_last s can k within =
    let source : List ℕ = cow_str_bytes s.source.text in
    let ls = source_lines source in
    let first : ℕ = s.line_start + first_given s in
    let removed : ℕ = s.line_start + line_of ls (first_end (trimmed_of s)) in
    let last : ℕ = first + newline_count (given_text s) in
    let size : length (given_lines s) ≡ length (lines_of (given_text s)) = length-map (lines_of (given_text s)) (λ l. l.0) in
    let lines : length (lines_of (given_text s)) ≡ newline_count (given_text s) + 1 = lines_counted (given_text s) (omega (arith, within, size)) in
    let spans : All (λ e. IsSpan source e.start e.end) (in_order (edits_of s)) = spans_in_order source (edits_of s)
    (All-map (λ e. IsSpan source e.start e.end) edit_of s.markers.items can.spans) in
    let Holds : ℕ → Type 0 = λ n. (first + k ≤ n) × (n < 2 ^ 64) in
    let low : first + k ≤ last = omega (arith, within, size, lines) in
    let small : last < 2 ^ 64 = omega (arith, can.numbers, size, lines) in
    cond_both s.fold (counted_folded (shown_kind s) first removed last) last Holds
    (λ folds.
    let shown : first_given s ≡ line_of ls (first_start (in_order (edits_of s))) = cond-true s.fold
    (line_of ls (first_start (in_order (edits_of s)))) 0 folds in
    let before : first ≤ removed = omega (
      arith,
      shown,
      line_of-mono ls (first_start (in_order (edits_of s))) (first_end (trimmed_of s))
          (omega (arith, length-source_lines source)) (first_before source (in_order (edits_of s)) spans),
    ) in
    let one : counted_folded (shown_kind s) 0 0 1 ≡ 0 → k ≡ 0 = λ is. omega (arith, one_given source (trimmed_of s) (given_text s) is, within, size) in
    let there : removed < 2 ^ 64 = omega (arith, can.lines, line_of-within source (first_end (trimmed_of s))) in
    (folded_fits (shown_kind s) first removed last k one before low, folded_small (shown_kind s) first removed last (omega (arith, small)) there small))
    (λ _. (low, small))

-- a number that is at most one for which there is room has room
shown_fits : (numbers : LineNumbers) (gutter number counted : ℕ) → number_width numbers counted ≤ gutter → number ≤ counted → counted < 2 ^ 64
    → length (shown_number numbers gutter number) ≤ gutter + 1
shown_fits numbers gutter number counted room low small = grind (arith, length-shown_number, number_width_monotone)

-- what the gutter shows beside a line that is given stands left of the sign
pub numbers_fit : (layout : SuggestionLayout) (s : Snippet Patch) → IsSuggestible s → HasGutter layout s → (k : ℕ) → k < length (given_lines s)
    → NumberFits layout (s.line_start + first_given s) (Line k)
numbers_fit layout s can room k within =
    let first : ℕ = s.line_start + first_given s in
    let counted = counted_last s can k within in
    let same : capped_sum first k ≡ first + k = omega (arith, counted.0, counted.1) in grind (arith, common_steps, shown_fits, same)
