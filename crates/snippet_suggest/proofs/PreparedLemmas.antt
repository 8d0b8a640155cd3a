-- Laws of what is known of a suggestion before any row is drawn.
use Rattle.snippet_suggest.proofs.Common.{◌≡◌, ◌≢◌, ℕ, ◌+◌, ◌<◌, ◌≤◌, ◌^◌, Bool, if◌then◌else◌, Some, List, [], ◌∷◌, length, map, refl, arith, cond_both}
use Rattle.snippet_suggest.proofs.Common.{length-map, cow_str_bytes, slice_get, Source, lines_of, source_lines, newline_count, line_of, length-source_lines}
use Rattle.snippet_suggest.proofs.Common.{line_of-within, Patch, Snippet, TrimmedPatch, Edit, edit_of, in_order, trimmed_edits, first_start, texts_of}
use Rattle.snippet_suggest.proofs.Common.{edit_bounds, original_bounds_of, trimmed_edit_of, none_given, DisplaySuggestion, counted_line, edits_of, first_end}
use Rattle.snippet_suggest.proofs.Common.{first_given, given_text, shown_kind, trimmed_of, numbered_source, IsSuggestible, first_original, rules}
use Rattle.snippet_lines.specs.Lines.{Line}
use Rattle.snippet_suggest.proofs.ByKind.{counted_folded}

-- the first of the trimmed patches started where the first edit does
pub first_original-start : (ts : List TrimmedPatch) (os : List Edit) → map original_bounds_of ts ≡ map edit_bounds os → first_original ts ≡ first_start os
first_original-start x y z = grind (arith)

-- where the first of them starts and ends
pub first_original-of : (ts : List TrimmedPatch) (t : TrimmedPatch) → slice_get ts 0 ≡ Some t → t.original_span.start ≡ first_original ts
first_original-of x y z = search rules

-- the first of some trimmed patches ends where the first of their edits does
pub first_end-of : (ts : List TrimmedPatch) (t : TrimmedPatch) → slice_get ts 0 ≡ Some t → t.span.end ≡ first_end (map trimmed_edit_of ts)
first_end-of [] t is = absurd (cc)
first_end-of (s ∷ ts) t is = grind (arith)

-- where patches are given some are left
pub some_left : (source : List ℕ) (ps : List Patch) (ts : List TrimmedPatch) → ps ≢ [] → map trimmed_edit_of ts ≡ trimmed_edits source (map edit_of ps)
    → 0 < length ts
some_left source ps [] some same = absurd (some (none_given source ps [] same refl))
some_left source ps (t ∷ ts) some same = omega arith

-- where there are numbers for all lines of a text, there is one for the last
lines_counted : (text : List ℕ) (first : ℕ) → first < 2 ^ 64 → first + length (texts_of (lines_of text)) ≤ 2 ^ 64 → first + newline_count text < 2 ^ 64
lines_counted [] first small fits = omega (arith, length-source_lines [])
lines_counted (b ∷ bs) first small fits =
    omega (arith, length-source_lines (b ∷ bs), length-map (lines_of (b ∷ bs)) (λ (l : Line). l.0))

-- there is a number for the last line that is given
pub last-fits : (s : Snippet Patch) → IsSuggestible s → s.line_start + first_given s + newline_count (given_text s) < 2 ^ 64
last-fits s h =
    let source : List ℕ = cow_str_bytes s.source.text in
    let k : ℕ = line_of (source_lines source) (first_start (in_order (edits_of s))) in
    let below : first_given s < length (source_lines source) = cond_both s.fold k 0 (λ n. n < length (source_lines source)) (λ _.
    line_of-within source (first_start (in_order (edits_of s)))) (λ _. omega (arith, length-source_lines source)) in
    lines_counted (given_text s) (s.line_start + first_given s) (omega (arith, h.lines, below)) h.numbers

-- the number that is counted of a source, by the bytes at which its first patch starts and ends
abbrev counted_from : Source → Bool → List ℕ → DisplaySuggestion → ℕ → ℕ → ℕ
counted_from source fold text kind start end =
    let ls = source_lines source.text in
    let first = source.first + (if fold then line_of ls start else 0) in
    let last = first + newline_count text in
    if fold then counted_folded kind first (source.first + line_of ls end) last else last

-- it is that of the snippet
pub counted-is : (s : Snippet Patch) (source : Source) (ps : List TrimmedPatch) (text : List ℕ) (kind : DisplaySuggestion) (count : ℕ)
    → IsSuggestible s → source ≡ numbered_source s → text ≡ given_text s → map trimmed_edit_of ps ≡ trimmed_of s
    → map original_bounds_of ps ≡ map edit_bounds (in_order (edits_of s)) → kind ≡ shown_kind s
    → (source.first + (if s.fold then line_of (source_lines source.text) (first_original ps) else 0) + newline_count text < 2 ^ 64
    → count ≡ counted_from source s.fold text kind (first_original ps) (first_end (map trimmed_edit_of ps))) → count ≡ counted_line s
counted-is s source ps text kind count h of given edits originals shown counted = grind (arith, first_original-start, last-fits)
