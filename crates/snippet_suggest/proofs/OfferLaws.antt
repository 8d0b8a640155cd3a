-- What a suggestion offers: lines of the patched source, in ascending order.
use Rattle.std.proofs.lemmas.Grind.{common_steps}
use Rattle.snippet_suggest.proofs.Common.{◌≡◌, ◌≢◌, ℕ, ◌+◌, ◌<◌, Bool, if◌then◌else◌, List, [], All, length, sym, subst, arith}
use Rattle.snippet_suggest.proofs.Common.{length-map, get_or-map, cow_str_bytes, slice_index_or, Snippet, Patch, lines_of, source_lines, text_at, IsSpan}
use Rattle.snippet_suggest.proofs.Common.{in_order, patched, AreFrom, texts_of, AreDisjoint, AreApart, apart-in_order, ordered-spans, some-edits, IsShownPart}
use Rattle.snippet_suggest.proofs.Common.{IsShownPart-plain, AreFrom-shown, IsOfferable, edits_of, first_given, given_lines, given_ranges, is_left_out}
use Rattle.snippet_suggest.proofs.Common.{last_reached, shown_kind, is_touched, shown_from, numbers_given, offered_lines, AreRising, numbers_shown}
use Rattle.snippet_suggest.proofs.AscendLemmas.{rising-moved}
use Rattle.snippet_suggest.proofs.RisingLemmas.{rising_shown}

-- each patch of a snippet has a span
abbrev pub HaveSpans : Snippet Patch → Type 0
HaveSpans s = All (λ p. IsSpan (cow_str_bytes s.source.text) p.span.start p.span.end) s.markers.items

-- the edits of its patches stand apart once they are in order
pub edits-apart : (s : Snippet Patch) → HaveSpans s → AreDisjoint (edits_of s) → AreApart 0 (in_order (edits_of s))
edits-apart s spans disjoint =
    apart-in_order (edits_of s) (ordered-spans (cow_str_bytes s.source.text) s.markers.items spans) disjoint

-- the part of the patched source that is given
pub given-part : (s : Snippet Patch) → HaveSpans s → AreDisjoint (edits_of s) → s.markers.items ≢ [] → IsOfferable s
    → IsShownPart s.fold (cow_str_bytes s.source.text) (edits_of s)
given-part s spans disjoint some offerable =
    IsShownPart-plain s.fold (cow_str_bytes s.source.text) (edits_of s) offerable.no_cr offerable.before (edits-apart s spans disjoint)
    (some-edits (cow_str_bytes s.source.text) s.markers.items some)

-- the lines that are given are lines of the patched source, one after the other
pub given-from : (s : Snippet Patch) → HaveSpans s → AreDisjoint (edits_of s) → s.markers.items ≢ [] → IsOfferable s
    → AreFrom (first_given s) (given_lines s) (texts_of (source_lines (patched (cow_str_bytes s.source.text) (edits_of s))))
given-from s spans disjoint some offerable =
    let source : List ℕ = cow_str_bytes s.source.text in
    let part : IsShownPart s.fold source (edits_of s) = given-part s spans disjoint some offerable in
    subst (λ t. AreFrom (first_given s) (texts_of (lines_of t)) (texts_of (source_lines (patched source (edits_of s))))) (sym part.text)
    (AreFrom-shown s.fold source (edits_of s) offerable.no_cr offerable.no_cr_in part)

-- a line that is given is the line of the patched source at the same place
pub given-is-patched : (s : Snippet Patch) → HaveSpans s → AreDisjoint (edits_of s) → s.markers.items ≢ [] → IsOfferable s → (k : ℕ)
    → k < length (given_lines s) → (first_given s + k < length (source_lines (patched (cow_str_bytes s.source.text) (edits_of s))))
    × (slice_index_or (given_lines s) k [] ≡ text_at (source_lines (patched (cow_str_bytes s.source.text) (edits_of s))) (first_given s + k))
given-is-patched s spans disjoint some offerable k low = grind (arith, common_steps, given-from, length-map, get_or-map, s.source.text)

-- the lines that it offers ascend, and are among those that are given
numbers-ascend : (left_out : Bool) (touched : ℕ → Bool) (count : ℕ) → AreRising 0 count (if left_out then [] else numbers_shown (shown_from touched 0 0 count))
numbers-ascend x y z = grind (arith, rising_shown)

-- the lines that are offered ascend, from the first that is given up to the last
pub offered-ascends : (s : Snippet Patch) → AreRising (first_given s) (first_given s + length (given_lines s)) (offered_lines s)
offered-ascends s =
    let base : first_given s + 0 ≡ first_given s = omega arith in
    subst (λ n. AreRising n (first_given s + length (given_lines s)) (offered_lines s))
    base (rising-moved (first_given s) 0 (length (given_lines s)) (numbers_given s)
    (numbers-ascend (is_left_out (shown_kind s) (given_lines s) (last_reached s)) (is_touched s.fold (given_ranges s)) (length (given_lines s))))
