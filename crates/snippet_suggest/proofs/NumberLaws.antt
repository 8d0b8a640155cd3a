-- There are numbers for the lines that a suggestion gives.
use Rattle.std.proofs.lemmas.Grind.{common_steps}
use Rattle.snippet_suggest.proofs.Common.{◌≡◌, ◌+◌, ◌<◌, ◌≤◌, ◌^◌, ◌==◌, List, [], ◌∷◌, length, map, count_by, refl, arith}
use Rattle.snippet_suggest.proofs.Common.{length-map, sum_by-cons, cow_str_bytes, sum_by, Snippet, Patch, source_lines, edit_of, AreDisjoint, shown-bound}
use Rattle.snippet_suggest.proofs.Common.{text_feeds, added_lines, edits_of, first_given, given_lines}
use Rattle.snippet_suggest.proofs.OfferLaws.{HaveSpans, edits-apart}

edits-feeds : (ps : List Patch) → text_feeds (map edit_of ps) ≡ added_lines ps
edits-feeds [] = refl
edits-feeds (p ∷ ps) = grind (arith, common_steps, edits-feeds ps, sum_by-cons, p.replacement)

-- the lines that are given have numbers, where the source's lines have, and one more for each LF of the replacements
pub numbers-bound : (s : Snippet Patch) → HaveSpans s → AreDisjoint (edits_of s)
    → s.line_start + length (source_lines (cow_str_bytes s.source.text)) + sum_by (λ p. count_by (λ b. b == 10) (cow_str_bytes p.replacement))
    s.markers.items < 2 ^ 64 → s.line_start + first_given s + length (given_lines s) ≤ 2 ^ 64
numbers-bound s spans disjoint fits = grind (arith, common_steps, shown-bound, edits-apart, length-map, edits-feeds, s.fold, s.source.text, s.markers.items)
