-- Words for what the counted number of a snippet is made of, which proofs cite.
use Rattle.snippet_parts.proofs.Common.{common_steps, ◌≡◌, ℕ, ◌+◌, ◌<◌, ◌&&◌, max, not, cond, eqb, List, length, map, take, get_or, arith, cow_str_bytes}
use Rattle.snippet_parts.proofs.Common.{map_push, take_more, Snippet, Annotation, greatest}
use Rattle.snippet_parts.proofs.LeastLemmas.{greatest-push}

-- the greatest byte at which an annotation ends, or 0 without annotations
abbrev pub greatest_end : List Annotation → ℕ
greatest_end marks = greatest (map (λ a. a.span.end) marks)

-- the part of a snippet's source that its spans reach: up to the greatest end, or all of it where lines aren't folded
-- or there are no spans
abbrev pub reached_source : Snippet Annotation → List ℕ
reached_source s =
    cond (s.fold && not (eqb (length s.markers.items) 0)) (take (greatest_end s.markers.items) (cow_str_bytes s.source.text)) (cow_str_bytes s.source.text)

-- the greatest end of the annotations up to the i-th, with the next
pub greatest-more : (marks : List Annotation) (i : ℕ) (a : Annotation) (before now : ℕ) → i < length marks → a ≡ get_or marks i a
    → before ≡ greatest_end (take i marks) → now ≡ max a.span.end before → now ≡ greatest_end (take (i + 1) marks)
greatest-more marks i a before now within is known taken = grind (arith, common_steps, a.span.end, take_more, map_push, greatest-push)
