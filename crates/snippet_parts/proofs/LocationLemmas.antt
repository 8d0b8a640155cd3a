-- The place that the head of a snippet names, line by line and span by span.
use Rattle.snippet_parts.proofs.Common.{common_steps, arith, ◌≡◌, ℕ, ◌+◌, ◌<◌, Bool, true, false, min, Option, Some, List, [], ◌∷◌, ◌++◌, map, length, take}
use Rattle.snippet_parts.proofs.Common.{drop, get_or, sym, ap, ◌∙◌, filter, option_map_or, cond-true, cond-false, map_push, take_more, filter-append}
use Rattle.snippet_parts.proofs.Common.{Annotation, AnnotatedLineInfo, Location, KeptLine, seen_kept, least}
use Rattle.snippet_parts.proofs.LeastLemmas.{least-push}
use Rattle.snippet_parts.proofs.LocationWords.{first_place}

-- ---- lines

-- the place on the first of the lines from the i-th on that has one
abbrev pub place_from : (KeptLine → Option Location) → List AnnotatedLineInfo → ℕ → Option Location
place_from place_on infos i = first_place place_on (map seen_kept (drop i infos))

-- ---- the bytes at which spans start

filter-more : {X : Type 0} (test : X → Bool) (xs : List X) (i : ℕ) (x : X) → i < length xs → x ≡ get_or xs i x
    → filter test (take (i + 1) xs) ≡ filter test (take i xs) ++ filter test (x ∷ [])
filter-more test xs i x within is = ap (filter test) (take_more xs i x within) ∙ filter-append test (take i xs) (get_or xs i x ∷ [])
    ∙ ap (λ y. filter test (take i xs) ++ filter test (y ∷ [])) (sym is)

-- the least byte of the spans up to the i-th that pass a test, with the next: with its start where it passes
pub start-more : (test : Annotation → Bool) (marks : List Annotation) (i : ℕ) (a : Annotation) (before : Option ℕ) → i < length marks
    → a ≡ get_or marks i a → test a ≡ true → before ≡ least (map (λ (b : Annotation). b.span.start) (filter test (take i marks)))
    → Some (option_map_or (λ n. min n a.span.start) before a.span.start)
    ≡ least (map (λ (b : Annotation). b.span.start) (filter test (take (i + 1) marks)))
start-more test marks i a before within is passes known = grind (arith, common_steps, a.span.start, filter-more, cond-true, map_push, least-push)

-- the least start of those that pass stays with one that doesn't
pub start-same : (test : Annotation → Bool) (marks : List Annotation) (i : ℕ) (a : Annotation) (before : Option ℕ) → i < length marks
    → a ≡ get_or marks i a → test a ≡ false → before ≡ least (map (λ (b : Annotation). b.span.start) (filter test (take i marks)))
    → before ≡ least (map (λ (b : Annotation). b.span.start) (filter test (take (i + 1) marks)))
start-same test marks i a before within is fails known = grind (arith, common_steps, filter-more, cond-false)
