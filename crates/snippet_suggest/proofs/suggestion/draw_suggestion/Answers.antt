use Rattle.std.proofs.lemmas.Grind.{common_steps}
use denote.Enum.Bare.{same_true, true_same}
use Rattle.snippet_suggest.proofs.Common.{◌≡◌, ℕ, ◌++◌, [], List, replicate, ◌+◌, arith, length, length-append, length-replicate, Cell}
use Rattle.snippet_suggest.proofs.SuggestedRows.{ends_marked, ends_plain, suggestion_is}
use Rattle.snippet_suggest.proofs.KnownLemmas.{known_spans}
use Rattle.snippet_suggest.proofs.suggestion.draw_suggestion.Goals as goal
use Rattle.snippet_suggest.proofs.suggestion.draw_suggestion.Goals.{then-eq+in_ok-draw_marks}

-- the number of the row below all rows and so many empty ones
end_number : (skipped row : ℕ) (old : List (List Cell)) → row ≡ length old + skipped → row ≡ length (old ++ replicate skipped [])
end_number skipped row old is =
    omega (arith, is, length-append old (replicate skipped []), length-replicate {A = List Cell} skipped [])

pub draw_marks-requires-clause-spans : goal.draw_marks-requires-clause-spans
draw_marks-requires-clause-spans c =
    grind (arith, known_spans, c.args.suggestion.now.map.text, c.deref-then-eq.ensures.value, c.args.suggestion.now, c.requires.prepared)

pub returns : goal.returns
returns c = grind (arith, common_steps, same_true, end_number, ends_marked, true_same, ends_plain, suggestion_is)
