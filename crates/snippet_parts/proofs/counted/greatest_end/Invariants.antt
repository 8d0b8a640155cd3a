use Rattle.snippet_parts.proofs.Common.{◌≡◌, take}
use Rattle.snippet_parts.proofs.CountedWords.{greatest_end}
use Rattle.snippet_parts.proofs.counted.greatest_end.Given as goal

abbrev pub invariant-loop-annotation : goal.invariant-loop-annotation
invariant-loop-annotation l = l.end ≡ greatest_end (take l.annotation-index l.annotations)
