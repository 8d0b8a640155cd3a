-- What is added so far spells the characters so far, escaped.
use Rattle.snippet_grid.proofs.Common.{◌≡◌, ◌++◌, encode_utf8_all, string_bytes, escaped}
use Rattle.snippet_grid.proofs.html.push_escaped.Given as goal

abbrev pub invariant-loop-ch : goal.invariant-loop-ch
invariant-loop-ch l = string_bytes l.out ≡ string_bytes l.initial.out ++ encode_utf8_all (escaped l.yielded)
