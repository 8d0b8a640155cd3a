-- So many spaces are there.
use Rattle.snippet_lines.proofs.Common.{◌≡◌, replicate, string_bytes}
use Rattle.snippet_lines.proofs.number.spaces.Given as goal

abbrev pub invariant-loop : goal.invariant-loop
invariant-loop l = string_bytes l.text ≡ replicate l.counter 32
