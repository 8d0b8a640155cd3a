use Rattle.snippet_parts.proofs.Common.{length, chars}
use Rattle.snippet_parts.proofs.TrivialLemmas.{IsReadTo}
use Rattle.snippet_parts.proofs.trivial_lines.is_trivial.Given as goal

-- what was read so far tells what the line is
abbrev pub invariant-loop-c : goal.invariant-loop-c
invariant-loop-c l = IsReadTo (chars l.line) (length l.yielded) l.seen
