-- The entries so far stand beside the line where it begins with whitespace up to the last of their starts.
use Rattle.std.specs.Str.{chars}
use Rattle.snippet_strokes.proofs.Common.{norm}
use Rattle.snippet_strokes.proofs.BlankLemmas.{PassedTo}
use Rattle.snippet_strokes.proofs.whole_line.is_whole_line.Given as goal

abbrev pub invariant-loop-entry : goal.invariant-loop-entry
invariant-loop-entry l = PassedTo (norm (chars l.line)) l.entries l.entry-index l.last_start
