use Rattle.std.proofs.Common.{length}
use Rattle.json_lines.proofs.Kept.{ResultsKept}
use Rattle.json_lines.proofs.cut.result_list.Given as goal

abbrev pub invariant-loop-alloc : goal.invariant-loop-alloc
invariant-loop-alloc l = ResultsKept l.fn.reader l.reader l.kept.items

abbrev pub decreases-loop-alloc : goal.decreases-loop-alloc
decreases-loop-alloc l = length l.reader
