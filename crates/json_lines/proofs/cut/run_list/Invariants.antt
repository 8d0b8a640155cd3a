use Rattle.std.proofs.Common.{length}
use Rattle.json_lines.proofs.Kept.{RunsKept}
use Rattle.json_lines.proofs.cut.run_list.Given as goal

abbrev pub invariant-loop-alloc : goal.invariant-loop-alloc
invariant-loop-alloc l = RunsKept l.fn.reader l.reader l.runs.items l.results.items

abbrev pub decreases-loop-alloc : goal.decreases-loop-alloc
decreases-loop-alloc l = length l.reader
