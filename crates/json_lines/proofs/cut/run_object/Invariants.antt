use Rattle.std.proofs.Common.{length}
use Rattle.std.specs.Prelude.{codes}
use Rattle.serde_json.specs.View.{members_view}
use Rattle.json_lines.specs.Cut.{AreResultsKept, empty_list}
use Rattle.json_lines.proofs.Kept.{MembersKept}
use Rattle.json_lines.proofs.cut.run_object.Given as goal

abbrev pub invariant-loop-key : goal.invariant-loop-key
invariant-loop-key l =
    MembersKept 124 (codes "results") empty_list AreResultsKept l.fn.reader l.reader (members_view l.members.entries) l.results

abbrev pub decreases-loop-key : goal.decreases-loop-key
decreases-loop-key l = length l.reader
