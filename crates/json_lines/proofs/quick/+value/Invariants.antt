use Rattle.std.proofs.Common.{suc, ◌+◌, length}
use Rattle.serde_json.specs.View.{members_view}
use Rattle.json_lines.proofs.Loops.{ItemsSoFar, MembersSoFar}
use Rattle.json_lines.proofs.quick.+value.Given as goal

-- a level has two steps: the value, and the items or members in it
abbrev pub decreases-value_of : goal.decreases-value_of
decreases-value_of l = l.depth + l.depth

abbrev pub decreases-array : goal.decreases-array
decreases-array l = suc (l.depth + l.depth)

abbrev pub decreases-object : goal.decreases-object
decreases-object l = suc (l.depth + l.depth)

abbrev pub invariant-array-loop-alloc : goal.invariant-array-loop-alloc
invariant-array-loop-alloc l = ItemsSoFar l.depth l.initial.reader l.reader l.items.items

abbrev pub decreases-array-loop-alloc : goal.decreases-array-loop-alloc
decreases-array-loop-alloc l = length l.reader

abbrev pub invariant-object-loop-key : goal.invariant-object-loop-key
invariant-object-loop-key l = MembersSoFar l.depth l.initial.reader l.reader (members_view l.members.entries)

abbrev pub decreases-object-loop-key : goal.decreases-object-loop-key
decreases-object-loop-key l = length l.reader
