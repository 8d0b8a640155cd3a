-- The spaces so far are added.
use Rattle.snippet_grid.proofs.Common.{◌≡◌, ◌≤◌, ◌-◌, ◌++◌, replicate, string_bytes}
use Rattle.snippet_grid.proofs.spaces.push_spaces.Given as goal

abbrev pub invariant-loop-left : goal.invariant-loop-left
invariant-loop-left l =
    record {
      low : l.left ≤ l.count;
      text : string_bytes l.out ≡ string_bytes l.initial.out ++ replicate (l.count - l.left) 32;
    }

abbrev pub decreases-loop-left : goal.decreases-loop-left
decreases-loop-left l = l.left
