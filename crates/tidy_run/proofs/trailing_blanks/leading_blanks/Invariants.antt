-- So many bytes are blanks, and the others that the bytes begin with come after them.
use Rattle.std.proofs.Common.{◌≡◌, ◌≤◌, ◌+◌, ◌-◌, length, drop}
use Rattle.std.specs.List.{prefix_len}
use Rattle.tidy_run.specs.Rules.{is_space_or_tab}
use Rattle.tidy_run.proofs.trailing_blanks.leading_blanks.Given as goal

abbrev pub invariant-loop-count : goal.invariant-loop-count
invariant-loop-count l =
    record {
      within : l.count ≤ length l.bytes;
      counted : l.count + prefix_len is_space_or_tab (drop l.count l.bytes) ≡ prefix_len is_space_or_tab l.bytes;
    }

abbrev pub decreases-loop-count : goal.decreases-loop-count
decreases-loop-count l = length l.bytes - l.count
