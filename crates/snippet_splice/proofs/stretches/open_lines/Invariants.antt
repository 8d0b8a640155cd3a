use Rattle.snippet_splice.proofs.Common.{◌≡◌, ◌≤◌, ℕ, length, max, line_stretches}
use Rattle.snippet_splice.proofs.stretches.open_lines.Given as goal

-- each line has the stretches that it had, and as many are there as were counted
abbrev pub invariant-loop : goal.invariant-loop
invariant-loop l = record {
  same : (k : ℕ) → line_stretches l.lines.items k ≡ line_stretches l.initial.lines.items k;
  counted : l.counter ≡ length l.lines.items;
  least : length l.initial.lines.items ≤ l.counter;
  most : l.counter ≤ max (length l.initial.lines.items) l.count;
}
