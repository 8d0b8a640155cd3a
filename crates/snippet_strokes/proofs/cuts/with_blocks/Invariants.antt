-- The flags before this one are as they are to be, and the others as they were.
use Rattle.snippet_strokes.proofs.Common.{◌≡◌, drop, length, take, with_blocks}
use Rattle.snippet_strokes.proofs.cuts.with_blocks.Given as goal

abbrev pub invariant-loop-k : goal.invariant-loop-k
invariant-loop-k l = record {
  done : take l.k l.overlapped.items ≡ take l.k (with_blocks l.layout l.placed l.initial.overlapped.items);
  left : drop l.k l.overlapped.items ≡ drop l.k l.initial.overlapped.items;
  count : length l.overlapped.items ≡ length l.initial.overlapped.items;
}
