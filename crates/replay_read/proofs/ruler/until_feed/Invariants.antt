use Rattle.std.proofs.Common.{◌≡◌, ◌++◌, drop, take}
use Rattle.replay_read.specs.MarkerSpan.{until_feed}
use Rattle.replay_read.proofs.ruler.until_feed.Given as goal

-- no line feed stands before here
abbrev pub invariant-loop-at : goal.invariant-loop-at
invariant-loop-at l = take l.at l.text ++ until_feed (drop l.at l.text) ≡ until_feed l.text
