use Rattle.std.proofs.Common.{◌≡◌, map, take}
use Rattle.replay_read.proofs.source.named_sources.Given as goal

-- the sources so far
abbrev pub invariant-loop-text : goal.invariant-loop-text
invariant-loop-text l = l.sources.items ≡ map (λ text. text.now) (take l.text-index l.texts)
