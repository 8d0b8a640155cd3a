use Rattle.std.proofs.Common.{◌≡◌, take}
use Rattle.yazgult_c.proofs.sources.kept.shares.Given as goal

-- the sources so far are shared
abbrev pub invariant-loop-source : goal.invariant-loop-source
invariant-loop-source l = l.more.items ≡ take l.source-index l.from
