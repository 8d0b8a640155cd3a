use Rattle.snippet_parts.proofs.Common.{take}
use Rattle.snippet_parts.proofs.KeptLemmas.{IsMerged}
use Rattle.snippet_parts.proofs.kept.merged_lines.Given as goal

-- the stretches so far are merged up to the next line
abbrev pub invariant-loop-stretch : goal.invariant-loop-stretch
invariant-loop-stretch l = IsMerged (take l.stretch-index l.stretches) l.count l.next l.lines.items
