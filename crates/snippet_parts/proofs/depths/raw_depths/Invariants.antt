use Rattle.snippet_parts.proofs.Common.{◌≡◌, drop, length, raw_depths}
use Rattle.snippet_parts.proofs.depths.raw_depths.Given as goal

-- the raw depths from here on
abbrev pub invariant-loop-i : goal.invariant-loop-i
invariant-loop-i l = (drop l.i l.raws.items ≡ raw_depths (drop l.i l.places)) × (length l.raws.items ≡ length l.places)
