use Rattle.std.proofs.Common.{◌≡◌, ◌-◌, length, All}
use Rattle.report_bytes.specs.Bytes.{AreMembersThen}
use Rattle.report_bytes.specs.Reading.{after_members}
use Rattle.report_bytes.proofs.over.members_over.Given as goal

-- so many members were read, with the bytes that they have, and the others are still to be read
abbrev pub invariant-loop : goal.invariant-loop
invariant-loop g l =
    (after_members (g.T.OverKept.after (length l.kept)) (l.count - l.counter) l.rest ≡ after_members (g.T.OverKept.after (length l.kept)) l.count l.bytes)
    × (AreMembersThen (g.T.OverKept.IsPartThen l.kept) l.parts.items l.bytes l.rest) × (length l.parts.items ≡ l.counter) × All g.T.OverKept.fits l.parts.items
