use Rattle.std.proofs.Common.{◌≡◌, ◌-◌, length, All}
use Rattle.report_bytes.specs.Bytes.{members_then}
use Rattle.report_bytes.specs.Reading.{after_members}
use Rattle.report_bytes.proofs.part.members.Given as goal

-- so many members were read, with the bytes that they have, and the others are still to be read
abbrev pub invariant-loop : goal.invariant-loop
invariant-loop g l =
    (after_members g.T.FromBytes.after (l.count - l.counter) l.rest ≡ after_members g.T.FromBytes.after l.count l.bytes)
    × (l.bytes ≡ members_then g.T.FromBytes.part_then l.parts.items l.rest) × (length l.parts.items ≡ l.counter) × All g.T.FromBytes.fits l.parts.items
