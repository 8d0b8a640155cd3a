use Rattle.std.proofs.Common.{◌<◌, arith}
use borrow.Author.Tests.{ltb-true}
use Rattle.json_lines.proofs.Through.{takes}
use Rattle.json_lines.proofs.line.takes_at_hand.Goals as goal

pub returns-clause-taken : goal.returns-clause-taken
returns-clause-taken g c =
    λ some empty.
    let more : 0 < c.add_line-count.result = omega (arith, ltb-true) in
    let line = rw empty at c.add_line-count.ensures.added in
    let filled = rw c.in-Ok.is at c.fill_buf.follows.holds-at-none in
    takes _ _ _ _ _ _ _ more c.add_line-count.ensures.within line (c.add_line-count.ensures.ends more) c.in-Ok.ensures.front filled.0 filled.1
    c.consume.ensures.bytes
