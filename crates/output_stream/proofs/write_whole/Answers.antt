use Rattle.std.proofs.Common.{◌++◌, length, sym, take}
use Rattle.std.proofs.KnownBytes.{Keeps-refl}
use Rattle.output_stream.proofs.Parts.{added_twice, anyway, moves_front, part_of, some_left}
use Rattle.output_stream.proofs.write_whole.Goals as goal

pub loop-preserved : goal.loop-preserved
loop-preserved g c =
    let (done, split, appended) = c.loop.invariant in
    let rest = c.loop.rest.now in
    let n = c.in_ok-count.count in
    (done ++ take n rest, moves_front _ done rest n split, added_twice _ _ _ _ _ appended c.in_ok-count.ensures.taken)

pub returns-in_err-count-clause-cut : goal.returns-in_err-count-clause-cut
returns-in_err-count-clause-cut g c =
    let (done, split, appended) = c.loop.invariant in
    let some = some_left (length c.loop.rest.now) (sym c.if-is_empty.ensures) in
    anyway c.from_residual.result (part_of _ _ _ _ done c.loop.rest.now split some appended c.in_err-count.ensures.failed)

pub returns-else-is_empty-2-clause-cut : goal.returns-else-is_empty-2-clause-cut
returns-else-is_empty-2-clause-cut g c =
    let (done, split, appended) = c.loop.invariant in
    let some = some_left (length c.loop.rest.now) (sym c.if-is_empty-2.ensures) in
    part_of _ _ _ _ done c.loop.rest.now split some appended (Keeps-refl _)
