use Rattle.std.proofs.lemmas.Result.{err_from_is_err_and}
use Rattle.report_bytes.specs.Reading.{after_members}
use Rattle.report_bytes.proofs.Members.{all_more, count_more, spelled_more, goes_on, ends, is_done}
use Rattle.report_bytes.proofs.part.members.Goals as goal

pub returns-in_err-part-clause-left : goal.returns-in_err-part-clause-left
returns-in_err-part-clause-left g c =
    let p = err_from_is_err_and c.from_residual-in_err-part.result c.from_residual-in_err-part.ensures.1 in
    let total = after_members g.T.FromBytes.after c.args.count c.args.bytes.now in
    let e = c.in_err-part.field-0.0 in
    let failed = c.in_err-part.ensures.left in
    rw (p.1, p.2) (ends g.T.FromBytes.after e c.args.count c.loop.counter c.loop.rest.now total c.loop-test.true failed c.loop.invariant.0)

pub loop-preserved : goal.loop-preserved
loop-preserved g c =
    let grown = c.in_ok-push.ensures.items in
    let total = after_members g.T.FromBytes.after c.args.count c.args.bytes.now in
    let rest = c.loop.rest.now in
    let left = c.in_ok-part.left.now in
    let so_far = c.loop.parts.items in
    let more = c.push.new.self.items in
    let part = c.in_ok-part.part in
    let one = c.in_ok-part.ensures in (
      goes_on g.T.FromBytes.after c.args.count c.loop.counter rest left total c.loop-test.true one.left c.loop.invariant.0,
      spelled_more g.T.FromBytes.part_then c.args.bytes.now so_far more part rest left c.loop.invariant.1 one.spelled grown,
      count_more so_far more part c.loop.counter grown c.loop.invariant.2,
      all_more g.T.FromBytes.fits so_far more part grown c.loop.invariant.3 one.fits,
    )

pub returns-clause-left : goal.returns-clause-left
returns-clause-left g c =
    let total = after_members g.T.FromBytes.after c.args.count c.args.bytes.now in
    is_done g.T.FromBytes.after c.args.count c.loop.counter c.loop.rest.now total c.loop-test.false c.loop.invariant.0
