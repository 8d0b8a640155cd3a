use Rattle.std.proofs.Common.{sym, ◌∙◌}
use Rattle.redraw_run.proofs.Done.{sums_by_one, sums_nothing}
use Rattle.output_stream.specs.Standing.{known}
use Rattle.redraw_run.proofs.run.finish.Goals as goal

pub returns-then-has_no_sum-clause-last : goal.returns-then-has_no_sum-clause-last
returns-then-has_no_sum-clause-last g c =
    sums_nothing c.args.is_quiet c.args.summary.tally (known g.V.Write.contents c.args.err.now) (sym c.has_no_sum.ensures.value ∙ c.if-has_no_sum.true)

pub returns-clause-last : goal.returns-clause-last
returns-clause-last g c =
    sums_by_one c.args.is_quiet c.args.summary.tally (known g.V.Write.contents c.args.err.now) (known g.V.Write.contents c.tell.new.err)
    (sym c.has_no_sum.ensures.value ∙ c.if-has_no_sum.false) c.tell.ensures.told
