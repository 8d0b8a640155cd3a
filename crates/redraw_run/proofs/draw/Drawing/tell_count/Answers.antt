use Rattle.std.proofs.Common.{refl}
use Rattle.redraw_run.proofs.Done.{count_told, count_untold, tells_none, tells_one}
use Rattle.redraw_run.proofs.draw.Drawing.tell_count.Goals as goal

pub returns-then-count-gt0-clause-told : goal.returns-then-count-gt0-clause-told
returns-then-count-gt0-clause-told g c = tells_one c.tell_of.ensures.told

pub returns-then-count-gt0-clause-one : goal.returns-then-count-gt0-clause-one
returns-then-count-gt0-clause-one g c = count_told c.args.count _ _ c.if-count-gt0.true c.tell_of.ensures.told

pub returns-else-count-gt0-clause-told : goal.returns-else-count-gt0-clause-told
returns-else-count-gt0-clause-told g c = tells_none _

pub returns-else-count-gt0-clause-one : goal.returns-else-count-gt0-clause-one
returns-else-count-gt0-clause-one g c = count_untold c.args.count _ _ c.if-count-gt0.false refl
