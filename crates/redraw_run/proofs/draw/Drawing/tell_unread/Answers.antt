use Rattle.std.proofs.Common.{refl}
use Rattle.redraw_run.proofs.Done.{does_tell_all}
use Rattle.redraw_run.proofs.Telling.{many_all, many_more}
use Rattle.output_stream.specs.Standing.{known}
use Rattle.redraw_run.proofs.draw.Drawing.tell_unread.Goals as goal

pub loop-name-preserved : goal.loop-name-preserved
loop-name-preserved g c = many_more c.loop-name.name-index (known g.V.Write.contents c.args.err.now) _ _ c.loop-name.invariant c.tell_of.ensures.told

pub returns-clause-does : goal.returns-clause-does
returns-clause-does g c = λ out. does_tell_all (many_all c.loop-name.name-index _ _ c.loop-name.invariant) refl refl refl refl
