use Rattle.redraw_command.proofs.Finding.{start_read, whole_kept}
use Rattle.redraw_command.proofs.found.whole.Goals as goal

pub returns-in-Ok-clause-all : goal.returns-in-Ok-clause-all
returns-in-Ok-clause-all g c =
    whole_kept _ 1073741824 _ c.no_longer.result
    (start_read g.F.Read.remaining c.take-start.result c.args.file _ _ 1073741824 c.take-start.ensures.limit c.take-start.ensures.inner
    c.new-bytes.ensures.items c.in-Ok.ensures.bytes)
    c.no_longer.ensures.same c.no_longer.ensures.bound
