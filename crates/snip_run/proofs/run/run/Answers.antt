use Rattle.std.proofs.Common.{sym, ◌∙◌}
use Rattle.std.specs.Option.{option_copied}
use Rattle.program.proofs.Ended.{ends_for, lent_for}
use Rattle.snip_run.specs.Arguments.{arguments_at}
use Rattle.snip_run.specs.Run.{MaySnip, snip_end}
use Rattle.snip_run.proofs.run.run.Goals as goal

-- each stream is over the caller's writer, and is so after the run
pub returns-clause-ends : goal.returns-clause-ends
returns-clause-ends g c =
    let out = c.out-1.given.1 (sym (c.run_lent.ensures.same_out ∙ c.new-lent_out.ensures.same_reference)) in
    let err = c.err-1.given.1 (sym (c.run_lent.ensures.same_err ∙ c.new-lent_err.ensures.same_reference)) in
    ends_for (MaySnip (arguments_at c.args.args.now) (option_copied c.args.file)) snip_end c.run_lent.result _ _ _ _ c.run_lent.ensures.ends
    (lent_for g.W.Write.contents c.args.out.now _ c.new-lent_out.result c.run_lent.new.out c.new-lent_out.ensures.writer c.new-lent_out.ensures.sound out)
    (lent_for g.V.Write.contents c.args.err.now _ c.new-lent_err.result c.run_lent.new.err c.new-lent_err.ensures.writer c.new-lent_err.ensures.sound err)
