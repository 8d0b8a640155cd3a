use Rattle.std.proofs.Common.{sym, ◌∙◌}
use Rattle.std.specs.Option.{option_copied}
use Rattle.program.proofs.Ended.{lent_for}
use Rattle.tidy_run.specs.Arguments.{arguments_at}
use Rattle.tidy_run.proofs.Ending.{tidy_ends_for}
use Rattle.tidy_run.proofs.run.run.Goals as goal

-- each stream is over the caller's writer, and is so after the run
pub returns-clause-ends : goal.returns-clause-ends
returns-clause-ends g c =
    let out = c.out-1.given.1 (sym (c.run_lent.ensures.same_out ∙ c.new-lent_out.ensures.same_reference)) in
    let err = c.err-1.given.1 (sym (c.run_lent.ensures.same_err ∙ c.new-lent_err.ensures.same_reference)) in
    let log = c.log-1.given.1 (sym (c.run_lent.ensures.same_log ∙ c.new-lent_log.ensures.same_reference)) in
    tidy_ends_for (arguments_at c.args.args.now) (option_copied c.args.file) _ c.run_lent.result _ _ _ _ _ _ c.run_lent.ensures.ends
    (lent_for g.W.Write.contents c.args.out.now _ c.new-lent_out.result c.run_lent.new.out c.new-lent_out.ensures.writer c.new-lent_out.ensures.sound out)
    (lent_for g.V.Write.contents c.args.err.now _ c.new-lent_err.result c.run_lent.new.err c.new-lent_err.ensures.writer c.new-lent_err.ensures.sound err)
    (lent_for g.L.Write.contents c.args.log.now _ c.new-lent_log.result c.run_lent.new.log c.new-lent_log.ensures.writer c.new-lent_log.ensures.sound log)
