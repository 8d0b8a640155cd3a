use Rattle.std.proofs.Common.{inr, subst}
use Rattle.output_stream.specs.Standing.{Adds, BreaksOffBefore}
use Rattle.output_stream.proofs.Writing.{end_of_line, text_of_line}
use Rattle.program.proofs.lent.LentStream.write_line.Goals as goal

pub returns-in-Err-write-clause-cut : goal.returns-in-Err-write-clause-cut
returns-in-Err-write-clause-cut g c =
    end_of_line _ _ _ c.args.text.now (subst (Adds _ _) c.as_bytes.ensures.value c.in-Ok.ensures.whole) c.in-Err-write.ensures.cut

pub returns-in-Err-write-clause-told : goal.returns-in-Err-write-clause-told
returns-in-Err-write-clause-told g c =
    inr (end_of_line _ _ _ c.args.text.now (subst (Adds _ _) c.as_bytes.ensures.value c.in-Ok.ensures.whole) c.in-Err-write.ensures.cut).broken

pub returns-in-Err-clause-cut : goal.returns-in-Err-clause-cut
returns-in-Err-clause-cut g c =
    text_of_line _ _ c.args.text.now (subst (BreaksOffBefore _ _) c.as_bytes.ensures.value c.in-Err.ensures.cut)

pub returns-in-Err-clause-told : goal.returns-in-Err-clause-told
returns-in-Err-clause-told g c =
    inr (text_of_line _ _ c.args.text.now (subst (BreaksOffBefore _ _) c.as_bytes.ensures.value c.in-Err.ensures.cut)).broken
