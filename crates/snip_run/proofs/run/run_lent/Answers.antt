use Rattle.std.proofs.Common.{refl, string_bytes, subst}
use Rattle.std.specs.Option.{option_copied}
use Rattle.program.specs.Lent.{stream_of}
use Rattle.program.specs.Stream.{CutShort, Receives, Whole}
use Rattle.snip_run.specs.Arguments.{arguments_at}
use Rattle.snip_run.proofs.Ending.{ends_failed, ends_bad_usage, ends_printed, ends_unprinted, no_command}
use Rattle.snip_run.proofs.run.run_lent.Goals as goal

pub returns-in_default-clause-ends : goal.returns-in_default-clause-ends
returns-in_default-clause-ends g c =
    ends_bad_usage (arguments_at c.args.args.now) (option_copied c.args.file) _ _ (no_command _ c.in_default.ensures.each_line) refl c.write_line.ensures.told

pub returns-then-write_line-clause-ends : goal.returns-then-write_line-clause-ends
returns-then-write_line-clause-ends g c =
    ends_printed (arguments_at c.args.args.now) (option_copied c.args.file) c.in-Some.command
    (string_bytes c.in-Ok.text) _ _ c.in-Some.ensures.command c.in-Ok.ensures.shows
    (subst (λ text. Receives g.W.Write.contents (stream_of c.args.out.now) (stream_of c.write_line-in-Ok.new.self)
    (Whole text)) c.as_str.ensures.value c.if-write_line.ensures.whole) refl

pub returns-in-Ok-clause-ends : goal.returns-in-Ok-clause-ends
returns-in-Ok-clause-ends g c =
    ends_unprinted (arguments_at c.args.args.now) (option_copied c.args.file) c.in-Some.command
    (string_bytes c.in-Ok.text) _ _ c.in-Some.ensures.command c.in-Ok.ensures.shows
    (subst (λ text. Receives g.W.Write.contents (stream_of c.args.out.now) (stream_of c.write_line-in-Ok.new.self)
    (CutShort text)) c.as_str.ensures.value c.if-write_line.ensures.cut) refl

pub returns-clause-ends : goal.returns-clause-ends
returns-clause-ends g c =
    ends_failed (arguments_at c.args.args.now) (option_copied c.args.file) c.in-Some.command c.in-Err.failure _ _ c.in-Some.ensures.command
    c.in-Err.ensures.fails refl c.tell.ensures.told
