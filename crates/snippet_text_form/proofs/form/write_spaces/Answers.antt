use Rattle.std.proofs.lemmas.Grind.{common_steps}
use Rattle.snippet_text_form.proofs.Common.{sym, arith, string_bytes, append-nil, append_assoc, replicate_more, encode_ascii}
use Rattle.snippet_text_form.proofs.form.write_spaces.Goals as goal

pub loop-init : goal.loop-init
loop-init c = sym (append-nil (string_bytes c.args.out.now))

pub loop-preserved : goal.loop-preserved
loop-preserved c =
    grind (arith, encode_ascii, append_assoc, replicate_more, c.args.out.now, c.in_ok-push.ensures.bytes, c.loop.out, c.loop.invariant, c.loop.counter)

pub returns : goal.returns
returns c = grind (arith, common_steps, c.loop.counter, c.args.count, c.loop.invariant, c.args.out.now, c.loop.out)
