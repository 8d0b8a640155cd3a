use Rattle.std.proofs.lemmas.Grind.{common_steps}
use Rattle.annotate_snippets.proofs.Common.{◌≡◌, ◌+◌, ℕ, arith, take_all, cow_str_bytes, added_lines, number_after_lines}
use Rattle.annotate_snippets.proofs.renderer.validate.patched_end_number.Goals as goal

pub returns : goal.returns
returns c =
    let before : ℕ = number_after_lines c.args.line_start (cow_str_bytes c.args.source.now.text) in
    let all = take_all c.loop-patch.patch-index c.args.patches.now (omega arith) in
    let value : c.loop-patch.end ≡ before + added_lines c.args.patches.now = grind (arith, common_steps, before, all, c.loop-patch.invariant.0) in
    record { value = (omega arith, value) }
