use Rattle.std.proofs.Common.{ap, sym, ◌∙◌}
use Rattle.std.proofs.lemmas.Iterator.{YieldsList-from_chars}
use Rattle.std.proofs.lemmas.Iterator.Consumers.{YieldsList-end}
use Rattle.redraw_command.specs.Unheeded.{hashes_after}
use Rattle.redraw_command.proofs.Unheeding.{apart-all, apart-written, hashes-push}
use Rattle.redraw_command.proofs.unheeded.apart.Goals as goal

pub loop-c-preserved : goal.loop-c-preserved
loop-c-preserved c =
    let (before, count) = c.loop-c.invariant in (
      apart-written _ _ c.loop-c.yielded c.loop-c.hashes c.in-Some.c before count c.in_ok-add_character.ensures.added,
      c.hashes_after-hashes.ensures.value ∙ ap (λ hashes. hashes_after hashes c.in-Some.c) count ∙ sym (hashes-push 0 c.loop-c.yielded c.in-Some.c),
    )

pub returns : goal.returns
returns c =
    let all = YieldsList-end (YieldsList-from_chars c.args.text.now c.utf8.text cc) c.loop-c.yielded _ c.loop-c.yielded_by _ _ c.in-None.is
    c.next.ensures.steps in
    record { value = apart-all _ _ _ c.loop-c.invariant.0 all.0 }
