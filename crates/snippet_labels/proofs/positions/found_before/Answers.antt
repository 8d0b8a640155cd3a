use Rattle.snippet_labels.proofs.Common.{◌∙◌, arith, ap, position_after}
use Rattle.snippet_labels.proofs.PlacedLemmas.{position_after-front}
use Rattle.snippet_labels.proofs.positions.found_before.Goals as goal

pub returns-clause-after : goal.returns-clause-after
returns-clause-after c =
    let others = c.args.others.now in
    let n = c.min-asking.result in
    let front = position_after-front c.position_at-here.result.position c.args.entry.now others n
    (λ k d past within. c.requires.none k d (omega (arith, past, within, c.min-asking.ensures)) within) in
    c.in_ok-after.ensures.value ∙ front
    ∙ ap (λ p. position_after p c.args.entry.now others) c.position_at-here.ensures.value
