use Rattle.snippet_labels.proofs.Common.{sym, ◌∙◌, crosses}
use Rattle.snippet_labels.proofs.PlacedLemmas.{any_at_first, any_at_none, position_at-clear, position_at-crossed}
use Rattle.snippet_labels.proofs.positions.position_at.Goals as goal

pub returns-in-Some-clause-value : goal.returns-in-Some-clause-value
returns-in-Some-clause-value c =
    position_at-crossed c.args.reached c.args.entry.now c.args.others.now c.if-reached-gt0.false (sym c.has_label.ensures.value ∙ c.if-not-has_label.false)
    (any_at_first (crosses c.args.entry.now) c.args.others.now c.in-Some.k (sym c.in-Some.is ∙ c.first_in_the_way.ensures.value))

pub returns-in-None-clause-value : goal.returns-in-None-clause-value
returns-in-None-clause-value c =
    position_at-clear c.args.reached c.args.entry.now c.args.others.now c.if-reached-gt0.false (sym c.has_label.ensures.value ∙ c.if-not-has_label.false)
    (any_at_none (crosses c.args.entry.now) c.args.others.now (sym c.in-None.is ∙ c.first_in_the_way.ensures.value))
