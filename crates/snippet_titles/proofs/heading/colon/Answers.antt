use Rattle.snippet_titles.proofs.Common.{sym, ◌∙◌, option_copied}
use Rattle.snippet_titles.proofs.SignLemmas.{colon_named, colon_none, colon_set}
use Rattle.snippet_titles.proofs.heading.colon.Goals as goal
use Rattle.snippet_titles.proofs.heading.colon.Goals.{else-hidden-via-then-hidden+else-not-is_set, else-hidden-via-else-hidden}

pub returns-then-not-is_set-clause-value : goal.returns-then-not-is_set-clause-value
returns-then-not-is_set-clause-value c =
    colon_none c.args.hidden (option_copied c.args.id) c.if-hidden.true (sym c.is_set.ensures.value ∙ c.if-not-is_set.true)

pub returns-else-hidden-clause-value : goal.returns-else-hidden-clause-value
returns-else-hidden-clause-value c = elim c.else-hidden.branch [
  | else-hidden-via-then-hidden+else-not-is_set w ↦ colon_set c.args.hidden (option_copied c.args.id) (sym w.is_set.ensures.value ∙ w.if-not-is_set.false)
  | else-hidden-via-else-hidden w ↦ colon_named c.args.hidden (option_copied c.args.id) w.if-hidden.false
]
