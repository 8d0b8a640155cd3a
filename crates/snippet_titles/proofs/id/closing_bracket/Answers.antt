use Rattle.snippet_titles.proofs.Common.{chars-nil}
use Rattle.snippet_titles.proofs.SignLemmas.{chars-closing}
use Rattle.snippet_titles.proofs.id.closing_bracket.Goals as goal

pub returns-then-hidden-clause-value : goal.returns-then-hidden-clause-value
returns-then-hidden-clause-value c = rw c.if-hidden.true chars-nil

pub returns-else-hidden-clause-value : goal.returns-else-hidden-clause-value
returns-else-hidden-clause-value c = rw c.if-hidden.false chars-closing
