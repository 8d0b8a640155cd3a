use Rattle.snippet_titles.proofs.Common.{chars-nil}
use Rattle.snippet_titles.proofs.SignLemmas.{chars-opening}
use Rattle.snippet_titles.proofs.id.opening_bracket.Goals as goal

pub returns-then-hidden-clause-value : goal.returns-then-hidden-clause-value
returns-then-hidden-clause-value c = rw c.if-hidden.true chars-nil

pub returns-else-hidden-clause-value : goal.returns-else-hidden-clause-value
returns-else-hidden-clause-value c = rw c.if-hidden.false chars-opening
