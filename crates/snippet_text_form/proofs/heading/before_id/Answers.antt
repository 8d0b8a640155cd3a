use Rattle.snippet_text_form.proofs.Common.{chars-nil}
use Rattle.snippet_text_form.proofs.TextLemmas.{chars-space}
use Rattle.snippet_text_form.proofs.heading.before_id.Goals as goal

pub returns-then-hidden-clause-value : goal.returns-then-hidden-clause-value
returns-then-hidden-clause-value c = rw c.if-hidden.true chars-nil

pub returns-else-hidden-clause-value : goal.returns-else-hidden-clause-value
returns-else-hidden-clause-value c = rw c.if-hidden.false chars-space
