use Rattle.snippet_text_form.proofs.Common.{chars-nil}
use Rattle.snippet_text_form.proofs.TextLemmas.{chars-space}
use Rattle.snippet_text_form.proofs.heading.HeadingKind.before_name.Goals as goal

pub returns-in-Title-clause-value : goal.returns-in-Title-clause-value
returns-in-Title-clause-value c = rw c.in-Title.is chars-nil

pub returns-in-Message-clause-value : goal.returns-in-Message-clause-value
returns-in-Message-clause-value c = rw c.in-Message.is chars-space
