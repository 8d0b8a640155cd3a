use Rattle.snippet_suggest.proofs.Common.{refl}
use Rattle.snippet_suggest.proofs.StretchRows.{cursor_begins}
use Rattle.snippet_suggest.proofs.roles.TabCursor.new.Goals as goal

pub returns-clause-at : goal.returns-clause-at
returns-clause-at c = cursor_begins _ c.utf8.line c.chars.ensures.rest refl refl
