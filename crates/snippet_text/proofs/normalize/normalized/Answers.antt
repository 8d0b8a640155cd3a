use Rattle.std.proofs.Common.{sym, chars}
use Rattle.snippet_text.proofs.NormLemmas.{norm-unlisted}
use Rattle.snippet_text.proofs.normalize.normalized.Goals as goal

pub returns-else-has_listed-clause-value : goal.returns-else-has_listed-clause-value
returns-else-has_listed-clause-value c = sym (norm-unlisted (chars c.args.text.now) (cc c.has_listed.ensures.value))
