use Rattle.std.proofs.Common.{sym}
use Rattle.snippet_text.proofs.PlainLemmas.{list_any-plain}
use Rattle.snippet_text.proofs.normalize.has_listed.Goals as goal

pub returns-then-is_plain : goal.returns-then-is_plain
returns-then-is_plain c = record { value = sym (list_any-plain c.args.text.now (c.is_plain.ensures.yes c.if-is_plain.true)) }
