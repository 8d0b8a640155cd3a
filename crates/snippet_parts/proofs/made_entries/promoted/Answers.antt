use Rattle.snippet_parts.proofs.EntryLemmas.{promoted-primary, promoted-plain}
use Rattle.snippet_parts.proofs.made_entries.promoted.Goals as goal

pub returns-then-is_primary-clause-value : goal.returns-then-is_primary-clause-value
returns-then-is_primary-clause-value c = promoted-primary c.args.before.now c.args.span c.is_primary.result c.is_primary.ensures.value c.if-is_primary.true

pub returns-else-is_primary-clause-value : goal.returns-else-is_primary-clause-value
returns-else-is_primary-clause-value c = promoted-plain c.args.before.now c.args.span c.is_primary.result c.is_primary.ensures.value c.if-is_primary.false
