use Rattle.snippet_shown.proofs.Common.{common_steps, arith}
use Rattle.snippet_shown.proofs.WithLemmas.{unfolded-with}
use Rattle.snippet_shown.proofs.context.snippets.cause_with_context.Goals as goal

pub returns-then-not-snippet : goal.returns-then-not-snippet
returns-then-not-snippet c = record { with = unfolded-with c.args.before c.args.after c.args.snippet c.if-not-snippet.true }

pub returns : goal.returns
returns c = grind (arith, common_steps, c.in_ok-add_visible.ensures.added, c.in_ok-spans.ensures.value, c.in_ok-spans.ensures.parts)
