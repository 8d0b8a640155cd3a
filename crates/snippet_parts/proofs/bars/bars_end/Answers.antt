use Rattle.snippet_parts.proofs.Common.{common_steps, ◌+◌, ◌-◌, min, not, ap, sym, ◌∙◌, arith, is_trivial_line}
use Rattle.snippet_parts.proofs.BarLemmas.{bars-found, bars_none}
use Rattle.snippet_parts.proofs.bars.bars_end.Goals as goal

pub returns-then-not-is_trivial_line-clause-bars : goal.returns-then-not-is_trivial_line-clause-bars
returns-then-not-is_trivial_line-clause-bars c k past =
    bars-found (λ j. not (is_trivial_line c.args.source.now.text j)) c.loop-line.line (c.loop-line.line - 1) (min (c.args.first + 4) c.args.last)
    k (omega arith) (omega (arith, c.beginning-line.ensures.value))
    c.loop-line.invariant (ap not (sym c.is_trivial_line.ensures.value) ∙ ap not c.if-not-is_trivial_line.true)

pub returns-clause-bars : goal.returns-clause-bars
returns-clause-bars c k past = grind (arith, common_steps, bars_none, c.loop-line.line, c.loop-line.invariant)
