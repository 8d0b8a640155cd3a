use Rattle.snippet_labels.proofs.Common.{◌+◌, ◌∷◌, ◌∙◌, ap, sym, subst, drop, arith, drop_all, drop_more, BeginLeftOf}
use Rattle.snippet_labels.proofs.positions.begin_apart.Goals as goal

pub loop-entry-preserved : goal.loop-entry-preserved
loop-entry-preserved c rest =
    let entries = c.args.entries.now in
    let i = c.loop-entry.entry-index in
    let from = drop_more entries i c.entry-item.result c.loop-entry-test.true ∙ ap (λ x. x ∷ drop (i + 1) entries) (sym c.entry-item.is) in
    c.loop-entry.invariant (subst (BeginLeftOf c.loop-entry.column) (sym from) (omega (arith, c.if-entry-column.false), rest))

pub returns : goal.returns
returns c = record {
  yes = λ _. c.loop-entry.invariant (subst (BeginLeftOf c.loop-entry.column)
      (sym (drop_all c.loop-entry.entry-index c.args.entries.now (omega (arith, c.loop-entry-test.false)))) tt);
}
