use Rattle.snippet_labels.proofs.Common.{◌+◌, ◌∷◌, ◌∙◌, ap, sym, subst, refl, drop, arith, drop_all, drop_more, StandInRow}
use Rattle.snippet_labels.specs.Placing.{SharesRow}
use Rattle.snippet_labels.proofs.positions.fit_in_row.Goals as goal

pub loop-entry-preserved : goal.loop-entry-preserved
loop-entry-preserved c shares rest =
    let entries = c.args.entries.now in
    let i = c.loop-entry.entry-index in
    let item = c.entry-item.result in
    let from = drop_more entries i item c.loop-entry-test.true ∙ ap (λ x. x ∷ drop (i + 1) entries) (sym c.entry-item.is) in
    let own : SharesRow item = subst SharesRow (sym c.entry-item.is) (shares i item c.loop-entry-test.true) in
    c.loop-entry.invariant shares (subst (StandInRow c.loop-entry.free) (sym from) (c.if-not-fits_left_of.ensures.yes refl own, rest))

pub returns : goal.returns
returns c = record {
  yes = λ _ shares. c.loop-entry.invariant shares (subst (StandInRow c.loop-entry.free)
      (sym (drop_all c.loop-entry.entry-index c.args.entries.now (omega (arith, c.loop-entry-test.false)))) tt);
}
