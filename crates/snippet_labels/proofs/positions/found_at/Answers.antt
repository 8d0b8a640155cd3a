use Rattle.snippet_labels.proofs.Common.{◌∙◌, ◌+◌, ◌-◌, List, ℕ, ap, arith, drop, length, get_or_default, IfOk-weaker, length-drop, take_all, position_after}
use Rattle.snippet_labels.proofs.Common.{position_at, PlacedEntry}
use Rattle.snippet_labels.proofs.positions.found_at.Goals as goal

pub returns-clause-after : goal.returns-clause-after
returns-clause-after c = IfOk-weaker c.found_before.result _ _ (λ found is d.
    let es = c.args.entries.now in
    let i : ℕ = c.args.i in
    let others = drop (i + 1) es in
    let step : PlacedEntry → List PlacedEntry → ℕ = λ e xs. position_after (position_at c.args.reached e xs) e xs in
    is ∙ ap (step c.index-entries-i.result) (take_all (length es - (i + 1)) others (omega (arith, length-drop (i + 1) es)))
    ∙ ap (λ e. step e others) (c.index-entries-i.is ∙ get_or_default es i c.index-entries-i.result d c.requires.within)) c.found_before.ensures.after
