use Rattle.std.proofs.Common.{◌++◌, ◌∷◌, [], ◌+◌, ap, sym, ◌∙◌}
use Rattle.std.specs.List.{range_with_len}
use Rattle.std.proofs.lemmas.List.{append_assoc}
use Rattle.redraw_tools.proofs.ListLemmas.{range-more}
use Rattle.redraw_tools.proofs.steps.add_indexes.Goals as goal

pub loop-offset-preserved : goal.loop-offset-preserved
loop-offset-preserved c =
    let had = c.args.shown.now.items in
    let first = c.args.first in
    let offset = c.loop-offset.offset in
    c.in_ok-push.ensures.items
    ∙ ap (λ xs. xs ++ (first + offset) ∷ []) c.loop-offset.invariant
    ∙ append_assoc had (range_with_len first offset) ((first + offset) ∷ [])
    ∙ ap (λ xs. had ++ xs) (sym (range-more first offset))
