use Rattle.std.proofs.Common.{◌∷◌, ◌++◌, [], ap, map, ◌∙◌}
use Rattle.std.proofs.lemmas.List.{map-append}
use Rattle.redraw_tools.specs.Found.{Remark, remark_view}
use Rattle.redraw_tools.proofs.FixLemmas.{notes-one}
use Rattle.redraw_tools.proofs.flow.add_note.Goals as goal

pub returns-clause-notes : goal.returns-clause-notes
returns-clause-notes c =
    let old = c.args.told.now.children.items in
    notes-one _ _ _ (ap (map remark_view) c.in_ok-push.ensures.items ∙ map-append remark_view old (c.remark_of.result ∷ [])
    ∙ ap (λ (r : Remark). map remark_view old ++ r ∷ []) c.remark_of.ensures.value)
