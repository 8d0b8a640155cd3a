use Rattle.std.proofs.Common.{ap, sym}
use Rattle.snippet_strokes.proofs.Common.{◌≡◌, ◌∙◌, ◌++◌, ◌∷◌, [], Layout, is_wide_entry, length, list_any, map, middles_replaced}
use Rattle.snippet_strokes.proofs.Common.{placeholder_of, shifted, squeezed}
use Rattle.snippet_strokes.proofs.SqueezedLemmas.{Line, narrow_whole, squeezed_same, unbroken_same}
use Rattle.snippet_strokes.proofs.strokes.squeezed_if_wide.Goals.{then-breaks_labels, else-breaks_labels}
use Rattle.snippet_strokes.proofs.strokes.squeezed_if_wide.Goals as goal

-- nothing is cut out of the line
whole : (c : goal.Then-not-has_wide_entry) → (let es = map (shifted c.args.place.dropped) c.args.entries.now in
    squeezed c.args.layout c.args.place.room es ≡ (es, []))
whole c =
    let es = map (shifted c.args.place.dropped) c.args.entries.now in
    elim c.if-breaks_labels.branch [
      | then-breaks_labels w ↦
          let told = sym w.has_wide_entry.ensures.value ∙ sym w.value-is ∙ c.if-not-has_wide_entry.true in
          squeezed_same c.args.layout c.args.place.room es (narrow_whole c.args.layout c.args.place.room c.args.place.dropped c.args.entries.now
          (ap (λ (l : Layout). list_any (is_wide_entry c.args.place.room (length (placeholder_of l.decor))) c.args.entries.now) (sym c.layout.view_is) ∙ told))
      | else-breaks_labels w ↦
          unbroken_same c.args.layout c.args.place.room es (sym c.breaks_labels.ensures.value ∙ w.if-breaks_labels.false)
    ]

pub returns-then-not-has_wide_entry-clause-value : goal.returns-then-not-has_wide_entry-clause-value
returns-then-not-has_wide_entry-clause-value c = sym (ap (λ (l : Line). l.0) (whole c))

pub returns-then-not-has_wide_entry-clause-row : goal.returns-then-not-has_wide_entry-clause-row
returns-then-not-has_wide_entry-clause-row c above source old_is =
    old_is ∙ ap (λ (l : Line). above ++ middles_replaced c.args.layout c.args.place.room l.1 source ∷ []) (sym (whole c))
