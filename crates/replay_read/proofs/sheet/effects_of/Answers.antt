use Rattle.std.proofs.Common.{◌≡◌, ◌++◌, ◌∷◌, [], Some, ap, subst, sym, ◌∙◌}
use Rattle.std.specs.Prelude.{fold}
use Rattle.std.proofs.lemmas.List.Sums.{fold_push}
use Rattle.serde_json.specs.Find.{as_str}
use Rattle.serde_json.specs.View.{view}
use Rattle.snippet_style.specs.Style.{joined_effects, no_effects}
use Rattle.replay_read.specs.Sheet.{effect_name, effect_of}
use Rattle.replay_read.proofs.Listing.{items_more}
use Rattle.replay_read.proofs.sheet.effects_of.Goals as goal

pub loop-index-preserved : goal.loop-index-preserved
loop-index-preserved c =
    let (names, says, joined) = c.loop-index.invariant in
    let name = c.in_ok-name.name in
    let said = subst (λ v. as_str (view v) ≡ Some (effect_name name)) c.item.ensures.value c.in_ok-name.ensures.value in (
      names ++ name ∷ [],
      items_more (λ e n. as_str e ≡ Some (effect_name n)) c.deref-value-items.result.now c.loop-index.index c.value-item.result names name
          c.loop-index-test.true c.value-item.is says said,
      c.insert-effects.ensures.value ∙ ap (λ es. joined_effects es c.alone.result) joined
          ∙ ap (joined_effects (fold (λ es n. joined_effects es (effect_of n)) no_effects names)) c.alone.ensures.value
          ∙ sym (fold_push (λ es n. joined_effects es (effect_of n)) no_effects names name),
    )
