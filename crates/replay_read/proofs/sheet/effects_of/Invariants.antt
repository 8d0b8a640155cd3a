use Rattle.std.proofs.Common.{◌≡◌, List, Some, map, take}
use Rattle.std.specs.Prelude.{fold}
use Rattle.std.specs.List.{AllZip}
use Rattle.serde_json.specs.Find.{as_str}
use Rattle.serde_json.specs.View.{view}
use Rattle.snippet_style.specs.Style.{joined_effects, no_effects}
use Rattle.replay_read.specs.Sheet.{effect_name, effect_of}
use Rattle.replay_read.specs.declared.effect.EffectName.{EffectName}
use Rattle.snippet_style.specs.declared.style.Effects.{Effects}
use Rattle.replay_read.proofs.sheet.effects_of.Given as goal

-- the effects of the names so far
abbrev pub invariant-loop-index : goal.invariant-loop-index
invariant-loop-index l =
    (names : List EffectName) × AllZip (λ e name. as_str e ≡ Some (effect_name name)) (map view (take l.index l.value-items)) names
    × (l.effects ≡ fold (λ (joined : Effects) name. joined_effects joined (effect_of name)) no_effects names)
