-- How children are shown one after another.
use Rattle.std.proofs.lemmas.Grind.{common_steps}
use Rattle.std.proofs.Common.{◌≡◌, ◌++◌, ℕ, List, [], ◌∷◌, arith, length, map}
use Rattle.std.specs.List.{flat_map}
use Rattle.std.proofs.lemmas.List.{append-nil, append_assoc, map-append}
use Rattle.std.proofs.lemmas.Grind.{flat_map-append}
use Rattle.redraw_report.specs.declared.diagnostic.Child.{Child}
use Rattle.redraw_read.specs.AsShown.{ChildSeen, child_seen, child_shown, labels_of, told_by}
use Rattle.redraw_read.specs.Labels.{LabelSeen}
use Rattle.redraw_report.specs.declared.diagnostic.SuggestedEdit.{SuggestedEdit}
use Rattle.std.specs.Global.{Vec}
use Rattle.redraw_read.specs.Rendered.{Way}

-- nothing is told of a child without edits
pub none-told : (w : Way) (message : List ℕ) (alternatives : List (Vec SuggestedEdit)) → length alternatives ≡ 0 → told_by w message alternatives ≡ []
none-told w message alternatives none = grind (arith, common_steps)

-- the labels that are told of the children, by one more
pub told-next : (text : List ℕ) (children : List Child) (c : Child) (first old new : List LabelSeen)
    → old ≡ first ++ flat_map (labels_of text) (map child_seen children) → new ≡ old ++ labels_of text (child_seen c)
    → new ≡ first ++ flat_map (labels_of text) (map child_seen (children ++ c ∷ []))
told-next text children c first old new before here = grind (arith, common_steps, append_assoc, map-append, flat_map-append, append-nil)

-- what the children become, by one more
pub shown-next : (text : List ℕ) (children : List Child) (c : Child) (old new : List ChildSeen) → old ≡ flat_map (child_shown text) (map child_seen children)
    → new ≡ old ++ child_shown text (child_seen c) → new ≡ flat_map (child_shown text) (map child_seen (children ++ c ∷ []))
shown-next text children c old new before here = grind (arith, common_steps, map-append, flat_map-append, append-nil)
