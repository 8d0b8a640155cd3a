-- What isn't told of a result so: what wrong bodies leave of a small one contradicts what is said of its labels and fixes.
use Rattle.std.proofs.Common.{◌≡◌, MatchOption, ℕ, true, List, [], ◌∷◌, Option, Some, None, codes, option_map, refl, string_bytes, subst, inl, inr}
use Rattle.serde_json.specs.Data.{Data}
use Rattle.redraw_report.specs.declared.diagnostic.FileSpan.{FileSpan}
use Rattle.redraw_tools.specs.Fixes.{with_fix}
use Rattle.redraw_tools.specs.Found.{Change, help}
use Rattle.redraw_tools.specs.Message.{MayTell, Text, said_by, text_of}
use Rattle.redraw_tools.specs.Places.{GoesOn, IsMarked, Marked}

told : (part rule : Option Data) (place : Marked) (message : Data) (t : Text) (span : FileSpan) → text_of part rule message ≡ Some t
    → IsMarked part rule (place, Some message) span → MayTell t (option_map string_bytes span.label)
told part rule place message t span is marked =
    let said : Option (List ℕ) = option_map string_bytes span.label in
    subst (λ (o : Option Text). MatchOption o (said ≡ None) (λ u. MayTell u said)) is marked.1

-- the label of a place is lost, whose message is a text of its own
pub label_lost : (part rule : Option Data) (place : Marked) (message : Data) (t : Text) (span : FileSpan) → text_of part rule message ≡ Some t
    → t.is_alone ≡ true → span.label ≡ None → IsMarked part rule (place, Some message) span → ⊥
label_lost part rule place message t span is alone none marked =
    elim (subst (λ o. MayTell t (option_map string_bytes o)) none (told part rule place message t span is marked)) [
      | inl says ↦ cc says
      | inr left ↦ cc (alone, left.1)
    ]

-- the label of another place stands there
pub label_elsewhere : (part rule : Option Data) (place : Marked) (message : Data) (t : Text) (other : List ℕ) (span : FileSpan)
    → text_of part rule message ≡ Some t → option_map string_bytes span.label ≡ Some other → (other ≡ said_by t → ⊥)
    → IsMarked part rule (place, Some message) span → ⊥
label_elsewhere part rule place message t other span is labelled differs marked =
    elim (subst (MayTell t) labelled (told part rule place message t span is marked)) [
      | inl says ↦ differs (cc says)
      | inr left ↦ cc left.0
    ]

-- a place that a result names is left out, where steps of its code flow are marked
pub place_lost : (span : FileSpan) → GoesOn (span ∷ []) [] → ⊥
place_lost span on = on

-- a fix with another description is no way of the help before it, and one with the same is
pub apart : (a b : List Change) → with_fix (codes "b") b (help (codes "a") a ∷ []) ≡ help (codes "a") a ∷ help (codes "b") b ∷ []
apart a b = refl

pub together : (a b : List Change) → with_fix (codes "a") b (help (codes "a") a ∷ []) ≡ record (help (codes "a") a) { alternatives = a ∷ b ∷ [] } ∷ []
together a b = refl
