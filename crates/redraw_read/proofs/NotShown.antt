-- What isn't as rustc's text shows it: what wrong bodies leave of small diagnostics contradicts what is said of showing them.
use Rattle.std.proofs.lemmas.Grind.{common_steps}
use Rattle.std.proofs.Common.{◌≡◌, ◌∙◌, ℕ, Bool, true, false, List, [], ◌∷◌, None, Option, Some, ap, arith, codes, get_or}
use Rattle.std.proofs.Common.{length, refl, string_bytes, unwrap_or}
use Rattle.std.specs.Fmt.{digits}
use Rattle.std.specs.Global.{Vec}
use Rattle.std.specs.Str.{chars, trim_start}
use Rattle.redraw_report.specs.declared.diagnostic.Child.{Child}
use Rattle.redraw_report.specs.declared.diagnostic.Diagnostic.{Diagnostic}
use Rattle.redraw_report.specs.declared.diagnostic.SuggestedEdit.{SuggestedEdit}
use Rattle.redraw_report.specs.declared.diagnostic.FileSpan.{FileSpan}
use Rattle.redraw_read.specs.AsShown.{ChildSeen, IsAsShown, are_one, child_shown, column_shown, message_line, names_place, settled}
use Rattle.redraw_read.specs.AsShown.{shown_with, suggestion_shown}
use Rattle.redraw_read.specs.Labels.{after_replacement, labelled, own_place, takes, with_labels, without_carets}
use Rattle.redraw_read.specs.Rendered.{Nowhere, way}
use Rattle.redraw_read.specs.declared.labels.EditLabel.{EditLabel}

-- of a suggestion that is shown nowhere no child is left
none_left : (text : List ℕ) (c : ChildSeen) (edits : Vec SuggestedEdit) (more : List (Vec SuggestedEdit)) → c.alternatives ≡ edits ∷ more
    → way (message_line c.message) text ≡ Nowhere → child_shown text c ≡ []
none_left text c edits more has nowhere = ap (λ (a : List (Vec SuggestedEdit)). shown_with text a c) has ∙ ap (λ w. suggestion_shown w c) nowhere

-- the suggestion is still there
pub suggestion_kept : (text : List ℕ) (first : Bool) (old : Diagnostic) (c : Child) (edits : Vec SuggestedEdit) (more : List (Vec SuggestedEdit))
    → old.children.items ≡ c ∷ [] → c.alternatives.items ≡ edits ∷ more → way (message_line (string_bytes c.message)) text ≡ Nowhere
    → IsAsShown text first old old → ⊥
suggestion_kept text first old c edits more one has nowhere shown = grind (arith, common_steps, none_left, shown.children)

-- a line names the place that stands after its arrow, and none whose file is only the end of that one's
pub place_named : names_place (codes " --> x/a:2:3\n") (codes "x/a") 2 3 ≡ true
unfolding trim_start chars lib.Utf8.encode digits
place_named = refl

pub end_not_named : names_place (codes " --> x/a:2:3\n") (codes "a") 2 3 ≡ false
unfolding trim_start chars lib.Utf8.encode digits
end_not_named = refl

-- a column is still what it was, where the text has the one before it
pub column_kept : (text file : List ℕ) (line : ℕ) → names_place text file line 4 ≡ true → Some 5 ≡ column_shown text file line (Some 5) → ⊥
column_kept text file line named same =
    let less : column_shown text file line (Some 5) ≡ Some 4 = rw named refl in
    absurd (omega (arith, ap (λ (o : Option ℕ). unwrap_or o 0) (same ∙ less)))

-- a place that isn't primary, where another one lies that is
pub role_kept : (a b : FileSpan) → a.is_primary ≡ true → are_one a b ≡ true → b.is_primary ≡ false → a ∷ b ∷ [] ≡ settled (a ∷ b ∷ []) → ⊥
role_kept a b primary one other same =
    let role : b.is_primary ≡ true = ap (λ (l : List FileSpan). (get_or l 1 b).is_primary) same ∙ rw (primary, one) refl in
    absurd (cc (role, other))

-- the label of a suggestion is lost, where a primary place lies without one
pub label_lost : (l : EditLabel) (s : FileSpan) → takes l s ≡ true → s.label ≡ None → s ∷ [] ≡ with_labels false (l ∷ []) (s ∷ []) → ⊥
label_lost l s taken bare same = grind (arith, common_steps)

-- it stands at a place that isn't where its edit is
pub label_elsewhere : (l : EditLabel) (s : FileSpan) → takes l s ≡ false → labelled l s ∷ [] ≡ with_labels false (l ∷ []) (s ∷ []) → ⊥
label_elsewhere l s apart same =
    let put : labelled l s ∷ [] ≡ s ∷ own_place l ∷ [] = rw apart at same in
    absurd (omega (arith, ap length put))

-- carets that stand right of a label aren't part of it, and what is to stand there is
pub carets_cut : without_carets (after_replacement (codes "b") (codes ": `b`   ^^")) (codes "try: `b`   ^^") ≡ codes "try: `b`"
carets_cut = refl
