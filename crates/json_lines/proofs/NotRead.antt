-- Wrong readings of a value, each on a small input, and what their results contradict.
use Rattle.std.proofs.Common.{◌≡◌, ℕ, List, [], ◌∷◌, Option, Some, true, false, Bool, inl, inr, refl, sym, ap, ◌∙◌}
use Rattle.std.specs.Prelude.{bytes_eq, codes}
use Rattle.std.proofs.lemmas.Bool.{false≢true}
use Rattle.std.proofs.lemmas.Option.{none-some, same_Some}
use Rattle.serde_json.specs.Data.{unsigned, null, boolean, number, array, object, no_items, member, no_members}
use Rattle.serde_json.specs.Find.{as_bool, as_str}
use Rattle.json_lines.specs.Field.{HasOneField, HasOnly, as_whole, given_or, optional_at}

different : (a b : List ℕ) → bytes_eq a b ≡ false → bytes_eq b b ≡ true → a ≡ b → ⊥
different a b differ same e = false≢true (sym differ ∙ ap (λ (w : List ℕ). bytes_eq w b) e ∙ same)

-- `{"label": true}`: a truth value is no text that was left out (`optional_text`: `value`)
pub label_of_other_type : (found : Option (List ℕ))
    → optional_at as_str (codes "label") (object (member (codes "label") (boolean true) no_members)) ≡ Some found → ⊥
label_of_other_type found is = none-some found is

-- `{"label": null}`: `null` is as good as no text, and not an empty one
pub null_label : (text : List ℕ) → optional_at as_str (codes "label") (object (member (codes "label") null no_members)) ≡ Some (Some text) → ⊥
null_label text is = none-some text (same_Some _ _ is)

-- `{"fold": null}`: nor is it a truth value of its own: the field counts as left out
pub null_fold : given_or as_bool true (codes "fold") (object (member (codes "fold") null no_members)) ≡ Some false → ⊥
null_fold is = false≢true (sym (same_Some _ _ is))

-- `{"line": true}`: nor is it a number that was left out (`optional_number`: `value`)
pub line_of_other_type : (found : Option ℕ) → optional_at as_whole (codes "line") (object (member (codes "line") (boolean true) no_members)) ≡ Some found → ⊥
line_of_other_type found is = none-some found is

-- `{"fold": 0}`: a number is no truth value that was left out (`flag_or`: `value`)
pub fold_of_other_type : (fold : Bool) → given_or as_bool true (codes "fold") (object (member (codes "fold") (number (unsigned 0)) no_members)) ≡ Some fold → ⊥
fold_of_other_type fold is = none-some fold is

-- `{"colour": null}` has a field of another name (`has_only`: `only`)
pub unknown_field : HasOnly (codes "level" ∷ codes "text" ∷ []) (object (member (codes "colour") null no_members)) → ⊥
unknown_field only =
    elim (only.1 (codes "colour") refl) [
      | inl level ↦ different (codes "colour") (codes "level") refl refl level
      | inr rest ↦ elim rest [
        | inl text ↦ different (codes "colour") (codes "text") refl refl text
        | inr none ↦ none
      ]
    ]

-- `[]` is no object (`has_only`: `only`)
pub no_object : HasOnly [] (array no_items) → ⊥
no_object only = false≢true only.0

-- `{"ansi256": null, "rgb": null}` has two fields (`has_one_field`: `one`; `only_field`: `value`)
pub two_fields : HasOneField (object (member (codes "ansi256") null (member (codes "rgb") null no_members))) → ⊥
two_fields one = let is = one.2 in cc
