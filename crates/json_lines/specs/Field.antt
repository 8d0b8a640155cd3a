-- What values of JSON, and the fields of an object, say.
use Rattle.std.specs.Prelude.{◌≡◌, ◌⊎◌, ℕ, Bool, List, [], ◌∷◌, Option, Some, None, is_some, true, map, option_and_then, option_map, MatchOption, if◌then◌else◌}
use Rattle.std.specs.Borrow.{Bor}
use Rattle.std.specs.List.{AllZip}
use Rattle.serde_json.specs.Data.{Data, object, member, no_members}
use Rattle.serde_json.specs.Find.{as_array, as_bool, as_null, as_number, as_object, as_str, as_u64, get}
use Rattle.serde_json.specs.View.{items_of}

-- the whole number that a value is
abbrev pub as_whole : Data → Option ℕ
as_whole d = option_and_then as_u64 (as_number d)

-- the text, the whole number or the truth value under a name; none where nothing or something else stands there
abbrev pub text_field : List ℕ → Data → Option (List ℕ)
text_field name d = option_and_then as_str (get name d)

-- the whole number under a name
abbrev pub number_field : List ℕ → Data → Option ℕ
number_field name d = option_and_then as_whole (get name d)

-- the truth value under a name
abbrev pub flag_field : List ℕ → Data → Option Bool
flag_field name d = option_and_then as_bool (get name d)

-- what stands there, where `null` counts as nothing
abbrev pub but_null : Option Data → Option Data
but_null None = None
but_null (Some d) = if is_some (as_null d) then None else Some d

-- what stands in the field of a name that may be left out: none where it is left out, or holds `null`
abbrev pub given : List ℕ → Data → Option Data
given name d = but_null (get name d)

-- what a field that may be left out holds, as `reads` reads it: `Some None` where it is left out, `None` where something else stands there
abbrev pub may_read : {X : Type 0} → (Data → Option X) → Option Data → Option (Option X)
may_read reads None = Some None
may_read reads (Some e) = option_map (λ x. Some x) (reads e)

-- what the field of a name holds, as `reads` reads it: `Some None` where it is left out, `None` where something else stands there
abbrev pub optional_at : {X : Type 0} → (Data → Option X) → List ℕ → Data → Option (Option X)
optional_at reads name d = may_read reads (given name d)

-- what a field holds, as `reads` reads it, where one that is left out counts as `missing`
abbrev pub read_or : {X : Type 0} → (Data → Option X) → X → Option Data → Option X
read_or reads missing None = Some missing
read_or reads missing (Some e) = reads e

-- what the field of a name holds, as `reads` reads it, where one that is left out counts as `missing`
abbrev pub given_or : {X : Type 0} → (Data → Option X) → X → List ℕ → Data → Option X
given_or reads missing name d = read_or reads missing (given name d)

-- the text that is lent, if there is one
abbrev pub lent_text : Option (Bor (List ℕ)) → Option (List ℕ)
lent_text found = option_map (λ (text : Bor (List ℕ)). text.now) found

-- the texts that are lent
abbrev pub lent_texts : List (Bor (List ℕ)) → List (List ℕ)
lent_texts texts = map (λ (text : Bor (List ℕ)). text.now) texts

-- a name is one of these
abbrev pub IsOneOf : List (List ℕ) → List ℕ → Type 0
IsOneOf [] name = ⊥
IsOneOf (known ∷ names) name = (name ≡ known) ⊎ IsOneOf names name

-- an object: a field that it has is of one of these names
abbrev pub HasOnly : List (List ℕ) → Data → Type 0
HasOnly names d =
    (is_some (as_object d) ≡ true) × ((name : List ℕ) → is_some (get name d) ≡ true → IsOneOf names name)

-- an object with one field
abbrev pub HasOneField : Data → Type 0
HasOneField d = (name : List ℕ) × (e : Data) × (d ≡ object (member name e no_members))

-- what stands under a name says x, where Says tells what a value says
abbrev pub SaysAt : {X : Type 0} → (Data → X → Type 0) → List ℕ → Data → X → Type 0
SaysAt Says name d x = (e : Data) × (get name d ≡ Some e) × Says e x

-- the same of a field that may be left out
abbrev pub MaySayAt : {X : Type 0} → (Data → X → Type 0) → List ℕ → Data → Option X → Type 0
MaySayAt Says name d found =
    MatchOption found (given name d ≡ None) (λ x. (e : Data) × (given name d ≡ Some e) × Says e x)

-- an object with one field, which has this name and says x
abbrev pub OnlySays : {X : Type 0} → (Data → X → Type 0) → List ℕ → Data → X → Type 0
OnlySays Says name d x = (e : Data) × (d ≡ object (member name e no_members)) × Says e x

-- the same of a value that may be `null`, which says nothing
abbrev pub OrNull : {X : Type 0} → (Data → X → Type 0) → Data → Option X → Type 0
OrNull Says d found = MatchOption found (is_some (as_null d) ≡ true) (λ x. Says d x)

-- a list, whose items say these, one each, in order
abbrev pub ListSays : {X : Type 0} → (Data → X → Type 0) → Data → List X → Type 0
ListSays Says d xs = (items : List Data) × (as_array d ≡ Some (items_of items)) × AllZip Says items xs
