-- What stands before a heading's text, and the whole heading.
use Rattle.std.proofs.lemmas.Grind.{common_steps}
use Rattle.snippet_text_form.proofs.Common.{◌≡◌, ℕ, ◌+◌, ◌==◌, Bool, true, false, nat_lt, List, [], ◌∷◌, ◌++◌, Option, None, Some}
use Rattle.snippet_text_form.proofs.Common.{Result, length, if◌then◌else◌, refl, ap, ◌∙◌, arith, cow_str_bytes, option_map, OnOk, IsUtf8}
use Rattle.snippet_text_form.proofs.Common.{sum_by-append, on_ok_weaker, Heading, is_hidden, name_of, Level, Id, ElementStyle, norm, char_width, width_of}
use Rattle.snippet_text_form.proofs.Common.{width_of-norm, address_of, colon_of, heading_lines, is_set, HeadingRoles, chars-colon, FormPiece, Break, Styled}
use Rattle.snippet_text_form.proofs.Common.{bare, styled, before_id, before_name, colon_form, heading_form, id_form, label_form, label_of_id, heading_label}
use Rattle.snippet_text_form.proofs.Common.{lines_form, link_for, text_roles_of, HeadingKind}
use Rattle.std.proofs.Common.{chars}
use Rattle.snippet_text_form.proofs.AddedLemmas.{added-two, added-two-on_ok}
use Rattle.snippet_text_form.proofs.FormSteps.{begun-chars}

-- ---- the colon

-- a label that isn't hidden has its colon
pub colon_named : (role : ElementStyle) (hidden : Bool) (id : Option Id) → hidden ≡ false → styled role (chars (58 ∷ 32 ∷ [])) ≡ colon_form role hidden id
colon_named role hidden id is = rw is (ap (styled role) chars-colon)

-- a label with an id has its colon
pub colon_set : (role : ElementStyle) (hidden : Bool) (id : Option Id) → is_set id ≡ true → styled role (chars (58 ∷ 32 ∷ [])) ≡ colon_form role hidden id
colon_set role true id set = rw set (ap (styled role) chars-colon)
colon_set role false id set = ap (styled role) chars-colon

-- ---- the id

-- an address for a text, which is none where the text is empty
pub link-known : (empty : Bool) (bytes own text : List ℕ) (address given : Option (List ℕ)) → IsUtf8 bytes → bytes ≡ own → empty ≡ (length bytes == 0)
    → chars own ≡ text → (empty ≡ true → given ≡ None) → (empty ≡ false → given ≡ address) → given ≡ link_for address text
link-known true bytes own text address given utf8 same is spelled none some =
    none refl ∙ ap (λ (b : Bool). if b then address else None) (begun-chars true bytes own utf8 same is ∙ ap (λ (cs : List ℕ). nat_lt 0 (length cs)) spelled)
link-known false bytes own text address given utf8 same is spelled none some =
    some refl ∙ ap (λ (b : Bool). if b then address else None) (begun-chars false bytes own utf8 same is ∙ ap (λ (cs : List ℕ). nat_lt 0 (length cs)) spelled)

-- the bracket and the id, with its link, are the form of an id, on success
pub id-added : {T E : Type 0} (r : Result T E) (old one new : List FormPiece) (hyperlink hidden : Bool) (role : ElementStyle) (id : Id)
    (text before shown : List ℕ) (address : Option (List ℕ)) → option_map cow_str_bytes id.id ≡ Some text → before ≡ before_id hidden
    → shown ≡ norm (chars text) → address ≡ link_for (address_of hyperlink id) (norm (chars text)) → one ≡ old ++ bare before
    → OnOk r (new ≡ one ++ Styled role address shown ∷ []) → OnOk r (new ≡ old ++ id_form hyperlink hidden role (Some id))
id-added r old one new hyperlink hidden role id text before shown address is led shows known first second = grind (arith, added-two-on_ok)

-- ---- the columns

width_of-two : (xs ys : List ℕ) → width_of (xs ++ ys) ≡ width_of xs + width_of ys
width_of-two xs ys = sum_by-append char_width xs ys

-- a name that isn't hidden is as wide as what stands before it and itself
pub name-width : (hidden : Bool) (before text : List ℕ) (one two : ℕ) → hidden ≡ false → one ≡ width_of before → two ≡ width_of text
    → one + two ≡ (if hidden then 0 else width_of (before ++ norm text))
name-width true before text one two is first second = cc
name-width false before text one two is first second =
    omega (arith, first, second, width_of-two before (norm text), width_of-norm text)

-- an id is as wide as what stands before it and itself
pub id-width : (hidden : Bool) (id : Id) (before text : List ℕ) (one two : ℕ) → option_map cow_str_bytes id.id ≡ Some text → before ≡ before_id hidden
    → one ≡ width_of before → two ≡ width_of (chars text) → one + two ≡ width_of (label_of_id hidden (Some id))
id-width hidden id before text one two is led first second = grind (arith, width_of-two, width_of-norm)

width_of-shown_if : (hidden : Bool) (name : List ℕ) → (if hidden then 0 else width_of name) ≡ width_of (if hidden then [] else name)
width_of-shown_if true name = refl
width_of-shown_if false name = refl

-- a label is as wide as its name, its id and its colon
pub width_of-label : (kind : HeadingKind) (known level : Level) (hidden : Bool) (owned id set : Option Id) (name shown colon : ℕ) (colons : List ℕ)
    → level ≡ known → hidden ≡ is_hidden known.name → id ≡ owned → set ≡ owned
    → name ≡ (if is_hidden level.name then 0 else width_of (before_name kind ++ norm (chars (name_of level))))
    → shown ≡ width_of (label_of_id hidden id) → colons ≡ colon_of hidden set → colon ≡ width_of colons
    → name + shown + colon ≡ width_of
    ((if is_hidden known.name then [] else before_name kind ++ norm (chars (name_of known)))
    ++ (label_of_id (is_hidden known.name) owned ++ colon_of (is_hidden known.name) owned))
width_of-label kind known level hidden owned id set name shown colon colons leveled hides own is_set named identified spelled measured =
    grind (arith, width_of-shown_if, width_of-two, known.name)

-- ---- the whole heading

-- a label and its lines are the form of a heading, on success
pub heading-added : {T E : Type 0} (r : Result T E) (old one two new : List FormPiece) (hyperlink : Bool) (kind : HeadingKind) (heading : Heading)
    (level : Level) (trusted : Bool) (roles : HeadingRoles) (width : ℕ) → level ≡ heading.level → trusted ≡ heading.allows_styling
    → roles ≡ text_roles_of kind level.kind trusted → width ≡ width_of (heading_label kind heading) → one ≡ old ++ Break ∷ []
    → two ≡ one ++ label_form hyperlink kind roles heading → OnOk r (new ≡ two ++ lines_form roles.text width (heading_lines heading))
    → OnOk r (new ≡ old ++ heading_form hyperlink kind heading)
unfolding heading_form
heading-added r old one two new hyperlink kind heading level trusted roles width leveled trusts are wide first second third =
    grind (arith, common_steps, on_ok_weaker, added-two, roles.text, heading.level.kind, heading.allows_styling)
