-- The characters of what stands in a heading's rows beside its texts.
use Rattle.snippet_titles.proofs.Common.{◌≡◌, ◌∷◌, [], Bool, true, false, Option, codes, refl, chars-encodes, chars-nil, Id, colon_of, is_set}
use Rattle.std.proofs.Common.{chars}

-- a colon and a space, and brackets
pub chars-colon : chars (58 ∷ 32 ∷ []) ≡ codes ": "
unfolding lib.Utf8.encode
chars-colon = chars-encodes (codes ": ") refl

-- the characters of the bytes that the code writes for `[`
pub chars-opening : chars (91 ∷ []) ≡ codes "["
unfolding lib.Utf8.encode
chars-opening = chars-encodes (codes "[") refl

-- the characters of the bytes that the code writes for `]`
pub chars-closing : chars (93 ∷ []) ≡ codes "]"
unfolding lib.Utf8.encode
chars-closing = chars-encodes (codes "]") refl

-- what stands between the label and the text, by cases
pub colon_none : (hidden : Bool) (id : Option Id) → hidden ≡ true → is_set id ≡ false → chars [] ≡ colon_of hidden id
colon_none hidden id is unset = rw (is, unset) chars-nil

-- a label that isn't hidden has its colon
pub colon_named : (hidden : Bool) (id : Option Id) → hidden ≡ false → chars (58 ∷ 32 ∷ []) ≡ colon_of hidden id
colon_named hidden id is = rw is chars-colon

-- a label with an id has its colon
pub colon_set : (hidden : Bool) (id : Option Id) → is_set id ≡ true → chars (58 ∷ 32 ∷ []) ≡ colon_of hidden id
colon_set true id set = rw set chars-colon
colon_set false id set = chars-colon
