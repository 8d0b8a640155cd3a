-- The characters of texts that the library itself writes.
use Rattle.snippet_text_form.proofs.Common.{◌≡◌, ◌∷◌, [], codes, refl, chars-encodes}
use Rattle.std.proofs.Common.{chars}

-- the characters of the bytes that the code writes for a space
pub chars-space : chars (32 ∷ []) ≡ codes " "
unfolding lib.Utf8.encode
chars-space = chars-encodes (codes " ") refl

-- the characters of the bytes that the code writes for a line feed
pub chars-feed : chars (10 ∷ []) ≡ 10 ∷ []
unfolding lib.Utf8.encode
chars-feed = chars-encodes (10 ∷ []) refl

-- of a place
pub chars-place : chars (97 ∷ 116 ∷ 32 ∷ []) ≡ codes "at "
unfolding lib.Utf8.encode
chars-place = chars-encodes (codes "at ") refl

-- the characters of the bytes that the code writes for `:`
pub chars-after : chars (58 ∷ []) ≡ codes ":"
unfolding lib.Utf8.encode
chars-after = chars-encodes (codes ":") refl

-- the characters of the bytes that the code writes for `on line `
pub chars-on_line : chars (111 ∷ 110 ∷ 32 ∷ 108 ∷ 105 ∷ 110 ∷ 101 ∷ 32 ∷ []) ≡ codes "on line "
unfolding lib.Utf8.encode
chars-on_line = chars-encodes (codes "on line ") refl

-- the characters of the bytes that the code writes for ` to line `
pub chars-to_line : chars (32 ∷ 116 ∷ 111 ∷ 32 ∷ 108 ∷ 105 ∷ 110 ∷ 101 ∷ 32 ∷ []) ≡ codes " to line "
unfolding lib.Utf8.encode
chars-to_line = chars-encodes (codes " to line ") refl

-- the characters of the bytes that the code writes for ` to column `
pub chars-to_column : chars (32 ∷ 116 ∷ 111 ∷ 32 ∷ 99 ∷ 111 ∷ 108 ∷ 117 ∷ 109 ∷ 110 ∷ 32 ∷ []) ≡ codes " to column "
unfolding lib.Utf8.encode
chars-to_column = chars-encodes (codes " to column ") refl

-- the characters of the bytes that the code writes for `, column `
pub chars-column : chars (44 ∷ 32 ∷ 99 ∷ 111 ∷ 108 ∷ 117 ∷ 109 ∷ 110 ∷ 32 ∷ []) ≡ codes ", column "
unfolding lib.Utf8.encode
chars-column = chars-encodes (codes ", column ") refl

-- an anonymized line
pub chars-anonymized : chars (76 ∷ 76 ∷ []) ≡ codes "LL"
unfolding lib.Utf8.encode
chars-anonymized = chars-encodes (codes "LL") refl
