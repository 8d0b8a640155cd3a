-- A glyph that is repeated.
use Rattle.snippet_strokes.proofs.Common.{◌≡◌, ℕ, zero, suc, ◌+◌, ◌<◌, List, [], ◌∷◌, ◌++◌, length, replicate, refl, sym, ap}
use Rattle.snippet_strokes.proofs.Common.{◌∙◌, arith, get_or-replicate, length-replicate, replicate-append-replicate, chars_from_encodes, chars-nil}
use Rattle.snippet_strokes.proofs.Common.{IsAscii-from_all, repeat, IsAscii, encode_utf8, Cell, text_cells, unlinked_cell, ElementStyle}
use Rattle.std.specs.Str.{chars, IsUtf8}
use Rattle.std.specs.Prelude.{encode_utf8_all}

encodes-replicate : (n ch : ℕ) → encode_utf8_all (replicate n ch) ≡ repeat n (encode_utf8 ch)
encodes-replicate zero ch = refl
encodes-replicate (suc n) ch = ap (λ (t : List ℕ). encode_utf8 ch ++ t) (encodes-replicate n ch)

-- the characters of a glyph that is repeated
pub chars-repeat : (n ch : ℕ) (bs : List ℕ) → IsUtf8 bs → bs ≡ repeat n (encode_utf8 ch) → chars bs ≡ replicate n ch
chars-repeat n ch bs whole is = sym (chars_from_encodes (replicate n ch) bs whole (encodes-replicate n ch ∙ sym is))

-- the cells that they are drawn in
pub text_cells-replicate : (role : ElementStyle) (n ch : ℕ) → text_cells role (replicate n ch) ≡ replicate n (unlinked_cell role ch)
text_cells-replicate role zero ch = refl
text_cells-replicate role (suc n) ch = ap (λ (cells : List Cell). unlinked_cell role ch ∷ cells) (text_cells-replicate role n ch)

-- a text with characters has bytes
pub some_bytes : (bs : List ℕ) (n ch : ℕ) → chars bs ≡ replicate n ch → 0 < n → 0 < length bs
some_bytes [] n ch is some = absurd (omega (arith, ap length (sym chars-nil ∙ is), length-replicate n ch))
some_bytes (b ∷ bs) n ch is some = omega arith

-- a glyph of ASCII, repeated
pub IsAscii-replicate : (n ch : ℕ) → ch < 128 → IsAscii (replicate n ch)
IsAscii-replicate n ch small = grind (arith, IsAscii-from_all, get_or-replicate, length-replicate)

-- more of the same glyph
pub glyphs_more : (old new added : List ℕ) (glyph m n all : ℕ) → m + n ≡ all → old ≡ replicate m glyph → added ≡ replicate n glyph → new ≡ old ++ added
    → new ≡ replicate all glyph
glyphs_more old new added glyph m n all sum had more pushed =
    pushed ∙ ap (λ t. t ++ added) had ∙ ap (λ t. replicate m glyph ++ t) more ∙ replicate-append-replicate m n glyph ∙ ap (λ k. replicate k glyph) sum
