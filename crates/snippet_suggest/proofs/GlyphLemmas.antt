-- The characters of the glyphs of suggestions, and what is known of each.
use Rattle.snippet_suggest.proofs.Common.{Bool, ◌≡◌, ◌≤◌, true, false, length, arith, is_ascii_alphanumeric, list_all, list_any, slice_index_or}
use Rattle.snippet_suggest.proofs.Common.{DecorStyle, SuggestionGlyph, Leading, Closing, Kept, Alone, Changed, Added, is_listed, removed_sign_of}
use Rattle.snippet_suggest.proofs.Common.{suggestion_glyph_of, IsSign, is_stroke, common_steps}
use Rattle.snippet_style.specs.declared.glyphs.SuggestionGlyph.TheVariants.{Opening, Next}

-- the sign of a removed line has two characters
pub removed_sign_short : (decor : DecorStyle) → length (removed_sign_of decor) ≤ 2
removed_sign_short decor = omega arith

-- whether a glyph stands beside a line
abbrev pub is_sign : SuggestionGlyph → Bool
is_sign Opening = false
is_sign Next = false
is_sign Leading = false
is_sign Closing = false
is_sign Kept = true
is_sign Alone = true
is_sign Changed = true
is_sign Added = true

-- each has a character or two
pub glyph_short : (decor : DecorStyle) (glyph : SuggestionGlyph) → length (suggestion_glyph_of decor glyph) ≤ 2
glyph_short x y = grind (arith, common_steps)

-- none is listed
pub glyph_unlisted : (decor : DecorStyle) (glyph : SuggestionGlyph) → list_any is_listed (suggestion_glyph_of decor glyph) ≡ false
glyph_unlisted x y = grind (arith, common_steps)

-- none holds a letter or digit
pub glyph_plain : (decor : DecorStyle) (glyph : SuggestionGlyph) → list_any is_ascii_alphanumeric (suggestion_glyph_of decor glyph) ≡ false
glyph_plain x y = grind (arith, common_steps)

-- those that no line has stand left of the lines
pub glyph_strokes : (decor : DecorStyle) (glyph : SuggestionGlyph) → is_sign glyph ≡ false → list_all (is_stroke decor) (suggestion_glyph_of decor glyph) ≡ true
glyph_strokes x y z = grind (arith, common_steps)

-- a sign begins with what may stand beside a line, and a space stands after that
pub sign_first : (decor : DecorStyle) (glyph : SuggestionGlyph) → is_sign glyph ≡ true → IsSign decor (slice_index_or (suggestion_glyph_of decor glyph) 0 32)
sign_first x y z = grind (arith, common_steps)

-- the second character of a sign is a space
pub sign_second : (decor : DecorStyle) (glyph : SuggestionGlyph) → is_sign glyph ≡ true → slice_index_or (suggestion_glyph_of decor glyph) 1 32 ≡ 32
sign_second x y z = grind (arith, common_steps)
