-- The place of a column on a line with a tab, a letter of two bytes, and two wide characters, by what columns count:
--
--     <tab>é日😀x
use Rattle.std.proofs.Common.{◌≡◌, ◌∷◌, [], List, ℕ, true, false, refl}
use Rattle.snippet_lines.specs.declared.clamp.Place.{Place}
use Rattle.snippet_text.specs.Width.{char_width}
use Rattle.snippet_text.proofs.WidthLemmas.{unicode_width}
use Rattle.redraw_report.specs.Region.{column_in}
use Rattle.redraw_report.specs.declared.diagnostic.Unit.TheVariants.{Utf16, CodePoints, Bytes, Display}

abbrev line : List ℕ
line = 9 ∷ 195 ∷ 169 ∷ 230 ∷ 151 ∷ 165 ∷ 240 ∷ 159 ∷ 152 ∷ 128 ∷ 120 ∷ []

-- the `x` is in column 6 of UTF-16, 5 of characters, 11 of bytes and 14 of a terminal: the tab takes eight, the letter one, and the
-- wide ones two each
pub by_units : column_in Utf16 line 6 ≡ record { byte = 10; exact = true }
by_units = refl

pub by_characters : column_in CodePoints line 5 ≡ record { byte = 10; exact = true }
by_characters = refl

pub by_bytes : column_in Bytes line 11 ≡ record { byte = 10; exact = true }
by_bytes = refl

pub by_columns : column_in Display line 14 ≡ record { byte = 10; exact = true }
unfolding char_width unicode_width
by_columns = refl

-- column 3 is inside of the tab, and column 11 inside of the first wide character
pub within_tab : column_in Display line 3 ≡ record { byte = 0; exact = false }
unfolding char_width unicode_width
within_tab = refl

pub within_wide : column_in Display line 11 ≡ record { byte = 3; exact = false }
unfolding char_width unicode_width
within_wide = refl
