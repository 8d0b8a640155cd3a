-- A sheet's styles in order, and the bytes of the code that opens a style.
use Rattle.std.specs.Prelude.{ℕ, List, [], ◌∷◌, encode_utf8_all, slice_index_or}
use Rattle.snippet_style.specs.Codes.{opening}
use Rattle.snippet_style.specs.declared.style.Style.{Style}
use Rattle.snippet_style.specs.declared.stylesheet.Stylesheet.{Stylesheet}

-- the styles of a sheet, in the order of its fields
abbrev pub styles_in : Stylesheet → List Style
styles_in s =
    s.error ∷ s.warning ∷ s.info ∷ s.note ∷ s.help ∷ s.line_num ∷ s.emphasis ∷ s.none ∷ s.context ∷ s.addition ∷ s.removal ∷ []

-- the style at a place among them
abbrev pub style_at : Stylesheet → ℕ → Style
style_at s place = slice_index_or (styles_in s) place s.none

-- the bytes of the code that opens a style
abbrev pub opening_bytes : Style → List ℕ
opening_bytes style = encode_utf8_all (opening style)
