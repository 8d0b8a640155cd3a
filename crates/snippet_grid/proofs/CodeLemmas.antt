-- Codes of which one more is made.
use Rattle.snippet_grid.proofs.Common.{common_steps, ◌≡◌, ◌≢◌, ℕ, ◌<◌, arith, Bool, true, false, if◌then◌else◌, List, [], ◌∷◌, ◌++◌, Option, length, zero, suc}
use Rattle.snippet_grid.proofs.Common.{get_or, refl, sym, ap, ◌∙◌, subst, encode_utf8_all, AllZip, IsCodeOf, StyleCode, Nothing, Usual, Other, opening_bytes}
use Rattle.snippet_grid.proofs.Common.{style_at, styles_in, code, color_code, effect_code, reset, is_plain_style, no_effects, plain_style, Color, Effects}
use Rattle.snippet_grid.proofs.Common.{encode-opening, reset-bytes, bold-alone, plain_is_plain, Style, Stylesheet}
use Rattle.std.proofs.Common.{append-nil}
use Rattle.std.specs.Prelude.{codes}

-- what opens each of some styles, place by place
zipped : (codes : List StyleCode) (styles : List Style) (i : ℕ) (c : StyleCode) (s : Style) → AllZip IsCodeOf codes styles → i < length styles
    → IsCodeOf (get_or codes i c) (get_or styles i s)
zipped codes [] i c s are within = absurd (omega (arith, within))
zipped [] (y ∷ styles) i c s are within = absurd are
zipped (x ∷ codes) (y ∷ styles) zero c s are within = are.0
zipped (x ∷ codes) (y ∷ styles) (suc i) c s are within = zipped codes styles i c s are.1 (omega (arith, within))

-- what opens the style at a place stands there
pub code_read : (codes : List StyleCode) (c : StyleCode) (sheet seen : Stylesheet) (i : ℕ) → AllZip IsCodeOf codes (styles_in sheet) → i < 11 → sheet ≡ seen
    → IsCodeOf (get_or codes i c) (style_at seen i)
code_read codes c sheet seen i are within same =
    subst (λ (s : Stylesheet). IsCodeOf (get_or codes i c) (style_at s i)) same (zipped codes (styles_in sheet) i c sheet.none are within)

-- what nothing opens is plain
pub plain_from_code : (c : StyleCode) (s : Style) → IsCodeOf c s → c ≡ Nothing → true ≡ is_plain_style s
plain_from_code Nothing s is none = sym is
plain_from_code (Usual code) s is none = cc none
plain_from_code Other s is none = cc none

-- and nothing else is
pub styled_from_code : (c : StyleCode) (s : Style) → IsCodeOf c s → c ≢ Nothing → false ≡ is_plain_style s
styled_from_code Nothing s is some = absurd (some refl)
styled_from_code (Usual code) s is some = sym is.0
styled_from_code Other s is some = sym is

-- nothing switches a plain style off
pub reset_plain : (s : Style) (old : List ℕ) → is_plain_style s ≡ true → old ≡ old ++ encode_utf8_all (reset s)
reset_plain s old plain =
    sym (ap (λ (style : Style). old ++ encode_utf8_all (reset style)) (plain_is_plain s plain) ∙ append-nil old)

-- one code switches any other off
pub reset_styled : (s : Style) → is_plain_style s ≡ false → 27 ∷ 91 ∷ 48 ∷ 109 ∷ [] ≡ encode_utf8_all (reset s)
reset_styled s styled = sym (reset-bytes s ∙ ap (λ (b : Bool). if b then [] else code (codes "0")) styled)

-- the style with this foreground colour, in bold type or not, that has nothing else, and its effects
abbrev bold_effects : Bool → Effects
bold_effects bold = record no_effects { bold = bold }

abbrev style_with : Bool → Option Color → Style
style_with bold fg = record plain_style { fg = fg; effects = bold_effects bold }

-- the code of such a style is that of bold type and that of the colour
pub usual_text : (s : Style) (text : List ℕ) → s ≡ style_with s.effects.bold s.fg
    → text ≡ effect_code s.effects.bold 1 ++ color_code 0 (codes "38") s.fg → text ≡ opening_bytes s
usual_text s text same is = grind (arith, common_steps, s.effects.bold, s.fg, bold-alone, encode-opening)
