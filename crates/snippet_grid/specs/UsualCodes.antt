-- The codes of the styles that most sheets have.
use Rattle.std.specs.Prelude.{◌≡◌, ℕ, List, true, false}
use Rattle.snippet_grid.specs.SheetCodes.{opening_bytes}
use Rattle.snippet_grid.specs.declared.usual_codes.StyleCode.{StyleCode}
use Rattle.snippet_grid.specs.declared.usual_codes.StyleCode.TheVariants.{Nothing, Usual, Other}
use Rattle.snippet_grid.specs.declared.usual_codes.UsualCode.{UsualCode}
use Rattle.snippet_grid.specs.declared.usual_codes.UsualCode.TheVariants.{Bold, Color, BoldColor}
use Rattle.snippet_style.specs.Style.{colored, emboldened, is_plain_style, plain_style}
use Rattle.snippet_style.specs.declared.style.Style.{Style}

-- the bytes of such a code: it opens bold type, a colour, or both
abbrev pub usual_bytes : UsualCode → List ℕ
usual_bytes Bold = opening_bytes (emboldened plain_style)
usual_bytes (Color c) = opening_bytes (colored c)
usual_bytes (BoldColor c) = opening_bytes (emboldened (colored c))

-- what opens a style: nothing where it is plain, and else a code, which is the style's own where it is a usual one
abbrev pub IsCodeOf : StyleCode → Style → Type 0
IsCodeOf Nothing s = is_plain_style s ≡ true
IsCodeOf (Usual code) s = (is_plain_style s ≡ false) × (usual_bytes code ≡ opening_bytes s)
IsCodeOf Other s = is_plain_style s ≡ false
