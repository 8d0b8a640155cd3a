-- The text form before any sheet, and what is woven of it under a sheet.
use Rattle.std.specs.Prelude.{ℕ, nat_lt, Bool, true, false, ◌||◌, List, [], ◌∷◌, ◌++◌, Option, None, Some, length, map}
use Rattle.std.specs.Prelude.{if◌then◌else◌}
use Rattle.std.specs.List.{flat_map}
use Rattle.snippet_style.specs.Stylesheet.{style_of}
use Rattle.snippet_grid.specs.Woven as woven
use Rattle.snippet_style.specs.declared.role.ElementStyle.{ElementStyle}
use Rattle.snippet_style.specs.declared.role.LevelInner.TheVariants.{Note}
use Rattle.snippet_style.specs.declared.style.Style.{Style}
use Rattle.snippet_style.specs.declared.stylesheet.Stylesheet.{Stylesheet}

-- one piece of the text form: a character; a line feed, which is left out where no text stands before it; or a text in the
-- style of a role, which may link to an address
pub data FormPiece : Type 0 where
  Char : (ch : ℕ) → FormPiece
  Break : FormPiece
  Styled : (role : ElementStyle) → (link : Option (List ℕ)) → (text : List ℕ) → FormPiece

-- a text without codes
abbrev pub bare : List ℕ → List FormPiece
bare text = map (λ ch. Char ch) text

-- a text in the style of a role, without a link
abbrev pub styled : ElementStyle → List ℕ → List FormPiece
styled role text = Styled role None text ∷ []

-- whether text stands before what is after this one, given whether it stands before it
abbrev pub begun_after : Bool → List ℕ → Bool
begun_after begun text = begun || nat_lt 0 (length text)

-- the plain characters of a text form; `begun` says whether text stands before it
abbrev pub plain_from : Bool → List FormPiece → List ℕ
plain_from begun [] = []
plain_from begun (Char ch ∷ ps) = ch ∷ plain_from true ps
plain_from begun (Break ∷ ps) = if begun then 10 ∷ plain_from true ps else plain_from false ps
plain_from begun (Styled role link text ∷ ps) = text ++ plain_from (begun_after begun text) ps

-- the plain characters of a whole one
abbrev pub form_text : List FormPiece → List ℕ
form_text form = plain_from false form

-- these pieces of a woven text, inside the codes of a link, if there is one
abbrev pub inside_link : Option (List ℕ) → List woven.Piece → List woven.Piece
inside_link None ps = ps
inside_link (Some url) ps = woven.LinkTo url ∷ ps ++ woven.LinkEnd ∷ []

-- a text in a style, which is opened before it and reset after it
abbrev pub in_style : Style → Option (List ℕ) → List ℕ → List woven.Piece
in_style style link text =
    woven.Opening style ∷ inside_link link (map (λ ch. woven.Char ch) text) ++ woven.Reset style ∷ []

-- the style of a role under a sheet. Which level the group has is nothing to a role of this form
abbrev pub role_style : Stylesheet → ElementStyle → Style
role_style sheet role = style_of sheet Note role

-- the pieces of a text form woven under a sheet; `begun` says whether text stands before it
abbrev pub woven_from : Stylesheet → Bool → List FormPiece → List woven.Piece
woven_from sheet begun [] = []
woven_from sheet begun (Char ch ∷ ps) = woven.Char ch ∷ woven_from sheet true ps
woven_from sheet begun (Break ∷ ps) =
    if begun then woven.Char 10 ∷ woven_from sheet true ps else woven_from sheet false ps
woven_from sheet begun (Styled role link text ∷ ps) =
    in_style (role_style sheet role) link text ++ woven_from sheet (begun_after begun text) ps

-- the text that prints a text form under a sheet
abbrev pub form_bytes : Stylesheet → List FormPiece → List ℕ
form_bytes sheet form = flat_map woven.piece_text (woven_from sheet false form)
