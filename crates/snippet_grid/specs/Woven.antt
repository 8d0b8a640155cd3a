-- Woven texts: plain characters, with the codes of styles and links between them.
use Rattle.std.specs.Prelude.{◌≡◌, ◌≢◌, ◌⊎◌, ℕ, Bool, true, false, if◌then◌else◌, nat_eq, List, [], ◌∷◌, ◌++◌, Option, None, Some, All, encode_utf8}
use Rattle.std.specs.Prelude.{encode_utf8_all, map}
use Rattle.std.specs.List.{AllZip, flat_map, join_with_byte}
use lib.Pointwise.{pointwise}
use Rattle.snippet_style.specs.Codes.{opening, reset}
use Rattle.snippet_style.specs.Cell.{Cell}
use Rattle.snippet_style.specs.Stylesheet.{style_of}
use Rattle.snippet_style.specs.declared.role.ElementStyle.{ElementStyle}
use Rattle.snippet_style.specs.declared.role.LevelInner.{LevelInner}
use Rattle.snippet_style.specs.declared.style.Style.{Style}
use Rattle.snippet_style.specs.declared.stylesheet.Stylesheet.{Stylesheet}

-- one piece of a woven text
pub data Piece : Type 0 where
  -- a character of the plain text
  Char : (ch : ℕ) → Piece
  -- the code that opens a style, and the code that switches it off
  Opening : (style : Style) → Piece
  Reset : (style : Style) → Piece
  -- the code that begins a link to a URL, whose bytes these are, and the code that ends a link
  LinkTo : (url : List ℕ) → Piece
  LinkEnd : Piece

-- U+001B `]8;;`, the bytes in common of the codes of links, and U+001B `\`, which ends them
abbrev pub link_start : List ℕ
link_start = 27 ∷ 93 ∷ 56 ∷ 59 ∷ 59 ∷ []

abbrev pub link_stop : List ℕ
link_stop = 27 ∷ 92 ∷ []

-- the bytes of a piece
abbrev pub piece_text : Piece → List ℕ
piece_text (Char ch) = encode_utf8 ch
piece_text (Opening style) = encode_utf8_all (opening style)
piece_text (Reset style) = encode_utf8_all (reset style)
piece_text (LinkTo url) = link_start ++ url ++ link_stop
piece_text LinkEnd = link_start ++ link_stop

-- the plain characters of a piece
abbrev pub plain_piece : Piece → List ℕ
plain_piece (Char ch) = ch ∷ []
plain_piece other = []

-- the URL of a piece that is a link code
abbrev pub piece_link : Piece → List (List ℕ)
piece_link (LinkTo url) = url ∷ []
piece_link other = []

-- the style of the first of some cells under a sheet, in a group of this level
abbrev pub next_style : Stylesheet → LevelInner → List Cell → Option Style
next_style sheet level [] = None
next_style sheet level (cell ∷ cells) = Some (style_of sheet level cell.role)

-- the link of the first of some cells
abbrev pub next_link : List Cell → Option (List ℕ)
next_link [] = None
next_link (cell ∷ cells) = cell.link

-- these pieces print these cells from a place on at which this style and this link are open, if any is
abbrev pub PrintsCells : Stylesheet → LevelInner → Option Style → Option (List ℕ) → List Piece → List Cell → Type 0
-- at the end no cell is left, and nothing is open
PrintsCells sheet level style link [] cells = (cells ≡ []) × (style ≡ None) × (link ≡ None)
-- a character is that of the next cell, whose style and link are open
PrintsCells sheet level style link (Char ch ∷ ps) cells =
    (cell : Cell) × (rest : List Cell) × (cells ≡ cell ∷ rest) × (ch ≡ cell.ch) × (style ≡ Some (style_of sheet level cell.role)) × (link ≡ cell.link)
    × PrintsCells sheet level style link ps rest
-- a style opens where none is open, for the next cell
PrintsCells sheet level style link (Opening new ∷ ps) cells =
    (style ≡ None) × (next_style sheet level cells ≡ Some new) × PrintsCells sheet level (Some new) link ps cells
-- a style is reset where it is open and the next cell has another; a link that ends there was ended before
PrintsCells sheet level style link (Reset old ∷ ps) cells =
    (style ≡ Some old) × (next_style sheet level cells ≢ Some old) × ((link ≡ None) ⊎ (link ≡ next_link cells)) × PrintsCells sheet level None link ps cells
-- a link begins where none is open, for the next cell, whose style is open
PrintsCells sheet level style link (LinkTo url ∷ ps) cells =
    (link ≡ None) × (next_link cells ≡ Some url) × (style ≡ next_style sheet level cells) × PrintsCells sheet level style (Some url) ps cells
-- a link ends where it is open and the next cell has another or none, before any style is reset there
PrintsCells sheet level style link (LinkEnd ∷ ps) cells =
    (link ≢ None) × (link ≢ next_link cells) × (style ≢ None) × PrintsCells sheet level style None ps cells

-- these pieces print a row: the style `none`, and no link, are open where it begins
abbrev pub PrintsRow : Stylesheet → LevelInner → List Piece → List Cell → Type 0
PrintsRow sheet level pieces row = PrintsCells sheet level (Some sheet.none) None pieces row

-- the text is a grid's rows, joined by line feeds, each of which such pieces print under a sheet in a group of this level
pub record Prints (sheet : Stylesheet) (level : LevelInner) (rows : List (List Cell)) (text : List ℕ) : Type 0 where
  pub lines : List (List Piece)
  pub text_is : text ≡ join_with_byte 10 (map (flat_map piece_text) lines)
  pub prints : AllZip (PrintsRow sheet level) lines rows

-- the style is one that the sheet gives to some role
pub record IsStyleOf (sheet : Stylesheet) (style : Style) : Type 0 where
  pub level : LevelInner
  pub role : ElementStyle
  pub is : style ≡ style_of sheet level role

-- a piece opens and resets styles of the sheet alone
abbrev pub IsOfSheet : Stylesheet → Piece → Type 0
IsOfSheet sheet (Opening style) = IsStyleOf sheet style
IsOfSheet sheet (Reset style) = IsStyleOf sheet style
IsOfSheet sheet other = Unit {0}

-- each link begins where none is open and is ended, before the next one and before the end; `inside` says whether one is
-- open before the first piece
abbrev pub AreLinksEnded : (inside : Bool) → List Piece → Type 0
AreLinksEnded inside [] = inside ≡ false
AreLinksEnded inside (LinkTo url ∷ ps) = (inside ≡ false) × AreLinksEnded true ps
AreLinksEnded inside (LinkEnd ∷ ps) = (inside ≡ true) × AreLinksEnded false ps
AreLinksEnded inside (other ∷ ps) = AreLinksEnded inside ps

-- a woven text under a sheet, with its plain text, in characters, and the URLs of its links, in order
pub record IsWoven (sheet : Stylesheet) (text plain : List ℕ) (links : List (List ℕ)) : Type 0 where
  pub pieces : List Piece
  pub text_is : text ≡ flat_map piece_text pieces
  pub plain_is : plain ≡ flat_map plain_piece pieces
  pub links_are : links ≡ flat_map piece_link pieces
  pub of_sheet : All (λ p. IsOfSheet sheet p) pieces
  pub ended : AreLinksEnded false pieces

-- the URL of a link that begins after one that is open: none where it is the same one
abbrev pub link_begun : Option (List ℕ) → Option (List ℕ) → List (List ℕ)
link_begun last None = []
link_begun None (Some url) = url ∷ []
link_begun (Some last) (Some url) = if pointwise nat_eq last url then [] else url ∷ []

-- the URLs of the linked runs of some cells, in order, where a run is of neighbours with one URL; `last` is the link of
-- the cell before
abbrev pub links_after : Option (List ℕ) → List Cell → List (List ℕ)
links_after last [] = []
links_after last (cell ∷ cells) = link_begun last cell.link ++ links_after cell.link cells

-- the URLs of the linked runs of a grid, row by row
abbrev pub links_of : List (List Cell) → List (List ℕ)
links_of rows = flat_map (λ row. links_after None row) rows
