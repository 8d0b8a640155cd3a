-- The rows of a grid as HTML: their characters, escaped, with tags between them.
use Rattle.std.specs.Prelude.{◌≡◌, ℕ, ◌&&◌, nat_eq, Bool, if◌then◌else◌, List, [], ◌∷◌, ◌++◌, Option, None, Some, codes, encode_utf8_all}
use Rattle.std.specs.List.{flat_map}
use Rattle.std.specs.Str.{chars}
use lib.Pointwise.{pointwise}
use Rattle.snippet_style.specs.Cell.{Cell}
use Rattle.snippet_text.specs.LinkAddress.{is_link_address}
use Rattle.snippet_style.specs.declared.role.ElementStyle.{ElementStyle}
use Rattle.snippet_style.specs.declared.role.ElementStyle.TheVariants.{MainHeaderMsg, HeaderMsg, LineAndColumn, Quotation, NoStyle, LineNumber}
use Rattle.snippet_style.specs.declared.role.ElementStyle.TheVariants.{UnderlinePrimary, LabelPrimary, UnderlineSecondary, LabelSecondary, Level, Addition}
use Rattle.snippet_style.specs.declared.role.ElementStyle.TheVariants.{Removal}
use Rattle.snippet_style.specs.declared.role.LevelInner.{LevelInner}
use Rattle.snippet_style.specs.declared.role.LevelInner.TheVariants.{Error, Warning, Info, Note, Help}

-- ---- what stands for a character

-- a character that HTML gives a meaning stands as an escape, any other as itself
abbrev pub escape : ℕ → List ℕ
escape ch =
    if nat_eq ch 38 then codes "&amp;"
    else if nat_eq ch 60 then codes "&lt;"
    else if nat_eq ch 62 then codes "&gt;"
    else if nat_eq ch 34 then codes "&quot;"
    else if nat_eq ch 39 then codes "&#39;"
    else ch ∷ []

-- characters, escaped
abbrev pub escaped : List ℕ → List ℕ
escaped text = flat_map escape text

-- ---- classes

-- the class of a level
abbrev pub level_class : LevelInner → List ℕ
level_class Error = codes "snippet-error"
level_class Warning = codes "snippet-warning"
level_class Info = codes "snippet-info"
level_class Note = codes "snippet-note"
level_class Help = codes "snippet-help"

-- the class of a role in a group of this level, by the style that a sheet gives it; empty for what has no style of its own
abbrev pub class_of : LevelInner → ElementStyle → List ℕ
class_of level MainHeaderMsg = codes "snippet-emphasis"
class_of level HeaderMsg = []
class_of level LineAndColumn = []
class_of level Quotation = []
class_of level NoStyle = []
class_of level LineNumber = codes "snippet-line-number"
class_of level UnderlinePrimary = level_class level
class_of level LabelPrimary = level_class level
class_of level UnderlineSecondary = codes "snippet-context"
class_of level LabelSecondary = codes "snippet-context"
class_of level (Level own) = level_class own
class_of level Addition = codes "snippet-addition"
class_of level Removal = codes "snippet-removal"

-- ---- links

-- the address that a link leads to in HTML; empty where it leads nowhere
abbrev pub link_address : Option (List ℕ) → List ℕ
link_address None = []
link_address (Some address) = if is_link_address address then address else []

-- ---- rows

-- what a cell stands in: the class of its role, and the address that it links to. Each is empty where there is none
pub record HtmlLook : Type 0 where
  pub class : List ℕ
  pub address : List ℕ

abbrev pub plain_look : HtmlLook
plain_look = record { class = []; address = [] }

abbrev pub look_at : LevelInner → ElementStyle → Option (List ℕ) → HtmlLook
look_at level role link = record { class = class_of level role; address = link_address link }

-- the class and the address of a link that a cell is shown with, in a group of this level
abbrev pub html_look_of : LevelInner → Cell → HtmlLook
html_look_of level cell = look_at level cell.role cell.link

abbrev pub same_html_look : HtmlLook → HtmlLook → Bool
same_html_look a b = pointwise nat_eq a.class b.class && pointwise nat_eq a.address b.address

-- one piece of a text in HTML
pub data HtmlPiece : Type 0 where
  -- a character of the page
  Text : (ch : ℕ) → HtmlPiece
  -- the tag that begins a stretch of this class, and the one that ends it
  SpanStart : (class : List ℕ) → HtmlPiece
  SpanEnd : HtmlPiece
  -- the tag that begins a link to this address, and the one that ends it
  AnchorStart : (address : List ℕ) → HtmlPiece
  AnchorEnd : HtmlPiece

-- the characters of a piece
abbrev pub piece_html : HtmlPiece → List ℕ
piece_html (Text ch) = escape ch
piece_html (SpanStart class) = codes "<span class=\"" ++ (chars class ++ codes "\">")
piece_html SpanEnd = codes "</span>"
piece_html (AnchorStart address) = codes "<a href=\"" ++ (escaped (chars address) ++ codes "\">")
piece_html AnchorEnd = codes "</a>"

-- the tags that begin what a cell stands in, and those that end it
abbrev pub span_started : List ℕ → List HtmlPiece
span_started [] = []
span_started (c ∷ cs) = SpanStart (c ∷ cs) ∷ []

abbrev pub anchor_started : List ℕ → List HtmlPiece
anchor_started [] = []
anchor_started (c ∷ cs) = AnchorStart (c ∷ cs) ∷ []

abbrev pub span_ended : List ℕ → List HtmlPiece
span_ended [] = []
span_ended (c ∷ cs) = SpanEnd ∷ []

abbrev pub anchor_ended : List ℕ → List HtmlPiece
anchor_ended [] = []
anchor_ended (c ∷ cs) = AnchorEnd ∷ []

abbrev pub started : HtmlLook → List HtmlPiece
started look = span_started look.class ++ anchor_started look.address

abbrev pub ended : HtmlLook → List HtmlPiece
ended look = anchor_ended look.address ++ span_ended look.class

-- the tags between two neighbours: none where they stand in the same
abbrev pub tags_between : HtmlLook → HtmlLook → List HtmlPiece
tags_between last next = if same_html_look last next then [] else ended last ++ started next

-- cells after one that stands in this
abbrev pub cells_html : LevelInner → HtmlLook → List Cell → List HtmlPiece
cells_html level last [] = ended last
cells_html level last (cell ∷ cells) = tags_between last (html_look_of level cell) ++ (Text cell.ch ∷ cells_html level (html_look_of level cell) cells)

-- a row
abbrev pub row_html : LevelInner → List Cell → List HtmlPiece
row_html level row = cells_html level plain_look row

-- rows of which each stands after a line feed, as pieces of HTML
abbrev pub further_html : LevelInner → List (List Cell) → List HtmlPiece
further_html level rows = flat_map (λ row. Text 10 ∷ row_html level row) rows

-- rows joined by line feeds, as pieces of HTML
abbrev pub rows_html : LevelInner → List (List Cell) → List HtmlPiece
rows_html level [] = []
rows_html level (row ∷ rows) = row_html level row ++ further_html level rows

-- the characters of some pieces, and their bytes
abbrev pub html_text : List HtmlPiece → List ℕ
html_text pieces = flat_map piece_html pieces

abbrev pub html_bytes : List HtmlPiece → List ℕ
html_bytes pieces = encode_utf8_all (html_text pieces)

-- a text grew by these pieces
abbrev pub AddsHtml : List HtmlPiece → List ℕ → List ℕ → Type 0
AddsHtml pieces old new = new ≡ old ++ html_bytes pieces
