-- The laws of a grid's rows as HTML: read as HTML, the text is the plain text of the rows; its tags are its own; and each character
-- stands in the class of its cell's role, and in the link of the cell.
use Rattle.snippet_grid.proofs.Common.{common_steps, arith, ◌≡◌, ℕ, Bool, true, ◌&&◌, if◌then◌else◌, nat_eq, List, [], ◌∷◌, ◌++◌, refl, sym, ap, ◌∙◌, inl, inr}
use Rattle.snippet_grid.proofs.Common.{and_parts, cases_Bool, append_assoc, flat_map-append, same_text, flat_map, list_all, HtmlLook, HtmlPiece, Text}
use Rattle.snippet_grid.proofs.Common.{SpanStart, SpanEnd, AnchorStart, AnchorEnd, anchor_ended, anchor_started, tags_between, cells_html, class_of, ended}
use Rattle.snippet_grid.proofs.Common.{further_html, level_class, html_look_of, plain_look, row_html, rows_html, same_html_look, span_ended, span_started}
use Rattle.snippet_grid.proofs.Common.{started, ReadChar, chars_of_cells, chars_of_rows, feed_read, further_text, plain_text, row_text, Cell, ElementStyle}
use Rattle.snippet_grid.proofs.Common.{MainHeaderMsg, HeaderMsg, LineAndColumn, Quotation, NoStyle, LineNumber, UnderlinePrimary, LabelPrimary}
use Rattle.snippet_grid.proofs.Common.{UnderlineSecondary, LabelSecondary, Level, Addition, Removal, LevelInner, Error, Warning, Info, Note, Help, map}
use Rattle.snippet_grid.proofs.Common.{append-nil, AllZip, join_with_byte, Piece, Char, piece_text, Prints, PrintsRow, PrintsFurther, PrintsRows, Stylesheet}
use Rattle.std.specs.Str.{chars}
use lib.Pointwise.{pointwise}
use Rattle.snippet_grid.proofs.HtmlReads.{look_is, is_class, is_made, piece_says}

-- ---- the text

says_span_started : (class : List ℕ) → flat_map piece_says (span_started class) ≡ []
says_span_started [] = refl
says_span_started (c ∷ cs) = refl

says_anchor_started : (address : List ℕ) → flat_map piece_says (anchor_started address) ≡ []
says_anchor_started [] = refl
says_anchor_started (c ∷ cs) = refl

says_span_ended : (class : List ℕ) → flat_map piece_says (span_ended class) ≡ []
says_span_ended [] = refl
says_span_ended (c ∷ cs) = refl

says_anchor_ended : (address : List ℕ) → flat_map piece_says (anchor_ended address) ≡ []
says_anchor_ended [] = refl
says_anchor_ended (c ∷ cs) = refl

-- two lists of tags say nothing
says_both : (ps qs : List HtmlPiece) → flat_map piece_says ps ≡ [] → flat_map piece_says qs ≡ [] → flat_map piece_says (ps ++ qs) ≡ []
says_both ps qs first second =
    flat_map-append piece_says ps qs ∙ ap (λ (t : List ℕ). t ++ flat_map piece_says qs) first ∙ second

says_ended : (look : HtmlLook) → flat_map piece_says (ended look) ≡ []
says_ended look = says_both (anchor_ended look.address) (span_ended look.class) (says_anchor_ended look.address) (says_span_ended look.class)

says_started : (look : HtmlLook) → flat_map piece_says (started look) ≡ []
says_started look = says_both (span_started look.class) (anchor_started look.address) (says_span_started look.class) (says_anchor_started look.address)

says_between : (last next : HtmlLook) → flat_map piece_says (tags_between last next) ≡ []
says_between last next = grind (arith, common_steps, cases_Bool, says_both, says_ended, says_started)

says_cells : (level : LevelInner) (last : HtmlLook) (cells : List Cell) → flat_map piece_says (cells_html level last cells) ≡ row_text cells
says_cells level last [] = says_ended last
says_cells level last (cell ∷ cells) =
    let look = html_look_of level cell in
    let rest : List HtmlPiece = Text cell.ch ∷ cells_html level look cells in
    flat_map-append piece_says (tags_between last look) rest ∙ ap (λ (t : List ℕ). t ++ flat_map piece_says rest) (says_between last look)
    ∙ ap (λ (t : List ℕ). cell.ch ∷ t) (says_cells level look cells)

says_further : (level : LevelInner) (rows : List (List Cell)) → flat_map piece_says (further_html level rows) ≡ further_text rows
says_further level [] = refl
says_further level (row ∷ rows) = grind (arith, common_steps, flat_map-append, says_cells, says_further level rows)

-- the pieces of rows say their plain text
pub says_rows : (level : LevelInner) (rows : List (List Cell)) → flat_map piece_says (rows_html level rows) ≡ plain_text rows
says_rows level [] = refl
says_rows level (row ∷ rows) = grind (arith, common_steps, flat_map-append, says_cells, says_further)

-- ---- tags

pub made-append : (ps qs : List HtmlPiece) → list_all is_made ps ≡ true → list_all is_made qs ≡ true → list_all is_made (ps ++ qs) ≡ true
made-append [] qs first second = second
made-append (p ∷ ps) qs first second = grind (arith, common_steps)

-- the class of a role ends no tag and no attribute, and begins no escape
level_lacks : (level : LevelInner) → is_class (chars (level_class level)) ≡ true
unfolding chars
level_lacks Error = refl
level_lacks Warning = refl
level_lacks Info = refl
level_lacks Note = refl
level_lacks Help = refl

class_lacks : (level : LevelInner) (role : ElementStyle) → is_class (chars (class_of level role)) ≡ true
unfolding chars
class_lacks level MainHeaderMsg = refl
class_lacks level HeaderMsg = refl
class_lacks level LineAndColumn = refl
class_lacks level Quotation = refl
class_lacks level NoStyle = refl
class_lacks level LineNumber = refl
class_lacks level UnderlinePrimary = level_lacks level
class_lacks level LabelPrimary = level_lacks level
class_lacks level UnderlineSecondary = refl
class_lacks level LabelSecondary = refl
class_lacks level (Level own) = level_lacks own
class_lacks level Addition = refl
class_lacks level Removal = refl

made_span_started : (class : List ℕ) → is_class (chars class) ≡ true → list_all is_made (span_started class) ≡ true
made_span_started [] none = refl
made_span_started (c ∷ cs) none = ap (λ (b : Bool). b && true) none

made_anchor_started : (address : List ℕ) → list_all is_made (anchor_started address) ≡ true
made_anchor_started [] = refl
made_anchor_started (c ∷ cs) = refl

made_span_ended : (class : List ℕ) → list_all is_made (span_ended class) ≡ true
made_span_ended [] = refl
made_span_ended (c ∷ cs) = refl

made_anchor_ended : (address : List ℕ) → list_all is_made (anchor_ended address) ≡ true
made_anchor_ended [] = refl
made_anchor_ended (c ∷ cs) = refl

made_ended : (look : HtmlLook) → list_all is_made (ended look) ≡ true
made_ended look = made-append (anchor_ended look.address) (span_ended look.class) (made_anchor_ended look.address) (made_span_ended look.class)

made_started : (level : LevelInner) (cell : Cell) → list_all is_made (started (html_look_of level cell)) ≡ true
made_started level cell = grind (arith, common_steps, made-append, made_span_started, class_lacks, cell.role, made_anchor_started)

made_between : (level : LevelInner) (last : HtmlLook) (cell : Cell) → list_all is_made (tags_between last (html_look_of level cell)) ≡ true
made_between level last cell =
    let next = html_look_of level cell in
    elim (cases_Bool (same_html_look last next)) [
      | inl same ↦ ap (λ (b : Bool). list_all is_made (if b then [] else (ended last ++ started next))) same
      | inr other ↦ ap (λ (b : Bool). list_all is_made (if b then [] else (ended last ++ started next))) other
          ∙ made-append (ended last) (started next) (made_ended last) (made_started level cell)
    ]

made_cells : (level : LevelInner) (last : HtmlLook) (cells : List Cell) → list_all is_made (cells_html level last cells) ≡ true
made_cells level last [] = made_ended last
made_cells level last (cell ∷ cells) =
    let look = html_look_of level cell in
    made-append (tags_between last look) (Text cell.ch ∷ cells_html level look cells) (made_between level last cell) (made_cells level look cells)

made_further : (level : LevelInner) (rows : List (List Cell)) → list_all is_made (further_html level rows) ≡ true
made_further level [] = refl
made_further level (row ∷ rows) =
    made-append (Text 10 ∷ row_html level row) (further_html level rows) (made_cells level plain_look row) (made_further level rows)

pub made_rows : (level : LevelInner) (rows : List (List Cell)) → list_all is_made (rows_html level rows) ≡ true
made_rows level [] = refl
made_rows level (row ∷ rows) = made-append (row_html level row) (further_html level rows) (made_cells level plain_look row) (made_further level rows)

-- ---- classes and links

-- the characters of some pieces, each with the class and the address of the tags that are open there; `look` is what is open at
-- first
abbrev pub chars_read : HtmlLook → List HtmlPiece → List ReadChar
chars_read look [] = []
chars_read look (Text ch ∷ ps) = record { ch = ch; look = look } ∷ chars_read look ps
chars_read look (SpanStart class ∷ ps) = chars_read (record look { class = class }) ps
chars_read look (SpanEnd ∷ ps) = chars_read (record look { class = [] }) ps
chars_read look (AnchorStart address ∷ ps) = chars_read (record look { address = address }) ps
chars_read look (AnchorEnd ∷ ps) = chars_read (record look { address = [] }) ps

-- after the tags that begin something, its class and its address are open
read_span : (class : List ℕ) (ps : List HtmlPiece)
    → chars_read plain_look (span_started class ++ ps) ≡ chars_read (let look : HtmlLook = record { class = class; address = [] } in look) ps
read_span [] ps = refl
read_span (c ∷ cs) ps = refl

read_anchor : (class address : List ℕ) (ps : List HtmlPiece) → chars_read (let look : HtmlLook = record { class = class; address = [] } in look)
    (anchor_started address ++ ps) ≡ chars_read (let look : HtmlLook = record { class = class; address = address } in look) ps
read_anchor class [] ps = refl
read_anchor class (c ∷ cs) ps = refl

read_anchor_end : (class address : List ℕ) (ps : List HtmlPiece) → chars_read (let look : HtmlLook = record { class = class; address = address } in look)
    (anchor_ended address ++ ps) ≡ chars_read (let look : HtmlLook = record { class = class; address = [] } in look) ps
read_anchor_end class [] ps = refl
read_anchor_end class (c ∷ cs) ps = refl

read_span_end : (class : List ℕ) (ps : List HtmlPiece)
    → chars_read (let look : HtmlLook = record { class = class; address = [] } in look) (span_ended class ++ ps) ≡ chars_read plain_look ps
read_span_end [] ps = refl
read_span_end (c ∷ cs) ps = refl

read_started : (look : HtmlLook) (ps : List HtmlPiece) → chars_read plain_look (started look ++ ps) ≡ chars_read look ps
read_started look ps = grind (arith, common_steps, look.class, look.address, read_span, read_anchor)

read_ended : (look : HtmlLook) (ps : List HtmlPiece) → chars_read look (ended look ++ ps) ≡ chars_read plain_look ps
read_ended look ps = grind (arith, common_steps, look.address, look.class, read_anchor_end, read_span_end)

-- what stands in the same is the same
same_is : (a b : HtmlLook) → same_html_look a b ≡ true → a ≡ b
same_is a b same =
    let parts = and_parts (pointwise nat_eq a.class b.class) (pointwise nat_eq a.address b.address) same in
    look_is a b.class b.address (same_text a.class b.class (sym parts.0)) (same_text a.address b.address (sym parts.1))

read_between : (last next : HtmlLook) (ps : List HtmlPiece) → chars_read last (tags_between last next ++ ps) ≡ chars_read next ps
read_between last next ps = grind (arith, common_steps, cases_Bool, same_is, read_ended, read_started)

read_cells : (level : LevelInner) (last : HtmlLook) (cells : List Cell) (ps : List HtmlPiece)
    → chars_read last (cells_html level last cells ++ ps) ≡ chars_of_cells level cells ++ chars_read plain_look ps
read_cells level last [] ps = read_ended last ps
read_cells level last (cell ∷ cells) ps =
    let look = html_look_of level cell in
    let read : ReadChar = record { ch = cell.ch; look = look } in
    ap (chars_read last) (append_assoc (tags_between last look) (Text cell.ch ∷ cells_html level look cells) ps)
    ∙ read_between last look (Text cell.ch ∷ (cells_html level look cells ++ ps)) ∙ ap (λ (rs : List ReadChar). read ∷ rs) (read_cells level look cells ps)

-- each character of a row stands in the class of its cell's role, and in the link of the cell, whatever follows
pub row_read : (level : LevelInner) (row : List Cell) (ps : List HtmlPiece)
    → chars_read plain_look (row_html level row ++ ps) ≡ chars_of_cells level row ++ chars_read plain_look ps
row_read level row ps = read_cells level plain_look row ps

further_read : (level : LevelInner) (rows : List (List Cell)) (ps : List HtmlPiece) → chars_read plain_look (further_html level rows ++ ps)
    ≡ flat_map (λ below. feed_read ∷ chars_of_cells level below) rows ++ chars_read plain_look ps
further_read level [] ps = refl
further_read level (row ∷ rows) ps = grind (arith, common_steps, row_read, further_read level rows ps)

-- and so does each character of rows
pub rows_chars : (level : LevelInner) (rows : List (List Cell)) (ps : List HtmlPiece)
    → chars_read plain_look (rows_html level rows ++ ps) ≡ chars_of_rows level rows ++ chars_read plain_look ps
rows_chars level [] ps = refl
rows_chars level (row ∷ rows) ps = grind (arith, common_steps, row_read, further_read)

-- The text of a printed grid as one list of pieces, with a line feed before each row but the first.
-- the text is a grid's rows, printed under a sheet in a group of this level
pub record PrintsPieces (sheet : Stylesheet) (level : LevelInner) (rows : List (List Cell)) (text : List ℕ) : Type 0 where
  pub pieces : List Piece
  pub text_is : text ≡ flat_map piece_text pieces
  pub prints : PrintsRows sheet level pieces rows

-- the bytes of some lines, each of them after a line feed
abbrev after_feeds : List (List Piece) → List ℕ
after_feeds lines = flat_map (λ line. 10 ∷ flat_map piece_text line) lines

joined : (line : List Piece) (lines : List (List Piece))
    → join_with_byte 10 (map (flat_map piece_text) (line ∷ lines)) ≡ flat_map piece_text line ++ after_feeds lines
joined line [] = sym (append-nil (flat_map piece_text line))
joined line (next ∷ lines) = ap (λ (t : List ℕ). flat_map piece_text line ++ 10 ∷ t) (joined next lines)

lines_further : (sheet : Stylesheet) (level : LevelInner) (ps : List Piece) (rows : List (List Cell)) → PrintsFurther sheet level ps rows
    → (lines : List (List Piece)) × (flat_map piece_text ps ≡ after_feeds lines) × AllZip (PrintsRow sheet level) lines rows
unfolding lib.Utf8.encode
lines_further sheet level ps [] none = ([], ap (flat_map piece_text) none, tt)
lines_further sheet level ps (row ∷ rows) (first, others, is, prints, below) =
    let rest = lines_further sheet level others rows below in (
      first ∷ rest.0,
      ap (flat_map piece_text) is ∙ ap (λ (t : List ℕ). 10 ∷ t) (flat_map-append piece_text first others
          ∙ ap (λ (t : List ℕ). flat_map piece_text first ++ t) rest.1),
      (prints, rest.2),
    )

further_lines : (sheet : Stylesheet) (level : LevelInner) (lines : List (List Piece)) (rows : List (List Cell)) → AllZip (PrintsRow sheet level) lines rows
    → (ps : List Piece) × (after_feeds lines ≡ flat_map piece_text ps) × PrintsFurther sheet level ps rows
unfolding lib.Utf8.encode
further_lines sheet level [] [] prints = ([], refl, refl)
further_lines sheet level [] (row ∷ rows) prints = absurd prints
further_lines sheet level (line ∷ lines) [] prints = absurd prints
further_lines sheet level (line ∷ lines) (row ∷ rows) (prints, below) =
    let rest = further_lines sheet level lines rows below in (
      Char 10 ∷ line ++ rest.0,
      ap (λ (t : List ℕ). 10 ∷ t) (ap (λ (t : List ℕ). flat_map piece_text line ++ t) rest.1 ∙ sym (flat_map-append piece_text line rest.0)),
      (line, rest.0, refl, prints, rest.2),
    )

pub Prints-from_pieces : (sheet : Stylesheet) (level : LevelInner) (rows : List (List Cell)) (text : List ℕ) → PrintsPieces sheet level rows text
    → Prints sheet level rows text
Prints-from_pieces sheet level rows text given = made rows given.prints
  where
    made : (rows : List (List Cell)) → PrintsRows sheet level given.pieces rows → Prints sheet level rows text
    made [] none = record { lines = []; text_is = given.text_is ∙ ap (flat_map piece_text) none; prints = tt }
    made (row ∷ rows) (first, others, is, prints, below) =
        let rest = lines_further sheet level others rows below in
        record {
          lines = first ∷ rest.0;
          text_is = given.text_is ∙ ap (flat_map piece_text) is ∙ flat_map-append piece_text first others
              ∙ ap (λ (t : List ℕ). flat_map piece_text first ++ t) rest.1 ∙ sym (joined first rest.0);
          prints = (prints, rest.2);
        }

pub PrintsPieces-from_prints : (sheet : Stylesheet) (level : LevelInner) (rows : List (List Cell)) (text : List ℕ) → Prints sheet level rows text
    → PrintsPieces sheet level rows text
PrintsPieces-from_prints sheet level rows text given = made given.lines rows given.text_is given.prints
  where
    made : (lines : List (List Piece)) (rows : List (List Cell)) → text ≡ join_with_byte 10 (map (flat_map piece_text) lines)
        → AllZip (PrintsRow sheet level) lines rows → PrintsPieces sheet level rows text
    made [] [] is prints = record { pieces = []; text_is = is; prints = refl }
    made [] (row ∷ rows) is prints = absurd prints
    made (line ∷ lines) [] is prints = absurd prints
    made (line ∷ lines) (row ∷ rows) is (prints, below) =
        let rest = further_lines sheet level lines rows below in
        record {
          pieces = line ++ rest.0;
          text_is = is ∙ joined line lines ∙ ap (λ (t : List ℕ). flat_map piece_text line ++ t) rest.1 ∙ sym (flat_map-append piece_text line rest.0);
          prints = (line, rest.0, refl, prints, rest.2);
        }
