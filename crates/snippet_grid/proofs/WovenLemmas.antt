-- What printed rows are as a woven text: their plain text and their links are the rows' own, whatever the sheet; and
-- without styles and links the text is the plain text.
use Rattle.snippet_grid.proofs.Common.{common_steps, arith, ◌≡◌, ◌≢◌, ℕ, suc, Bool, true, false, if◌then◌else◌, nat_eq, List, [], ◌∷◌, ◌++◌, Option, None, Some}
use Rattle.snippet_grid.proofs.Common.{IfSome, All, refl, sym, ap, ◌∙◌, inl, inr, subst, encode_utf8, encode_utf8_all, and_parts, cases_Bool, false≢true}
use Rattle.snippet_grid.proofs.Common.{All-nil, All-cons, All-head, All-tail, All-append, flat_map-append, nat_list_eq_equiv, same_text, flat_map}
use Rattle.snippet_grid.proofs.Common.{plain_is_plain, opening, reset, Cell, SPACE, row_text, further_text, plain_text, is_plain_style, style_of, level_style}
use Rattle.snippet_grid.proofs.Common.{is_plain_sheet, Piece, Char, Opening, Reset, LinkTo, LinkEnd, piece_text, plain_piece, piece_link, next_style, next_link}
use Rattle.snippet_grid.proofs.Common.{PrintsCells, PrintsRow, Prints, IsStyleOf, IsOfSheet, AreLinksEnded, IsWoven, link_begun, PrintsFurther, PrintsRows}
use Rattle.snippet_grid.proofs.Common.{WeavesRows, EachCell, links_after, links_of, ElementStyle, MainHeaderMsg, HeaderMsg, LineAndColumn, Quotation, NoStyle}
use Rattle.snippet_grid.proofs.Common.{LineNumber, UnderlinePrimary, LabelPrimary, UnderlineSecondary, LabelSecondary, Level, Addition, Removal, LevelInner}
use Rattle.snippet_grid.proofs.Common.{Error, Warning, Info, Note, Help, Style, Stylesheet}
use Rattle.std.specs.List.{slice_index_or}
use lib.Pointwise.{pointwise}
use Rattle.snippet_grid.proofs.HtmlLaws.{Prints-from_pieces, PrintsPieces-from_prints}
use Rattle.snippet_grid.proofs.WeaveLemmas.{Url, none≢some, some_same, is_there}

-- the plain pieces are the cells' characters
cells_plain : (sheet : Stylesheet) (level : LevelInner) (style : Option Style) (link : Option Url) (ps : List Piece) (cells : List Cell)
    → PrintsCells sheet level style link ps cells → flat_map plain_piece ps ≡ row_text cells
cells_plain sheet level style link [] cells (none, _, _) = ap row_text (sym none)
cells_plain sheet level style link (Char ch ∷ ps) cells (cell, rest, split, is, _, _, prints) =
    ap (λ (t : List ℕ). ch ∷ t) (cells_plain sheet level style link ps rest prints) ∙ ap (λ (c : ℕ). c ∷ row_text rest) is ∙ ap row_text (sym split)
cells_plain sheet level style link (Opening new ∷ ps) cells (_, _, prints) =
    cells_plain sheet level (Some new) link ps cells prints
cells_plain sheet level style link (Reset old ∷ ps) cells (_, _, _, prints) =
    cells_plain sheet level None link ps cells prints
cells_plain sheet level style link (LinkTo url ∷ ps) cells (_, _, _, prints) =
    cells_plain sheet level style (Some url) ps cells prints
cells_plain sheet level style link (LinkEnd ∷ ps) cells (_, _, _, prints) =
    cells_plain sheet level style None ps cells prints

-- no link begins after the same one
link_begun_same : (a b : Option Url) → a ≡ b → link_begun a b ≡ []
link_begun_same a None same = refl
link_begun_same None (Some b) same = absurd (none≢some same)
link_begun_same (Some a) (Some b) same =
    let equal : pointwise nat_eq a b ≡ true = ap (λ u. pointwise nat_eq a u) (sym (some_same same)) ∙ nat_list_eq_equiv.refl a in
    ap (λ (t : Bool). if t then [] else b ∷ []) equal

-- after another one a link begins as after none
link_begun_other : (a b : Option Url) → a ≢ b → link_begun None b ≡ link_begun a b
link_begun_other a None other = refl
link_begun_other None (Some b) other = refl
link_begun_other (Some a) (Some b) other =
    elim (cases_Bool (pointwise nat_eq a b)) [
      | inl same ↦ absurd (other (ap Some (same_text a b (sym same))))
      | inr differs ↦ sym (ap (λ (t : Bool). if t then [] else b ∷ []) differs)
    ]

links_ended : (link : Option Url) (cells : List Cell) → link ≢ next_link cells → links_after None cells ≡ links_after link cells
links_ended link [] differs = refl
links_ended link (cell ∷ cells) differs =
    ap (λ (urls : List Url). urls ++ links_after cell.link cells) (link_begun_other link cell.link differs)

link_to : (url : Url) (next : Option Url) → next ≡ Some url → url ∷ link_begun (Some url) next ≡ link_begun None next
link_to url None is = absurd (none≢some is)
link_to url (Some next) is =
    ap (λ (urls : List Url). url ∷ urls) (link_begun_same (Some url) (Some next) (sym is)) ∙ ap (λ (u : Url). u ∷ []) (sym (some_same is))

links_begun : (url : Url) (cells : List Cell) → next_link cells ≡ Some url → url ∷ links_after (Some url) cells ≡ links_after None cells
links_begun url [] is = absurd (none≢some is)
links_begun url (cell ∷ cells) is =
    ap (λ (urls : List Url). urls ++ links_after cell.link cells) (link_to url cell.link is)

-- the link codes are those of the cells' linked runs
cells_links : (sheet : Stylesheet) (level : LevelInner) (style : Option Style) (link : Option Url) (ps : List Piece) (cells : List Cell)
    → PrintsCells sheet level style link ps cells → flat_map piece_link ps ≡ links_after link cells
cells_links sheet level style link [] cells (none, _, _) = ap (links_after link) (sym none)
cells_links sheet level style link (Char ch ∷ ps) cells (cell, rest, split, _, _, same, prints) =
    grind (arith, common_steps, cells_links sheet level style link ps rest prints, cell.link, link_begun_same)
cells_links sheet level style link (Opening new ∷ ps) cells (_, _, prints) =
    cells_links sheet level (Some new) link ps cells prints
cells_links sheet level style link (Reset old ∷ ps) cells (_, _, _, prints) =
    cells_links sheet level None link ps cells prints
cells_links sheet level style link (LinkTo url ∷ ps) cells (none, next, _, prints) =
    grind (arith, common_steps, cells_links sheet level style (Some url) ps cells prints, links_begun)
cells_links sheet level style link (LinkEnd ∷ ps) cells (_, differs, _, prints) =
    cells_links sheet level style None ps cells prints ∙ links_ended link cells differs

-- what opens is of the sheet
next_is_of : (sheet : Stylesheet) (level : LevelInner) (cells : List Cell) (style : Style) → next_style sheet level cells ≡ Some style → IsStyleOf sheet style
next_is_of sheet level [] style is = absurd (none≢some is)
next_is_of sheet level (cell ∷ cells) style is =
    record { level = level; role = cell.role; is = sym (some_same is) }

cells_of_sheet : (sheet : Stylesheet) (level : LevelInner) (style : Option Style) (link : Option Url) (ps : List Piece) (cells : List Cell)
    → IfSome style (λ s. IsStyleOf sheet s) → PrintsCells sheet level style link ps cells → All (λ p. IsOfSheet sheet p) ps
cells_of_sheet sheet level style link [] cells of (none, _, _) = All-nil (λ p. IsOfSheet sheet p)
cells_of_sheet sheet level style link (Char ch ∷ ps) cells of (cell, rest, split, _, _, _, prints) =
    All-cons (λ p. IsOfSheet sheet p) (Char ch) ps tt (cells_of_sheet sheet level style link ps rest of prints)
cells_of_sheet sheet level style link (Opening new ∷ ps) cells of (_, next, prints) =
    let new_of = next_is_of sheet level cells new next in
    All-cons (λ p. IsOfSheet sheet p) (Opening new) ps new_of (cells_of_sheet sheet level (Some new) link ps cells new_of prints)
cells_of_sheet sheet level style link (Reset old ∷ ps) cells of (was, _, _, prints) =
    grind (arith, common_steps, All-cons, cells_of_sheet sheet level None link ps cells tt prints)
cells_of_sheet sheet level style link (LinkTo url ∷ ps) cells of (_, _, _, prints) =
    All-cons (λ p. IsOfSheet sheet p) (LinkTo url) ps tt (cells_of_sheet sheet level style (Some url) ps cells of prints)
cells_of_sheet sheet level style link (LinkEnd ∷ ps) cells of (_, _, _, prints) =
    All-cons (λ p. IsOfSheet sheet p) LinkEnd ps tt (cells_of_sheet sheet level style None ps cells of prints)

row_of_sheet : (sheet : Stylesheet) (level : LevelInner) (ps : List Piece) (row : List Cell) → PrintsRow sheet level ps row → All (λ p. IsOfSheet sheet p) ps
row_of_sheet sheet level ps row prints =
    cells_of_sheet sheet level (Some sheet.none) None ps row record { level = level; role = NoStyle; is = refl } prints

-- each link is ended
there_is : (link : Option Url) → link ≢ None → is_there link ≡ true
there_is None there = absurd (there refl)
there_is (Some url) there = refl

cells_ended : (sheet : Stylesheet) (level : LevelInner) (style : Option Style) (link : Option Url) (ps : List Piece) (cells : List Cell)
    → PrintsCells sheet level style link ps cells → AreLinksEnded (is_there link) ps
cells_ended sheet level style link [] cells (_, _, none) = ap is_there none
cells_ended sheet level style link (Char ch ∷ ps) cells (cell, rest, _, _, _, _, prints) =
    cells_ended sheet level style link ps rest prints
cells_ended sheet level style link (Opening new ∷ ps) cells (_, _, prints) =
    cells_ended sheet level (Some new) link ps cells prints
cells_ended sheet level style link (Reset old ∷ ps) cells (_, _, _, prints) =
    cells_ended sheet level None link ps cells prints
cells_ended sheet level style link (LinkTo url ∷ ps) cells (none, _, _, prints) =
    (ap is_there none, cells_ended sheet level style (Some url) ps cells prints)
cells_ended sheet level style link (LinkEnd ∷ ps) cells (there, _, _, prints) =
    (there_is link there, cells_ended sheet level style None ps cells prints)

-- pieces whose links are ended, and further ones that begin outside a link, have their links ended together
pub ended-append : (inside : Bool) (ps qs : List Piece) → AreLinksEnded inside ps → AreLinksEnded false qs → AreLinksEnded inside (ps ++ qs)
ended-append inside [] qs none ended = subst (λ (b : Bool). AreLinksEnded b qs) (sym none) ended
ended-append inside (Char ch ∷ ps) qs front ended = ended-append inside ps qs front ended
ended-append inside (Opening s ∷ ps) qs front ended = ended-append inside ps qs front ended
ended-append inside (Reset s ∷ ps) qs front ended = ended-append inside ps qs front ended
ended-append inside (LinkTo url ∷ ps) qs (is, front) ended = (is, ended-append true ps qs front ended)
ended-append inside (LinkEnd ∷ ps) qs (is, front) ended = (is, ended-append false ps qs front ended)

-- what is true of the pieces of some rows
record AreWoven (sheet : Stylesheet) (ps : List Piece) (plain : List ℕ) (links : List Url) : Type 0 where
  plain_is : plain ≡ flat_map plain_piece ps
  links_are : links ≡ flat_map piece_link ps
  of_sheet : All (λ p. IsOfSheet sheet p) ps
  ended : AreLinksEnded false ps

row_woven : (sheet : Stylesheet) (level : LevelInner) (ps : List Piece) (row : List Cell) → PrintsRow sheet level ps row
    → AreWoven sheet ps (row_text row) (links_after None row)
row_woven sheet level ps row prints = grind (arith, common_steps, cells_plain, sheet.none, cells_links, row_of_sheet, cells_ended)

none_woven : (sheet : Stylesheet) (ps : List Piece) → ps ≡ [] → AreWoven sheet ps [] []
none_woven sheet ps none = grind (arith, common_steps, All-nil)

woven-append : (sheet : Stylesheet) (ps qs : List Piece) (plain more : List ℕ) (links others : List Url) → AreWoven sheet ps plain links
    → AreWoven sheet qs more others → AreWoven sheet (ps ++ qs) (plain ++ more) (links ++ others)
woven-append sheet ps qs plain more links others first second =
    record {
      plain_is = ap (λ (t : List ℕ). t ++ more) first.plain_is ∙ ap (λ (t : List ℕ). flat_map plain_piece ps ++ t) second.plain_is
          ∙ sym (flat_map-append plain_piece ps qs);
      links_are = ap (λ (t : List Url). t ++ others) first.links_are ∙ ap (λ (t : List Url). flat_map piece_link ps ++ t) second.links_are
          ∙ sym (flat_map-append piece_link ps qs);
      of_sheet = All-append (λ p. IsOfSheet sheet p) ps qs first.of_sheet second.of_sheet;
      ended = ended-append false ps qs first.ended second.ended;
    }

-- after a line feed
woven-fed : (sheet : Stylesheet) (ps : List Piece) (plain : List ℕ) (links : List Url) → AreWoven sheet ps plain links
    → AreWoven sheet (Char 10 ∷ ps) (10 ∷ plain) links
woven-fed sheet ps plain links woven = grind (arith, common_steps, woven.plain_is, woven.links_are, All-cons, woven.of_sheet, woven.ended)

further_woven : (sheet : Stylesheet) (level : LevelInner) (ps : List Piece) (rows : List (List Cell)) → PrintsFurther sheet level ps rows
    → AreWoven sheet ps (further_text rows) (links_of rows)
further_woven sheet level ps [] none = none_woven sheet ps none
further_woven sheet level ps (row ∷ rows) (first, others, split, prints, below) =
    subst (λ (qs : List Piece). AreWoven sheet qs (further_text (row ∷ rows)) (links_of (row ∷ rows))) (sym split)
    (woven-append sheet (Char 10 ∷ first) others (10 ∷ row_text row) (further_text rows) (links_after None row) (links_of rows)
    (woven-fed sheet first (row_text row) (links_after None row) (row_woven sheet level first row prints))
    (further_woven sheet level others rows below))

rows_woven : (sheet : Stylesheet) (level : LevelInner) (ps : List Piece) (rows : List (List Cell)) → PrintsRows sheet level ps rows
    → AreWoven sheet ps (plain_text rows) (links_of rows)
rows_woven sheet level ps [] none = none_woven sheet ps none
rows_woven sheet level ps (row ∷ rows) (first, others, split, prints, below) =
    subst (λ (qs : List Piece). AreWoven sheet qs (plain_text (row ∷ rows)) (links_of (row ∷ rows))) (sym split)
    (woven-append sheet first others (row_text row) (further_text rows) (links_after None row) (links_of rows)
    (row_woven sheet level first row prints) (further_woven sheet level others rows below))

-- a printed grid is a woven text, whose plain text and links are the rows' own
pub IsWoven-from_prints : (sheet : Stylesheet) (level : LevelInner) (rows : List (List Cell)) (text : List ℕ) → Prints sheet level rows text
    → IsWoven sheet text (plain_text rows) (links_of rows)
IsWoven-from_prints sheet level rows text given = grind (arith, common_steps, PrintsPieces-from_prints sheet level rows text given, given, rows_woven)

-- what was added, where the rows are read as others
pub AddsRows-same : (sheet : Stylesheet) (level : LevelInner) (rows added : List (List Cell)) (old start text : List ℕ) → added ≡ rows → start ≡ old
    → WeavesRows sheet level added start text → WeavesRows sheet level rows old text
AddsRows-same sheet level rows added old start text same begun adds =
    subst (λ (t : List ℕ). WeavesRows sheet level rows t text) begun (subst (λ (rs : List (List Cell)). WeavesRows sheet level rs start text) same adds)

-- what was added to an empty text
pub Prints-from_adds : (sheet : Stylesheet) (level : LevelInner) (rows added : List (List Cell)) (old text : List ℕ) → added ≡ rows → old ≡ []
    → WeavesRows sheet level added old text → Prints sheet level rows text
Prints-from_adds sheet level rows added old text same none adds = grind (arith, common_steps, Prints-from_pieces, adds.pieces, adds.text_is, adds.are)

-- the styles of a plain sheet are plain
record ArePlain (s : Stylesheet) : Type 0 where
  error : is_plain_style s.error ≡ true
  warning : is_plain_style s.warning ≡ true
  info : is_plain_style s.info ≡ true
  note : is_plain_style s.note ≡ true
  help : is_plain_style s.help ≡ true
  line_num : is_plain_style s.line_num ≡ true
  emphasis : is_plain_style s.emphasis ≡ true
  none : is_plain_style s.none ≡ true
  context : is_plain_style s.context ≡ true
  addition : is_plain_style s.addition ≡ true
  removal : is_plain_style s.removal ≡ true

are_plain : (s : Stylesheet) → is_plain_sheet s ≡ true → ArePlain s
are_plain s h =
    let h10 = and_parts _ _ h in
    let h9 = and_parts _ _ h10.0 in
    let h8 = and_parts _ _ h9.0 in
    let h7 = and_parts _ _ h8.0 in
    let h6 = and_parts _ _ h7.0 in
    let h5 = and_parts _ _ h6.0 in
    let h4 = and_parts _ _ h5.0 in
    let h3 = and_parts _ _ h4.0 in
    let h2 = and_parts _ _ h3.0 in
    let h1 = and_parts _ _ h2.0 in
    record {
      error = h1.0;
      warning = h1.1;
      info = h2.1;
      note = h3.1;
      help = h4.1;
      line_num = h5.1;
      emphasis = h6.1;
      none = h7.1;
      context = h8.1;
      addition =
          h9.1;
      removal = h10.1;
    }

plain_level : (sheet : Stylesheet) (level : LevelInner) → ArePlain sheet → is_plain_style (level_style sheet level) ≡ true
plain_level sheet Error plain = plain.error
plain_level sheet Warning plain = plain.warning
plain_level sheet Info plain = plain.info
plain_level sheet Note plain = plain.note
plain_level sheet Help plain = plain.help

plain_role : (sheet : Stylesheet) (level : LevelInner) (role : ElementStyle) → ArePlain sheet → is_plain_style (style_of sheet level role) ≡ true
plain_role sheet level MainHeaderMsg plain = plain.emphasis
plain_role sheet level HeaderMsg plain = plain.none
plain_role sheet level LineAndColumn plain = plain.none
plain_role sheet level Quotation plain = plain.none
plain_role sheet level NoStyle plain = plain.none
plain_role sheet level LineNumber plain = plain.line_num
plain_role sheet level UnderlinePrimary plain = plain_level sheet level plain
plain_role sheet level LabelPrimary plain = plain_level sheet level plain
plain_role sheet level UnderlineSecondary plain = plain.context
plain_role sheet level LabelSecondary plain = plain.context
plain_role sheet level (Level own) plain = plain_level sheet own plain
plain_role sheet level Addition plain = plain.addition
plain_role sheet level Removal plain = plain.removal

plain_of : (sheet : Stylesheet) (style : Style) → is_plain_sheet sheet ≡ true → IsStyleOf sheet style → is_plain_style style ≡ true
plain_of sheet style plain of =
    ap is_plain_style of.is ∙ plain_role sheet of.level of.role (are_plain sheet plain)

abbrev pub is_empty : {X : Type 0} → List X → Bool
is_empty [] = true
is_empty (x ∷ xs) = false

-- a list with an element isn't empty
pub nil≢cons : {X : Type 0} {x : X} {xs : List X} → x ∷ xs ≡ [] → ⊥
nil≢cons h = false≢true (ap is_empty h)

-- without styles and links the pieces are the plain text
unstyled : (sheet : Stylesheet) (ps : List Piece) → is_plain_sheet sheet ≡ true → All (λ p. IsOfSheet sheet p) ps → AreLinksEnded false ps
    → flat_map piece_link ps ≡ [] → flat_map piece_text ps ≡ encode_utf8_all (flat_map plain_piece ps)
unstyled sheet [] plain of ended none = refl
unstyled sheet (Char ch ∷ ps) plain of ended none =
    ap (λ (t : List ℕ). encode_utf8 ch ++ t) (unstyled sheet ps plain (All-tail (λ p. IsOfSheet sheet p) (Char ch) ps of) ended none)
unstyled sheet (Opening s ∷ ps) plain of ended none =
    let here = plain_of sheet s plain (All-head (λ p. IsOfSheet sheet p) (Opening s) ps of) in
    ap (λ (style : Style). encode_utf8_all (opening style) ++ flat_map piece_text ps) (plain_is_plain s here)
    ∙ unstyled sheet ps plain (All-tail (λ p. IsOfSheet sheet p) (Opening s) ps of) ended none
unstyled sheet (Reset s ∷ ps) plain of ended none =
    let here = plain_of sheet s plain (All-head (λ p. IsOfSheet sheet p) (Reset s) ps of) in
    ap (λ (style : Style). encode_utf8_all (reset style) ++ flat_map piece_text ps) (plain_is_plain s here)
    ∙ unstyled sheet ps plain (All-tail (λ p. IsOfSheet sheet p) (Reset s) ps of) ended none
unstyled sheet (LinkTo url ∷ ps) plain of ended none = absurd (nil≢cons none)
unstyled sheet (LinkEnd ∷ ps) plain of (ended, _) none = absurd (false≢true ended)

-- under a plain sheet a woven text with no links is its plain text
pub plain_woven : (sheet : Stylesheet) (text plain : List ℕ) (links : List Url) → is_plain_sheet sheet ≡ true → links ≡ [] → IsWoven sheet text plain links
    → text ≡ encode_utf8_all plain
plain_woven sheet text plain links is_plain none woven =
    woven.text_is ∙ unstyled sheet woven.pieces is_plain woven.of_sheet woven.ended (sym woven.links_are ∙ none) ∙ ap encode_utf8_all (sym woven.plain_is)

-- no cell is linked, so there are no links
row_unlinked : (row : List Cell) → ((c : ℕ) → (slice_index_or row c SPACE).link ≡ None) → links_after None row ≡ []
row_unlinked [] none = refl
row_unlinked (cell ∷ row) none =
    ap (λ (l : Option Url). link_begun None l ++ links_after l row) (none 0) ∙ row_unlinked row (λ c. none (suc c))

-- rows of cells without links hold no link
pub links_of-unlinked : (rows : List (List Cell)) → EachCell (λ cell. cell.link ≡ None) rows → links_of rows ≡ []
links_of-unlinked [] none = refl
links_of-unlinked (row ∷ rows) none =
    ap (λ (urls : List Url). urls ++ links_of rows) (row_unlinked row (none 0)) ∙ links_of-unlinked rows (λ r. none (suc r))
