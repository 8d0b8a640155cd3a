-- A group that is printed while it is drawn.
use Rattle.std.proofs.lemmas.Grind.{common_steps}
use Rattle.annotate_snippets.proofs.Common.{◌≡◌, ℕ, ◌+◌, ◌<◌, Bool, true, false, not, List, [], ◌∷◌, ◌++◌, Option, Some, length, map}
use Rattle.annotate_snippets.proofs.Common.{refl, sym, ap, ◌∙◌, subst, arith, cond, encode_utf8, string_bytes, take, flat_map, slice_get, false≢true}
use Rattle.annotate_snippets.proofs.Common.{flat_map-append, IsUtf8-from_ascii, append_assoc, append-nil, length-append, further-append, Layout, Char, Piece}
use Rattle.annotate_snippets.proofs.Common.{piece_text, PrintsFurther, WeavesRows, Heading, heading_of_message, Element, Message, Group, Title, Cell}
use Rattle.annotate_snippets.proofs.Common.{LevelInner, Stylesheet, one_row, heading_rows, IsPlainHeading, title_rows, TitleStyle, context_at, drawn_elements}
use Rattle.annotate_snippets.proofs.Common.{is_end, next_of, last_row, element_rows, group_page, CanStandIn, begins_in_row_above, shared_row, drawn_rows}
use Rattle.annotate_snippets.proofs.Common.{rows_of_elements, cells_of, group_rows, element_of, IsPrinting, Renderer, ContextWalk, ElementContext}
use Rattle.annotate_snippets.proofs.Common.{GroupPosition, Next, Printing, rows_after_title, title_part, PreparedElement}
use Rattle.snippet_model.specs.declared.snippet.Message as message
use Rattle.annotate_snippets.proofs.PageWords.{found_at, message_rows, message_style}
use Rattle.annotate_snippets.proofs.AroundLaws.{begins_is, shares_after, shares_before}
use Rattle.annotate_snippets.proofs.ElementRows.{AreLeft, DrawnSoFar, drawn_none, each_drawn, get-mapped, one_drawn, stands_there}
use Rattle.annotate_snippets.proofs.NamedRows.{cells_of-others}
use Rattle.annotate_snippets.proofs.PlainRows.{plain_added}

-- ---- rows below rows

-- the bytes of a line feed
line_feed : encode_utf8 10 ≡ 10 ∷ []
unfolding lib.Utf8.encode
line_feed = refl

-- rows that are printed after a line feed below others
weaves_below : (sheet : Stylesheet) (level : LevelInner) (old now fed new : List ℕ) (rows more : List (List Cell)) → 0 < length rows → 0 < length more
    → fed ≡ now ++ encode_utf8 10 → WeavesRows sheet level rows old now → WeavesRows sheet level more fed new
    → WeavesRows sheet level (rows ++ more) old new
weaves_below sheet level old now fed new [] more some others broken above below = absurd (omega (arith, some))
weaves_below sheet level old now fed new (head ∷ rows) [] some others broken above below = absurd (omega (arith, others))
weaves_below sheet level old now fed new (head ∷ rows) (row ∷ more) some others broken above below =
    let are = above.are in
    let next = below.are in
    let pieces : List Piece = Char 10 ∷ below.pieces in
    let bytes : List ℕ = flat_map piece_text below.pieces in
    let further : PrintsFurther sheet level pieces (row ∷ more) = (next.0, next.1, ap (λ (ps : List Piece). Char 10 ∷ ps) next.2, next.3, next.4) in
    record {
      pieces = above.pieces ++ pieces;
      text_is = grind (arith, common_steps, bytes, encode_utf8, append_assoc, flat_map-append, pieces, below.text_is, above.text_is, above.pieces);
      are = (
        are.0,
        are.1 ++ pieces,
        ap (λ (ps : List Piece). ps ++ pieces) are.2 ∙ append_assoc are.0 are.1 pieces,
        are.3,
        further-append sheet level are.1 pieces rows (row ∷ more) are.4 further,
      );
    }

-- no rows are printed by nothing
weaves_none : (sheet : Stylesheet) (level : LevelInner) (old now : List ℕ) → WeavesRows sheet level [] old now → now ≡ old
weaves_none sheet level old now woven = woven.text_is ∙ ap (λ (ps : List Piece). old ++ flat_map piece_text ps) woven.are ∙ append-nil old

-- rows that are printed below those of a group, be there any or not: after a line feed where there are
rows_below : (sheet : Stylesheet) (level : LevelInner) (begun : Bool) (old now lead new : List ℕ) (printed more : List (List Cell))
    → (begun ≡ false → printed ≡ []) → (begun ≡ true → 0 < length printed) → lead ≡ cond (not begun) now (now ++ 10 ∷ [])
    → 0 < length more → WeavesRows sheet level printed old now → WeavesRows sheet level more lead new
    → WeavesRows sheet level (printed ++ more) old new
rows_below sheet level true old now lead new printed more none some led others woven below =
    weaves_below sheet level old now lead new printed more (some refl) others (led ∙ ap (λ (t : List ℕ). now ++ t) (sym line_feed)) woven below
rows_below sheet level false old now lead new printed more none some led others woven below = grind (arith, weaves_none)

-- ---- a group that is being printed

-- a group of which nothing is printed has the rows of its grid
pub printing_none : (sheet : Stylesheet) (level : LevelInner) (page : Printing) → page.begun ≡ false
    → IsPrinting sheet level (string_bytes page.text) page page.buffer
printing_none sheet level page unbegun =
    record {
      printed = [];
      rows_are = refl;
      unbegun = λ is. refl;
      begun = λ is. never page.begun unbegun is;
      woven = record { pieces = []; text_is = sym (append-nil (string_bytes page.text)); are = refl };
    }
  where
    never : (begun : Bool) → begun ≡ false → begun ≡ true → 0 < length {A = List Cell} []
    never b off on = absurd (false≢true (sym off ∙ on))

-- all its rows are printed where its grid has none
pub all_printed : (sheet : Stylesheet) (level : LevelInner) (old : List ℕ) (page : Printing) (rows : List (List Cell)) → page.buffer ≡ []
    → IsPrinting sheet level old page rows → WeavesRows sheet level rows old (string_bytes page.text)
all_printed sheet level old page rows empty printing = grind (arith, append-nil, page.text, printing.rows_are, printing.printed, printing.woven)

-- the rows of its grid were printed
pub printing_flushed : (sheet : Stylesheet) (level : LevelInner) (old lead : List ℕ) (page done : Printing) (rows : List (List Cell))
    → done.begun ≡ true → done.buffer ≡ [] → 0 < length page.buffer
    → lead ≡ cond (not page.begun) (string_bytes page.text) (string_bytes page.text ++ 10 ∷ [])
    → WeavesRows sheet level page.buffer lead (string_bytes done.text) → IsPrinting sheet level old page rows → IsPrinting sheet level old done rows
printing_flushed sheet level old lead page done rows begun empty some led woven printing =
    let all = rows_below sheet level page.begun old (string_bytes page.text) lead (string_bytes done.text) printing.printed page.buffer printing.unbegun
    printing.begun led some printing.woven woven in
    record {
      printed = rows;
      rows_are = sym (ap (λ (more : List (List Cell)). rows ++ more) empty ∙ append-nil rows);
      unbegun = λ is. absurd (other done.begun begun is);
      begun = λ is. omega (arith, some, ap length printing.rows_are, length-append printing.printed page.buffer);
      woven = subst (λ done_rows. WeavesRows sheet level done_rows old (string_bytes done.text)) (sym printing.rows_are) all;
    }
  where
    other : (b : Bool) → b ≡ true → b ≡ false → ⊥
    other b on off = false≢true (sym off ∙ on)

-- further rows were printed below all
pub printing_more : (sheet now : Stylesheet) (level own : LevelInner) (old lead : List ℕ) (page done : Printing) (rows more : List (List Cell))
    → now ≡ sheet → own ≡ level → done.begun ≡ true → done.buffer ≡ [] → page.buffer ≡ [] → 0 < length more
    → lead ≡ cond (not page.begun) (string_bytes page.text) (string_bytes page.text ++ 10 ∷ [])
    → WeavesRows now own more lead (string_bytes done.text) → IsPrinting sheet level old page rows
    → IsPrinting sheet level old done (rows ++ more)
printing_more sheet now level own old lead page done rows more same_sheet same_level begun empty flushed some led added printing =
    let woven = subst (λ s. WeavesRows s level more lead (string_bytes done.text)) same_sheet
    (subst (λ l. WeavesRows now l more lead (string_bytes done.text)) same_level added) in
    let whole : rows ≡ printing.printed = cc (printing.rows_are, flushed, append-nil printing.printed) in
    let all = rows_below sheet level page.begun old (string_bytes page.text) lead (string_bytes done.text) printing.printed more printing.unbegun
    printing.begun led some printing.woven woven in
    record {
      printed = rows ++ more;
      rows_are = sym (ap (λ (below : List (List Cell)). (rows ++ more) ++ below) empty ∙ append-nil (rows ++ more));
      unbegun = λ is. absurd (other done.begun begun is);
      begun = λ is. omega (arith, some, length-append rows more);
      woven = subst (λ (above : List (List Cell)). WeavesRows sheet level (above ++ more) old (string_bytes done.text)) (sym whole) all;
    }
  where
    other : (b : Bool) → b ≡ true → b ≡ false → ⊥
    other b on off = false≢true (sym off ∙ on)

-- a plain heading has a row
pub heading_some : (hyperlink : Bool) (style : TitleStyle) (heading : Heading) → IsPlainHeading heading
    → 0 < length (heading_rows hyperlink style heading)
heading_some hyperlink style heading plain = grind (arith, common_steps, one_row, IsUtf8-from_ascii, heading.text, plain.plain)

-- ---- its elements

-- the first n elements of a group are drawn or printed below some rows; the row in which the next one begins isn't printed yet
pub record ElementsPrinted (sheet : Stylesheet) (level : LevelInner) (r : Renderer) (layout : Layout) (place : GroupPosition) (file : Option (List ℕ))
    (es : List Element) (n : ℕ) (above : List (List Cell)) (old : List ℕ) (page : Printing) : Type 0 where
  pub rows : List (List Cell)
  pub drawn : DrawnSoFar r layout place file es n above rows
  pub printing : IsPrinting sheet level old page rows
  pub shared : shares_before es n ≡ true → 0 < length page.buffer

-- the last of some rows is one of the later ones, where there are any
last_of_later : {X : Type 0} (printed later above : List X) (x : X) → 0 < length later → printed ++ later ≡ above ++ x ∷ []
    → (init : List X) × (later ≡ init ++ x ∷ []) × (above ≡ printed ++ init)
last_of_later [] later above x some is = (above, is, refl)
last_of_later (p ∷ printed) later [] x some is = absurd (omega (arith, some, ap length is, length-append printed later))
last_of_later (p ∷ printed) later (a ∷ above) x some is =
    let rest : printed ++ later ≡ above ++ x ∷ [] = cc in
    let first : a ≡ p = cc in
    let split = last_of_later printed later above x some rest in (split.0, split.1, ap (λ xs. a ∷ xs) split.2 ∙ ap (λ y. y ∷ (printed ++ split.0)) first)

-- an element that is drawn in the grid is drawn below all rows of its group; where the next one shares its last row, the grid has that
record DrawnBelow (r : Renderer) (layout : Layout) (at : ElementContext) (found : List Cell) (e : Element) (above printed new : List (List Cell))
    : Type 0 where
  pub adds : printed ++ new ≡ above ++ drawn_rows r layout at found e
  pub some : at.shared ≡ true → 0 < length new

drawn_below : (r : Renderer) (layout : Layout) (at : ElementContext) (e : Element) (printed mid new : List (List Cell))
    → (begins_in_row_above at ≡ true → 0 < length mid)
    → ((above : List (List Cell)) (found : List Cell) → mid ≡ above ++ shared_row (begins_in_row_above at) found
    → new ≡ above ++ drawn_rows r layout at found e)
    → (above : List (List Cell)) (found : List Cell) → printed ++ mid ≡ above ++ shared_row (begins_in_row_above at) found
    → DrawnBelow r layout at found e above printed new
drawn_below r layout at e printed mid new shares adds above found is = by (begins_in_row_above at) refl
  where
    put : (first start : List (List Cell)) → start ≡ printed ++ first → new ≡ first ++ drawn_rows r layout at found e
        → DrawnBelow r layout at found e start printed new
    put first start whole added =
        let last : List Cell = last_row r layout (not (is_end at.next)) (Some e) in
        record {
          adds = ap (λ (rs : List (List Cell)). printed ++ rs) added ∙ sym (append_assoc printed first (drawn_rows r layout at found e))
              ∙ ap (λ (rs : List (List Cell)). rs ++ drawn_rows r layout at found e) (sym whole);
          some = λ shared. omega (
            arith,
            ap length added,
            length-append first (drawn_rows r layout at found e),
            length-append (cells_of (element_rows r layout at found e)) (shared_row at.shared last),
            ap (λ b. length (shared_row b last)) shared,
          );
        }

    by : (begins : Bool) → begins ≡ begins_in_row_above at → DrawnBelow r layout at found e above printed new
    by true starts =
        let here : printed ++ mid ≡ above ++ found ∷ [] = is ∙ ap (λ b. above ++ shared_row b found) (sym starts) in
        let split = last_of_later printed mid above found (shares (sym starts)) here in
        put split.0 above split.2 (adds split.0 found (split.1 ∙ ap (λ b. split.0 ++ shared_row b found) starts))
    by false starts =
        put mid above (sym (is ∙ ap (λ b. above ++ shared_row b found) (sym starts) ∙ append-nil above))
        (adds mid found (sym (ap (λ b. mid ++ shared_row b found) (sym starts) ∙ append-nil mid)))

-- before the first element the group has the rows that it had
pub elements_none : (sheet : Stylesheet) (level : LevelInner) (r : Renderer) (layout : Layout) (place : GroupPosition) (file : Option (List ℕ))
    (es : List Element) (above : List (List Cell)) (old : List ℕ) (page : Printing) → IsPrinting sheet level old page above
    → ElementsPrinted sheet level r layout place file es 0 above old page
elements_none sheet level r layout place file es above old page printing =
    record { rows = above; drawn = drawn_none r layout place file es above; printing = printing; shared = λ is. cc }

-- one more, drawn in the grid
pub elements_drawn : (sheet : Stylesheet) (level : LevelInner) (r : Renderer) (layout : Layout) (place : GroupPosition) (file : Option (List ℕ))
    (ps : List PreparedElement) (n : ℕ) (p : PreparedElement) (at : ElementContext) (above : List (List Cell))
    (old : List ℕ) (page after : Printing) → slice_get ps n ≡ Some p → at ≡ context_at place file (map element_of ps) n (element_of p)
    → after.begun ≡ page.begun → string_bytes after.text ≡ string_bytes page.text
    → ((front : List (List Cell)) (found : List Cell) → page.buffer ≡ front ++ shared_row (begins_in_row_above at) found
    → after.buffer ≡ front ++ drawn_rows r layout at found (element_of p))
    → ElementsPrinted sheet level r layout place file (map element_of ps) n above old page
    → ElementsPrinted sheet level r layout place file (map element_of ps) (n + 1) above old after
elements_drawn sheet level r layout place file ps n p at above old page after at_n at_is begun text adds before =
    let es : List Element = map element_of ps in
    let e : Element = element_of p in
    let printing = before.printing in
    let here : slice_get es n ≡ Some e = get-mapped element_of ps n p at_n in
    let begins : begins_in_row_above at ≡ shares_before es n = ap begins_in_row_above at_is ∙ begins_is place file es n e here in
    let below = drawn_below r layout at e printing.printed page.buffer after.buffer (λ starts. before.shared (sym begins ∙ starts)) adds in
    let found : List Cell = found_at r layout es n in
    let front : List (List Cell) = above ++ flat_map cells_of (take n (rows_of_elements r layout place file es)) in
    let now = below front found (sym printing.rows_are ∙ before.drawn ∙ ap (λ b. front ++ shared_row b found) (sym begins)) in
    record {
      rows = printing.printed ++ after.buffer;
      drawn = one_drawn r layout place file ps n p at above before.rows (printing.printed ++ after.buffer) at_n at_is before.drawn
          (λ start row ends. (below start row (sym printing.rows_are ∙ ends)).adds);
      printing = grind (arith, common_steps, printing, printing.printed, printing.unbegun, printing.begun, printing.woven);
      shared = λ shares. now.some (ap (λ (a : ElementContext). a.shared) at_is ∙ sym (shares_after es n) ∙ shares);
    }

-- one more, a message that is printed
pub elements_printed : (sheet : Stylesheet) (level own : LevelInner) (r : Renderer) (layout : Layout) (place : GroupPosition) (file : Option (List ℕ))
    (ps : List PreparedElement) (n : ℕ) (p : PreparedElement) (at : ElementContext) (message : message.Message) (style : TitleStyle)
    (above : List (List Cell)) (old : List ℕ) (page after : Printing) → slice_get ps n ≡ Some p
    → at ≡ context_at place file (map element_of ps) n (element_of p) → element_of p ≡ Message message → style ≡ message_style r layout at → own ≡ level
    → ((rows : List (List Cell)) → IsPrinting sheet own old page rows
    → IsPrinting sheet own old after (rows ++ heading_rows r.hyperlink style (heading_of_message message)))
    → ElementsPrinted sheet level r layout place file (map element_of ps) n above old page
    → ElementsPrinted sheet level r layout place file (map element_of ps) (n + 1) above old after
elements_printed sheet level own r layout place file ps n p at message style above old page after at_n at_is of styled same_level prints before =
    let here = subst (λ l. (rows : List (List Cell)) → IsPrinting sheet l old page rows
    → IsPrinting sheet l old after (rows ++ heading_rows r.hyperlink style (heading_of_message message))) same_level prints in
    let es : List Element = map element_of ps in
    let e : Element = element_of p in
    let more : List (List Cell) = heading_rows r.hyperlink style (heading_of_message message) in
    let stands = stands_there place file ps n p at at_n at_is in
    let alone : (begins_in_row_above at ≡ false) × (at.shared ≡ false) = subst (CanStandIn at) of stands in
    let rows_are : more ≡ message_rows r layout at message = ap (λ s. heading_rows r.hyperlink s (heading_of_message message)) styled in
    record {
      rows = before.rows ++ more;
      drawn = one_drawn r layout place file ps n p at above before.rows (before.rows ++ more) at_n at_is before.drawn
          (λ start row ends. plain_added r layout at row p (Message message) start before.rows (before.rows ++ more) more of stands (λ a. a) ends refl
          (rows_are ∙ sym (cells_of-others (message_rows r layout at message))));
      printing = here before.rows before.printing;
      shared = λ shares. absurd (never (shares_before es (n + 1)) (shares_after es n ∙ sym (ap (λ (a : ElementContext). a.shared) at_is) ∙ alone.1) shares);
    }
  where
    never : (b : Bool) → b ≡ false → b ≡ true → ⊥
    never b off on = false≢true (sym off ∙ on)

-- all of them, and what isn't printed yet
pub elements_all : (sheet : Stylesheet) (level own : LevelInner) (r : Renderer) (layout : Layout) (place : GroupPosition) (file : Option (List ℕ))
    (ps left : List PreparedElement) (n : ℕ) (walk : ContextWalk) (above : List (List Cell)) (old : List ℕ) (page after : Printing)
    → AreLeft ps n left walk → length left ≡ 0 → own ≡ level
    → ((rows : List (List Cell)) → IsPrinting sheet own old page rows → IsPrinting sheet own old after rows)
    → after.buffer ≡ []
    → ElementsPrinted sheet level r layout place file (map element_of ps) n above old page
    → WeavesRows sheet level (above ++ flat_map cells_of (rows_of_elements r layout place file (map element_of ps))) old (string_bytes after.text)
elements_all sheet level own r layout place file ps left n walk above old page after at none same_level flushed empty before =
    let here = subst (λ l. (rows : List (List Cell)) → IsPrinting sheet l old page rows → IsPrinting sheet l old after rows) same_level flushed in
    subst (λ rows. WeavesRows sheet level rows old (string_bytes after.text))
    (each_drawn r layout place file ps left n walk above before.rows at none before.drawn)
    (all_printed sheet level old after before.rows empty (here before.rows before.printing))

-- ---- a group

-- the elements below the rows of the title are the group
pub group_printed : (sheet : Stylesheet) (level own : LevelInner) (r : Renderer) (layout : Layout) (place : GroupPosition) (file : Option (List ℕ))
    (g : Group) (es : List Element) (page : Printing) (old new : List ℕ) → es ≡ drawn_elements g → own ≡ level
    → IsPrinting sheet level old page (title_part r layout place (next_of (drawn_elements g)) g.title)
    → ((from : List ℕ) (above : List (List Cell)) → IsPrinting sheet own from page above
    → WeavesRows sheet own (above ++ flat_map cells_of (rows_of_elements r layout place file es)) from new)
    → WeavesRows sheet level (group_rows (group_page r layout place file g)) old new
group_printed sheet level own r layout place file g es page old new drawn same_level titled prints =
    let title : List (List Cell) = title_part r layout place (next_of (drawn_elements g)) g.title in
    let here = subst (λ l. IsPrinting sheet l old page title) (sym same_level) titled in
    let rows : List (List Cell) = title ++ flat_map cells_of (rows_of_elements r layout place file es) in
    subst (λ elements. WeavesRows sheet level (title ++ flat_map cells_of (rows_of_elements r layout place file elements)) old new) drawn
    (subst (λ l. WeavesRows sheet l rows old new) same_level (prints old title here))

-- rows below those that are printed, drawn in the grid
pub printing_drawn : (sheet : Stylesheet) (level : LevelInner) (old : List ℕ) (page after : Printing) (rows more : List (List Cell))
    → after.begun ≡ page.begun → string_bytes after.text ≡ string_bytes page.text → after.buffer ≡ page.buffer ++ more
    → IsPrinting sheet level old page rows → IsPrinting sheet level old after (rows ++ more)
printing_drawn sheet level old page after rows more begun text added printing =
    grind (arith, append_assoc, printing.printed, printing.rows_are, page.buffer, printing.unbegun, printing.begun, printing.woven)

-- a title that is printed, and what stands below it
pub title_printed : (sheet : Stylesheet) (level : LevelInner) (r : Renderer) (layout : Layout) (place : GroupPosition) (follows known : Next)
    (title : Title) (given : Option Title) (page below after : Printing) → given ≡ Some title → follows ≡ known → page.begun ≡ false → page.buffer ≡ []
    → after.begun ≡ below.begun → string_bytes after.text ≡ string_bytes below.text
    → after.buffer ≡ below.buffer ++ rows_after_title r layout place follows title.allows_styling
    → ((rows : List (List Cell)) → IsPrinting sheet level (string_bytes page.text) page rows
    → IsPrinting sheet level (string_bytes page.text) below (rows ++ title_rows r.hyperlink title))
    → IsPrinting sheet level (string_bytes page.text) after (title_part r layout place known given)
title_printed sheet level r layout place follows known title given page below after is next unbegun empty begun text added headed =
    let old : List ℕ = string_bytes page.text in
    let none : IsPrinting sheet level old page [] = subst (λ rows. IsPrinting sheet level old page rows) empty (printing_none sheet level page unbegun) in
    let drawn = printing_drawn sheet level old below after (title_rows r.hyperlink title) (rows_after_title r layout place follows title.allows_styling)
    begun text added (headed [] none) in
    subst (λ (t : Option Title). IsPrinting sheet level old after (title_part r layout place known t)) (sym is)
    (subst (λ n. IsPrinting sheet level old after (title_part r layout place n (Some title))) next drawn)
