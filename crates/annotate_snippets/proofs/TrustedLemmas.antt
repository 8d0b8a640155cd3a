-- Each listed character of a group's rows is one of a trusted text.
use Rattle.std.proofs.lemmas.Grind.{common_steps}
use Rattle.std.proofs.Common.{arith, chars}
use Rattle.annotate_snippets.proofs.Common.{◌≡◌, ℕ, Bool, true, false, Option, None, Some, List, [], ◌∷◌, ◌++◌, if◌then◌else◌, refl}
use Rattle.annotate_snippets.proofs.Common.{sym, subst, Contains, flat_map, option_to_list, cow_str_bytes, All-nil, All-cons, All-head, All-tail, All-append}
use Rattle.annotate_snippets.proofs.Common.{All-map, All-weaker, Contains-append_left, Contains-append_right, flat_map-append, is_listed, IsFree, IsFreeCell}
use Rattle.annotate_snippets.proofs.Common.{Cell, row_text, further_text, plain_text, Element, Message, Cause, Suggestion, Origin, Padding, Title, Heading}
use Rattle.annotate_snippets.proofs.Common.{heading_of_message, heading_of_title, trusted_of_element, trusted_of_title, IsFreeButText, title_rows}
use Rattle.annotate_snippets.proofs.Common.{heading_rows-free, closing_row-free, separator_row-free, is_before_message, NamedRow, cells_of, rows_after_title}
use Rattle.annotate_snippets.proofs.Common.{title_part, IsFreeBut, IsFreeElement, Renderer, Layout, GroupPosition, Next, closing_row, separator_row}
use Rattle.std.specs.List.{All}
use Rattle.snippet_model.specs.declared.snippet.Message.{Message as MessageGiven}
use Rattle.snippet_titles.specs.declared.style.TitleStyle.TheVariants as style

-- a character that isn't listed, or is one of a trusted text
abbrev pub IsTrusted : List (List ℕ) → ℕ → Type 0
IsTrusted trusted c = is_listed c ≡ true → Contains (flat_map chars trusted) c

-- a row none of whose listed characters is of another text
abbrev pub IsFreeRow : List (List ℕ) → List Cell → Type 0
IsFreeRow trusted row = IsFreeBut trusted (row_text row)

-- a character that isn't listed
unlisted : (trusted : List (List ℕ)) (c : ℕ) → is_listed c ≡ false → IsTrusted trusted c
unlisted trusted c free listed = absurd (clash (is_listed c) free listed)
  where
    clash : (b : Bool) → b ≡ false → b ≡ true → ⊥
    clash true is_false is_true = cc
    clash false is_false is_true = cc

-- a text that holds none
pub unlisted_text : (trusted : List (List ℕ)) (text : List ℕ) → All (λ c. is_listed c ≡ false) text → IsFreeBut trusted text
unlisted_text trusted text free = All-weaker (λ c. is_listed c ≡ false) (IsTrusted trusted) (unlisted trusted) text free

-- rows that hold no listed character
pub free_rows : (trusted : List (List ℕ)) (rows : List (List Cell)) → All IsFree rows → All (IsFreeRow trusted) rows
free_rows trusted rows free =
    All-weaker IsFree (IsFreeRow trusted) (λ row free_row. All-map (IsTrusted trusted) (λ (cell : Cell). cell.ch) row
    (All-weaker IsFreeCell (λ cell. IsTrusted trusted cell.ch) (λ cell is. unlisted trusted cell.ch is.0) row free_row)) rows free

-- the text of such rows
further_free : (trusted : List (List ℕ)) (rows : List (List Cell)) → All (IsFreeRow trusted) rows → IsFreeBut trusted (further_text rows)
further_free trusted [] free = All-nil (IsTrusted trusted)
further_free trusted (row ∷ rows) free =
    All-append (IsTrusted trusted) (10 ∷ row_text row) (further_text rows)
    (All-cons (IsTrusted trusted) 10 (row_text row) (unlisted trusted 10 refl) (All-head (IsFreeRow trusted) row rows free))
    (further_free trusted rows (All-tail (IsFreeRow trusted) row rows free))

-- the text of rows that are free but for trusted texts is free but for them
pub free_text : (trusted : List (List ℕ)) (rows : List (List Cell)) → All (IsFreeRow trusted) rows → IsFreeBut trusted (plain_text rows)
free_text trusted [] free = All-nil (IsTrusted trusted)
free_text trusted (row ∷ rows) free =
    All-append (IsTrusted trusted) (row_text row) (further_text rows) (All-head (IsFreeRow trusted) row rows free)
    (further_free trusted rows (All-tail (IsFreeRow trusted) row rows free))

-- each character of these texts is one of those
abbrev pub AreTextsAmong : List (List ℕ) → List (List ℕ) → Type 0
AreTextsAmong trusted texts = (c : ℕ) → Contains (flat_map chars texts) c → Contains (flat_map chars trusted) c

-- a text that holds no listed character but those of a heading's text, which is among the trusted texts if it is trusted
pub own_text : (trusted : List (List ℕ)) (heading : Heading)
    → (heading.allows_styling ≡ true → (c : ℕ) → Contains (chars heading.text) c → Contains (flat_map chars trusted) c) → (text : List ℕ)
    → All (λ c. is_listed c ≡ true → (heading.allows_styling ≡ true) × Contains (chars heading.text) c) text → IsFreeBut trusted text
own_text trusted heading among text own = grind (arith, All-weaker, heading.allows_styling, heading.text)

-- a row that holds no other
pub own_row : (trusted : List (List ℕ)) (heading : Heading)
    → (heading.allows_styling ≡ true → (c : ℕ) → Contains (chars heading.text) c → Contains (flat_map chars trusted) c) → (row : List Cell)
    → IsFreeButText heading row → IsFreeRow trusted row
own_row trusted heading among row own = own_text trusted heading among (row_text row) own

-- the text of a title is among the trusted ones if it is trusted, and that of a message is
pub title_among : (title : Title) (more : List (List ℕ)) → title.allows_styling ≡ true → (c : ℕ) → Contains (chars (cow_str_bytes title.text)) c
    → Contains (flat_map chars (flat_map trusted_of_title (title ∷ []) ++ more)) c
title_among title more styled c is = grind (arith, common_steps, Contains-append_left, title.text)

-- each character of a trusted message is one of the trusted texts
pub message_among : (trusted : List (List ℕ)) (message : MessageGiven) → AreTextsAmong trusted (trusted_of_element (Message message)) → (c : ℕ)
    → Contains (chars (cow_str_bytes message.text)) c → Contains (flat_map chars trusted) c
message_among trusted message among c is = among c (Contains-append_left (chars (cow_str_bytes message.text)) [] c is)

-- the rows below a title
pub after_title-free : (r : Renderer) (layout : Layout) (place : GroupPosition) (follows : Next) (trusted : Bool)
    → All IsFree (rows_after_title r layout place follows trusted)
after_title-free r layout place follows trusted = by (is_before_message follows) _
  where
    closing : (closes : Bool) → All IsFree (if closes then (closing_row layout.decor layout.gutter ∷ []) else [])
    closing true = All-cons IsFree _ [] (closing_row-free layout.decor layout.gutter) (All-nil IsFree)
    closing false = All-nil IsFree

    by : (before closes : Bool)
        → All IsFree (if before then (separator_row layout.decor layout.gutter ∷ []) else
        (if closes then (closing_row layout.decor layout.gutter ∷ []) else []))
    by true closes = All-cons IsFree _ [] (separator_row-free layout.decor layout.gutter) (All-nil IsFree)
    by false closes = closing closes

-- the listed characters of a title's part of a group are of its trusted text
pub title_part-free : (r : Renderer) (layout : Layout) (place : GroupPosition) (follows : Next) (title : Option Title) (more : List (List ℕ))
    → All (IsFreeRow (flat_map trusted_of_title (option_to_list title) ++ more)) (title_part r layout place follows title)
title_part-free r layout place follows None more = All-nil (IsFreeRow more)
title_part-free r layout place follows (Some title) more =
    let trusted : List (List ℕ) = flat_map trusted_of_title (title ∷ []) ++ more in
    let own : List (List Cell) = title_rows r.hyperlink title in
    let after : List (List Cell) = rows_after_title r layout place follows title.allows_styling in
    All-append (IsFreeRow trusted) own after
    (All-weaker (IsFreeButText (heading_of_title title)) (IsFreeRow trusted) (own_row trusted (heading_of_title title) (title_among title more))
    own (heading_rows-free r.hyperlink style.Title (heading_of_title title)))
    (free_rows trusted after (after_title-free r layout place follows title.allows_styling))

-- so are those of the rows of an element whose trusted texts are among these
pub element_free : (trusted : List (List ℕ)) (e : Element) (part : List NamedRow) → AreTextsAmong trusted (trusted_of_element e) → IsFreeElement e part
    → All (IsFreeRow trusted) (cells_of part)
element_free trusted (Message message) part among free =
    All-map (IsFreeRow trusted) (λ (row : NamedRow). row.cells) part (All-weaker (λ (row : NamedRow). IsFreeButText (heading_of_message message)
    row.cells) (λ (row : NamedRow). IsFreeRow trusted row.cells)
    (λ row own. own_row trusted (heading_of_message message) (λ styled. message_among trusted message among) row.cells own) part free)
element_free trusted (Cause snippet) part among free = free_rows trusted (cells_of part) (All-map IsFree (λ (row : NamedRow). row.cells) part free)
element_free trusted (Suggestion snippet) part among free = free_rows trusted (cells_of part) (All-map IsFree (λ (row : NamedRow). row.cells) part free)
element_free trusted (Origin origin) part among free = free_rows trusted (cells_of part) (All-map IsFree (λ (row : NamedRow). row.cells) part free)
element_free trusted (Padding padding) part among free = free_rows trusted (cells_of part) (All-map IsFree (λ (row : NamedRow). row.cells) part free)

-- the trusted texts of each of some elements are among those of all
pub texts_among : (titles : List (List ℕ)) (es : List Element) → All (λ e. AreTextsAmong (titles ++ flat_map trusted_of_element es) (trusted_of_element e)) es
texts_among titles es =
    All-weaker (λ e. AreTextsAmong (flat_map trusted_of_element es) (trusted_of_element e)) (λ e.
    AreTextsAmong (titles ++ flat_map trusted_of_element es) (trusted_of_element e)) (λ e among c is. after c (among c is)) es (each es)
  where
    after : (c : ℕ) → Contains (flat_map chars (flat_map trusted_of_element es)) c → Contains (flat_map chars (titles ++ flat_map trusted_of_element es)) c
    after c is =
        subst (λ cs. Contains cs c) (sym (flat_map-append chars titles (flat_map trusted_of_element es)))
        (Contains-append_right (flat_map chars titles) (flat_map chars (flat_map trusted_of_element es)) c is)

    each : (xs : List Element) → All (λ e. AreTextsAmong (flat_map trusted_of_element xs) (trusted_of_element e)) xs
    each [] = All-nil (λ e. AreTextsAmong [] (trusted_of_element e))
    each (x ∷ xs) =
        let own : List (List ℕ) = trusted_of_element x in
        let others : List (List ℕ) = flat_map trusted_of_element xs in
        let same : flat_map chars (own ++ others) ≡ flat_map chars own ++ flat_map chars others = flat_map-append chars own others in
        let All_in : Element → Type 0 = λ e. AreTextsAmong (own ++ others) (trusted_of_element e) in
        All-cons All_in x xs (λ c is. subst (λ cs. Contains cs c) (sym same) (Contains-append_left (flat_map chars own) (flat_map chars others) c is))
        (All-weaker (λ e. AreTextsAmong others (trusted_of_element e)) All_in (λ e among c is. subst (λ cs. Contains cs c) (sym same)
        (Contains-append_right (flat_map chars own) (flat_map chars others) c (among c is))) xs (each xs))
