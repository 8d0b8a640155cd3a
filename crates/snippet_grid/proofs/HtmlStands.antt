-- What each character of a text in HTML stands in, as it is read: what it stands in by the pieces of the text.
use Rattle.snippet_grid.proofs.Common.{common_steps, arith, ◌≡◌, ℕ, Bool, true, false, not, ◌&&◌, if◌then◌else◌, nat_eq, List, [], ◌∷◌, ◌++◌, None, Some, codes}
use Rattle.snippet_grid.proofs.Common.{refl, sym, ap, ◌∙◌, map, and_parts, eqb-true, append_assoc, append-nil, list_all, HtmlLook, HtmlPiece, Text, SpanStart}
use Rattle.snippet_grid.proofs.Common.{SpanEnd, AnchorStart, AnchorEnd, escaped, html_text, plain_look, CharInTags, InTags, InText, InTag, after_tag, as_read}
use Rattle.snippet_grid.proofs.Common.{html_reads, quoted, reads, tags_in, unescaped}
use Rattle.std.specs.Str.{chars}
use Rattle.snippet_grid.proofs.HtmlLaws.{chars_read}
use Rattle.snippet_grid.proofs.HtmlReads.{escape_by, escaped_lacks_greater, is_made, lacks, lacks-append, not_true, tag_text, undone}

-- a tag is read to its end
tag_read : (tags : InTags) (read tag rest : List ℕ) → lacks 62 tag ≡ true
    → reads tags (InTag read) (tag ++ 62 ∷ rest) ≡ reads (after_tag tags (read ++ tag)) InText rest
tag_read tags read [] rest none = ap (λ (t : List ℕ). reads (after_tag tags t) InText rest) (sym (append-nil read))
tag_read tags read (c ∷ cs) rest none =
    let parts = and_parts _ _ none in
    ap (λ (b : Bool). if b then reads (after_tag tags read) InText (cs ++ 62 ∷ rest) else reads tags (InTag (read ++ c ∷ [])) (cs ++ 62 ∷ rest))
    (not_true (nat_eq c 62) parts.0)
    ∙ tag_read tags (read ++ c ∷ []) cs rest parts.1 ∙ ap (λ (t : List ℕ). reads (after_tag tags t) InText rest) (append_assoc read (c ∷ []) cs)

-- a character in these tags
abbrev in_tags : InTags → ℕ → CharInTags
in_tags tags ch = record { ch = ch; tags = tags }

-- a character is read as it is, or of its escape
char_read : (a b c d e : Bool) (tags : InTags) (ch : ℕ) (rest : List ℕ) → nat_eq ch 38 ≡ a → nat_eq ch 60 ≡ b → nat_eq ch 62 ≡ c
    → nat_eq ch 34 ≡ d → nat_eq ch 39 ≡ e → reads tags InText (escape_by a b c d e ch ++ rest) ≡ in_tags tags ch ∷ reads tags InText rest
char_read true b c d e tags ch rest amp lt gt quot apostrophe =
    ap (λ (x : ℕ). in_tags tags x ∷ reads tags InText rest) (sym (eqb-true ch 38 amp))
char_read false true c d e tags ch rest amp lt gt quot apostrophe =
    ap (λ (x : ℕ). in_tags tags x ∷ reads tags InText rest) (sym (eqb-true ch 60 lt))
char_read false false true d e tags ch rest amp lt gt quot apostrophe =
    ap (λ (x : ℕ). in_tags tags x ∷ reads tags InText rest) (sym (eqb-true ch 62 gt))
char_read false false false true e tags ch rest amp lt gt quot apostrophe =
    ap (λ (x : ℕ). in_tags tags x ∷ reads tags InText rest) (sym (eqb-true ch 34 quot))
char_read false false false false true tags ch rest amp lt gt quot apostrophe =
    ap (λ (x : ℕ). in_tags tags x ∷ reads tags InText rest) (sym (eqb-true ch 39 apostrophe))
char_read false false false false false tags ch rest amp lt gt quot apostrophe = grind (arith, common_steps)

-- what has no quote stands before the quote
before_quote : (text rest : List ℕ) → lacks 34 text ≡ true → quoted (text ++ 34 ∷ rest) ≡ text
before_quote [] rest none = refl
before_quote (c ∷ cs) rest none =
    let parts = and_parts _ _ none in
    ap (λ (b : Bool). if b then [] else (c ∷ quoted (cs ++ 34 ∷ rest))) (not_true (nat_eq c 34) parts.0)
    ∙ ap (λ (t : List ℕ). c ∷ t) (before_quote cs rest parts.1)

-- what has no `&` has no escapes
no_escapes : (text : List ℕ) → lacks 38 text ≡ true → unescaped None text ≡ text
no_escapes [] none = refl
no_escapes (c ∷ cs) none =
    let parts = and_parts _ _ none in
    ap (λ (b : Bool). if b then unescaped (Some []) cs else (c ∷ unescaped None cs)) (not_true (nat_eq c 38) parts.0)
    ∙ ap (λ (t : List ℕ). c ∷ t) (no_escapes cs parts.1)

-- what was escaped reads as it was
escaped_undone : (text : List ℕ) → unescaped None (escaped text) ≡ text
escaped_undone [] = refl
escaped_undone (ch ∷ text) = grind (arith, common_steps, undone, escaped_undone text)

lacks_quote : (a b c d e : Bool) (ch : ℕ) → nat_eq ch 34 ≡ d → lacks 34 (escape_by a b c d e ch) ≡ true
lacks_quote true b c d e ch is = refl
lacks_quote false true c d e ch is = refl
lacks_quote false false true d e ch is = refl
lacks_quote false false false true e ch is = refl
lacks_quote false false false false true ch is = refl
lacks_quote false false false false false ch is = ap (λ (t : Bool). not t && true) is

escaped_lacks_quote : (text : List ℕ) → lacks 34 (escaped text) ≡ true
escaped_lacks_quote [] = refl
escaped_lacks_quote (ch ∷ text) = grind (arith, common_steps, lacks-append, lacks_quote, escaped_lacks_quote text)

-- after the tag that begins a class, or a link, that stands open
class_opened : (tags : InTags) (class : List ℕ) → lacks 34 class ≡ true → lacks 38 class ≡ true
    → after_tag tags (codes "span class=\"" ++ (class ++ codes "\"")) ≡ record tags { class = class }
class_opened tags class no_quote no_escape = grind (arith, common_steps, before_quote, no_escapes)

link_opened : (tags : InTags) (address : List ℕ)
    → after_tag tags (codes "a href=\"" ++ (escaped address ++ codes "\"")) ≡ record tags { address = address }
link_opened tags address = grind (arith, common_steps, before_quote, escaped_lacks_quote, escaped_undone)

no_chars : chars [] ≡ []
unfolding chars
no_chars = refl

-- a tag that begins with this and goes on so is read, and what stands open then is read on
tag_passed : (tags : InTags) (head body rest : List ℕ) → lacks 62 head ≡ true → lacks 62 body ≡ true
    → reads tags InText (((60 ∷ head) ++ (body ++ codes "\">")) ++ rest) ≡ reads (after_tag tags (head ++ (body ++ codes "\""))) InText rest
tag_passed tags head body rest in_head in_body = grind (arith, common_steps, tag_text, tag_read, lacks-append)

-- what is read of the text of some pieces: the characters of the pieces, each with the class and the address that are open there
pub pieces_read : (look : HtmlLook) (ps : List HtmlPiece) → list_all is_made ps ≡ true
    → reads (tags_in look) InText (html_text ps) ≡ map as_read (chars_read look ps)
pieces_read look [] made = refl
pieces_read look (Text ch ∷ ps) made =
    let parts = and_parts (is_made (Text ch)) _ made in
    let read : CharInTags = record { ch = ch; tags = tags_in look } in
    char_read (nat_eq ch 38) (nat_eq ch 60) (nat_eq ch 62) (nat_eq ch 34) (nat_eq ch 39) (tags_in look) ch (html_text ps) refl refl refl refl refl
    ∙ ap (λ (rs : List CharInTags). read ∷ rs) (pieces_read look ps parts.1)
pieces_read look (SpanStart class ∷ ps) made =
    let parts = and_parts (is_made (SpanStart class)) _ made in
    let named = and_parts _ _ parts.0 in
    let plain = and_parts _ _ named.1 in
    let next : HtmlLook = record look { class = class } in
    tag_passed (tags_in look) (codes "span class=\"") (chars class) (html_text ps) refl named.0
    ∙ ap (λ (t : InTags). reads t InText (html_text ps)) (class_opened (tags_in look) (chars class) plain.0 plain.1)
    ∙ pieces_read next ps parts.1
pieces_read look (SpanEnd ∷ ps) made =
    let parts = and_parts (is_made (SpanEnd)) _ made in
    let next : HtmlLook = record look { class = [] } in
    ap (λ (none : List ℕ). (let tags : InTags = record { class = none; address = chars look.address } in reads tags InText (html_text ps))) (sym no_chars)
    ∙ pieces_read next ps parts.1
pieces_read look (AnchorStart address ∷ ps) made =
    let parts = and_parts (is_made (AnchorStart address)) _ made in
    let next : HtmlLook = record look { address = address } in
    tag_passed (tags_in look) (codes "a href=\"") (escaped (chars address)) (html_text ps) refl (escaped_lacks_greater (chars address))
    ∙ ap (λ (t : InTags). reads t InText (html_text ps)) (link_opened (tags_in look) (chars address))
    ∙ pieces_read next ps parts.1
pieces_read look (AnchorEnd ∷ ps) made =
    let parts = and_parts (is_made (AnchorEnd)) _ made in
    let next : HtmlLook = record look { address = [] } in
    ap (λ (none : List ℕ). (let tags : InTags = record { class = chars look.class; address = none } in reads tags InText (html_text ps))) (sym no_chars)
    ∙ pieces_read next ps parts.1

-- what is read of the text of pieces at whose beginning nothing is open
pub html_reads_pieces : (ps : List HtmlPiece) → list_all is_made ps ≡ true → html_reads (html_text ps) ≡ map as_read (chars_read plain_look ps)
html_reads_pieces ps made = grind (arith, common_steps, no_chars, pieces_read plain_look ps made, made)
