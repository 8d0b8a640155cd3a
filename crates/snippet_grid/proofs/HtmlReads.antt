-- What a text in HTML reads as: piece by piece, without tags and with escapes undone, it is the characters of its pieces; and its tags
-- are those of its pieces.
use Rattle.snippet_grid.proofs.Common.{common_steps, cells_alike, ◌≡◌, ◌==◌, ℕ, zero, suc, replicate, ◌<◌, Bool, true, false, codes, ◌&&◌, if◌then◌else◌}
use Rattle.snippet_grid.proofs.Common.{nat_eq, List, [], ◌∷◌, ◌++◌, length, Option, map, refl, sym, ap, ◌∙◌, arith, encode_utf8, encode_utf8_all, append_assoc}
use Rattle.snippet_grid.proofs.Common.{append-nil, flat_map-append, false≢true, encodes-append, encodes-chars, nat_list_eq_equiv, IsUtf8, AddsHtml, AnchorStart}
use Rattle.snippet_grid.proofs.Common.{HtmlGoes, HtmlLook, HtmlPiece, SpanStart, Text, anchor_started, tags_between, cells_html, ended, escape, escaped}
use Rattle.snippet_grid.proofs.Common.{html_bytes, span_started, html_text, look_at, piece_html, row_html, rows_html, same_html_look, started, Cell}
use Rattle.snippet_grid.proofs.Common.{ElementStyle, LevelInner, not, None, Some, and_parts, eqb-true, flat_map, list_all, SpanEnd, AnchorEnd, html_says}
use Rattle.snippet_grid.proofs.Common.{piece_tag, tags_of, unescaped, without_tags}
use Rattle.std.specs.Str.{chars}
use lib.Pointwise.{pointwise}
use Rattle.snippet_grid.proofs.ReplaceLemmas.{space_bytes}
use Rattle.snippet_grid.proofs.WeaveLemmas.{Url}

-- ---- characters that a text lacks

-- whether a text lacks a character
abbrev pub lacks : ℕ → List ℕ → Bool
lacks x text = list_all (λ c. not (nat_eq c x)) text

pub not_true : (b : Bool) → not b ≡ true → b ≡ false
not_true true is = absurd (false≢true is)
not_true false is = refl

pub lacks-append : (x : ℕ) (a b : List ℕ) → lacks x a ≡ true → lacks x b ≡ true → lacks x (a ++ b) ≡ true
lacks-append x [] b first second = second
lacks-append x (c ∷ cs) b first second = grind (arith, common_steps)

-- an escape, by the tests that it makes
abbrev pub escape_by : (amp lt gt quot apostrophe : Bool) → ℕ → List ℕ
escape_by amp lt gt quot apostrophe ch =
    if amp then codes "&amp;" else if lt then codes "&lt;" else if gt then codes "&gt;" else if quot then codes "&quot;" else if apostrophe then codes "&#39;"
    else ch ∷ []

lacks_less : (a b c d e : Bool) (ch : ℕ) → nat_eq ch 60 ≡ b → lacks 60 (escape_by a b c d e ch) ≡ true
lacks_less true b c d e ch is = refl
lacks_less false true c d e ch is = refl
lacks_less false false true d e ch is = refl
lacks_less false false false true e ch is = refl
lacks_less false false false false true ch is = refl
lacks_less false false false false false ch is = ap (λ (t : Bool). not t && true) is

lacks_greater : (a b c d e : Bool) (ch : ℕ) → nat_eq ch 62 ≡ c → lacks 62 (escape_by a b c d e ch) ≡ true
lacks_greater true b c d e ch is = refl
lacks_greater false true c d e ch is = refl
lacks_greater false false true d e ch is = refl
lacks_greater false false false true e ch is = refl
lacks_greater false false false false true ch is = refl
lacks_greater false false false false false ch is = ap (λ (t : Bool). not t && true) is

-- an escape holds no `<` and no `>`
escape_lacks_less : (ch : ℕ) → lacks 60 (escape ch) ≡ true
escape_lacks_less ch = lacks_less (nat_eq ch 38) (nat_eq ch 60) (nat_eq ch 62) (nat_eq ch 34) (nat_eq ch 39) ch refl

escape_lacks_greater : (ch : ℕ) → lacks 62 (escape ch) ≡ true
escape_lacks_greater ch = lacks_greater (nat_eq ch 38) (nat_eq ch 60) (nat_eq ch 62) (nat_eq ch 34) (nat_eq ch 39) ch refl

pub escaped_lacks_greater : (text : List ℕ) → lacks 62 (escaped text) ≡ true
escaped_lacks_greater [] = refl
escaped_lacks_greater (ch ∷ text) = lacks-append 62 (escape ch) (escaped text) (escape_lacks_greater ch) (escaped_lacks_greater text)

-- ---- tags

-- what has no `<` stands outside of tags
outside : (text rest : List ℕ) → lacks 60 text ≡ true → without_tags false (text ++ rest) ≡ text ++ without_tags false rest
outside [] rest none = refl
outside (c ∷ cs) rest none =
    let parts = and_parts _ _ none in
    ap (λ (b : Bool). if b then without_tags true (cs ++ rest) else (c ∷ without_tags false (cs ++ rest))) (not_true (nat_eq c 60) parts.0)
    ∙ ap (λ (t : List ℕ). c ∷ t) (outside cs rest parts.1)

-- a tag ends at the first `>`
inside : (tag rest : List ℕ) → lacks 62 tag ≡ true → without_tags true (tag ++ 62 ∷ rest) ≡ without_tags false rest
inside [] rest none = refl
inside (c ∷ cs) rest none =
    let parts = and_parts _ _ none in
    ap (λ (b : Bool). without_tags b (cs ++ 62 ∷ rest)) parts.0 ∙ inside cs rest parts.1

no_tags : (text rest : List ℕ) → lacks 60 text ≡ true → tags_of None (text ++ rest) ≡ tags_of None rest
no_tags [] rest none = refl
no_tags (c ∷ cs) rest none =
    let parts = and_parts _ _ none in
    ap (λ (b : Bool). if b then tags_of (Some []) (cs ++ rest) else tags_of None (cs ++ rest)) (not_true (nat_eq c 60) parts.0) ∙ no_tags cs rest parts.1

one_tag : (read tag rest : List ℕ) → lacks 62 tag ≡ true → tags_of (Some read) (tag ++ 62 ∷ rest) ≡ (read ++ tag) ∷ tags_of None rest
one_tag read [] rest none = ap (λ (t : List ℕ). t ∷ tags_of None rest) (sym (append-nil read))
one_tag read (c ∷ cs) rest none =
    let parts = and_parts _ _ none in
    ap (λ (b : Bool). if b then (read ∷ tags_of None (cs ++ 62 ∷ rest)) else tags_of (Some (read ++ c ∷ [])) (cs ++ 62 ∷ rest))
    (not_true (nat_eq c 62) parts.0)
    ∙ one_tag (read ++ c ∷ []) cs rest parts.1 ∙ ap (λ (t : List ℕ). t ∷ tags_of None rest) (append_assoc read (c ∷ []) cs)

-- ---- pieces

-- the characters of the text in a piece, escaped, and as they are
abbrev pub piece_escaped : HtmlPiece → List ℕ
piece_escaped (Text ch) = escape ch
piece_escaped other = []

abbrev pub piece_says : HtmlPiece → List ℕ
piece_says (Text ch) = ch ∷ []
piece_says other = []

-- whether a class ends no tag and no attribute, and begins no escape
abbrev pub is_class : List ℕ → Bool
is_class class = lacks 62 class && (lacks 34 class && lacks 38 class)

-- whether the class in a piece, if there is one, is such a one
abbrev pub is_made : HtmlPiece → Bool
is_made (SpanStart class) = is_class (chars class)
is_made other = true

-- the text of a tag that begins with this and goes on so
pub tag_text : (head body rest : List ℕ) → ((60 ∷ head) ++ (body ++ codes "\">")) ++ rest ≡ 60 ∷ ((head ++ (body ++ codes "\"")) ++ 62 ∷ rest)
tag_text head body rest = grind (arith, common_steps)

tag_dropped : (head body rest : List ℕ) → lacks 62 head ≡ true → lacks 62 body ≡ true
    → without_tags false (((60 ∷ head) ++ (body ++ codes "\">")) ++ rest) ≡ without_tags false rest
tag_dropped head body rest in_head in_body = grind (arith, common_steps, tag_text, inside, lacks-append)

tag_found : (head body rest : List ℕ) → lacks 62 head ≡ true → lacks 62 body ≡ true
    → tags_of None (((60 ∷ head) ++ (body ++ codes "\">")) ++ rest) ≡ (head ++ (body ++ codes "\"")) ∷ tags_of None rest
tag_found head body rest in_head in_body = grind (arith, common_steps, tag_text, one_tag, lacks-append)

piece_outside : (p : HtmlPiece) (rest : List ℕ) → is_made p ≡ true → without_tags false (piece_html p ++ rest) ≡ piece_escaped p ++ without_tags false rest
piece_outside (Text ch) rest made = outside (escape ch) rest (escape_lacks_less ch)
piece_outside (SpanStart class) rest made = tag_dropped (codes "span class=\"") (chars class) rest refl (and_parts _ _ made).0
piece_outside SpanEnd rest made = refl
piece_outside (AnchorStart address) rest made =
    tag_dropped (codes "a href=\"") (escaped (chars address)) rest refl (escaped_lacks_greater (chars address))
piece_outside AnchorEnd rest made = refl

piece_tags : (p : HtmlPiece) (rest : List ℕ) → is_made p ≡ true → tags_of None (piece_html p ++ rest) ≡ piece_tag p ++ tags_of None rest
piece_tags (Text ch) rest made = no_tags (escape ch) rest (escape_lacks_less ch)
piece_tags (SpanStart class) rest made = tag_found (codes "span class=\"") (chars class) rest refl (and_parts _ _ made).0
piece_tags SpanEnd rest made = refl
piece_tags (AnchorStart address) rest made =
    tag_found (codes "a href=\"") (escaped (chars address)) rest refl (escaped_lacks_greater (chars address))
piece_tags AnchorEnd rest made = refl

pieces_outside : (ps : List HtmlPiece) → list_all is_made ps ≡ true → without_tags false (html_text ps) ≡ flat_map piece_escaped ps
pieces_outside [] made = refl
pieces_outside (p ∷ ps) made =
    let parts = and_parts _ _ made in
    piece_outside p (html_text ps) parts.0 ∙ ap (λ (t : List ℕ). piece_escaped p ++ t) (pieces_outside ps parts.1)

-- the tags of a text are those of its pieces
pub tags_are : (ps : List HtmlPiece) → list_all is_made ps ≡ true → tags_of None (html_text ps) ≡ flat_map piece_tag ps
tags_are [] made = refl
tags_are (p ∷ ps) made =
    let parts = and_parts _ _ made in
    piece_tags p (html_text ps) parts.0 ∙ ap (λ (ts : List (List ℕ)). piece_tag p ++ ts) (tags_are ps parts.1)

-- ---- escapes

pub undone : (a b c d e : Bool) (ch : ℕ) (rest : List ℕ) → nat_eq ch 38 ≡ a → nat_eq ch 60 ≡ b → nat_eq ch 62 ≡ c → nat_eq ch 34 ≡ d → nat_eq ch 39 ≡ e
    → unescaped None (escape_by a b c d e ch ++ rest) ≡ ch ∷ unescaped None rest
undone true b c d e ch rest amp lt gt quot apostrophe = ap (λ (x : ℕ). x ∷ unescaped None rest) (sym (eqb-true ch 38 amp))
undone false true c d e ch rest amp lt gt quot apostrophe = ap (λ (x : ℕ). x ∷ unescaped None rest) (sym (eqb-true ch 60 lt))
undone false false true d e ch rest amp lt gt quot apostrophe = ap (λ (x : ℕ). x ∷ unescaped None rest) (sym (eqb-true ch 62 gt))
undone false false false true e ch rest amp lt gt quot apostrophe = ap (λ (x : ℕ). x ∷ unescaped None rest) (sym (eqb-true ch 34 quot))
undone false false false false true ch rest amp lt gt quot apostrophe = ap (λ (x : ℕ). x ∷ unescaped None rest) (sym (eqb-true ch 39 apostrophe))
undone false false false false false ch rest amp lt gt quot apostrophe =
    ap (λ (t : Bool). if t then unescaped (Some []) rest else (ch ∷ unescaped None rest)) amp

piece_undone : (p : HtmlPiece) (rest : List ℕ) → unescaped None (piece_escaped p ++ rest) ≡ piece_says p ++ unescaped None rest
piece_undone (Text ch) rest =
    undone (nat_eq ch 38) (nat_eq ch 60) (nat_eq ch 62) (nat_eq ch 34) (nat_eq ch 39) ch rest refl refl refl refl refl
piece_undone (SpanStart class) rest = refl
piece_undone SpanEnd rest = refl
piece_undone (AnchorStart address) rest = refl
piece_undone AnchorEnd rest = refl

pieces_undone : (ps : List HtmlPiece) → unescaped None (flat_map piece_escaped ps) ≡ flat_map piece_says ps
pieces_undone [] = refl
pieces_undone (p ∷ ps) =
    piece_undone p (flat_map piece_escaped ps) ∙ ap (λ (t : List ℕ). piece_says p ++ t) (pieces_undone ps)

-- a text says the characters of its pieces
pub html_says_pieces : (ps : List HtmlPiece) → list_all is_made ps ≡ true → html_says (html_text ps) ≡ flat_map piece_says ps
html_says_pieces ps made = ap (unescaped None) (pieces_outside ps made) ∙ pieces_undone ps

-- How a text in HTML grows by a stretch of cells, by a row's end and by a row.
-- ---- texts

html-append : (ps qs : List HtmlPiece) → html_bytes (ps ++ qs) ≡ html_bytes ps ++ html_bytes qs
html-append ps qs = ap encode_utf8_all (flat_map-append piece_html ps qs) ∙ encodes-append (html_text ps) (html_text qs)

-- nothing was added
pub adds_none : (old new : List ℕ) → new ≡ old → AddsHtml [] old new
adds_none old new is = is ∙ sym (append-nil old)

-- some pieces were added, and then others
pub adds_both : (ps qs : List HtmlPiece) (old mid new : List ℕ) → AddsHtml ps old mid → AddsHtml qs mid new → AddsHtml (ps ++ qs) old new
adds_both ps qs old mid new first second = grind (arith, common_steps, html-append)

-- the pieces of characters are these, escaped
pub text_html : (cs : List ℕ) → html_text (map Text cs) ≡ escaped cs
text_html [] = refl
text_html (c ∷ cs) = ap (λ (t : List ℕ). escape c ++ t) (text_html cs)

-- characters were added, escaped
pub adds_text : (cs old new : List ℕ) → new ≡ old ++ encode_utf8_all (escaped cs) → AddsHtml (map Text cs) old new
adds_text cs old new is = is ∙ ap (λ (t : List ℕ). old ++ encode_utf8_all t) (sym (text_html cs))

-- spaces are themselves
escaped_spaces : (n : ℕ) → escaped (replicate n 32) ≡ replicate n 32
escaped_spaces zero = refl
escaped_spaces (suc n) = ap (λ (t : List ℕ). 32 ∷ t) (escaped_spaces n)

pub adds_spaces : (n : ℕ) (old new : List ℕ) → new ≡ old ++ replicate n 32 → AddsHtml (map Text (replicate n 32)) old new
adds_spaces n old new is =
    adds_text (replicate n 32) old new (is ∙ ap (λ (t : List ℕ). old ++ t) (sym (ap encode_utf8_all (escaped_spaces n) ∙ space_bytes n)))

-- a line feed was added
pub adds_line_feed : (old new : List ℕ) → new ≡ old ++ encode_utf8 10 → AddsHtml (Text 10 ∷ []) old new
adds_line_feed old new is = is ∙ ap (λ (t : List ℕ). old ++ t) (sym (append-nil (encode_utf8 10)))

-- three texts were added, in order
pub adds_three : (a b c old one two new : List ℕ) → one ≡ old ++ encode_utf8_all a → two ≡ one ++ encode_utf8_all b → new ≡ two ++ encode_utf8_all c
    → new ≡ old ++ encode_utf8_all (a ++ (b ++ c))
adds_three a b c old one two new first second third = grind (arith, common_steps, encodes-append)

-- the text of one piece was added
pub adds_piece : (p : HtmlPiece) (old new : List ℕ) → new ≡ old ++ encode_utf8_all (piece_html p) → AddsHtml (p ∷ []) old new
adds_piece p old new is = is ∙ ap (λ (t : List ℕ). old ++ encode_utf8_all t) (sym (append-nil (piece_html p)))

-- the tags of a class and of an address were added
pub adds_span : (class old one two new : List ℕ) → IsUtf8 class → (length class == 0) ≡ false → one ≡ old ++ codes "<span class=\"" → two ≡ one ++ class
    → new ≡ two ++ codes "\">" → AddsHtml (span_started class) old new
unfolding lib.Utf8.encode
adds_span [] old one two new utf8 some first second third = absurd (false≢true (sym some))
adds_span (c ∷ cs) old one two new utf8 some first second third =
    let class : List ℕ = c ∷ cs in
    adds_piece (SpanStart class) old new (adds_three (codes "<span class=\"") (chars class) (codes "\">") old one two new first
    (second ∙ ap (λ (t : List ℕ). one ++ t) (sym (encodes-chars class utf8))) third)

pub adds_anchor : (address old one two new : List ℕ) → (length address == 0) ≡ false → one ≡ old ++ codes "<a href=\""
    → two ≡ one ++ encode_utf8_all (escaped (chars address)) → new ≡ two ++ codes "\">" → AddsHtml (anchor_started address) old new
unfolding lib.Utf8.encode
adds_anchor [] old one two new some first second third = absurd (false≢true (sym some))
adds_anchor (c ∷ cs) old one two new some first second third =
    let address : List ℕ = c ∷ cs in
    adds_piece (AnchorStart address) old new (adds_three (codes "<a href=\"") (escaped (chars address)) (codes "\">") old one two new first second third)

-- ---- what cells stand in

pub same_is_same : (look : HtmlLook) → same_html_look look look ≡ true
same_is_same look =
    ap (λ (b : Bool). b && pointwise nat_eq look.address look.address) (nat_list_eq_equiv.refl look.class) ∙ nat_list_eq_equiv.refl look.address

-- no tags stand between neighbours that stand in the same
between_same : (look : HtmlLook) → tags_between look look ≡ []
between_same look = ap (λ (b : Bool). if b then [] else (ended look ++ started look)) (same_is_same look)

-- what has this class and this address
pub look_is : (look : HtmlLook) (class address : List ℕ) → look.class ≡ class → look.address ≡ address
    → look ≡ (let made : HtmlLook = record { class = class; address = address } in made)
look_is look class address first second = grind (arith, common_steps, look.address)

-- cells after one that stands in the same
alike_html : (level : LevelInner) (role : ElementStyle) (link : Option Url) (word : List ℕ) (more : List Cell)
    → cells_html level (look_at level role link) (cells_alike role link word ++ more) ≡ map Text word ++ cells_html level (look_at level role link) more
alike_html level role link [] more = refl
alike_html level role link (ch ∷ word) more =
    let look = look_at level role link in
    ap (λ (tags : List HtmlPiece). tags ++ (Text ch ∷ cells_html level look (cells_alike role link word ++ more))) (between_same look)
    ∙ ap (λ (ps : List HtmlPiece). Text ch ∷ ps) (alike_html level role link word more)

-- cells after one that stands in something else, or the same
stretch_html : (level : LevelInner) (last : HtmlLook) (role : ElementStyle) (link : Option Url) (word : List ℕ) (more : List Cell) → 0 < length word
    → cells_html level last (cells_alike role link word ++ more)
    ≡ (tags_between last (look_at level role link) ++ map Text word) ++ cells_html level (look_at level role link) more
stretch_html level last role link [] more some = absurd (omega arith)
stretch_html level last role link (ch ∷ word) more some = grind (arith, common_steps, alike_html)

-- ---- a row

-- a stretch was printed
pub html_stretch : (level : LevelInner) (last : HtmlLook) (role : ElementStyle) (link : Option Url) (word : List ℕ) (done : List Cell) (old now new : List ℕ)
    → 0 < length word → AddsHtml (tags_between last (look_at level role link) ++ map Text word) now new → HtmlGoes level last done old now
    → HtmlGoes level (look_at level role link) (done ++ cells_alike role link word) old new
html_stretch level last role link word done old now new some added goes more = grind (arith, common_steps, stretch_html, html-append)

-- a row was closed
pub html_closed : (level : LevelInner) (last : HtmlLook) (row : List Cell) (old now new : List ℕ) → AddsHtml (ended last) now new
    → HtmlGoes level last row old now → AddsHtml (row_html level row) old new
html_closed level last row old now new added goes =
    added ∙ sym (goes []) ∙ ap (λ (cs : List Cell). old ++ html_bytes (row_html level cs)) (append-nil row)

-- ---- rows

-- one more row below others
pub rows_html-more : (level : LevelInner) (rows : List (List Cell)) (row : List Cell) → 0 < length rows
    → rows_html level (rows ++ row ∷ []) ≡ rows_html level rows ++ (Text 10 ∷ row_html level row)
rows_html-more level [] row some = absurd (omega arith)
rows_html-more level (head ∷ rows) row some = grind (arith, common_steps, flat_map-append)
