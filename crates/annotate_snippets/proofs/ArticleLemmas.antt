-- What stands in an article: what is added piece by piece, and what is read of an escaped text.
use Rattle.std.proofs.Common.{arith, append_assoc, chars}
use Rattle.annotate_snippets.proofs.Common.{◌≡◌, ◌∙◌, ℕ, Bool, true, List, [], ◌∷◌, ◌++◌, Option, Some, None, map, refl, sym, ap}
use Rattle.annotate_snippets.proofs.Common.{encode_utf8_all, codes, cow_str_bytes, flat_map, list_all, option_map, made-append, adds_both, adds_piece}
use Rattle.annotate_snippets.proofs.Common.{adds_three, text_html, html_says_pieces, is_made, piece_says, tags_are, AddsHtml, AnchorEnd, AnchorStart, HtmlPiece}
use Rattle.annotate_snippets.proofs.Common.{html_text, html_says, piece_tag, tags_of, Heading, Id, norm, closing_bracket_of, opening_bracket_of, address_of}
use Rattle.annotate_snippets.proofs.Common.{bracketed_html, id_html, linked_html, title_html}
use Rattle.snippet_grid.specs.Html.{Text, escaped}

-- ---- what is read

texts-made : (cs : List ℕ) → list_all is_made (map Text cs) ≡ true
texts-made [] = refl
texts-made (c ∷ cs) = texts-made cs

texts-say : (cs : List ℕ) → flat_map piece_says (map Text cs) ≡ cs
texts-say [] = refl
texts-say (c ∷ cs) = ap (λ t. c ∷ t) (texts-say cs)

texts-tag : (cs : List ℕ) → flat_map piece_tag (map Text cs) ≡ []
texts-tag [] = refl
texts-tag (c ∷ cs) = texts-tag cs

-- a text, escaped, is read as it is, and has no tag
pub escaped-says : (given : List ℕ) → html_says (escaped given) ≡ given
escaped-says given = ap html_says (sym (text_html given)) ∙ html_says_pieces (map Text given) (texts-made given) ∙ texts-say given

pub escaped-untagged : (given : List ℕ) → tags_of None (escaped given) ≡ []
escaped-untagged given = ap (tags_of None) (sym (text_html given)) ∙ tags_are (map Text given) (texts-made given) ∙ texts-tag given

-- the pieces of a heading end no tag of their own
linked-made : (address : Option (List ℕ)) (text : List ℕ) → list_all is_made (linked_html address text) ≡ true
linked-made None text = texts-made text
linked-made (Some address) text = made-append (map Text text) (AnchorEnd ∷ []) (texts-made text) refl

bracketed-made : (hidden : Bool) (address text : Option (List ℕ)) → list_all is_made (bracketed_html hidden address text) ≡ true
bracketed-made hidden address None = refl
bracketed-made hidden address (Some text) = grind (arith, made-append, texts-made, linked-made)

id-made : (links hidden : Bool) (id : Option Id) → list_all is_made (id_html links hidden id) ≡ true
id-made links hidden None = refl
id-made links hidden (Some id) = bracketed-made hidden (address_of links (option_map cow_str_bytes id.url)) (option_map cow_str_bytes id.id)

-- so its tags are those of a link
pub heading-tags : (links : Bool) (heading : Heading)
    → tags_of None (html_text (title_html links heading)) ≡ flat_map piece_tag (title_html links heading)
heading-tags links heading = grind (arith, tags_are, made-append, texts-made, id-made, heading.level.name, heading.level, heading.id, heading.text)

-- ---- what is added

-- the tag that begins a link was added, and the one that ends it
pub link-started : (address old one two new : List ℕ) → one ≡ old ++ codes "<a href=\"" → two ≡ one ++ encode_utf8_all (escaped (chars address))
    → new ≡ two ++ codes "\">" → AddsHtml (AnchorStart address ∷ []) old new
unfolding lib.Utf8.encode
link-started address old one two new first second third =
    adds_piece (AnchorStart address) old new (adds_three (codes "<a href=\"") (escaped (chars address)) (codes "\">") old one two new first second third)

pub link-ended : (old new : List ℕ) → new ≡ old ++ codes "</a>" → AddsHtml (AnchorEnd ∷ []) old new
unfolding lib.Utf8.encode
link-ended old new is = adds_piece AnchorEnd old new is

-- a text that links was added
pub linked-added : (address old one two new text : List ℕ) → AddsHtml (AnchorStart address ∷ []) old one → AddsHtml (map Text text) one two
    → AddsHtml (AnchorEnd ∷ []) two new → AddsHtml (linked_html (Some address) text) old new
linked-added address old one two new text first second third =
    adds_both (AnchorStart address ∷ []) (map Text text ++ AnchorEnd ∷ []) old one new first
    (adds_both (map Text text) (AnchorEnd ∷ []) one two new second third)

-- three and four stretches were added
pub three-added : (ps qs rs : List HtmlPiece) (old one two new : List ℕ) → AddsHtml ps old one → AddsHtml qs one two → AddsHtml rs two new
    → AddsHtml ((ps ++ qs) ++ rs) old new
three-added ps qs rs old one two new first second third = adds_both (ps ++ qs) rs old two new (adds_both ps qs old one two first second) third

pub four-added : (ps qs rs ss : List HtmlPiece) (old one two three new : List ℕ) → AddsHtml ps old one → AddsHtml qs one two → AddsHtml rs two three
    → AddsHtml ss three new → AddsHtml (((ps ++ qs) ++ rs) ++ ss) old new
four-added ps qs rs ss old one two three new first second third fourth =
    adds_both ((ps ++ qs) ++ rs) ss old three new (three-added ps qs rs old one two three first second third) fourth

-- an id that has a text
pub id-some : (links hidden : Bool) (id : Option Id) (one : Id) (text : List ℕ) → id ≡ Some one → option_map cow_str_bytes one.id ≡ Some text
    → id_html links hidden id
    ≡ (map Text (opening_bracket_of hidden) ++ linked_html (address_of links (option_map cow_str_bytes one.url)) (norm (chars text)))
    ++ map Text (closing_bracket_of hidden)
id-some links hidden id one text is has = ap (id_html links hidden) is ∙ ap (bracketed_html hidden (address_of links (option_map cow_str_bytes one.url))) has

-- three texts were added
pub bytes-added : (old a b c one two new : List ℕ) → one ≡ old ++ a → two ≡ one ++ b → new ≡ two ++ c → new ≡ old ++ ((a ++ b) ++ c)
bytes-added old a b c one two new first second third = cc (third, second, first, append_assoc old a b, append_assoc old (a ++ b) c)
