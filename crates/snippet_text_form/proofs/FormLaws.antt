-- A text form under a sheet: it is a woven text, whose plain text and links are the form's own.
use Rattle.std.proofs.lemmas.Grind.{common_steps}
use Rattle.std.proofs.Common.{arith}
use Rattle.snippet_text_form.proofs.Common.{◌≡◌, ℕ, Bool, true, false, List, [], ◌∷◌, ◌++◌, Option, None, Some, All, map, refl, ap}
use Rattle.snippet_text_form.proofs.Common.{◌∙◌, flat_map, option_to_list, append_assoc, All-nil, All-cons, Piece, Opening, Reset, LinkEnd}
use Rattle.snippet_text_form.proofs.Common.{plain_piece, piece_link, IsOfSheet, AreLinksEnded, IsStyleOf, IsWoven, ElementStyle, Note, Style, Stylesheet}
use Rattle.snippet_text_form.proofs.Common.{FormPiece, Char, Break, Styled, begun_after, plain_from, form_text, form_links, link_codes_before, link_codes_after}
use Rattle.snippet_text_form.proofs.Common.{in_style, role_style, woven_from, form_bytes}
use Rattle.snippet_grid.specs.Woven as woven

-- the woven characters of a text
abbrev pub woven_chars : List ℕ → List Piece
woven_chars cs = map (λ ch. woven.Char ch) cs

-- a text in a style, piece by piece
pub in_style-pieces : (style : Style) (link : Option (List ℕ)) (text : List ℕ) (rest : List Piece)
    → in_style style link text ++ rest ≡ Opening style ∷ (link_codes_before link ++ (woven_chars text ++ (link_codes_after link ++ Reset style ∷ rest)))
in_style-pieces style None text rest =
    ap (λ (ps : List Piece). Opening style ∷ ps) (append_assoc (woven_chars text) (Reset style ∷ []) rest)
in_style-pieces style (Some url) text rest = grind (arith, append_assoc)

-- the plain text
plain_form_chars : (cs : List ℕ) (ps : List Piece) → flat_map plain_piece (woven_chars cs ++ ps) ≡ cs ++ flat_map plain_piece ps
plain_form_chars [] ps = refl
plain_form_chars (c ∷ cs) ps = ap (λ (t : List ℕ). c ∷ t) (plain_form_chars cs ps)

plain-linked : (style : Style) (link : Option (List ℕ)) (text : List ℕ) (rest : List Piece)
    → flat_map plain_piece (link_codes_before link ++ (woven_chars text ++ (link_codes_after link ++ Reset style ∷ rest))) ≡ text ++ flat_map plain_piece rest
plain-linked style None text rest = plain_form_chars text (Reset style ∷ rest)
plain-linked style (Some url) text rest = plain_form_chars text (LinkEnd ∷ Reset style ∷ rest)

plain-in_style : (style : Style) (link : Option (List ℕ)) (text : List ℕ) (rest : List Piece)
    → flat_map plain_piece (in_style style link text ++ rest) ≡ text ++ flat_map plain_piece rest
plain-in_style style link text rest =
    ap (flat_map plain_piece) (in_style-pieces style link text rest) ∙ plain-linked style link text rest

woven-plain : (sheet : Stylesheet) (begun : Bool) (form : List FormPiece) → flat_map plain_piece (woven_from sheet begun form) ≡ plain_from begun form
woven-plain sheet begun [] = refl
woven-plain sheet begun (Char ch ∷ ps) = ap (λ (t : List ℕ). ch ∷ t) (woven-plain sheet true ps)
woven-plain sheet true (Break ∷ ps) = ap (λ (t : List ℕ). 10 ∷ t) (woven-plain sheet true ps)
woven-plain sheet false (Break ∷ ps) = woven-plain sheet false ps
woven-plain sheet begun (Styled role link text ∷ ps) = grind (arith, woven-plain sheet (begun_after begun text) ps, plain-in_style)

-- the links
links-chars : (cs : List ℕ) (ps : List Piece) → flat_map piece_link (woven_chars cs ++ ps) ≡ flat_map piece_link ps
links-chars [] ps = refl
links-chars (c ∷ cs) ps = links-chars cs ps

links-linked : (style : Style) (link : Option (List ℕ)) (text : List ℕ) (rest : List Piece)
    → flat_map piece_link (link_codes_before link ++ (woven_chars text ++ (link_codes_after link ++ Reset style ∷ rest))) ≡ option_to_list link
    ++ flat_map piece_link rest
links-linked style None text rest = links-chars text (Reset style ∷ rest)
links-linked style (Some url) text rest =
    ap (λ (urls : List (List ℕ)). url ∷ urls) (links-chars text (LinkEnd ∷ Reset style ∷ rest))

woven-links : (sheet : Stylesheet) (begun : Bool) (form : List FormPiece) → flat_map piece_link (woven_from sheet begun form) ≡ form_links form
woven-links sheet begun [] = refl
woven-links sheet begun (Char ch ∷ ps) = woven-links sheet true ps
woven-links sheet true (Break ∷ ps) = woven-links sheet true ps
woven-links sheet false (Break ∷ ps) = woven-links sheet false ps
woven-links sheet begun (Styled role link text ∷ ps) = grind (arith, woven-links sheet (begun_after begun text) ps, in_style-pieces, links-linked)

-- the styles are those of the sheet
chars_of_sheet : (sheet : Stylesheet) (cs : List ℕ) (ps : List Piece) → All (λ p. IsOfSheet sheet p) ps → All (λ p. IsOfSheet sheet p) (woven_chars cs ++ ps)
chars_of_sheet sheet [] ps of = of
chars_of_sheet sheet (c ∷ cs) ps of =
    All-cons (λ p. IsOfSheet sheet p) (woven.Char c) (woven_chars cs ++ ps) tt (chars_of_sheet sheet cs ps of)

linked_of_sheet : (sheet : Stylesheet) (link : Option (List ℕ)) (text : List ℕ) (ps : List Piece) → All (λ p. IsOfSheet sheet p) ps
    → All (λ p. IsOfSheet sheet p) (link_codes_before link ++ (woven_chars text ++ (link_codes_after link ++ ps)))
linked_of_sheet sheet None text ps of = chars_of_sheet sheet text ps of
linked_of_sheet sheet (Some url) text ps of =
    All-cons (λ p. IsOfSheet sheet p) _ _ tt (chars_of_sheet sheet text (LinkEnd ∷ ps) (All-cons (λ p. IsOfSheet sheet p) LinkEnd ps tt of))

in_style_of_sheet : (sheet : Stylesheet) (role : ElementStyle) (link : Option (List ℕ)) (text : List ℕ) (rest : List Piece) → All (λ p. IsOfSheet sheet p) rest
    → All (λ p. IsOfSheet sheet p) (in_style (role_style sheet role) link text ++ rest)
in_style_of_sheet sheet role link text rest of =
    let style : Style = role_style sheet role in
    let own : IsStyleOf sheet style = record { level = Note; role = role; is = refl } in
    let after = All-cons (λ p. IsOfSheet sheet p) (Reset style) rest own of in
    let linked = linked_of_sheet sheet link text (Reset style ∷ rest) after in grind (arith, common_steps, in_style-pieces, All-cons)

woven_of_sheet : (sheet : Stylesheet) (begun : Bool) (form : List FormPiece) → All (λ p. IsOfSheet sheet p) (woven_from sheet begun form)
woven_of_sheet sheet begun [] = All-nil (λ p. IsOfSheet sheet p)
woven_of_sheet sheet begun (Char ch ∷ ps) =
    All-cons (λ p. IsOfSheet sheet p) (woven.Char ch) (woven_from sheet true ps) tt (woven_of_sheet sheet true ps)
woven_of_sheet sheet true (Break ∷ ps) =
    All-cons (λ p. IsOfSheet sheet p) (woven.Char 10) (woven_from sheet true ps) tt (woven_of_sheet sheet true ps)
woven_of_sheet sheet false (Break ∷ ps) = woven_of_sheet sheet false ps
woven_of_sheet sheet begun (Styled role link text ∷ ps) =
    in_style_of_sheet sheet role link text (woven_from sheet (begun_after begun text) ps) (woven_of_sheet sheet (begun_after begun text) ps)

-- each link is ended
chars_ended : (inside : Bool) (cs : List ℕ) (ps : List Piece) → AreLinksEnded inside ps → AreLinksEnded inside (woven_chars cs ++ ps)
chars_ended inside [] ps ended = ended
chars_ended inside (c ∷ cs) ps ended = chars_ended inside cs ps ended

linked_ended : (style : Style) (link : Option (List ℕ)) (text : List ℕ) (rest : List Piece) → AreLinksEnded false rest
    → AreLinksEnded false (link_codes_before link ++ (woven_chars text ++ (link_codes_after link ++ Reset style ∷ rest)))
linked_ended style None text rest ended = chars_ended false text (Reset style ∷ rest) ended
linked_ended style (Some url) text rest ended =
    (refl, chars_ended true text (LinkEnd ∷ Reset style ∷ rest) (refl, ended))

woven_ended : (sheet : Stylesheet) (begun : Bool) (form : List FormPiece) → AreLinksEnded false (woven_from sheet begun form)
woven_ended sheet begun [] = refl
woven_ended sheet begun (Char ch ∷ ps) = woven_ended sheet true ps
woven_ended sheet true (Break ∷ ps) = woven_ended sheet true ps
woven_ended sheet false (Break ∷ ps) = woven_ended sheet false ps
woven_ended sheet begun (Styled role link text ∷ ps) = grind (arith, woven_ended sheet (begun_after begun text) ps, in_style-pieces, linked_ended)

-- a text form under a sheet is a woven text
pub form-woven : (sheet : Stylesheet) (form : List FormPiece) → IsWoven sheet (form_bytes sheet form) (form_text form) (form_links form)
form-woven sheet form = grind (arith, woven-plain, woven-links, woven_of_sheet, woven_ended)
