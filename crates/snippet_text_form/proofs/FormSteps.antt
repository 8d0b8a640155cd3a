-- How the text of a form grows, piece by piece.
use Rattle.std.proofs.lemmas.Grind.{common_steps}
use Rattle.snippet_text_form.proofs.Common.{◌≡◌, ℕ, ◌-◌, ◌<◌, ◌≤◌, ◌==◌, ◌||◌, nat_lt, not, Bool, true, false, List, []}
use Rattle.snippet_text_form.proofs.Common.{◌∷◌, ◌++◌, Option, length, replicate, refl, sym, ap, ◌∙◌, arith, encode_utf8, encode_utf8_all}
use Rattle.snippet_text_form.proofs.Common.{decimal, flat_map, IsUtf8, nat_tests, flat_map-append, append-nil, append_assoc, All-weaker, All-replicate}
use Rattle.snippet_text_form.proofs.Common.{chars-IsAscii, chars-nil, encodes-chars, length-le-encodes, IsAscii-from_all, opening, reset, Piece, Reset}
use Rattle.snippet_text_form.proofs.Common.{piece_text, stretch, length-stretch_of, IsUtf8-stretch, Style, Stylesheet, decimal-all, FormPiece, Char, Break}
use Rattle.snippet_text_form.proofs.Common.{Styled, bare, begun_after, plain_from, form_bytes, in_style, woven_from, link_codes_before, link_codes_after}
use Rattle.snippet_text_form.proofs.Common.{piece_of_kind, pieces_from, IsPlace, IsMark, AreMarks, FormMark, MarkKind}
use Rattle.std.proofs.Common.{chars}
use Rattle.snippet_grid.specs.Woven as woven
use Rattle.snippet_text_form.specs.declared.form.MarkKind.TheVariants as kinds
use Rattle.snippet_text_form.proofs.FormLaws.{woven_chars, in_style-pieces}
use Rattle.snippet_text_form.proofs.MarkLemmas.{first_place, IsPlace-end}

-- ---- texts without codes

-- they are woven as they are
pub woven-bare : (sheet : Stylesheet) (begun : Bool) (cs : List ℕ) → flat_map piece_text (woven_from sheet begun (bare cs)) ≡ encode_utf8_all cs
woven-bare sheet begun [] = refl
woven-bare sheet begun (c ∷ cs) = ap (λ (bs : List ℕ). encode_utf8 c ++ bs) (woven-bare sheet true cs)

-- the characters of a text that is added as it is are the text
pub plain-bare : (begun : Bool) (cs : List ℕ) → plain_from begun (bare cs) ≡ cs
plain-bare begun [] = refl
plain-bare begun (c ∷ cs) = ap (λ (ds : List ℕ). c ∷ ds) (plain-bare true cs)

-- the bytes of a text
pub woven-text : (sheet : Stylesheet) (begun : Bool) (bytes : List ℕ) → IsUtf8 bytes → bytes ≡ flat_map piece_text (woven_from sheet begun (bare (chars bytes)))
woven-text sheet begun bytes utf8 =
    sym (encodes-chars bytes utf8) ∙ sym (woven-bare sheet begun (chars bytes))

-- the characters of a number's digits are the digits
pub chars-number : (n : ℕ) → chars (decimal n) ≡ decimal n
chars-number n = grind (arith, common_steps, chars-IsAscii, All-weaker, decimal-all)

-- the characters of spaces are the spaces
pub chars-spaces : (n : ℕ) → chars (replicate n 32) ≡ replicate n 32
chars-spaces n =
    chars-IsAscii (replicate n 32) (IsAscii-from_all (replicate n 32) (All-replicate (λ c. c < 128) n 32 (omega arith)))

-- ---- styled texts

text-chars : (cs : List ℕ) (ps : List Piece) → flat_map piece_text (woven_chars cs ++ ps) ≡ encode_utf8_all cs ++ flat_map piece_text ps
text-chars [] ps = refl
text-chars (c ∷ cs) ps =
    ap (λ (bs : List ℕ). encode_utf8 c ++ bs) (text-chars cs ps) ∙ sym (append_assoc (encode_utf8 c) (encode_utf8_all cs) (flat_map piece_text ps))

-- the bytes of a text in a style
text-in_style : (style : Style) (link : Option (List ℕ)) (cs : List ℕ)
    → flat_map piece_text (in_style style link cs) ≡ encode_utf8_all (opening style)
    ++ (flat_map piece_text (link_codes_before link)
    ++ (encode_utf8_all cs ++ (flat_map piece_text (link_codes_after link) ++ encode_utf8_all (reset style))))
text-in_style style link cs =
    let before : List Piece = link_codes_before link in
    let after : List Piece = link_codes_after link in
    let whole = sym (append-nil (in_style style link cs)) ∙ in_style-pieces style link cs [] in
    let last : flat_map piece_text (after ++ Reset style ∷ []) ≡ flat_map piece_text after
    ++ encode_utf8_all (reset style) = cc (flat_map-append piece_text after (Reset style ∷ []), append-nil (encode_utf8_all (reset style))) in
    cc (whole, flat_map-append piece_text before (woven_chars cs ++ (after ++ Reset style ∷ [])), text-chars cs (after ++ Reset style ∷ []), last)

-- a text that grew by each of these in turn
pub styled_added : (style : Style) (link : Option (List ℕ)) (bytes : List ℕ) (old one two three four new : List ℕ) → IsUtf8 bytes
    → one ≡ old ++ encode_utf8_all (opening style) → two ≡ one ++ flat_map piece_text (link_codes_before link) → three ≡ two ++ bytes
    → four ≡ three ++ flat_map piece_text (link_codes_after link) → new ≡ four ++ encode_utf8_all (reset style)
    → new ≡ old ++ flat_map piece_text (in_style style link (chars bytes))
styled_added style link bytes old one two three four new utf8 first second third fourth fifth =
    let before : List ℕ = flat_map piece_text (link_codes_before link) in
    let after : List ℕ = flat_map piece_text (link_codes_after link) in
    let begin : List ℕ = encode_utf8_all (opening style) in
    let end : List ℕ = encode_utf8_all (reset style) in
    let grown : new ≡ (((((old ++ begin) ++ before) ++ bytes) ++ after) ++ end) = grind (arith, common_steps, end, after, before) in
    let regrouped : (((((old ++ begin) ++ before) ++ bytes) ++ after) ++ end) ≡ old ++ (begin ++ (before ++ (bytes ++ (after ++ end)))) = simp append_assoc in
    cc (grown, regrouped, encodes-chars bytes utf8, text-in_style style link (chars bytes))

-- ---- whether text stands before a part

-- whether text stands before what is after this form, given whether it stands before it
abbrev pub begun_past : Bool → List FormPiece → Bool
begun_past begun [] = begun
begun_past begun (Char ch ∷ ps) = begun_past true ps
begun_past true (Break ∷ ps) = begun_past true ps
begun_past false (Break ∷ ps) = begun_past false ps
begun_past begun (Styled role link text ∷ ps) = begun_past (begun_after begun text) ps

begun_past-true : (form : List FormPiece) → begun_past true form ≡ true
begun_past-true [] = refl
begun_past-true (Char ch ∷ ps) = begun_past-true ps
begun_past-true (Break ∷ ps) = begun_past-true ps
begun_past-true (Styled role link text ∷ ps) = begun_past-true ps

-- text stands after a character
begun_by_one : (c : ℕ) (cs : List ℕ) → true ≡ begun_after false (c ∷ cs)
begun_by_one c cs = grind (arith, nat_tests)

begun_past-append : (begun : Bool) (form more : List FormPiece) → begun_past begun (form ++ more) ≡ begun_past (begun_past begun form) more
begun_past-append begun [] more = refl
begun_past-append begun (Char ch ∷ ps) more = begun_past-append true ps more
begun_past-append true (Break ∷ ps) more = begun_past-append true ps more
begun_past-append false (Break ∷ ps) more = begun_past-append false ps more
begun_past-append begun (Styled role link text ∷ ps) more = begun_past-append (begun_after begun text) ps more

-- a form is woven piece by piece
pub woven-append : (sheet : Stylesheet) (begun : Bool) (form more : List FormPiece)
    → woven_from sheet begun (form ++ more) ≡ woven_from sheet begun form ++ woven_from sheet (begun_past begun form) more
woven-append sheet begun [] more = refl
woven-append sheet begun (Char ch ∷ ps) more =
    ap (λ (qs : List Piece). woven.Char ch ∷ qs) (woven-append sheet true ps more)
woven-append sheet true (Break ∷ ps) more =
    ap (λ (qs : List Piece). woven.Char 10 ∷ qs) (woven-append sheet true ps more)
woven-append sheet false (Break ∷ ps) more = woven-append sheet false ps more
woven-append sheet begun (Styled role link text ∷ ps) more = grind (arith, woven-append sheet (begun_after begun text) ps more, append_assoc)

-- ---- whether a part has text

-- a text is empty where it has no characters
some-chars : (cs bytes : List ℕ) → encode_utf8_all cs ≡ bytes → not (length bytes == 0) ≡ begun_after false cs
some-chars [] bytes is = ap (λ (bs : List ℕ). not (length bs == 0)) (sym is)
some-chars (c ∷ cs) bytes is = grind (arith, nat_tests, length-le-encodes (c ∷ cs))

-- a text has begun a line where it isn't empty
pub begun-chars : (empty : Bool) (bytes text : List ℕ) → IsUtf8 bytes → bytes ≡ text → empty ≡ (length bytes == 0) → not empty ≡ begun_after false (chars text)
begun-chars empty bytes text utf8 same is =
    ap not is ∙ some-chars (chars bytes) bytes (encodes-chars bytes utf8) ∙ ap (λ (bs : List ℕ). begun_after false (chars bs)) same

-- ---- the pieces so far

-- this text is that of these pieces, and text stands after them or not
pub record IsRendered (sheet : Stylesheet) (front : List FormPiece) (text : List ℕ) (begun : Bool) : Type 0 where
  pub text_is : text ≡ form_bytes sheet front
  pub begun_is : begun ≡ begun_past false front

-- some pieces more
pub IsRendered-more : (sheet : Stylesheet) (front own : List FormPiece) (old new : List ℕ) (begun after : Bool)
    → IsRendered sheet front old begun → new ≡ old ++ flat_map piece_text (woven_from sheet begun own) → after ≡ begun_past begun own
    → IsRendered sheet (front ++ own) new after
IsRendered-more sheet front own old new begun after rendered added is = grind (arith, common_steps, flat_map-append, woven-append, begun_past-append)

-- whether text stands after a text without codes, given whether it stands before
begun_past-bare : (begun : Bool) (cs : List ℕ) → begun_past begun (bare cs) ≡ begun_after begun cs
begun_past-bare true [] = refl
begun_past-bare false [] = refl
begun_past-bare true (c ∷ cs) = begun_past-true (bare cs)
begun_past-bare false (c ∷ cs) = begun_past-true (bare cs) ∙ begun_by_one c cs

begun_sum : (from to : ℕ) → from ≤ to → nat_lt 0 to ≡ (nat_lt 0 from || not (to - from == 0))
begun_sum from to ordered = grind (arith, nat_tests)

-- whether text stands before a place of a text, given whether it stands before an earlier one
begun_between : (text : List ℕ) (from to : ℕ) → IsUtf8 (stretch text from to) → from ≤ to → to ≤ length text
    → nat_lt 0 to ≡ begun_after (nat_lt 0 from) (chars (stretch text from to))
begun_between text from to utf8 ordered within =
    let some : not (to - from == 0) ≡ begun_after false (chars (stretch text from to)) =
    ap (λ n. not (n == 0)) (sym (length-stretch_of text from to within)) ∙ some-chars (chars (stretch text from to)) (stretch text from to)
    (encodes-chars (stretch text from to) utf8) in
    begun_sum from to ordered ∙ ap (λ (b : Bool). nat_lt 0 from || b) some

-- the piece of a mark that is empty where it is a break
begun_past-mark : (begun : Bool) (kind : MarkKind) (cs : List ℕ) → (kind ≡ kinds.Break → cs ≡ [])
    → begun_past begun (piece_of_kind cs kind ∷ []) ≡ begun_after begun cs
begun_past-mark true kinds.Break cs empty = refl
begun_past-mark false kinds.Break cs empty = ap (begun_after false) (sym (empty refl))
begun_past-mark begun (kinds.Styled look) cs empty = refl

-- a text is rendered up to a place, after which these marks stand
pub record IsRenderedTo (sheet : Stylesheet) (form : List FormPiece) (text : List ℕ) (marks : List FormMark) (from : ℕ) (out : List ℕ) : Type 0 where
  pub front : List FormPiece
  pub rendered : IsRendered sheet front out (nat_lt 0 from)
  pub form_is : form ≡ front ++ pieces_from text from marks
  pub marks_are : AreMarks text from marks

-- what stands between two places of a text, without codes
rendered-bare : (sheet : Stylesheet) (front : List FormPiece) (text : List ℕ) (from to : ℕ) (old new : List ℕ) → IsUtf8 text → IsPlace text from
    → IsPlace text to → from ≤ to → IsRendered sheet front old (nat_lt 0 from) → new ≡ old ++ stretch text from to
    → IsRendered sheet (front ++ bare (chars (stretch text from to))) new (nat_lt 0 to)
rendered-bare sheet front text from to old new utf8 start end ordered rendered added =
    let own : IsUtf8 (stretch text from to) = IsUtf8-stretch text from to utf8 ordered end.within start.whole end.whole in
    let cs : List ℕ = chars (stretch text from to) in
    IsRendered-more sheet front _ old new _ _ rendered (added ∙ ap (λ (bs : List ℕ). old ++ bs) (woven-text sheet (nat_lt 0 from) (stretch text from to) own))
    (begun_between text from to own ordered end.within ∙ sym (begun_past-bare (nat_lt 0 from) cs))

-- nothing stands between a place and itself
none_between : (text : List ℕ) (from to : ℕ) → to ≡ from → chars (stretch text from to) ≡ []
none_between text from to same = grind (arith, chars-nil)

-- a mark more, and what stands before it
pub IsRenderedTo-mark : (sheet : Stylesheet) (form : List FormPiece) (text : List ℕ) (m : FormMark) (ms : List FormMark) (from : ℕ) (out mid new : List ℕ)
    → IsUtf8 text → IsRenderedTo sheet form text (m ∷ ms) from out → mid ≡ out ++ stretch text from m.start
    → new ≡ mid ++ flat_map piece_text (woven_from sheet (nat_lt 0 m.start) (piece_of_kind (chars (stretch text m.start m.end)) m.kind ∷ []))
    → IsRenderedTo sheet form text ms m.end new
IsRenderedTo-mark sheet form text m ms from out mid new utf8 before first second =
    let is : IsMark text from m = before.marks_are.0 in
    let end : IsPlace text m.end = first_place text m.end ms before.marks_are.1 in
    let own : IsUtf8 (stretch text m.start m.end) = IsUtf8-stretch text m.start m.end utf8 is.ordered end.within is.start_is.whole end.whole in
    let cs : List ℕ = chars (stretch text m.start m.end) in
    let plain : List FormPiece = bare (chars (stretch text from m.start)) in
    let bare_is = rendered-bare sheet before.front text from m.start out mid utf8 is.from_is is.start_is is.after before.rendered first in
    let empty : m.kind ≡ kinds.Break → cs ≡ [] = grind (arith, common_steps, none_between, is, m.start, m.end, is.empty) in
    record {
      front = (before.front ++ plain) ++ piece_of_kind cs m.kind ∷ [];
      rendered = IsRendered-more sheet (before.front ++ plain) (piece_of_kind cs m.kind ∷ []) mid new (nat_lt 0 m.start) (nat_lt 0 m.end) bare_is second
          (begun_between text m.start m.end own is.ordered end.within ∙ sym (begun_past-mark (nat_lt 0 m.start) m.kind cs empty));
      form_is = grind (arith, common_steps, append_assoc, plain, cs, before.form_is, before.front, m.kind, m.end);
      marks_are = before.marks_are.1;
    }

-- all of it, once no mark is left
pub IsRenderedTo-all : (sheet : Stylesheet) (form : List FormPiece) (text : List ℕ) (from : ℕ) (out new : List ℕ) → IsUtf8 text
    → IsRenderedTo sheet form text [] from out → new ≡ out ++ stretch text from (length text) → new ≡ form_bytes sheet form
IsRenderedTo-all sheet form text from out new utf8 before last =
    let all = rendered-bare sheet before.front text from _ out new utf8 before.marks_are (IsPlace-end text utf8) before.marks_are.within before.rendered last in
    all.text_is ∙ ap (form_bytes sheet) (sym before.form_is)
