-- The pieces of a text with marks in it, as the text and the marks grow.
use Rattle.std.proofs.lemmas.Grind.{common_steps}
use Rattle.snippet_text_form.proofs.Common.{◌≡◌, ℕ, ◌+◌, ◌<◌, ◌≤◌, List, [], ◌∷◌, ◌++◌, Result, Ok, Err, if◌then◌else◌, length, drop, sym, ap, ◌∙◌, subst}
use Rattle.snippet_text_form.proofs.Common.{get_or, arith, append-nil, append_assoc, drop_more, map-append, IsUtf8-from_ascii, chars-append, chars-nil}
use Rattle.snippet_text_form.proofs.Common.{is_utf8-from_IsUtf8, OnOk, is_ok, IsUtf8, IsCharBoundary, BeginsWith, stretch, stretch_joined, stretch_grown}
use Rattle.snippet_text_form.proofs.Common.{stretch_added, BeginsWith-added, BeginsWith-same, boundary, front_grown, IsUtf8-stretch, is_utf8-end, FormPiece}
use Rattle.snippet_text_form.proofs.Common.{Char, bare, piece_of_kind, pieces_from, chars_between, IsPlace, AreMarks, FormMark}
use Rattle.std.proofs.Common.{chars}
use Rattle.snippet_text_form.specs.declared.form.MarkKind.TheVariants as kinds

-- the place from which marks stand
pub first_place : (text : List ℕ) (from : ℕ) (marks : List FormMark) → AreMarks text from marks → IsPlace text from
first_place text from [] are = are
first_place text from (m ∷ ms) are = are.0.from_is

-- a place stays one when the text grows
pub IsPlace-grown : (old new : List ℕ) (at : ℕ) → BeginsWith old new → IsPlace old at → IsPlace new at
IsPlace-grown old new at grows is = grind (arith, common_steps, front_grown, is.within, is.whole)

-- marks stay when the text grows
pub AreMarks-grown : (old new : List ℕ) (from : ℕ) (marks : List FormMark) → BeginsWith old new → AreMarks old from marks → AreMarks new from marks
AreMarks-grown old new from [] grows are = IsPlace-grown old new from grows are
AreMarks-grown old new from (m ∷ ms) grows are = grind (arith, common_steps, IsPlace-grown, AreMarks-grown old new m.end ms grows are.1)

-- the end of a text is a place in it
pub IsPlace-end : (text : List ℕ) → IsUtf8 text → IsPlace text (length text)
IsPlace-end text utf8 = record { within = omega arith; whole = is_utf8-end text utf8 }

-- what stands from a place on, once more was added
rest_grown : (old new more : List ℕ) (from : ℕ) → new ≡ old ++ more → from ≤ length old
    → stretch new from (length new) ≡ stretch old from (length old) ++ more
rest_grown old new more from is within = grind (arith, common_steps, stretch_added, stretch_joined, stretch_grown)

-- what stands between two places of a text
between-utf8 : (text : List ℕ) (from to : ℕ) → IsUtf8 text → from ≤ to → IsPlace text from → IsPlace text to → IsUtf8 (stretch text from to)
between-utf8 text from to utf8 ordered start end =
    IsUtf8-stretch text from to utf8 ordered end.within start.whole end.whole

-- a text that is added stands after all pieces
pub pieces-text : (old new more : List ℕ) (from : ℕ) (marks : List FormMark) → IsUtf8 old → new ≡ old ++ more → AreMarks old from marks
    → pieces_from new from marks ≡ pieces_from old from marks ++ bare (chars more)
pieces-text old new more from [] utf8 is place =
    ap (λ (bs : List ℕ). bare (chars bs)) (rest_grown old new more from is place.within)
    ∙ ap bare (chars-append (stretch old from (length old)) more (between-utf8 old from (length old) utf8 place.within place (IsPlace-end old utf8)))
    ∙ map-append (λ (ch : ℕ). Char ch) (chars (stretch old from (length old))) (chars more)
pieces-text old new more from (m ∷ ms) utf8 is are =
    grind (arith, common_steps, BeginsWith-added, first_place, stretch_grown, append_assoc, pieces-text old new more m.end ms utf8 is are.1)

-- nothing stands after the end of a text
none_after : (text : List ℕ) → chars_between text (length text) (length text) ≡ []
none_after text = grind (arith, chars-nil)

-- a mark that is added at the end, with its characters, stands after all pieces
pub pieces-mark : (old new word : List ℕ) (from : ℕ) (marks : List FormMark) (mark : FormMark) → IsUtf8 old → new ≡ old ++ word → mark.start ≡ length old
    → mark.end ≡ length new → AreMarks old from marks
    → pieces_from new from (marks ++ mark ∷ []) ≡ pieces_from old from marks ++ piece_of_kind (chars word) mark.kind ∷ []
pieces-mark old new word from [] mark utf8 is start end place =
    grind (arith, common_steps, stretch_grown, stretch_added, none_after, bare, chars, mark.start, mark.end, mark.kind)
pieces-mark old new word from (m ∷ ms) mark utf8 is start end are =
    let grows : BeginsWith old new = BeginsWith-added old word new is in
    let last : IsPlace old m.end = first_place old m.end ms are.1 in
    let before : List FormPiece = bare (chars_between old from m.start) in
    let own : FormPiece = piece_of_kind (chars_between old m.start m.end) m.kind in
    ap (λ (bs : List ℕ). bare (chars bs) ++ piece_of_kind (chars_between new m.start m.end) m.kind ∷ pieces_from new m.end (ms ++ mark ∷ []))
    (stretch_grown old new from m.start grows are.0.start_is.within)
    ∙ ap (λ (bs : List ℕ). before ++ piece_of_kind (chars bs) m.kind ∷ pieces_from new m.end (ms ++ mark ∷ []))
    (stretch_grown old new m.start m.end grows last.within)
    ∙ ap (λ (ps : List FormPiece). before ++ own ∷ ps) (pieces-mark old new word m.end ms mark utf8 is start end are.1)
    ∙ sym (append_assoc before (own ∷ pieces_from old m.end ms) (piece_of_kind (chars word) mark.kind ∷ []))

-- it is one of the marks then
pub AreMarks-mark : (old new word : List ℕ) (from : ℕ) (marks : List FormMark) (mark : FormMark) → IsUtf8 old → IsUtf8 new → new ≡ old ++ word
    → mark.start ≡ length old → mark.end ≡ length new → (mark.kind ≡ kinds.Break → word ≡ []) → AreMarks old from marks
    → AreMarks new from (marks ++ mark ∷ [])
AreMarks-mark old new word from [] mark utf8 utf8_new is start end empty place = grind (arith, common_steps, is_utf8-end, append-nil, mark.end, place.within)
AreMarks-mark old new word from (m ∷ ms) mark utf8 utf8_new is start end empty are =
    grind (arith, common_steps, AreMarks-mark old new word m.end ms mark utf8 utf8_new is start end empty are.1, m.end, are.1)

-- ---- what is pushed to the text, where that may fail

-- the text begins with what it was, whether it grew or not
pub BeginsWith-pushed : {T E : Type 0} (r : Result T E) (old new more : List ℕ) → new ≡ (if is_ok r then old ++ more else old) → BeginsWith old new
BeginsWith-pushed (Ok value) old new more is = BeginsWith-added old more new is
BeginsWith-pushed (Err error) old new more is = subst (λ (t : List ℕ). BeginsWith old t) (sym is) (BeginsWith-same old)

-- on success its characters stand after all pieces
pub text_pushed-on_ok : {T E : Type 0} (r : Result T E) (old new more cs : List ℕ) (marks : List FormMark) (form : List FormPiece) → IsUtf8 old
    → AreMarks old 0 marks → pieces_from old 0 marks ≡ form → chars more ≡ cs → new ≡ (if is_ok r then old ++ more else old)
    → OnOk r (pieces_from new 0 marks ≡ form ++ bare cs)
text_pushed-on_ok (Ok value) old new more cs marks form utf8 are form_is cs_are is = grind (arith, pieces-text)
text_pushed-on_ok (Err error) old new more cs marks form utf8 are form_is cs_are is = tt

-- ---- a form without marks

-- the start of a text is a place in it
pub AreMarks-none : (text : List ℕ) (marks : List FormMark) → marks ≡ [] → AreMarks text 0 marks
AreMarks-none text marks none = grind (arith, is_utf8-from_IsUtf8, IsUtf8-from_ascii)

-- an empty text without marks has no pieces
pub pieces-none : (text : List ℕ) (marks : List FormMark) → text ≡ [] → marks ≡ [] → pieces_from text 0 marks ≡ []
pieces-none text marks no_text no_marks =
    ap (λ (ms : List FormMark). pieces_from text 0 ms) no_marks ∙ ap (λ (t : List ℕ). pieces_from t 0 []) no_text ∙ ap bare chars-nil

-- ---- the marks that are left

-- what stands where a list has no mark
abbrev pub no_mark : FormMark
no_mark = record { start = 0; end = 0; kind = kinds.Break }

-- the first of them, and those after it
pub mark_here : (text : List ℕ) (from : ℕ) (marks : List FormMark) (i : ℕ) → i < length marks → AreMarks text from (drop i marks)
    → AreMarks text from (get_or marks i no_mark ∷ drop (i + 1) marks)
mark_here text from marks i within are =
    subst (λ (ms : List FormMark). AreMarks text from ms) (drop_more marks i no_mark within) are

-- a text may be cut at a place in it
pub place_boundary : (text : List ℕ) (at : ℕ) → IsUtf8 text → IsPlace text at → IsCharBoundary text at
place_boundary text at utf8 is = boundary text at utf8 is.within is.whole
