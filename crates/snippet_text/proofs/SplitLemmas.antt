-- Cutting the bytes of a text at each line feed cuts its characters there.
use Rattle.std.proofs.Common.{◌≡◌, ℕ, ◌<◌, ◌==◌, Bool, true, false, List, [], ◌∷◌, ◌++◌, length, map, All, refl, sym, ap, ◌∙◌, arith, encode_utf8}
use Rattle.std.proofs.Common.{encode_utf8_all}
use Rattle.std.specs.List.{slice_split, onto_first}
use Rattle.std.specs.Str.{IsUtf8, chars}
use Rattle.std.specs.Char.{IsScalar}
use Rattle.std.proofs.Math.Utf8.{scalars}
use Rattle.std.proofs.lemmas.Str.{IsUtf8-encode, chars-append, chars-nil, chars_past_char, encodes-chars, encode_ascii, inside_one, scalars-chars}
use Rattle.std.proofs.lemmas.Bool.Decides.{nat_tests}
use Rattle.std.proofs.lemmas.List.{append-nil}
use Rattle.std.proofs.lemmas.List.Splits.{slice_split-cons_yes, slice_split-cons_no, length-slice_split}
use Rattle.std.proofs.lemmas.List.Elements.{All-from_get_or, All-head, All-tail}

-- the parts of a list of bytes or characters that is cut at each line feed
abbrev pub lines_at : List ℕ → List (List ℕ)
lines_at text = slice_split (λ c. c == 10) text

-- no byte of another character is a line feed
pub encode-no_feed : (c : ℕ) → (c == 10) ≡ false → All (λ b. (b == 10) ≡ false) (encode_utf8 c)
encode-no_feed c other =
    All-from_get_or (λ b. (b == 10) ≡ false) (encode_utf8 c) 0 (λ i within.
    let at = inside_one c [] (encode_utf8 c) i (sym (append-nil (encode_utf8 c))) within in grind (arith, nat_tests, at))

-- elements that are no line feeds stand at the front of the first part
pub lines_at-after : (front rest part : List ℕ) (parts : List (List ℕ)) → All (λ b. (b == 10) ≡ false) front → lines_at rest ≡ part ∷ parts
    → lines_at (front ++ rest) ≡ (front ++ part) ∷ parts
lines_at-after [] rest part parts none is = is
lines_at-after (b ∷ bs) rest part parts none is =
    slice_split-cons_no (λ c. c == 10) b (bs ++ rest) (All-head (λ c. (c == 10) ≡ false) b bs none)
    ∙ ap (onto_first b) (lines_at-after bs rest part parts (All-tail (λ c. (c == 10) ≡ false) b bs none) is)

-- the bytes of one character that is no line feed, before bytes that are cut into these parts
chars-onto : (c : ℕ) (rest : List ℕ) (parts : List (List ℕ)) → IsScalar c → (c == 10) ≡ false → lines_at rest ≡ parts → 0 < length parts
    → map chars (lines_at (encode_utf8 c ++ rest)) ≡ onto_first c (map chars parts)
chars-onto c rest [] scalar other is some = absurd (omega (arith, some))
chars-onto c rest (part ∷ parts) scalar other is some =
    let one : chars (encode_utf8 c) ≡ c ∷ chars [] = chars_past_char (encode_utf8 c) [] c (IsUtf8-encode c scalar) (sym (append-nil (encode_utf8 c))) in
    let first : chars (encode_utf8 c ++ part) ≡ c ∷ chars part = chars-append (encode_utf8 c) part (IsUtf8-encode c scalar)
    ∙ ap (λ cs. cs ++ chars part) (one ∙ ap (λ cs. c ∷ cs) chars-nil) in
    ap (map chars) (lines_at-after (encode_utf8 c) rest part parts (encode-no_feed c other) is) ∙ ap (λ cs. cs ∷ map chars parts) first

-- one character before bytes whose parts hold these characters
chars-step : (c : ℕ) (rest cs : List ℕ) (feed : Bool) → IsScalar c → (c == 10) ≡ feed → map chars (lines_at rest) ≡ lines_at cs
    → map chars (lines_at (encode_utf8 c ++ rest)) ≡ lines_at (c ∷ cs)
chars-step c rest cs true scalar is same =
    let feed : c ≡ 10 = grind (arith, nat_tests, is) in
    ap (λ d. map chars (lines_at (encode_utf8 d ++ rest))) feed ∙ ap (λ bs. map chars (lines_at (bs ++ rest))) (encode_ascii 10 (omega arith))
    ∙ ap (λ first. first ∷ map chars (lines_at rest)) chars-nil ∙ ap (λ parts. [] ∷ parts) same ∙ sym (slice_split-cons_yes (λ d. d == 10) c cs is)
chars-step c rest cs false scalar is same =
    chars-onto c rest (lines_at rest) scalar is refl (omega (arith, length-slice_split (λ b. b == 10) rest)) ∙ ap (onto_first c) same
    ∙ sym (slice_split-cons_no (λ d. d == 10) c cs is)

-- the parts of the bytes that spell characters hold the parts of these characters
pub lines_at-encodes : (cs : List ℕ) → scalars cs ≡ true → map chars (lines_at (encode_utf8_all cs)) ≡ lines_at cs
lines_at-encodes [] are = ap (λ cs. cs ∷ []) chars-nil
lines_at-encodes (c ∷ cs) are =
    let first : IsScalar c = grind (arith, are) in
    let later : scalars cs ≡ true = grind (arith, are) in
    chars-step c (encode_utf8_all cs) cs (c == 10) first refl (lines_at-encodes cs later)

-- the parts of a text's bytes hold the parts of its characters
pub lines_at-chars : (bytes : List ℕ) → IsUtf8 bytes → map chars (lines_at bytes) ≡ lines_at (chars bytes)
lines_at-chars bytes utf8 =
    ap (λ bs. map chars (lines_at bs)) (sym (encodes-chars bytes utf8)) ∙ lines_at-encodes (chars bytes) (scalars-chars bytes utf8)
