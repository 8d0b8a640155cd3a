-- A text of printable ASCII alone is as wide as it is long, and shown as it is.
use Rattle.std.proofs.Common.{◌≡◌, ℕ, ◌+◌, ◌-◌, ◌<◌, ◌≤◌, take, drop, drop-drop, subst, List, [], ◌∷◌, All}
use Rattle.std.proofs.Common.{false, length, length-drop, chars, refl, arith, ◌++◌, sym, ap, ◌∙◌}
use Rattle.std.proofs.lemmas.Bool.Decides.{nat_tests}
use Rattle.std.proofs.lemmas.List.{length-take-le, take-append-drop, take_all}
use Rattle.std.proofs.lemmas.List.Elements.{All-append, All-drop, All-head, All-tail, All-weaker}
use Rattle.std.proofs.lemmas.List.Folds.{list_any_none}
use Rattle.std.proofs.lemmas.List.Sums.{sum_by-cons}
use Rattle.std.proofs.Math.Seq.{take-append-add}
use Rattle.std.proofs.lemmas.Str.{chars-IsAscii}
use Rattle.std.proofs.lemmas.Str.Ascii.{IsAscii-from_all}
use Rattle.std.specs.List.{list_any}
use Rattle.unicode_width.specs.Width as unicode
use Rattle.snippet_text.proofs.NormLemmas.{norm-unlisted}
use Rattle.snippet_text.specs.Normalized.{is_listed, norm}
use Rattle.snippet_text.specs.Plain.{IsPlain}
use Rattle.snippet_text.specs.Width.{char_width, width_of}

-- one character takes one column, and isn't listed
pub char_width-plain : (c : ℕ) → IsPlain c → char_width c ≡ 1
unfolding char_width unicode.char_width
char_width-plain c plain = grind (arith, nat_tests)

pub is_listed-plain : (c : ℕ) → IsPlain c → is_listed c ≡ false
is_listed-plain c plain = grind (arith, nat_tests)

-- its bytes are its characters
pub chars-plain : (bs : List ℕ) → All IsPlain bs → chars bs ≡ bs
chars-plain bs all = chars-IsAscii bs (IsAscii-from_all bs (All-weaker IsPlain (λ b. b < 128) (λ b plain. omega (arith, plain.1)) bs all))

-- its columns
pub width_of-all_plain : (cs : List ℕ) → All IsPlain cs → width_of cs ≡ length cs
width_of-all_plain [] all = refl
width_of-all_plain (c ∷ cs) all =
    let one : char_width c ≡ 1 = char_width-plain c (All-head IsPlain c cs all) in
    let rest : width_of cs ≡ length cs = width_of-all_plain cs (All-tail IsPlain c cs all) in
    omega (arith, one, rest, sum_by-cons char_width c cs)

-- a plain text is as wide as it is long
pub width_of-plain : (bs : List ℕ) → All IsPlain bs → length bs ≡ width_of (chars bs)
width_of-plain bs all = rw (chars-plain bs all, width_of-all_plain bs all) refl

-- none of its characters is listed
pub list_any-plain : (bs : List ℕ) → All IsPlain bs → list_any is_listed (chars bs) ≡ false
list_any-plain bs all = rw (chars-plain bs all) (list_any_none is_listed bs (All-weaker IsPlain (λ c. is_listed c ≡ false) is_listed-plain bs all))

-- a copy of it is the normalised text
pub norm-plain : (bs copy : List ℕ) → All IsPlain bs → copy ≡ [] ++ bs → chars copy ≡ norm (chars bs)
norm-plain bs copy all same = ap chars same ∙ sym (norm-unlisted (chars bs) (list_any-plain bs all))

-- where the first bytes are plain, and so are some after them, so many more of the first are
pub plain_further : (bs : List ℕ) (a n : ℕ) → a ≤ length bs → All IsPlain (take a bs) → All IsPlain (take n (drop a bs)) → All IsPlain (take (a + n) bs)
plain_further bs a n within first second =
    let parts : take (a + n) bs ≡ take a bs ++ take n (drop a bs) = ap (λ (l : List ℕ). take (a + n) l) (sym (take-append-drop a bs))
    ∙ ap (λ m. take (m + n) (take a bs ++ drop a bs)) (sym (length-take-le a bs within)) ∙ take-append-add (take a bs) (drop a bs) n in
    subst (λ (l : List ℕ). All IsPlain l) (sym parts) (All-append IsPlain (take a bs) (take n (drop a bs)) first second)

-- where the first bytes are plain, and all from one of these or the next on, all are
pub plain_overlapping : (bs : List ℕ) (at from n : ℕ) → from ≤ at → length bs ≤ from + n → All IsPlain (take at bs) → All IsPlain (take n (drop from bs))
    → All IsPlain bs
plain_overlapping bs at from n low all front back =
    let whole : take n (drop from bs) ≡ drop from bs = take_all n (drop from bs) (omega (arith, length-drop from bs, all)) in
    let rest : drop (at - from) (drop from bs) ≡ drop at bs = drop-drop (at - from) from bs
    ∙ ap (λ k. drop k bs) {x = from + (at - from)} {y = at} (omega arith) in
    let end : All IsPlain (drop from bs) = subst (λ (l : List ℕ). All IsPlain l) whole back in
    subst (λ (l : List ℕ). All IsPlain l) (take-append-drop at bs)
    (All-append IsPlain (take at bs) (drop at bs) front (subst (λ (l : List ℕ). All IsPlain l) rest (All-drop IsPlain (at - from) (drop from bs) end)))
