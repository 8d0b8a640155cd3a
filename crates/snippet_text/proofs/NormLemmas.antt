-- What normalising does to a text's width and to its listed characters.
use Rattle.std.proofs.Common.{◌≡◌, ℕ, ◌*◌, ◌≤◌, length, false, List, [], ◌∷◌, ◌++◌, refl, sym, ap, ◌∙◌, arith, encode_utf8_all, map, chars}
use Rattle.std.specs.Str.{IsUtf8}
use Rattle.std.proofs.lemmas.Str.{chars_from_encodes}
use Rattle.std.proofs.lemmas.List.{map-id}
use Rattle.std.proofs.lemmas.List.Folds.{list_any-append}
use Rattle.std.proofs.lemmas.List.Sums.{sum_by-append, sum_by-cons}
use Rattle.std.specs.List.{flat_map, list_any}
use Rattle.std.proofs.lemmas.Grind.{flat_map-append}
use Rattle.std.proofs.lemmas.Bool.Decides.{nat_tests}
use Rattle.std.proofs.lemmas.List.{append-nil, length-append}
use Rattle.snippet_text.specs.Normalized.{norm, shown, is_listed}
use Rattle.snippet_text.specs.Width.{char_width, width_of}

-- one more character
pub norm-push : (cs : List ℕ) (c : ℕ) → norm (cs ++ c ∷ []) ≡ norm cs ++ shown c
unfolding norm
norm-push cs c = flat_map-append shown cs (c ∷ []) ∙ ap (λ t. flat_map shown cs ++ t) (append-nil (shown c))

-- what is shown for a character takes its columns
pub width_of-shown : (c : ℕ) → width_of (shown c) ≡ char_width c
unfolding char_width
width_of-shown c = grind (arith, nat_tests)

pub list_any-shown : (c : ℕ) → list_any is_listed (shown c) ≡ false
list_any-shown c = grind (arith, nat_tests)

pub norm-shown : (c : ℕ) → norm (shown c) ≡ shown c
unfolding norm
norm-shown c = grind (arith, nat_tests)

-- normalising keeps the width
pub width_of-norm : (cs : List ℕ) → width_of (norm cs) ≡ width_of cs
unfolding norm
width_of-norm [] = refl
width_of-norm (c ∷ cs) = sum_by-append char_width (shown c) (flat_map shown cs)
    ∙ (let rest : width_of (flat_map shown cs) ≡ width_of cs = width_of-norm cs in rw (width_of-shown c, rest) (sym (sum_by-cons char_width c cs)))

-- nor makes it a text longer than four times
length-shown : (c : ℕ) → length (shown c) ≤ 4
length-shown c = grind (arith, nat_tests)

-- a normalised text is at most four times as long
pub length-norm : (cs : List ℕ) → length (norm cs) ≤ 4 * length cs
unfolding norm
length-norm [] = omega arith
length-norm (c ∷ cs) =
    let rest : length (flat_map shown cs) ≤ 4 * length cs = length-norm cs in
    omega (arith, rest, length-shown c, length-append (shown c) (flat_map shown cs))

-- a normalised text holds no listed character
pub list_any-norm : (cs : List ℕ) → list_any is_listed (norm cs) ≡ false
unfolding norm
list_any-norm [] = refl
list_any-norm (c ∷ cs) = list_any-append is_listed (shown c) (flat_map shown cs)
    ∙ (let rest : list_any is_listed (flat_map shown cs) ≡ false = list_any-norm cs in rw (list_any-shown c, rest))

-- normalising a second time changes nothing
pub norm-norm : (cs : List ℕ) → norm (norm cs) ≡ norm cs
unfolding norm
norm-norm [] = refl
norm-norm (c ∷ cs) = flat_map-append shown (shown c) (flat_map shown cs)
    ∙ (let rest : flat_map shown (flat_map shown cs) ≡ flat_map shown cs = norm-norm cs in let first : flat_map shown (shown c)
    ≡ shown c = norm-shown c in rw (first, rest))

-- bytes that spell the normalised characters hold those characters
pub chars-spelled : (bs cs all : List ℕ) → IsUtf8 bs → bs ≡ encode_utf8_all (norm cs) → map (λ c. c) cs ≡ all → chars bs ≡ norm all
chars-spelled bs cs all utf8 spelled same = sym (chars_from_encodes (norm cs) bs utf8 (sym spelled)) ∙ ap norm (sym (map-id cs) ∙ same)

-- a character that isn't listed is shown as it is
pub shown-unlisted : (c : ℕ) → is_listed c ≡ false → shown c ≡ c ∷ []
shown-unlisted c unlisted = grind (arith, nat_tests)

-- a text without listed characters is normalised already
pub norm-unlisted : (cs : List ℕ) → list_any is_listed cs ≡ false → norm cs ≡ cs
unfolding norm
norm-unlisted [] none = refl
norm-unlisted (c ∷ cs) none =
    let first : is_listed c ≡ false = grind arith in
    let later : list_any is_listed cs ≡ false = grind arith in
    let rest : flat_map shown cs ≡ cs = norm-unlisted cs later in
    rw (shown-unlisted c first, rest)
