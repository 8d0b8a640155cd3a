-- Masking keeps the places of bytes: each character has as many, and those of ASCII stay.
use Rattle.snippet_shown.proofs.Common.{common_steps, ◌≡◌, ℕ, ◌+◌, ◌/◌, ◌%◌, ◌<◌, ◌≤◌, nat_lt, chars, encode_utf8_all, true, false, List, [], ◌∷◌, ◌++◌, arith}
use Rattle.snippet_shown.proofs.Common.{refl, sym, ◌∙◌, IsUtf8, mod-lt, nat_tests, encodes-chars, is_masked, IsAligned, byte_class, mask_of}
use Rattle.snippet_shown.proofs.Common.{masked}
use Rattle.std.specs.Char.{encode_utf8}

-- ---- one character

class-first : (b : ℕ) → 192 ≤ b → byte_class b ≡ 192
class-first b high = grind (arith, nat_tests)

class-next : (x : ℕ) → x < 64 → byte_class (128 + x) ≡ 128
class-next x low = grind (arith, nat_tests)

two : (c : ℕ) → 128 ≤ c → c < 2048 → encode_utf8 c ≡ (192 + c / 64) ∷ (128 + c % 64) ∷ []
unfolding encode_utf8
two c low high = grind (arith, nat_tests)

three : (c : ℕ) → 2048 ≤ c → c < 65536 → encode_utf8 c ≡ (224 + c / 4096) ∷ (128 + (c / 64) % 64) ∷ (128 + c % 64) ∷ []
unfolding encode_utf8
three c low high = grind (arith, nat_tests)

next-same : (x y : ℕ) → byte_class (128 + y % 64) ≡ byte_class (128 + x % 64)
next-same x y = class-next (y % 64) (mod-lt y (omega arith)) ∙ sym (class-next (x % 64) (mod-lt x (omega arith)))

first-same : (a b : ℕ) → 192 ≤ a → 192 ≤ b → byte_class b ≡ byte_class a
first-same a b one other = class-first b other ∙ sym (class-first a one)

aligned-two : (c d : ℕ) → 128 ≤ c → c < 2048 → 128 ≤ d → d < 2048 → IsAligned (encode_utf8 c) (encode_utf8 d)
aligned-two c d a b e f = grind (arith, two, first-same, next-same)

aligned-three : (c d : ℕ) → 2048 ≤ c → c < 65536 → 2048 ≤ d → d < 65536 → IsAligned (encode_utf8 c) (encode_utf8 d)
aligned-three c d a b e f = grind (arith, three, first-same, next-same)

pub aligned-own : (bs : List ℕ) → IsAligned bs bs
aligned-own [] = tt
aligned-own (b ∷ bs) = (refl, aligned-own bs)

record IsWithin (low high c : ℕ) : Type 0 where
  from : low ≤ c
  to : c < high

short-within : (c : ℕ) → is_masked c ≡ true → nat_lt c 0x800 ≡ true → IsWithin 128 2048 c
short-within c is short = record { from = grind (arith, nat_tests); to = grind (arith, nat_tests) }

long-within : (c : ℕ) → is_masked c ≡ true → nat_lt c 0x800 ≡ false → IsWithin 2048 65536 c
long-within c is long = record { from = grind (arith, nat_tests); to = grind (arith, nat_tests) }

aligned-char : (c : ℕ) → IsAligned (encode_utf8 c) (encode_utf8 (mask_of c))
aligned-char c = grind (arith, short-within, aligned-two, long-within, aligned-three, aligned-own)

-- ---- a text

aligned-append : (xs bs cs ds : List ℕ) → IsAligned xs bs → IsAligned cs ds → IsAligned (xs ++ cs) (bs ++ ds)
aligned-append [] [] cs ds first second = second
aligned-append [] (b ∷ bs) cs ds first second = absurd first
aligned-append (a ∷ xs) [] cs ds first second = absurd first
aligned-append (a ∷ xs) (b ∷ bs) cs ds first second = (first.0, aligned-append xs bs cs ds first.1 second)

aligned-chars : (cs : List ℕ) → IsAligned (encode_utf8_all cs) (encode_utf8_all (masked cs))
aligned-chars [] = tt
aligned-chars (c ∷ cs) =
    aligned-append (encode_utf8 c) (encode_utf8 (mask_of c)) (encode_utf8_all cs) (encode_utf8_all (masked cs)) (aligned-char c) (aligned-chars cs)

-- bytes that spell a text, masked, are aligned with it
pub aligned-spelled : (text bytes : List ℕ) → IsUtf8 text → bytes ≡ encode_utf8_all (masked (chars text)) → IsAligned text bytes
aligned-spelled text bytes utf8 spelled = grind (arith, common_steps, spelled, encodes-chars text utf8, utf8, aligned-chars (chars text))
