-- How many columns a text takes at most.
use Rattle.std.proofs.Common.{ℕ, zero, suc, ◌+◌, ◌-◌, ◌*◌, ◌≤◌, Bool, true, false, ◌&&◌, ◌||◌, not, cond, eqb, leb, ltb, Option, Some, None, List, [], ◌∷◌}
use Rattle.std.proofs.Common.{length, arith}
use Rattle.std.specs.Option.{unwrap_or}
use Rattle.std.specs.Str.{chars, chars_after, continuation_len, lead_bits}
use Rattle.std.proofs.lemmas.Bool.{cond_both}
use Rattle.std.proofs.lemmas.List.Sums.{sum_by-cons}
use Rattle.unicode_width.specs.declared.kind.Kind.{Kind}
use Rattle.unicode_width.specs.declared.kind.Kind.TheVariants as kinds
use Rattle.unicode_width.specs.declared.state.State.{State}
use Rattle.unicode_width.specs.Kind.{kind}
use Rattle.unicode_width.specs.Width as unicode
use Rattle.unicode_width.specs.Width.{alone, is_quote_selector, of_kind, single}
use Rattle.snippet_text.specs.Normalized.{has_control_picture, is_bidirectional_control}
use Rattle.snippet_text.specs.Width.{char_width, is_replacement, width_of}

-- ---- a character

abbrev pub IsNarrow : ℕ × State → Type 0
IsNarrow t = t.0 ≤ 3

choice : (b : Bool) (x y : ℕ × State) → IsNarrow x → IsNarrow y → IsNarrow (cond b x y)
choice b x y p q = cond_both b x y IsNarrow (λ _. p) (λ _. q)

single-narrow : (cjk : Bool) (c : ℕ) → IsNarrow (single cjk c)
single-narrow cjk c =
    choice (eqb c 0x05DC) _ _ (omega arith)
    (choice (eqb c 0xFB3C) _ _ (omega arith)
    (choice (eqb c 0x17D8) _ _ (omega arith)
    (choice (eqb c 0x1A10) _ _ (omega arith)
    (choice (eqb c 0x10C03) _ _ (omega arith)
    (choice (eqb c 0x16D67) _ _ (omega arith)
    (choice (eqb c 0x16D68) _ _ (omega arith)
    (choice (eqb c 0xFE0F) _ _ (omega arith)
    (choice (is_quote_selector cjk c) _ _ (omega arith)
    (choice (not cjk && eqb c 0xFE0E) _ _ (omega arith) (choice (cjk && eqb c 0x0338) _ _ (omega arith) (omega arith)))))))))))

of_kind-narrow : (cjk : Bool) (c : ℕ) (k : Kind) → IsNarrow (of_kind cjk c k)
of_kind-narrow cjk c kinds.Zero = omega arith
of_kind-narrow cjk c kinds.Narrow = omega arith
of_kind-narrow cjk c kinds.Wide = omega arith
of_kind-narrow true c kinds.Ambiguous = omega arith
of_kind-narrow false c kinds.Ambiguous = omega arith
of_kind-narrow cjk c kinds.Alef = omega arith
of_kind-narrow cjk c kinds.KhmerLetter = omega arith
of_kind-narrow cjk c kinds.TifinaghConsonant = omega arith
of_kind-narrow cjk c kinds.LisuTone = omega arith
of_kind-narrow cjk c kinds.RegionalIndicator = omega arith
of_kind-narrow cjk c kinds.EmojiModifier = omega arith
of_kind-narrow cjk c kinds.Emoji = omega arith
of_kind-narrow cjk c kinds.Single = single-narrow cjk c

alone-narrow : (cjk : Bool) (c : ℕ) → IsNarrow (alone cjk c)
unfolding alone
alone-narrow cjk c = of_kind-narrow cjk c (kind c)

unicode-narrow : (cjk : Bool) (c : ℕ) → unwrap_or (unicode.char_width cjk c) 1 ≤ 3
unfolding unicode.char_width
unicode-narrow cjk c =
    let P = λ (o : Option ℕ). unwrap_or o 1 ≤ 3 in
    cond_both (ltb c 0x7F) (cond (leb 0x20 c) (Some 1) None) (cond (leb 0xA0 c) (Some (alone cjk c).0) None) P
    (λ _. cond_both (leb 0x20 c) (Some 1) None P (λ _. omega arith) (λ _. omega arith))
    (λ _. cond_both (leb 0xA0 c) (Some (alone cjk c).0) None P (λ _. alone-narrow cjk c) (λ _. omega arith))

-- a character takes four columns at most
pub char_width-bound : (c : ℕ) → char_width c ≤ 4
unfolding char_width
char_width-bound c =
    let P = λ (n : ℕ). n ≤ 4 in
    cond_both (eqb c 0x9) 4 _ P (λ _. omega arith)
    (λ _. cond_both (eqb c 0x200D) 0 _ P (λ _. omega arith)
    (λ _. cond_both (has_control_picture c || eqb c 0x7F || is_bidirectional_control c) 1 _ P (λ _. omega arith)
    (λ _. cond_both (is_replacement c) 1 (unwrap_or (unicode.char_width false c) 1) P (λ _. omega arith)
    (λ _. omega (arith, unicode-narrow false c)))))

-- ---- a text

width_of-bound : (cs : List ℕ) → width_of cs ≤ 4 * length cs
width_of-bound [] = omega arith
width_of-bound (c ∷ cs) = omega (arith, char_width-bound c, width_of-bound cs, sum_by-cons char_width c cs)

length-chars_after : (n c : ℕ) (bytes : List ℕ) → length (chars_after n c bytes) ≤ length bytes + 1
length-chars_after zero c [] = omega arith
length-chars_after zero c (b ∷ bytes) = omega (arith, length-chars_after (continuation_len b) (lead_bits b) bytes)
length-chars_after (suc n) c [] = omega arith
length-chars_after (suc n) c (b ∷ bytes) = omega (arith, length-chars_after n (c * 64 + (b - 128)) bytes)

length-chars : (bytes : List ℕ) → length (chars bytes) ≤ length bytes
unfolding chars
length-chars [] = omega arith
length-chars (b ∷ bytes) = omega (arith, length-chars_after (continuation_len b) (lead_bits b) bytes)

-- a text takes four columns for each of its bytes at most
pub width_of-chars : (bytes : List ℕ) → width_of (chars bytes) ≤ 4 * length bytes
width_of-chars bytes = omega (arith, width_of-bound (chars bytes), length-chars bytes)
