-- Texts whose bytes are aligned: they have as many lines, the same line feeds, and take the same spans.
use Rattle.std.proofs.lemmas.Grind.{common_steps}
use Rattle.annotate_snippets.proofs.Common.{◌≡◌, ◌∙◌, ℕ, ◌==◌, ◌||◌, nat_le, nat_lt, zero, suc, List, [], ◌∷◌, arith, ap, ap₂}
use Rattle.annotate_snippets.proofs.Common.{count_by, length, refl, slice_index, sym, nat_tests, sum_by-cons, length-source_lines, newline_count, source_lines}
use Rattle.annotate_snippets.proofs.Common.{is_span_border, span_fault, IsAligned, byte_class}
use Rattle.annotate_snippets.proofs.PairedLemmas.{zip-length}

-- ---- bytes

class-feed : (x : ℕ) → (byte_class x == 10) ≡ (x == 10)
class-feed x = grind (arith, nat_tests)

class-border : (x : ℕ) → (nat_lt (byte_class x) 128 || nat_le 192 (byte_class x)) ≡ (nat_lt x 128 || nat_le 192 x)
class-border x = grind (arith, nat_tests)

feed-same : (x y : ℕ) → byte_class y ≡ byte_class x → (y == 10) ≡ (x == 10)
feed-same x y same = sym (class-feed y) ∙ ap (λ (n : ℕ). n == 10) same ∙ class-feed x

border-same : (x y : ℕ) → byte_class y ≡ byte_class x → (nat_lt y 128 || nat_le 192 y) ≡ (nat_lt x 128 || nat_le 192 x)
border-same x y same = sym (class-border y) ∙ ap (λ (n : ℕ). nat_lt n 128 || nat_le 192 n) same ∙ class-border x

-- ---- texts

pub aligned-length : (a b : List ℕ) → IsAligned a b → length b ≡ length a
aligned-length a b is = zip-length (λ x y. byte_class y ≡ byte_class x) a b is

aligned-at : (a b : List ℕ) → IsAligned a b → (i : ℕ) → byte_class (slice_index b i) ≡ byte_class (slice_index a i)
aligned-at [] [] is i = refl
aligned-at [] (y ∷ b) is i = absurd is
aligned-at (x ∷ a) [] is i = absurd is
aligned-at (x ∷ a) (y ∷ b) is zero = is.0
aligned-at (x ∷ a) (y ∷ b) is (suc i) = aligned-at a b is.1 i

-- they have as many line feeds
pub aligned-feeds : (a b : List ℕ) → IsAligned a b → count_by (λ c. c == 10) b ≡ count_by (λ c. c == 10) a
aligned-feeds [] [] is = refl
aligned-feeds [] (y ∷ b) is = absurd is
aligned-feeds (x ∷ a) [] is = absurd is
aligned-feeds (x ∷ a) (y ∷ b) is = grind (arith, common_steps, aligned-feeds a b is.1, sum_by-cons, ap₂, feed-same, is.0, is.1)

-- and lines
pub aligned-lines : (a b : List ℕ) → IsAligned a b → length (source_lines b) ≡ length (source_lines a)
unfolding newline_count
aligned-lines a b is = grind (arith, aligned-length, feed-same, aligned-at, length-source_lines, ap₂, aligned-feeds)

-- a span has the same fault in both
aligned-border : (a b : List ℕ) → IsAligned a b → (i : ℕ) → is_span_border b i ≡ is_span_border a i
aligned-border a b is i = grind (arith, ap₂, nat_le, aligned-length, border-same, aligned-at)

pub aligned-fault : (a b : List ℕ) → IsAligned a b → (start end : ℕ) → span_fault b start end ≡ span_fault a start end
unfolding span_fault
aligned-fault a b is start end = grind (arith, nat_lt, aligned-length, ap₂, aligned-border)
