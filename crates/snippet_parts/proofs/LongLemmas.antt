-- Spans of several lines, in their order.
use Rattle.snippet_parts.proofs.Common.{common_steps, ◌≡◌, ℕ, ◌^◌, ◌<◌, ◌≤◌, Bool, true, false, ◌&&◌, ◌||◌, eqb, ltb, List, map, get_or, ap, ◌∙◌, arith}
use Rattle.snippet_parts.proofs.Common.{IsStrictWeakOrder, IsNonDecreasingBy, IsSortedBy, is_lt, ordering_then, nat_tests, LineAnnotation, LongSpan, long_entry}
use Rattle.snippet_parts.proofs.Common.{is_long, ordered_by, AreBars, seen_long, HasFit, Source, first_line, last_line, Annotation, eqb-false, ltb-false}
use Rattle.snippet_parts.proofs.Common.{not-true, and_parts, or_parts, line_of-mono, line_of-within, map-ordered_by, sorted_far}
use Rattle.std.specs.Ordering.{nat_cmp}
use Rattle.snippet_parts.proofs.MarkLemmas.{start-line, end-line}
use Rattle.snippet_parts.proofs.PartWords.{stands_before}

-- which of two spans of several lines comes first
abbrev pub long_before : LongSpan → LongSpan → Bool
long_before a b = stands_before (seen_long a) (seen_long b)

-- the code's comparison of two pairs is that of the definition
pub before-tells : (a b c d : ℕ) → is_lt (ordering_then (nat_cmp a c) (nat_cmp d b)) ≡ (ltb a c || eqb a c && ltb d b)
before-tells a b c d = grind (arith, nat_tests)

one_way : (a b c d : ℕ) → (ltb a c || eqb a c && ltb d b) ≡ true → (ltb c a || eqb c a && ltb b d) ≡ false
one_way a b c d h = grind (arith, nat_tests)

chained : (a b c d e f : ℕ) → (ltb a c || eqb a c && ltb d b) ≡ false → (ltb c e || eqb c e && ltb f d) ≡ false → (ltb a e || eqb a e && ltb f b) ≡ false
chained a b c d e f g h = grind (arith, nat_tests)

-- which of two spans of several lines comes first is an order
pub long_before-order : IsStrictWeakOrder long_before
long_before-order = grind (arith, one_way, chained)

-- a span of several lines starts on an earlier line than it ends on
pub long-lines : (s : Source) (a : Annotation) → a.span.start ≤ a.span.end → is_long s.text a ≡ true → (long_entry s a).start.line < (long_entry s a).end.line
long-lines s a ordered long = grind (arith, eqb-false, not-true, and_parts, line_of-mono, line_of-within, start-line, end-line)

-- a span of several lines whose columns are small enough has room
pub fit-long : (s : Source) (a : Annotation) (l : LongSpan) → a.span.start ≤ a.span.end → seen_long l ≡ long_entry s a → l.start.display < 2 ^ 58
    → l.end.display ≤ 2 ^ 58 → l.start.char ≤ 2 ^ 56 → is_long s.text a ≡ true → AreBars s.text (first_line s.text a) (last_line s.text a) l.bars
    → HasFit s l
fit-long s a l ordered seen display end char long bars =
    grind (arith, common_steps, s.text, l.start.line, start-line, a.span.start, a.span.end, l.end.line, end-line, long-lines, line_of-within, s.first, l.bars)

-- the order of the code's spans is that of what is seen of them
pub long_spans-is : (given sorted : List LongSpan) (es : List LineAnnotation) → sorted ≡ ordered_by long_before given → map seen_long given ≡ es
    → map seen_long sorted ≡ ordered_by stands_before es
long_spans-is given sorted es is seen = ap (map seen_long) is ∙ map-ordered_by seen_long stands_before given ∙ ap (ordered_by stands_before) seen

-- spans in their order are ordered by the lines on which they start
pub long-ordered : (xs : List LongSpan) → IsSortedBy long_before xs → IsNonDecreasingBy (λ (l : LongSpan). l.start.line) xs
long-ordered xs sorted i j d le within =
    no_less (get_or xs j d).start.line (get_or xs i d).start.line (eqb (get_or xs j d).start.line (get_or xs i d).start.line
    && ltb (get_or xs i d).end.line (get_or xs j d).end.line) (sorted_far long_before long_before-order xs sorted i j d le within)
  where
    no_less : (m n : ℕ) (b : Bool) → (ltb m n || b) ≡ false → n ≤ m
    no_less m n b none = ltb-false m n (or_parts (ltb m n) b none).0
