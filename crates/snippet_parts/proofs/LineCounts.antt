-- How many entries stand on a line: no more than there are spans.
use Rattle.snippet_parts.proofs.Common.{common_steps, ◌≡◌, ℕ, zero, suc, ◌+◌, ◌-◌, ◌<◌, ◌≤◌, ◌==◌, ◌&&◌, Bool, true, false, cond, not, List, [], ◌∷◌, ◌++◌, map}
use Rattle.snippet_parts.proofs.Common.{length, inl, inr, refl, sym, ap, subst, ◌∙◌, arith, All, count_by, filter, range_with_len, zero-add, and_parts}
use Rattle.snippet_parts.proofs.Common.{cases_lt, cond-true, cond-false, eq-eqb, ne_eqb, not-true, length-map, map-append, All-head, All-map, All-tail}
use Rattle.snippet_parts.proofs.Common.{All-weaker, count_by-le-length, length-filter, sum_by-append, sum_by-cons, Source, ordered_by, put_in, IsSpan}
use Rattle.snippet_parts.proofs.Common.{Annotation, LineAnnotation, LongExtent, MultilineEnd, Singleline, bar_part, end_part, is_long, long_entry, long_parts}
use Rattle.snippet_parts.proofs.Common.{bar_lines, long_spans, made_parts, parts_on, promoted, single_part, span_parts, start_part, is_marking, is_single_line}
use Rattle.snippet_parts.proofs.EntryFacts.{count-map}
use Rattle.snippet_parts.proofs.KeptPartLemmas.{lines_ordered}
use Rattle.snippet_parts.proofs.MarkLemmas.{end-line, start-line}
use Rattle.snippet_parts.proofs.PartWords.{is_short, long_places, stands_before}
use Rattle.snippet_parts.proofs.PartLemmas.{All-filtered, All-order, IsBarLine, bar_lines-stand}

-- ---- ascending numbers

-- numbers that ascend, from this one on
abbrev Rising : ℕ → List ℕ → Type 0
Rising low [] = Unit {0}
Rising low (n ∷ ns) = (low ≤ n) × Rising (n + 1) ns

rising-lower : (low from : ℕ) (ns : List ℕ) → low ≤ from → Rising from ns → Rising low ns
rising-lower low from [] le rising = tt
rising-lower low from (n ∷ ns) le rising = (omega (arith, le, rising.0), rising.1)

rising-filter : (q : ℕ → Bool) (low : ℕ) (ns : List ℕ) → Rising low ns → Rising low (filter q ns)
rising-filter q low [] rising = tt
rising-filter q low (n ∷ ns) rising = grind (arith, cond-true, cond-false, rising-lower, rising-filter q (n + 1) ns rising.1)

rising-range : (a n : ℕ) → Rising a (range_with_len a n)
rising-range a zero = tt
rising-range a (suc n) = (omega arith, rising-range (a + 1) n)

-- those from a number on after those before it
rising-append : (low high : ℕ) (ms ns : List ℕ) → low ≤ high → Rising low ms → All (λ m. m < high) ms → Rising high ns → Rising low (ms ++ ns)
rising-append low high [] ns le rising below more = rising-lower low high ns le more
rising-append low high (m ∷ ms) ns le rising below more = (
  rising.0,
  rising-append (m + 1) high ms ns (omega (arith, All-head (λ k. k < high) m ms below)) rising.1 (All-tail (λ k. k < high) m ms below) more,
)

rising-map : (by low : ℕ) (ns : List ℕ) → Rising low ns → Rising (by + low) (map (λ n. by + n) ns)
rising-map by low [] rising = tt
rising-map by low (n ∷ ns) rising = grind (arith, rising-map by (n + 1) ns rising.1)

-- none of them is less than the first, so each stands there once
rising-none : (k low : ℕ) (ns : List ℕ) → k < low → Rising low ns → count_by (λ n. n == k) ns ≡ 0
rising-none k low [] less rising = refl
rising-none k low (n ∷ ns) less rising =
    let other : (n == k) ≡ false = ne_eqb n k (λ same. omega (arith, same, less, rising.0)) in
    sum_by-cons (λ m. cond (m == k) 1 0) n ns ∙ ap (λ b. cond b 1 0 + count_by (λ m. m == k) ns) other ∙ zero-add (count_by (λ m. m == k) ns)
    ∙ rising-none k (n + 1) ns (omega (arith, less, rising.0)) rising.1

-- a test counts one at most
one : (b : Bool) → cond b 1 0 ≤ 1
one x = grind (arith)

rising-once : (k low : ℕ) (ns : List ℕ) → Rising low ns → count_by (λ n. n == k) ns ≤ 1
rising-once k low [] rising = omega arith
rising-once k low (n ∷ ns) rising =
    elim (cases_lt k (n + 1)) [
      | inl less ↦ omega (arith, sum_by-cons (λ m. cond (m == k) 1 0) n ns, rising-none k (n + 1) ns less rising.1, one (n == k))
      | inr more ↦
          let other : ◌≡◌ {A = ℕ} (cond (n == k) 1 0) 0 = ap (λ b. cond b 1 0) (ne_eqb n k (λ same. omega (arith, same, more))) in
          omega (arith, sum_by-cons (λ m. cond (m == k) 1 0) n ns, other, rising-once k (n + 1) ns rising.1)
    ]

-- ---- spans of several lines

-- a bar stands before the last line
bar-below : (source : List ℕ) (first last k : ℕ) → IsBarLine source first last k → k < last
bar-below source first last k bar = grind (arith)

-- the lines of bars ascend
rising-bars : (source : List ℕ) (first last : ℕ) → first < last → Rising (first + 1) (bar_lines source first last)
rising-bars source first last long = grind (arith, rising-filter, rising-range)

module _ (s : Source) (n : ℕ) where
  -- whether a part stands on the line of this number
  abbrev stands : LineAnnotation → Bool
  stands p = p.start.line == n

  -- a span of several lines, in a source that begins with a number
  abbrev IsSeveral : LineAnnotation → Type 0
  IsSeveral e = (s.first ≤ e.start.line) × (e.start.line < e.end.line)

  -- the lines of bars
  bars_lines : (e : LineAnnotation) (depth : ℕ) (ks : List ℕ)
      → map (λ (p : LineAnnotation). p.start.line) (map (λ k. bar_part e depth (s.first + k)) ks) ≡ map (λ k. s.first + k) ks
  bars_lines e depth [] = refl
  bars_lines e depth (k ∷ ks) = ap (λ ns. (s.first + k) ∷ ns) (bars_lines e depth ks)

  -- one entry of a span of several lines stands on a line at most
  span_once : (depth : ℕ) (again : Bool) (e : LineAnnotation) → IsSeveral e → count_by stands (span_parts s depth again e) ≤ 1
  span_once depth true e several = count_by-le-length stands (end_part e Singleline ∷ [])
  span_once depth false e several =
      let from : ℕ = e.start.line - s.first in
      let to : ℕ = e.end.line - s.first in
      let ks : List ℕ = bar_lines s.text from to in
      let bars : List LineAnnotation = map (λ k. bar_part e depth (s.first + k)) ks in
      let parts : List LineAnnotation = start_part e depth ∷ (bars ++ end_part e (MultilineEnd depth) ∷ []) in
      let numbers : List ℕ = map (λ k. s.first + k) ks in
      let long : from < to = omega (arith, several.0, several.1) in
      let at : s.first + (from + 1) ≡ e.start.line + 1 = omega (arith, several.0) in
      let middle : Rising (e.start.line + 1) numbers = subst (λ k. Rising k numbers) at (rising-map s.first (from + 1) ks (rising-bars s.text from to long)) in
      let below : All (λ m. m < e.end.line) numbers = All-map (λ m. m < e.end.line) (λ k. s.first + k) ks
      (All-weaker (IsBarLine s.text from to) (λ k. s.first + k < e.end.line) (λ k bar. omega (arith, bar-below s.text from to k bar, several.0, several.1))
      ks (bar_lines-stand s.text from to)) in
      let rising : Rising e.start.line (e.start.line ∷ (numbers ++ e.end.line ∷ [])) = (
        omega arith,
        rising-append (e.start.line + 1) e.end.line numbers
            (e.end.line ∷ []) (omega (arith, several.1)) middle below (omega arith, tt),
      ) in
      let lines : map (λ (p : LineAnnotation). p.start.line) parts ≡ e.start.line ∷ (numbers ++ e.end.line ∷ []) = ap (λ ns. e.start.line ∷ ns)
      (map-append (λ (p : LineAnnotation). p.start.line) bars (end_part e (MultilineEnd depth) ∷ [])
      ∙ ap (λ ns. ns ++ e.end.line ∷ []) (bars_lines e depth ks)) in
      omega (
        arith,
        sym (count-map (λ m. m == n) (λ (p : LineAnnotation). p.start.line) parts),
        ap (count_by (λ m. m == n)) lines,
        rising-once n e.start.line (e.start.line ∷ (numbers ++ e.end.line ∷ [])) rising,
      )

  -- nor of one as it is drawn
  drawn_once : (depth : ℕ) (again : Bool) (before : List LineAnnotation) (e : LineAnnotation) → IsSeveral e
      → count_by stands (span_parts s depth again (promoted before e)) ≤ 1
  drawn_once depth again before e several = grind (arith, stands, span_once)

  longs_few : (places : List LongExtent) (before es : List LineAnnotation) → All IsSeveral es → count_by stands (long_parts s places before es) ≤ length es
  longs_few places before [] all = omega arith
  longs_few places before (e ∷ later) all =
      grind (arith, sum_by-append, stands, drawn_once, All-head, All-tail, longs_few places (before ++ e ∷ []) later (All-tail IsSeveral e later all))

-- ---- all spans

length-put_in : {X : Type 0} (before : X → X → Bool) (x : X) (ys : List X) → length (put_in before x ys) ≡ length ys + 1
length-put_in before x [] = omega arith
length-put_in before x (y ∷ ys) = grind (arith, cond-true, cond-false, length-put_in before x ys)

-- as many are in order as there are
pub length-in_order : {X : Type 0} (before : X → X → Bool) (xs : List X) → length (ordered_by before xs) ≡ length xs
length-in_order before [] = omega arith
length-in_order before (x ∷ xs) = omega (arith, length-in_order before xs, length-put_in before x (ordered_by before xs))

-- those that pass one of two tests that nothing passes both are no more than all
either_few : {X : Type 0} (p q : X → Bool) → ((x : X) → p x ≡ true → q x ≡ false) → (xs : List X) → count_by p xs + count_by q xs ≤ length xs
either_few p q apart [] = omega arith
either_few p q apart (x ∷ xs) = grind (arith, common_steps, sum_by-cons, either_few p q apart xs, one)

-- a span that stands on several lines stands from one to a later one
is_several : (s : Source) (a : Annotation) → IsSpan s.text a.span.start a.span.end → is_long s.text a ≡ true → IsSeveral s 0 (long_entry s a)
is_several s a span long = grind (arith, and_parts, start-line, end-line, lines_ordered, eq-eqb, not-true)

-- no more entries stand on a line than there are spans
pub parts_on-few : (s : Source) (marks : List Annotation) (k : ℕ) → All (λ a. IsSpan s.text a.span.start a.span.end) marks
    → length (parts_on s marks k) ≤ length marks
parts_on-few s marks k spans =
    let n : ℕ = s.first + k in
    let on = λ (p : LineAnnotation). p.start.line == n in
    let singles : List LineAnnotation = map (single_part s) (filter (is_short s.text) marks) in
    let given : List LineAnnotation = map (long_entry s) (filter (is_long s.text) marks) in
    let longs : List LineAnnotation = long_spans s marks in
    let several : All (IsSeveral s n) longs = All-order stands_before (IsSeveral s n) given (All-map (IsSeveral s n) (long_entry s)
    (filter (is_long s.text) marks) (All-filtered (is_long s.text) (λ a. IsSeveral s n (long_entry s a)) marks
    (All-weaker (λ a. IsSpan s.text a.span.start a.span.end) (λ a. is_long s.text a ≡ true → IsSeveral s n (long_entry s a))
    (λ a span long. is_several s a span long) marks spans))) in
    omega (
      arith,
      length-filter on (made_parts s marks),
      sum_by-append (λ p. cond (on p) 1 0) singles (long_parts s (long_places s marks) [] longs),
      count_by-le-length on singles,
      length-map (filter (is_short s.text) marks) (single_part s),
      length-filter (is_short s.text) marks,
      longs_few s n (long_places s marks) [] longs several,
      length-in_order stands_before given,
      length-map (filter (is_long s.text) marks) (long_entry s),
      length-filter (is_long s.text) marks,
      either_few (is_short s.text) (is_long s.text) (λ a short. apart (is_marking a.kind) (is_single_line s.text a) short) marks,
    )
  where
    apart : (marking single : Bool) → (marking && single) ≡ true → (marking && not single) ≡ false
    apart true true both = refl
    apart true false both = cc
    apart false single both = refl
