-- What holds of each entry that is made: of those of each span.
use Rattle.snippet_parts.proofs.Common.{◌≡◌, ℕ, ◌+◌, ◌-◌, ◌<◌, ◌≤◌, Bool, true, false, ◌&&◌, not, eqb, ltb, min, List, [], ◌∷◌, ◌++◌, map, ◌⊎◌, inl, inr}
use Rattle.snippet_parts.proofs.Common.{◌||◌, refl, ap, arith, All, Contains, filter, list_any, range_with_len, cond_both, and_parts, eqb-true, or_cases}
use Rattle.snippet_parts.proofs.Common.{All-nil, All-cons, All-head, All-tail, All-append, All-map, All-weaker, All-contains_itself, length-range_with_len}
use Rattle.snippet_parts.proofs.Common.{get_or-range_with_len, Annotation, AnnotationKind, Primary, LineAnnotation, LongExtent, Singleline, MultilineEnd}
use Rattle.snippet_parts.proofs.Common.{is_long, long_entry, long_place, long_spans, depth_of, single_part, start_part, bar_part, end_part, span_parts}
use Rattle.snippet_parts.proofs.Common.{long_parts, made_parts, promoted, bar_lines, ordered_by, depth_among, same_place, has_bar, is_trivial_line, Source}
use Rattle.snippet_parts.proofs.Common.{All-put_in}
pub use Rattle.snippet_lines.proofs.OrderLemmas.{filter-none}
use Rattle.snippet_parts.proofs.PartWords.{is_promoted, is_short, long_places, stands_before}

-- ---- lists

-- of each element that passes a test
pub All-filtered : {X : Type 0} (p : X → Bool) (Q : X → Type 0) (xs : List X) → All (λ x. p x ≡ true → Q x) xs → All Q (filter p xs)
All-filtered p Q [] all = All-nil Q
All-filtered p Q (x ∷ xs) all = grind (arith, All-tail, cond_both, All-cons, All-head, All-filtered p Q xs (All-tail (λ x. p x ≡ true → Q x) x xs all))

-- what holds of each element holds of each once they are in order
pub All-order : {X : Type 0} (before : X → X → Bool) (Q : X → Type 0) (xs : List X) → All Q xs → All Q (ordered_by before xs)
All-order before Q [] all = All-nil Q
All-order before Q (x ∷ xs) all = All-put_in before Q x (ordered_by before xs) (All-head Q x xs all) (All-order before Q xs (All-tail Q x xs all))

-- each number of a range is at least its first, and less than its end
pub All-range : (a n : ℕ) → All (λ k. (a ≤ k) × (k < a + n)) (range_with_len a n)
All-range a n k d within = grind (arith, length-range_with_len, get_or-range_with_len)

-- what holds of each element that is made holds of what each was made from
pub All-unmapped : {X Y : Type 0} (P : Y → Type 0) (f : X → Y) (xs : List X) → All P (map f xs) → All (λ x. P (f x)) xs
All-unmapped P f [] all = All-nil (λ x. P (f x))
All-unmapped P f (x ∷ xs) all = All-cons (λ x. P (f x)) x xs (All-head P (f x) (map f xs) all) (All-unmapped P f xs (All-tail P (f x) (map f xs) all))

-- ---- bars

-- where a span of several lines has a bar
pub record IsBarLine (source : List ℕ) (first last k : ℕ) : Type 0 where
  pub from : first < k
  pub to : k ≤ last
  pub shown : (list_any (λ j. not (is_trivial_line source j)) (range_with_len k (min (first + 4) last - k)) ≡ true)
      ⊎ ((k + 1 ≡ last) × (ltb (first + 4) k ≡ true) × (not (is_trivial_line source k) ≡ true))

-- each line of a bar lies where the span's bars may stand
pub bar_lines-stand : (source : List ℕ) (first last : ℕ) → All (IsBarLine source first last) (bar_lines source first last)
bar_lines-stand source first last =
    All-filtered (has_bar source first last) (IsBarLine source first last) (range_with_len (first + 1) (last - (first + 1)))
    (All-weaker (λ k. (first + 1 ≤ k) × (k < first + 1 + (last - (first + 1)))) (λ k. has_bar source first last k ≡ true → IsBarLine source first last k)
    (λ k within passes. record { from = omega (arith, within.0); to = omega (arith, within.1); shown = shown k passes })
    (range_with_len (first + 1) (last - (first + 1))) (All-range (first + 1) (last - (first + 1))))
  where
    shown : (k : ℕ) → has_bar source first last k ≡ true
        → (list_any (λ j. not (is_trivial_line source j)) (range_with_len k (min (first + 4) last - k)) ≡ true)
        ⊎ ((k + 1 ≡ last) × (ltb (first + 4) k ≡ true) × (not (is_trivial_line source k) ≡ true))
    shown k passes =
        let early : Bool = list_any (λ j. not (is_trivial_line source j)) (range_with_len k (min (first + 4) last - k)) in
        let closes : Bool = eqb (k + 1) last && ltb (first + 4) k in
        elim (or_cases early (closes && not (is_trivial_line source k)) passes) [
          | inl t ↦ inl t
          | inr t ↦
              let parts = and_parts closes (not (is_trivial_line source k)) t in
              let ends = and_parts (eqb (k + 1) last) (ltb (first + 4) k) parts.0 in
              inr (eqb-true (k + 1) last ends.0, ends.1, parts.1)
        ]

-- ---- entries

-- what holds of each entry that a span of several lines may have
pub record HoldsOfSpan (P : LineAnnotation → Type 0) (s : Source) (depth : ℕ) (e : LineAnnotation) : Type 0 where
  pub start : P (start_part e depth)
  pub bars : All (λ k. P (bar_part e depth (s.first + k))) (bar_lines s.text (e.start.line - s.first) (e.end.line - s.first))
  pub end : P (end_part e (MultilineEnd depth))
  pub again : P (end_part e Singleline)

-- what holds of what a span's parts are made of holds of each part
pub span-all : (P : LineAnnotation → Type 0) (s : Source) (depth : ℕ) (again : Bool) (e : LineAnnotation) → HoldsOfSpan P s depth e
    → All P (span_parts s depth again e)
span-all P s depth true e holds = All-cons P (end_part e Singleline) [] holds.again (All-nil P)
span-all P s depth false e holds =
    let bars : List LineAnnotation = map (λ k. bar_part e depth (s.first + k)) (bar_lines s.text (e.start.line - s.first) (e.end.line - s.first)) in
    All-cons P (start_part e depth) (bars ++ end_part e (MultilineEnd depth) ∷ [])
    holds.start (All-append P bars (end_part e (MultilineEnd depth) ∷ [])
    (All-map P (λ k. bar_part e depth (s.first + k)) (bar_lines s.text (e.start.line - s.first) (e.end.line - s.first)) holds.bars)
    (All-cons P (end_part e (MultilineEnd depth)) [] holds.end (All-nil P)))

-- a span as it is drawn has another kind at most
drawn_all : (P : LineAnnotation → Type 0) (s : Source) (depth : ℕ) (before : List LineAnnotation) (e : LineAnnotation)
    → ((kind : AnnotationKind) → HoldsOfSpan P s depth (record e { kind = kind })) → HoldsOfSpan P s depth (promoted before e)
drawn_all P s depth before e holds =
    cond_both (is_promoted before e) (record e { kind = Primary }) e (HoldsOfSpan P s depth) (λ _. holds Primary) (λ _. holds e.kind)

long-all : (P : LineAnnotation → Type 0) (s : Source) (places : List LongExtent) (before es : List LineAnnotation)
    → All (λ e. (kind : AnnotationKind) → HoldsOfSpan P s (depth_among places (long_place e)) (record e { kind = kind })) es
    → All P (long_parts s places before es)
long-all P s places before [] all = All-nil P
long-all P s places before (e ∷ later) all =
    let Q = λ (e : LineAnnotation). (kind : AnnotationKind) → HoldsOfSpan P s (depth_among places (long_place e)) (record e { kind = kind }) in
    All-append P (span_parts s (depth_among places (long_place e)) (list_any (λ d. same_place (long_place e) (long_place d)) later)
    (promoted before e)) (long_parts s places (before ++ e ∷ []) later)
    (span-all P s (depth_among places (long_place e)) (list_any (λ d. same_place (long_place e) (long_place d)) later) (promoted before e)
    (drawn_all P s (depth_among places (long_place e)) before e (All-head Q e later all)))
    (long-all P s places (before ++ e ∷ []) later (All-tail Q e later all))

-- what holds of the entries of each span of several lines holds of those of all of them
pub longs-all : (P : LineAnnotation → Type 0) (s : Source) (marks : List Annotation)
    → ((a : Annotation) → Contains marks a → is_long s.text a ≡ true → (kind : AnnotationKind) → HoldsOfSpan P s (depth_of s marks a) (record
    (long_entry s a) { kind = kind })) → All P (long_parts s (long_places s marks) [] (long_spans s marks))
longs-all P s marks long =
    let Q = λ (e : LineAnnotation). (kind : AnnotationKind) → HoldsOfSpan P s (depth_among (long_places s marks) (long_place e)) (record e { kind = kind }) in
    let given : All Q (map (long_entry s) (filter (is_long s.text) marks)) =
    All-map Q (long_entry s) (filter (is_long s.text) marks)
    (All-filtered (is_long s.text) (λ a. Q (long_entry s a))
    marks (All-weaker (Contains marks) (λ a. is_long s.text a ≡ true → Q (long_entry s a)) long marks (All-contains_itself marks))) in
    long-all P s (long_places s marks) [] (long_spans s marks) (All-order stands_before Q (map (long_entry s) (filter (is_long s.text) marks)) given)

-- what holds of the entries of each span holds of all entries
pub made-all : (P : LineAnnotation → Type 0) (s : Source) (marks : List Annotation)
    → ((a : Annotation) → Contains marks a → is_short s.text a ≡ true → P (single_part s a))
    → ((a : Annotation) → Contains marks a → is_long s.text a ≡ true → (kind : AnnotationKind) → HoldsOfSpan P s (depth_of s marks a) (record
    (long_entry s a) { kind = kind })) → All P (made_parts s marks)
made-all P s marks short long =
    let singles : All P (map (single_part s) (filter (is_short s.text) marks)) =
    All-map P (single_part s) (filter (is_short s.text) marks)
    (All-filtered (is_short s.text) (λ a. P (single_part s a))
    marks (All-weaker (Contains marks) (λ a. is_short s.text a ≡ true → P (single_part s a)) short marks (All-contains_itself marks))) in
    All-append P (map (single_part s) (filter (is_short s.text) marks)) (long_parts s (long_places s marks) [] (long_spans s marks)) singles
    (longs-all P s marks long)

-- a test of elements that were made from others, by those
pub list_any-map : {X Y : Type 0} (p : Y → Bool) (f : X → Y) (xs : List X) → list_any p (map f xs) ≡ list_any (λ x. p (f x)) xs
list_any-map p f [] = refl
list_any-map p f (x ∷ xs) = ap (λ b. p (f x) || b) (list_any-map p f xs)
