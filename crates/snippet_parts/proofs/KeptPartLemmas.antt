-- Entries stand on lines that are kept.
use Rattle.snippet_parts.proofs.Common.{◌≡◌, ℕ, ◌+◌, ◌-◌, ◌≤◌, Bool, true, false, ◌&&◌, ◌||◌, not, eqb, List, [], ap, subst, ◌∙◌, arith, All, Contains}
use Rattle.snippet_parts.proofs.Common.{list_any, and_from, and_parts, or_left, or_right, eq-eqb, le-leb, ne_eqb, both_ways, false_from_ne_true, All-contains}
use Rattle.snippet_parts.proofs.Common.{All-weaker, All-contains_itself, list_any_at, list_any_none, Annotation, AnnotationKind, LineAnnotation, is_long}
use Rattle.snippet_parts.proofs.Common.{long_entry, depth_of, single_part, made_parts, parts_on, bar_lines, keeps, Source, source_lines, is_marking, touches}
use Rattle.snippet_parts.proofs.Common.{first_line, last_line, IsSpan, line_of-mono, line_of-within}
use Rattle.snippet_parts.proofs.MarkLemmas.{start-line, end-line, entry_of-line}
use Rattle.snippet_parts.proofs.PartLemmas.{HoldsOfSpan, IsBarLine, bar_lines-stand, filter-none, made-all}
use Rattle.snippet_parts.proofs.PartWords.{is_short}

-- a test that one of some passes
pub any-member : {X : Type 0} (p : X → Bool) (xs : List X) (x : X) → Contains xs x → p x ≡ true → list_any p xs ≡ true
any-member p xs x among passes = list_any_at p xs among.0 x among.1 (ap p among.2 ∙ passes)

-- a span ends on its first line or below
pub lines_ordered : (source : List ℕ) (a : Annotation) → IsSpan source a.span.start a.span.end → first_line source a ≤ last_line source a
lines_ordered source a span = line_of-mono (source_lines source) a.span.start a.span.end (omega (arith, line_of-within source 0)) span.ordered

-- ---- lines that a span keeps

first-of-four : (a b c d e : Bool) → e ≡ true → a ≡ true → (e && (a || b || c || d)) ≡ true
first-of-four x y z u v w a = grind (arith)

second-of-four : (a b c d e : Bool) → e ≡ true → b ≡ true → (e && (a || b || c || d)) ≡ true
second-of-four x y z u v w a = grind (arith)

third-of-four : (a b c d e : Bool) → e ≡ true → c ≡ true → (e && (a || b || c || d)) ≡ true
third-of-four x y z u v w a = grind (arith)

fourth-of-four : (a b c d e : Bool) → e ≡ true → d ≡ true → (e && (a || b || c || d)) ≡ true
fourth-of-four x y z u v w a = grind (arith)

touched : (source : List ℕ) (a : Annotation) (k : ℕ) → first_line source a ≤ k → k ≤ last_line source a → touches source a k ≡ true
touched source a k from to = grind (arith, and_from, le-leb)

-- the line on which a span starts is kept
pub keeps-first : (source : List ℕ) (a : Annotation) (k : ℕ) → IsSpan source a.span.start a.span.end → k ≡ first_line source a → keeps source k a ≡ true
keeps-first source a k span is = grind (arith, first-of-four, touched, lines_ordered, eq-eqb)

-- the line on which a span ends is kept
pub keeps-last : (source : List ℕ) (a : Annotation) (k : ℕ) → IsSpan source a.span.start a.span.end → k ≡ last_line source a → keeps source k a ≡ true
keeps-last source a k span is = grind (arith, second-of-four, touched, lines_ordered, eq-eqb)

-- an annotation that isn't marked keeps each line that it touches
pub keeps-unmarked : (source : List ℕ) (a : Annotation) (k : ℕ) → not (is_marking a.kind) ≡ true → touches source a k ≡ true → keeps source k a ≡ true
keeps-unmarked source a k unmarked there = grind (arith, third-of-four)

keeps-bar : (source : List ℕ) (a : Annotation) (k : ℕ) → IsBarLine source (first_line source a) (last_line source a) k → keeps source k a ≡ true
keeps-bar source a k bar = grind (arith, or_left, or_right, and_from, eq-eqb, fourth-of-four, touched)

-- ---- the line of an entry

-- the line on which an entry stands is one that a span keeps
abbrev pub StandsOnKept : Source → List Annotation → LineAnnotation → Type 0
StandsOnKept s marks p = (k : ℕ) → p.start.line ≡ s.first + k → list_any (keeps s.text k) marks ≡ true

pub made-kept : (s : Source) (marks : List Annotation) → All (λ a. IsSpan s.text a.span.start a.span.end) marks
    → All (StandsOnKept s marks) (made_parts s marks)
made-kept s marks spans = made-all (StandsOnKept s marks) s marks short long
  where
    is-span : (a : Annotation) → Contains marks a → IsSpan s.text a.span.start a.span.end
    is-span a among = All-contains (λ a. IsSpan s.text a.span.start a.span.end) marks a spans among

    short : (a : Annotation) → Contains marks a → is_short s.text a ≡ true → StandsOnKept s marks (single_part s a)
    short a among is k at = any-member (keeps s.text k) marks a among (keeps-first s.text a k (is-span a among) (omega (arith, entry_of-line s a)))

    first : (a : Annotation) → (long_entry s a).start.line ≡ s.first + first_line s.text a
    first a = start-line s a.span.start a.span.end

    last : (a : Annotation) → (long_entry s a).end.line ≡ s.first + last_line s.text a
    last a = end-line s a.span.start a.span.end

    at-last : (a : Annotation) → Contains marks a → (k : ℕ) → (long_entry s a).end.line ≡ s.first + k → list_any (keeps s.text k) marks ≡ true
    at-last a among k at = any-member (keeps s.text k) marks a among (keeps-last s.text a k (is-span a among) (omega (arith, last a)))

    bar : (a : Annotation) → Contains marks a → (k n : ℕ) → IsBarLine s.text ((long_entry s a).start.line - s.first) ((long_entry s a).end.line - s.first) k
        → s.first + k ≡ s.first + n → list_any (keeps s.text n) marks ≡ true
    bar a among k n is at =
        let from : (long_entry s a).start.line - s.first ≡ first_line s.text a = omega (arith, first a) in
        let to : (long_entry s a).end.line - s.first ≡ last_line s.text a = omega (arith, last a) in
        let here : k ≡ n = omega arith in
        any-member (keeps s.text n) marks a among (keeps-bar s.text a n
        (subst (λ m. IsBarLine s.text (first_line s.text a) (last_line s.text a) m) here
        (subst (λ m. IsBarLine s.text (first_line s.text a) m k) to (subst (λ m. IsBarLine s.text m ((long_entry s a).end.line - s.first) k) from is))))

    long : (a : Annotation) → Contains marks a → is_long s.text a ≡ true → (kind : AnnotationKind)
        → HoldsOfSpan (StandsOnKept s marks) s (depth_of s marks a) (record (long_entry s a) { kind = kind })
    long a among is kind = record {
      start = λ k at. any-member (keeps s.text k) marks a among (keeps-first s.text a k (is-span a among) (omega (arith, first a)));
      bars = All-weaker (IsBarLine s.text ((long_entry s a).start.line - s.first) ((long_entry s a).end.line - s.first))
          (λ k. (n : ℕ) → s.first + k ≡ s.first + n → list_any (keeps s.text n) marks ≡ true) (λ k is n at. bar a among k n is at)
          (bar_lines s.text ((long_entry s a).start.line - s.first) ((long_entry s a).end.line - s.first))
          (bar_lines-stand s.text ((long_entry s a).start.line - s.first) ((long_entry s a).end.line - s.first));
      end = λ k at. at-last a among k at;
      again = λ k at. at-last a among k at;
    }

-- no entry stands on a line that no span keeps
pub none-unkept : (s : Source) (marks : List Annotation) (k : ℕ) → All (λ a. IsSpan s.text a.span.start a.span.end) marks
    → list_any (keeps s.text k) marks ≡ false → parts_on s marks k ≡ []
none-unkept s marks k spans none =
    filter-none (λ (p : LineAnnotation). eqb p.start.line (s.first + k)) (made_parts s marks)
    (All-weaker (StandsOnKept s marks) (λ p. eqb p.start.line (s.first + k) ≡ false)
    (λ p kept. ne_eqb p.start.line (s.first + k) (λ at. both_ways (list_any (keeps s.text k) marks) none (kept k at))) (made_parts s marks)
    (made-kept s marks spans))

-- and no span keeps it without marking it
pub unseen-unkept : (s : Source) (marks : List Annotation) (k : ℕ) → list_any (keeps s.text k) marks ≡ false
    → list_any (λ a. not (is_marking a.kind) && touches s.text a k) marks ≡ false
unseen-unkept s marks k none =
    list_any_none (λ (a : Annotation). not (is_marking a.kind) && touches s.text a k) marks
    (All-weaker (Contains marks) (λ a. (not (is_marking a.kind) && touches s.text a k) ≡ false) (λ a among.
    false_from_ne_true (not (is_marking a.kind) && touches s.text a k) (λ t.
    let parts = and_parts (not (is_marking a.kind)) (touches s.text a k) t in
    both_ways (list_any (keeps s.text k) marks) none (any-member (keeps s.text k) marks a among (keeps-unmarked s.text a k parts.0 parts.1)))) marks
    (All-contains_itself marks))
