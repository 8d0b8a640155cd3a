-- The place that the head of a primary snippet names is that of a byte: the first one at which a span starts that names it.
use Rattle.snippet_parts.proofs.Common.{common_steps, ◌≡◌, ℕ, ◌+◌, ◌-◌, ◌<◌, ◌≤◌, Bool, true, cond, not, eqb, ltb, min, Option, Some, None, List, [], ◌∷◌, ◌++◌}
use Rattle.snippet_parts.proofs.Common.{map, length, take, drop, inl, inr, refl, sym, ap, subst, ◌∙◌, arith, All, Contains, filter, IfSome, option_map}
use Rattle.snippet_parts.proofs.Common.{option_map_or, option_or, IsUtf8, take-add, cases_Bool, and_from, and_parts, eq-eqb, eqb-true, le-ltb, lt-ltb}
use Rattle.snippet_parts.proofs.Common.{length-append, IsUtf8-take, chars-append, is_primary, Annotation, AnnotationKind, Loc, Line, Source, source_lines}
use Rattle.snippet_parts.proofs.Common.{start_of, text_at, line_of, location_of, place_of, prefix_at, start_location, steps_after_text, IsSpan, IsSpanBorder}
use Rattle.snippet_parts.proofs.Common.{IsUtf8-text_at, IsCharBoundary-prefix, line_of-mono, line_of-within, locations_of-start, place_of-character}
use Rattle.snippet_parts.proofs.Common.{start_location-line, LineAnnotation, Location, KeptLine, annotated_lines, is_long, kept_line, long_entry, long_parts}
use Rattle.snippet_parts.proofs.Common.{long_place, long_spans, made_parts, parts_on, single_part, kept_lines, Ascends, primary_place, marked_starts}
use Rattle.snippet_parts.proofs.Common.{naming_start, place_at, primary_starts, is_marking, is_single_line, first_line, least}
use Rattle.std.proofs.Common.{chars}
use Rattle.snippet_parts.proofs.AmongLemmas.{Among, all_among, among_filter, among_in_order, among_left, among_map, among_right, append_cases, filter_cases}
use Rattle.snippet_parts.proofs.AmongLemmas.{in_order_cases, least-among, least_le, map_cases}
use Rattle.snippet_parts.proofs.KeptPartLemmas.{lines_ordered}
use Rattle.snippet_parts.proofs.LocationLaws.{ascends-head, ascends-tail, first-none, least-first}
use Rattle.snippet_parts.proofs.LocationWords.{all_parts, choice_place, first_place, primary-is, start_columns}
use Rattle.snippet_parts.proofs.LongStarts.{IsBy, IsChoice, IsReached, IsSeen, StandsAt, by-same, reached, same_start, started}
use Rattle.snippet_parts.proofs.MarkLemmas.{end-line, start-line}
use Rattle.snippet_parts.proofs.ShownFacts.{contains-cases, contains-here, contains-there, first_kept, kept-ascends}
use Rattle.snippet_parts.proofs.PartWords.{is_short, long_places, stands_before}

-- ---- lists

contains_among : {X : Type 0} (xs : List X) (x : X) → Contains xs x → Among xs x
contains_among [] x among = absurd (omega (arith, among.1))
contains_among (y ∷ xs) x among = elim (contains-cases x y xs among) [ inl same ↦ inl same | inr later ↦ inr (contains_among xs x later) ]

among_contains : {X : Type 0} (xs : List X) (x : X) → Among xs x → Contains xs x
among_contains [] x among = absurd among
among_contains (y ∷ xs) x (inl same) = contains-here x y xs same
among_contains (y ∷ xs) x (inr later) = contains-there x y xs (among_contains xs x later)

none-among : {X : Type 0} (xs : List X) → ((x : X) → Among xs x → ⊥) → xs ≡ []
none-among [] none = refl
none-among (x ∷ xs) none = absurd (none x (inl refl))

-- a number that stands in a list, and is no greater than any there, is the least
least-is : (ns : List ℕ) (n : ℕ) → Among ns n → ((m : ℕ) → Among ns m → n ≤ m) → least ns ≡ Some n
least-is [] n here low = absurd here
least-is (m ∷ ns) n here low =
    let first : ℕ = option_map_or (λ k. min m k) (least ns) m in
    let down : first ≤ n = least_le (m ∷ ns) n here in
    let up : n ≤ first = low first (least-among m ns) in
    let same : first ≡ n = omega (arith, down, up) in
    ap Some same

-- the first line that has a place, where no line above has one
first_is : (place_on : KeptLine → Option Location) (line_at : ℕ → KeptLine) (ks : List ℕ) (k : ℕ) (place : Location) → Ascends ks → Contains ks k
    → place_on (line_at k) ≡ Some place → ((j : ℕ) → j < k → place_on (line_at j) ≡ None) → first_place place_on (map line_at ks) ≡ Some place
first_is place_on line_at [] k place rises among has none = absurd (omega (arith, among.1))
first_is place_on line_at (j ∷ ks) k place rises among has none =
    elim (contains-cases k j ks among) [
      | inl same ↦ ap (λ o. option_or o (first_place place_on (map line_at ks))) (ap (λ n. place_on (line_at n)) same ∙ has)
      | inr later ↦ ap (λ o. option_or o (first_place place_on (map line_at ks))) (none j (ascends-head j ks k rises later))
          ∙ first_is place_on line_at ks k place (ascends-tail j ks rises) later has none
    ]

-- ---- the places of bytes

-- a text has no more characters up to a byte than up to a later one
length-chars-more : (text : List ℕ) (m n : ℕ) → IsUtf8 (take m text) → m ≤ n → length (chars (take m text)) ≤ length (chars (take n text))
length-chars-more text m n utf8 upto =
    let rest : List ℕ = take (n - m) (drop m text) in
    let parts : take n text ≡ take m text ++ rest = ap (λ k. take k text) (let e : n ≡ m + (n - m) = omega arith in e) ∙ take-add m (n - m) text in
    omega (arith, ap (λ t. length (chars t)) parts, ap length (chars-append (take m text) rest utf8), length-append (chars (take m text)) (chars rest))

prefix-utf8 : (text : List ℕ) (b : ℕ) → IsUtf8 text → IsUtf8 (take (min b (length text)) text) → IsUtf8 (take b text)
prefix-utf8 text b utf8 cut = grind (arith, common_steps)

abbrev step : Bool → ℕ
step b = cond b 1 0

steps-more : (e a b : ℕ) → a ≤ b → step (ltb e a) ≤ step (ltb e b)
steps-more e a b upto = grind (arith, lt-ltb, le-ltb)

start-char : (s : Source) (b : ℕ) → (start_location s b).char ≡ (place_of s.text b).character + steps_after_text s.text b
unfolding start_location location_of
start-char s b = refl

steps-are : (source : List ℕ) (b k : ℕ) → line_of (source_lines source) b ≡ k
    → steps_after_text source b ≡ step (ltb (start_of (source_lines source) k + length (text_at (source_lines source) k)) b)
unfolding steps_after_text
steps-are source b k on = ap (λ n. step (ltb (start_of (source_lines source) n + length (text_at (source_lines source) n)) b)) on

-- a span that starts at an earlier byte starts at an earlier place, or at the same
pub place-by : (s : Source) (a b : ℕ) → IsUtf8 s.text → IsSpanBorder s.text a → a ≤ b → IsBy (start_location s a) (start_location s b)
place-by s a b utf8 border upto = (
  omega (arith, start_location-line s a, start_location-line s b, line_of-mono ls a b (omega (arith, line_of-within s.text 0)) upto),
  λ same.
      on_line (omega (arith, same, start_location-line s a, start_location-line s b)),
)
  where
    ls : List Line
    ls = source_lines s.text

    on_line : line_of (source_lines s.text) a ≡ line_of (source_lines s.text) b → (start_location s a).char ≤ (start_location s b).char
    on_line one =
        let ls : List Line = source_lines s.text in
        let k : ℕ = line_of ls a in
        let text : List ℕ = text_at ls k in
        let cut : IsUtf8 (take (a - start_of ls k) text) = prefix-utf8 text (a - start_of ls k) (IsUtf8-text_at s.text k utf8)
        (IsUtf8-take text (min (a - start_of ls k) (length text)) (IsUtf8-text_at s.text k utf8) (IsCharBoundary-prefix s.text a border)) in
        let more = length-chars-more text (a - start_of ls k) (b - start_of ls k) cut (omega arith) in
        let later : (place_of s.text b).character ≡ length (chars (take (b - start_of ls k) text)) = place_of-character s.text b
        ∙ ap (λ n. length (chars (prefix_at ls n b))) (sym one) in
        omega (
          arith,
          start-char s a,
          start-char s b,
          place_of-character s.text a,
          later,
          more,
          steps-are s.text a k refl,
          steps-are s.text b k
              (sym one),
          steps-more (start_of ls k + length text) a b upto,
        )

-- ---- the entries of spans

-- where a span starts, by its byte
start-of-span : (s : Source) (a : Annotation) → (long_entry s a).start ≡ start_location s a.span.start
start-of-span s a = locations_of-start s a.span.start a.span.end

start_byte : (s : Source) (b : ℕ) → (start_location s b).byte ≡ b
unfolding start_location location_of
start_byte s b = refl

-- a span of several lines ends on a later line
long-seen : (s : Source) (a : Annotation) → IsSpan s.text a.span.start a.span.end → is_long s.text a ≡ true → IsSeen s (long_entry s a)
long-seen s a span long = grind (arith, start-of-span, start_byte, start-line, end-line, and_parts, eq-eqb, lines_ordered)

-- the span of which an entry of several lines is
record IsOfSpan (s : Source) (marks : List Annotation) (e : LineAnnotation) : Type 0 where
  pub span : Annotation
  pub among : Among marks span
  pub long : is_long s.text span ≡ true
  pub is : long_entry s span ≡ e

of-span : (s : Source) (marks : List Annotation) (e : LineAnnotation) → Among (long_spans s marks) e → IsOfSpan s marks e
of-span s marks e among = grind (arith, map_cases, in_order_cases, filter_cases)

all_seen : (s : Source) (marks : List Annotation) → ((a : Annotation) → Among marks a → IsSpan s.text a.span.start a.span.end) → (e : LineAnnotation)
    → Among (long_spans s marks) e → IsSeen s e
all_seen s marks spans e among = grind (arith, of-span, long-seen)

-- where a marked span starts an entry of its kind stands
marked-started : (t : AnnotationKind → Bool) → IsChoice t → (s : Source) (marks : List Annotation)
    → ((a : Annotation) → Among marks a → IsSpan s.text a.span.start a.span.end) → (a : Annotation) → Among marks a → is_marking a.kind ≡ true
    → t a.kind ≡ true → StandsAt t (made_parts s marks) (start_location s a.span.start)
marked-started t choice s marks spans a among marked passes =
    elim (cases_Bool (is_single_line s.text a)) [
      | inl single ↦ record {
        part = single_part s a;
        among = among_left singles longs (single_part s a) (among_map (single_part s) (filter (is_short s.text) marks) a
            (among_filter (is_short s.text) marks a among (and_from (is_marking a.kind) (is_single_line s.text a) marked single)));
        passes = passes;
        at_is = start-of-span s a;
      }
      | inr several ↦
          let long : is_long s.text a ≡ true = and_from (is_marking a.kind) (not (is_single_line s.text a)) marked (ap not several) in
          let e : LineAnnotation = long_entry s a in
          let there : Among (long_spans s marks) e = among_in_order stands_before (map (long_entry s) (filter (is_long s.text) marks)) e
          (among_map (long_entry s) (filter (is_long s.text) marks) a (among_filter (is_long s.text) marks a among long)) in
          let one = started t choice s (long_places s marks) [] (long_spans s marks) (long_place e) e there refl (inl passes) in
          record {
            part = one.stands.part;
            among = among_right singles longs one.stands.part one.stands.among;
            passes = one.stands.passes;
            at_is = one.stands.at_is ∙ same_start s one.span e (all_seen s marks spans one.span one.among) (all_seen s marks spans e there) one.same
                ∙ start-of-span s a;
          }
    ]
  where
    singles : List LineAnnotation
    singles = map (single_part s) (filter (is_short s.text) marks)

    longs : List LineAnnotation
    longs = long_parts s (long_places s marks) [] (long_spans s marks)

-- and each entry of a kind stands at the start of such a span or after it
record IsAfterStart (t : AnnotationKind → Bool) (s : Source) (marks : List Annotation) (p : LineAnnotation) : Type 0 where
  pub span : Annotation
  pub among : Among marks span
  pub marked : is_marking span.kind ≡ true
  pub passes : t span.kind ≡ true
  pub by : IsBy (start_location s span.span.start) p.start

part-after : (t : AnnotationKind → Bool) → IsChoice t → (s : Source) (marks : List Annotation)
    → ((a : Annotation) → Among marks a → IsSpan s.text a.span.start a.span.end) → (p : LineAnnotation) → Among (made_parts s marks) p → t p.kind ≡ true
    → IsAfterStart t s marks p
part-after t choice s marks spans p among passes =
    elim (append_cases (map (single_part s) (filter (is_short s.text) marks)) (long_parts s (long_places s marks) [] (long_spans s marks)) p among) [
      | inl single ↦
          let a = map_cases (single_part s) (filter (is_short s.text) marks) p single in
          let given = filter_cases (is_short s.text) marks a.0 a.1 in
          record {
            span = a.0;
            among = given.0;
            marked = (and_parts (is_marking a.0.kind) (is_single_line s.text a.0) given.1).0;
            passes = ap (λ (q : LineAnnotation). t q.kind) a.2 ∙ passes;
            by = by-same (start_location s a.0.span.start) p.start (sym (start-of-span s a.0) ∙ ap (λ (q : LineAnnotation). q.start) a.2);
          }
      | inr several ↦ long (all_among (λ p. t p.kind ≡ true → IsReached t [] (long_spans s marks) p)
          (long_parts s (long_places s marks) [] (long_spans s marks))
          p (reached t choice s (long_places s marks) [] (long_spans s marks) (λ d none. absurd none) (all_seen s marks spans)) several passes)
    ]
  where
    from : (e : LineAnnotation) → Among (long_spans s marks) e → t e.kind ≡ true → IsBy e.start p.start → IsAfterStart t s marks p
    from e here own by =
        let of = of-span s marks e here in
        record {
          span = of.span;
          among = of.among;
          marked = (and_parts (is_marking of.span.kind) (not (is_single_line s.text of.span)) of.long).0;
          passes = ap (λ (d : LineAnnotation). t d.kind) of.is ∙ own;
          by = subst (λ (l : Loc). IsBy l p.start) (sym (sym (start-of-span s of.span) ∙ ap (λ (d : LineAnnotation). d.start) of.is)) by;
        }

    long : IsReached t [] (long_spans s marks) p → IsAfterStart t s marks p
    long is = elim is.among [ inl none ↦ absurd none | inr here ↦ from is.span here is.passes is.by ]

-- ---- the place of the first of these spans

-- the entries of a choice
abbrev chosen : (AnnotationKind → Bool) → List LineAnnotation → List LineAnnotation
chosen t parts = filter (λ p. t p.kind) parts

-- a marked span of a choice starts at a place, or after it, where no such span starts before
record IsFirstStart (t : AnnotationKind → Bool) (s : Source) (marks : List Annotation) (a : Annotation) : Type 0 where
  pub among : Among marks a
  pub marked : is_marking a.kind ≡ true
  pub passes : t a.kind ≡ true
  pub first : (b : Annotation) → Among marks b → is_marking b.kind ≡ true → t b.kind ≡ true
      → IsBy (start_location s a.span.start) (start_location s b.span.start)

-- the entries of a choice on a line, one by one
on_line : (t : AnnotationKind → Bool) (s : Source) (marks : List Annotation) (k : ℕ) (p : LineAnnotation) → Among (chosen t (parts_on s marks k)) p
    → Among (made_parts s marks) p × (p.start.line ≡ s.first + k) × (t p.kind ≡ true)
on_line t s marks k p among = grind (arith, filter_cases, eqb-true)

-- above the line of the first span there is no entry of the choice
none-above : (t : AnnotationKind → Bool) → IsChoice t → (s : Source) (marks : List Annotation)
    → ((a : Annotation) → Among marks a → IsSpan s.text a.span.start a.span.end) → (a : Annotation) → IsFirstStart t s marks a → (j : ℕ)
    → j < first_line s.text a → chosen t (parts_on s marks j) ≡ []
none-above t choice s marks spans a least j above =
    none-among (chosen t (parts_on s marks j)) (λ p among.
    let on = on_line t s marks j p among in
    let after = part-after t choice s marks spans p on.0 on.2 in
    omega (arith, above, on.1, after.by.0, (least.first after.span after.among after.marked after.passes).0, start_location-line s a.span.start))

-- on it the least column is that of the span
least-there : (t : AnnotationKind → Bool) → IsChoice t → (s : Source) (marks : List Annotation)
    → ((a : Annotation) → Among marks a → IsSpan s.text a.span.start a.span.end) → (a : Annotation) → IsFirstStart t s marks a
    → least (start_columns (chosen t (parts_on s marks (first_line s.text a)))) ≡ Some ((start_location s a.span.start).char + 1)
least-there t choice s marks spans a least-start =
    least-is (start_columns (chosen t (parts_on s marks k))) ((start_location s a.span.start).char + 1) there low
  where
    k : ℕ
    k = first_line s.text a

    column : LineAnnotation → ℕ
    column p = p.start.char + 1

    there : Among (start_columns (chosen t (parts_on s marks (first_line s.text a)))) ((start_location s a.span.start).char + 1)
    there =
        let one = marked-started t choice s marks spans a least-start.among least-start.marked least-start.passes in
        let on : eqb one.part.start.line (s.first + first_line s.text a)
        ≡ true = eq-eqb one.part.start.line (s.first + first_line s.text a)
        (ap (λ (l : Loc). l.line) one.at_is ∙ start_location-line s a.span.start) in
        let part : Among (chosen t (parts_on s marks (first_line s.text a))) one.part =
        among_filter (λ (q : LineAnnotation). t q.kind) (parts_on s marks (first_line s.text a))
        one.part (among_filter (λ (q : LineAnnotation). eqb q.start.line (s.first + first_line s.text a)) (made_parts s
        marks) one.part one.among on) one.passes in
        subst (Among (start_columns (chosen t (parts_on s marks (first_line s.text a))))) (ap (λ (l : Loc). l.char + 1) one.at_is)
        (among_map (λ (q : LineAnnotation). q.start.char + 1) (chosen t (parts_on s marks (first_line s.text a))) one.part part)

    low : (m : ℕ) → Among (start_columns (chosen t (parts_on s marks (first_line s.text a)))) m → (start_location s a.span.start).char + 1 ≤ m
    low m among =
        let p = map_cases (λ (q : LineAnnotation). q.start.char + 1) (chosen t (parts_on s marks (first_line s.text a))) m among in
        let on = on_line t s marks (first_line s.text a) p.0 p.1 in
        let after = part-after t choice s marks spans p.0 on.0 on.2 in
        let before = least-start.first after.span after.among after.marked after.passes in
        let line : (start_location s a.span.start).line ≡ s.first + first_line s.text a = start_location-line s a.span.start in
        let beside : (start_location s after.span.span.start).line ≡ p.0.start.line = omega (arith, line, on.1, after.by.0, before.0) in
        let level : (start_location s a.span.start).line ≡ (start_location s after.span.span.start).line = omega (arith, line, on.1, beside) in
        omega (arith, p.2, after.by.1 beside, before.1 level)

-- the first line with an entry of the choice is that of the span, and the least column there its column
first_place-start : (t : AnnotationKind → Bool) → IsChoice t → (fold : Bool) (s : Source) (marks : List Annotation)
    → ((a : Annotation) → Among marks a → IsSpan s.text a.span.start a.span.end) → (a : Annotation) → IsFirstStart t s marks a
    → first_place (choice_place (chosen t)) (annotated_lines fold s marks) ≡ Some (place_at s a.span.start)
first_place-start t choice fold s marks spans a first =
    first_is (choice_place (chosen t)) (kept_line s marks) (kept_lines fold s.text marks) (first_line s.text a) (place_at s a.span.start)
    (kept-ascends fold s.text marks) (first_kept fold s.text marks a (among_contains marks a first.among) (spans a first.among))
    (ap (option_map (λ column. record { line = s.first + first_line s.text a; column = Some column })) (least-there t choice s marks spans a first)
    ∙ ap (λ n. Some (record { line = n; column = Some ((start_location s a.span.start).char + 1) })) (sym (start_location-line s a.span.start)))
    (λ j above. ap (λ ps. option_map (λ column. record { line = s.first + j; column = Some column }) (least (start_columns ps)))
    (none-above t choice s marks spans a first j above))

-- where no span of the choice is marked, no line has a place
no_start : (t : AnnotationKind → Bool) → IsChoice t → (fold : Bool) (s : Source) (marks : List Annotation)
    → ((a : Annotation) → Among marks a → IsSpan s.text a.span.start a.span.end)
    → ((a : Annotation) → Among marks a → is_marking a.kind ≡ true → t a.kind ≡ true → ⊥)
    → first_place (choice_place (chosen t)) (annotated_lines fold s marks) ≡ None
no_start t choice fold s marks spans none =
    first-none (choice_place (chosen t)) (kept_line s marks) (kept_lines fold s.text marks) (λ k.
    ap (λ ps. option_map (λ column. record { line = s.first + k; column = Some column }) (least (start_columns ps)))
    (none-among (chosen t (parts_on s marks k)) (λ p among.
    let on = on_line t s marks k p among in
    let after = part-after t choice s marks spans p on.0 on.2 in
    none after.span after.among after.marked after.passes)))

-- ---- by the bytes at which the spans start

-- a test of spans is that of marked ones of a choice
record IsTestOf (test : Annotation → Bool) (t : AnnotationKind → Bool) : Type 0 where
  pub marked : (a : Annotation) → test a ≡ true → is_marking a.kind ≡ true
  pub passes : (a : Annotation) → test a ≡ true → t a.kind ≡ true
  pub all : (a : Annotation) → is_marking a.kind ≡ true → t a.kind ≡ true → test a ≡ true

-- so the place is that of the least byte at which one of them starts
start-named : (test : Annotation → Bool) (t : AnnotationKind → Bool) → IsTestOf test t → IsChoice t
    → (fold : Bool) (s : Source) (marks : List Annotation) → IsUtf8 s.text
    → ((a : Annotation) → Among marks a → IsSpan s.text a.span.start a.span.end)
    → first_place (choice_place (chosen t)) (annotated_lines fold s marks) ≡ option_map (place_at s)
    (least (map (λ (a : Annotation). a.span.start) (filter test marks)))
start-named test t is choice fold s marks utf8 spans = by (filter test marks) refl
  where
    start : Annotation → ℕ
    start a = a.span.start

    found : (a : Annotation) (others : List Annotation) → filter test marks ≡ a ∷ others
        → first_place (choice_place (chosen t)) (annotated_lines fold s marks)
        ≡ option_map (place_at s) (least (map (λ (a : Annotation). a.span.start) (filter test marks)))
    found a others are =
        let low = least-first (λ (a : Annotation). a.span.start) a others in
        let given = filter_cases test marks low.0 (subst (λ xs. Among xs low.0) (sym are) (contains_among (a ∷ others) low.0 low.1.among)) in
        let first : IsFirstStart t s marks low.0 = record {
          among = given.0;
          marked = is.marked low.0 given.1;
          passes = is.passes low.0 given.1;
          first = λ b among marked passes. place-by s low.0.span.start b.span.start utf8 (spans low.0 given.0).from
              (low.1.lowest b (among_contains (a ∷ others) b (subst (λ xs. Among xs b) are (among_filter test marks b among (is.all b marked passes)))));
        } in
        first_place-start t choice fold s marks spans low.0 first
        ∙ sym (ap (λ xs. option_map (place_at s) (least (map (λ (a : Annotation). a.span.start) xs))) are ∙ ap (option_map (place_at s)) low.1.is)

    by : (xs : List Annotation) → filter test marks ≡ xs
        → first_place (choice_place (chosen t)) (annotated_lines fold s marks)
        ≡ option_map (place_at s) (least (map (λ (a : Annotation). a.span.start) (filter test marks)))
    by [] are =
        no_start t choice fold s marks spans (λ a among marked passes. subst (λ xs. Among xs a) are (among_filter test marks a among (is.all a marked passes)))
        ∙ sym (ap (λ xs. option_map (place_at s) (least (map (λ (a : Annotation). a.span.start) xs))) are)
    by (a ∷ others) are = found a others are

primary-choice : IsChoice is_primary
primary-choice = record { primary = refl; others = λ k is. inl is }

any-choice : IsChoice (λ k. true)
any-choice = record { primary = refl; others = λ k is. inr (λ j. refl) }

primary-test : IsTestOf (λ a. is_primary a.kind) is_primary
primary-test = grind (arith)

any-test : IsTestOf (λ a. is_marking a.kind) (λ k. true)
any-test = record { marked = λ a is. is; passes = λ a is. refl; all = λ a marked is. marked }

-- the place that the head of a primary snippet names is that of the first byte at which a span starts that names it
pub naming-place : (marks : List Annotation) (start : Option ℕ) → start ≡ naming_start marks → (fold : Bool) (s : Source) → IsUtf8 s.text
    → All (λ a. IsSpan s.text a.span.start a.span.end) marks → primary_place (annotated_lines fold s marks) ≡ option_map (place_at s) start
naming-place marks start is fold s utf8 all =
    primary-is (annotated_lines fold s marks) ∙ ap (λ o. option_or o (first_place (choice_place all_parts) (annotated_lines fold s marks)))
    (start-named (λ a. is_primary a.kind) is_primary primary-test primary-choice fold s marks utf8 spans)
    ∙ ap (option_or (option_map (place_at s) (least (primary_starts marks))))
    (start-named (λ a. is_marking a.kind) (λ k. true) any-test any-choice fold s marks utf8 spans)
    ∙ either (least (primary_starts marks)) (least (marked_starts marks))
    ∙ ap (option_map (place_at s)) (sym is)
  where
    spans : (a : Annotation) → Among marks a → IsSpan s.text a.span.start a.span.end
    spans a among = all_among (λ a. IsSpan s.text a.span.start a.span.end) marks a all among

    either : (o p : Option ℕ) → option_or (option_map (place_at s) o) (option_map (place_at s) p) ≡ option_map (place_at s) (option_or o p)
    either None p = refl
    either (Some n) p = refl

-- ---- a span of no bytes may stand at this byte

least_start-border : (test : Annotation → Bool) (source : List ℕ) (marks : List Annotation)
    → ((a : Annotation) → Among marks a → IsSpan source a.span.start a.span.end)
    → IfSome (least (map (λ (a : Annotation). a.span.start) (filter test marks))) (λ b. IsSpan source b b)
least_start-border test source marks spans = by (filter test marks) refl
  where
    empty : (a : Annotation) → IsSpan source a.span.start a.span.end → IsSpan source a.span.start a.span.start
    empty a span = record { ordered = omega arith; within = omega (arith, span.ordered, span.within); from = span.from; to = span.from }

    by : (xs : List Annotation) → filter test marks ≡ xs → IfSome (least (map (λ (a : Annotation). a.span.start) (filter test marks))) (λ b. IsSpan source b b)
    by [] are = subst (λ xs. IfSome (least (map (λ (a : Annotation). a.span.start) xs)) (λ b. IsSpan source b b)) (sym are) tt
    by (a ∷ others) are =
        let low = least-first (λ (b : Annotation). b.span.start) a others in
        let given = filter_cases test marks low.0 (subst (λ xs. Among xs low.0) (sym are) (contains_among (a ∷ others) low.0 low.1.among)) in
        subst (λ xs. IfSome (least (map (λ (b : Annotation). b.span.start) xs)) (λ b. IsSpan source b b)) (sym are)
        (subst (λ o. IfSome o (λ b. IsSpan source b b)) (sym low.1.is) (empty low.0 (spans low.0 given.0)))

-- the start that names a snippet is a border of characters
pub naming-border : (marks : List Annotation) (start : Option ℕ) → start ≡ naming_start marks → (source : List ℕ)
    → All (λ a. IsSpan source a.span.start a.span.end) marks → IfSome start (λ b. IsSpan source b b)
naming-border marks start is source all =
    subst (λ o. IfSome o (λ b. IsSpan source b b)) (sym is) (either (least (primary_starts marks)) (least (marked_starts marks))
    (least_start-border (λ a. is_primary a.kind) source marks spans) (least_start-border (λ a. is_marking a.kind) source marks spans))
  where
    spans : (a : Annotation) → Among marks a → IsSpan source a.span.start a.span.end
    spans a among = all_among (λ a. IsSpan source a.span.start a.span.end) marks a all among

    either : (o p : Option ℕ) → IfSome o (λ b. IsSpan source b b) → IfSome p (λ b. IsSpan source b b) → IfSome (option_or o p) (λ b. IsSpan source b b)
    either None p first second = second
    either (Some n) p first second = first
