-- The place that the head of a primary snippet names, in words of its spans.
use Rattle.snippet_parts.proofs.Common.{common_steps, ◌≡◌, ℕ, suc, ◌+◌, ◌<◌, ◌≤◌, Bool, true, false, ◌&&◌, ◌||◌, eqb, min, Option, Some, None, List, [], ◌∷◌}
use Rattle.snippet_parts.proofs.Common.{map, get_or, inl, inr, refl, sym, ap, subst, ◌∙◌, arith, All, Contains, filter, list_any, IsSomeAnd, is_some}
use Rattle.snippet_parts.proofs.Common.{option_map, option_map_or, option_or, cases_Bool, cases_lt, cond-true, cond-false, and_from, and_left, and_parts}
use Rattle.snippet_parts.proofs.Common.{false_from_ne_true, both_ways, eq-eqb, eqb-true, All-head, All-tail, All-contains, All-contains_itself, All-filter}
use Rattle.snippet_parts.proofs.Common.{Contains-get_or, filter_passes, map-map, Annotation, AnnotationKind, Primary, Context, Visible, Source, locations_of}
use Rattle.snippet_parts.proofs.Common.{IsSpan, LineAnnotation, Location, KeptLine, annotated_lines, is_long, kept_line, parts_on, single_part, is_primary}
use Rattle.snippet_parts.proofs.Common.{Ascends, is_untouched, kept_lines, is_marking, is_marked_on, first_line, least, primary_place, start_at, IsLocation}
use Rattle.snippet_parts.proofs.EntryFacts.{filter-filter, untouched-parts}
use Rattle.snippet_parts.proofs.KeptPartLemmas.{any-member}
use Rattle.snippet_parts.proofs.LocationWords.{start_columns, primary_parts, all_parts, choice_place, first_place, filter-true, primary-is}
use Rattle.snippet_parts.proofs.PartLemmas.{filter-none}
use Rattle.snippet_parts.proofs.ShownFacts.{contains-cases, contains-filter, contains-here, contains-there, first_kept, kept-ascends}
use Rattle.snippet_parts.proofs.ShownLemmas.{filter-map}

-- ---- lists

-- the element at which a number is least, among some that aren't none
pub record IsLeast {X : Type 0} (f : X → ℕ) (xs : List X) (x : X) : Type 0 where
  pub among : Contains xs x
  pub is : least (map f xs) ≡ Some (f x)
  pub lowest : (y : X) → Contains xs y → f x ≤ f y

-- of some elements one has the least number
pub least-first : {X : Type 0} (f : X → ℕ) (x : X) (xs : List X) → (y : X) × IsLeast f (x ∷ xs) y
least-first f x [] = (x, record { among = contains-here x x [] refl; is = refl; lowest = only })
  where
    only : (y : _) → Contains (x ∷ []) y → f x ≤ f y
    only y found =
        elim (contains-cases y x [] found) [ inl same ↦ omega (arith, ap f same) | inr later ↦ absurd (omega (arith, later.1)) ]
least-first f x (z ∷ zs) =
    let rest = least-first f z zs in
    let m : ℕ = f rest.0 in
    let is : least (map f (x ∷ z ∷ zs)) ≡ Some (min (f x) m) = ap (λ (o : Option ℕ). Some (option_map_or (λ n. min (f x) n) o (f x))) rest.1.is in
    let lower : (y : _) → Contains (x ∷ z ∷ zs) y → min (f x) m ≤ f y = λ y found. elim (contains-cases y x (z ∷ zs) found) [
      | inl same ↦ omega (arith, ap f same)
      | inr later ↦ omega (arith, rest.1.lowest y later)
    ] in
    elim (cases_lt m (f x)) [
      | inl below ↦ (
        rest.0,
        record {
          among = contains-there rest.0 x (z ∷ zs) rest.1.among;
          is = is ∙ ap Some (omega arith);
          lowest = λ y found.
              omega (arith, lower y found);
        },
      )
      | inr upto ↦ (x, record { among = contains-here x x (z ∷ zs) refl; is = is ∙ ap Some (omega arith); lowest = λ y found. omega (arith, lower y found) })
    ]

-- some elements have one, where one is known to be among them, and where the least number is known
least-among : {X : Type 0} (f : X → ℕ) (xs : List X) (x : X) → Contains xs x → (y : X) × IsLeast f xs y
least-among f [] x among = absurd (omega (arith, among.1))
least-among f (z ∷ zs) x among = least-first f z zs

-- those that pass a test are among the others
passing : {X : Type 0} (p : X → Bool) (xs : List X) (x : X) → Contains (filter p xs) x → Contains xs x × (p x ≡ true)
passing p xs x found = (
  All-contains (Contains xs) (filter p xs) x (All-filter p (Contains xs) xs (All-contains_itself xs)) found,
  All-contains (λ y.
      p y ≡ true) (filter p xs) x (filter_passes p xs) found,
)

-- a test that one of some passes, and one that none passes
member-passing : {X : Type 0} (p : X → Bool) (xs : List X) → list_any p xs ≡ true → (x : X) × Contains xs x × (p x ≡ true)
member-passing p [] some = cc
member-passing p (x ∷ xs) some =
    elim (cases_Bool (p x)) [
      | inl t ↦ (x, contains-here x x xs refl, t)
      | inr f ↦ let rest = member-passing p xs (ap (λ b. b || list_any p xs) (sym f) ∙ some) in (rest.0, contains-there rest.0 x xs rest.1, rest.2)
    ]

none-member : {X : Type 0} (p : X → Bool) (xs : List X) (x : X) → Contains xs x → list_any p xs ≡ false → p x ≡ false
none-member p xs x among none = false_from_ne_true (p x) (λ t. both_ways (list_any p xs) none (any-member p xs x among t))

filter-agree : {X : Type 0} (p q : X → Bool) (xs : List X) → All (λ x. p x ≡ q x) xs → filter p xs ≡ filter q xs
filter-agree p q [] same = refl
filter-agree p q (x ∷ xs) same = grind (arith, All-head, All-tail, filter-agree p q xs (All-tail (λ x. p x ≡ q x) x xs same))

-- ---- the first line that has a place

-- numbers that ascend do so after the first too
pub ascends-tail : (k : ℕ) (ks : List ℕ) → Ascends (k ∷ ks) → Ascends ks
ascends-tail k ks rises i j d less within = rises (suc i) (suc j) d (omega arith) (omega arith)

-- the first of numbers that ascend is less than each further one
pub ascends-head : (k : ℕ) (ks : List ℕ) (j : ℕ) → Ascends (k ∷ ks) → Contains ks j → k < j
ascends-head k ks j rises found = omega (arith, rises 0 (suc found.0) j (omega arith) (omega (arith, found.1)), found.2)

-- it is the place on one of the lines, and no line above has one
record IsFirst (place_on : KeptLine → Option Location) (line_at : ℕ → KeptLine) (ks : List ℕ) (k : ℕ) (place : Location) : Type 0 where
  pub among : Contains ks k
  pub has : place_on (line_at k) ≡ Some place
  pub is : first_place place_on (map line_at ks) ≡ Some place
  pub none : (j : ℕ) → Contains ks j → j < k → place_on (line_at j) ≡ None

-- the first of them has one
first-here : (place_on : KeptLine → Option Location) (line_at : ℕ → KeptLine) (k : ℕ) (ks : List ℕ) (place : Location) → Ascends (k ∷ ks)
    → place_on (line_at k) ≡ Some place → IsFirst place_on line_at (k ∷ ks) k place
first-here place_on line_at k ks place rises has = record {
  among = contains-here k k ks refl;
  has = has;
  is = ap (λ o. option_or o (first_place place_on (map line_at ks))) has;
  none = λ j found less. elim (contains-cases j k ks found) [
    | inl same ↦ absurd (omega arith)
    | inr later ↦ absurd
        (omega (arith, ascends-head k ks j rises later))
  ];
}

-- it has none
first-there : (place_on : KeptLine → Option Location) (line_at : ℕ → KeptLine) (k : ℕ) (ks : List ℕ) (n : ℕ) (place : Location) → place_on (line_at k) ≡ None
    → IsFirst place_on line_at ks n place → IsFirst place_on line_at (k ∷ ks) n place
first-there place_on line_at k ks n place missing first = grind (arith, contains-there, first_place, contains-cases)

first_placed : (place_on : KeptLine → Option Location) (line_at : ℕ → KeptLine) (ks : List ℕ) (some : ℕ) → Ascends ks → Contains ks some
    → is_some (place_on (line_at some)) ≡ true → (k : ℕ) × (place : Location) × IsFirst place_on line_at ks k place
first_placed place_on line_at [] some rises among has = absurd (omega (arith, among.1))
first_placed place_on line_at (k ∷ ks) some rises among has =
    by (place_on (line_at k)) refl (λ later. first_placed place_on line_at ks some (ascends-tail k ks rises) later has)
  where
    later-ones : place_on (line_at k) ≡ None → Contains ks some
    later-ones missing =
        elim (contains-cases some k ks among) [
          | inl same ↦ absurd (both_ways (is_some (place_on (line_at some))) (ap (λ n. is_some (place_on (line_at n))) (sym same) ∙ ap is_some missing) has)
          | inr later ↦ later
        ]

    by : (o : Option Location) → place_on (line_at k) ≡ o → (Contains ks some → (n : ℕ) × (place : Location) × IsFirst place_on line_at ks n place)
        → (n : ℕ) × (place : Location) × IsFirst place_on line_at (k ∷ ks) n place
    by None is rest =
        let found = rest (later-ones is) in (found.0, found.1, first-there place_on line_at k ks found.0 found.1 is found.2)
    by (Some place) is rest = (k, place, first-here place_on line_at k ks place rises is)

-- where no line has a place there is none
pub first-none : (place_on : KeptLine → Option Location) (line_at : ℕ → KeptLine) (ks : List ℕ) → ((k : ℕ) → place_on (line_at k) ≡ None)
    → first_place place_on (map line_at ks) ≡ None
first-none place_on line_at [] none = refl
first-none place_on line_at (k ∷ ks) none = grind (arith, first_place, first-none place_on line_at ks none)

-- ---- the spans that start on a line

-- those that pass a test and start on line k
starting : (Annotation → Bool) → Source → List Annotation → ℕ → List Annotation
starting test s marks k = filter (λ a. test a && eqb (first_line s.text a) k) marks

-- the entries of a choice are on each line those of such spans
record Chooses (choice : List LineAnnotation → List LineAnnotation) (test : Annotation → Bool) (s : Source) (marks : List Annotation) : Type 0 where
  pub parts : (k : ℕ) → choice (parts_on s marks k) ≡ map (single_part s) (starting test s marks k)

starts-there : (test : Annotation → Bool) (s : Source) (marks : List Annotation) (k : ℕ) (a : Annotation) → Contains marks a → test a ≡ true
    → first_line s.text a ≡ k → Contains (starting test s marks k) a
unfolding starting
starts-there test s marks k a among passes on = grind (arith, contains-filter, and_from, eq-eqb)

start_at-single : (s : Source) (spans : List Annotation) → start_columns (map (single_part s) spans) ≡ map (start_at s) spans
unfolding locations_of
start_at-single s spans = map-map (λ (p : LineAnnotation). p.start.char + 1) (single_part s) spans

-- the place on a line is that of the least column at which such a span starts there
least_place-on : (choice : List LineAnnotation → List LineAnnotation) (test : Annotation → Bool) (s : Source) (marks : List Annotation) (k : ℕ)
    → Chooses choice test s marks → choice_place choice (kept_line s marks k)
    ≡ option_map (λ column. record { line = s.first + k; column = Some column }) (least (map (start_at s) (starting test s marks k)))
least_place-on choice test s marks k chooses = grind (arith, start_at-single)

-- ---- the first line with such a span

-- a place is that of a span that passes a test: it is on the first line on which one starts, at the least column
record IsPlaceBy (test : Annotation → Bool) (s : Source) (marks : List Annotation) (place : Location) : Type 0 where
  pub span : Annotation
  pub among : Contains marks span
  pub passes : test span ≡ true
  pub line : place.line ≡ s.first + first_line s.text span
  pub column : place.column ≡ Some (start_at s span)
  pub first : (other : Annotation) → Contains marks other → test other ≡ true → first_line s.text span ≤ first_line s.text other
  pub lowest : (other : Annotation) → Contains marks other → test other ≡ true → first_line s.text other ≡ first_line s.text span
      → start_at s span ≤ start_at s other

-- the place of a column on line k
at-column : Source → ℕ → ℕ → Location
at-column s k column = record { line = s.first + k; column = Some column }

-- a line on which such a span starts has a place
has-place : (choice : List LineAnnotation → List LineAnnotation) (test : Annotation → Bool) (s : Source) (marks : List Annotation) (k : ℕ) (a : Annotation)
    → Chooses choice test s marks → Contains (starting test s marks k) a → is_some (choice_place choice (kept_line s marks k)) ≡ true
unfolding at-column
has-place choice test s marks k a chooses there = grind (arith, common_steps, least_place-on)

-- and the place of a line is that of a span of least column
place_found : (choice : List LineAnnotation → List LineAnnotation) (test : Annotation → Bool) (s : Source) (marks : List Annotation) (k : ℕ) (place : Location)
    → Chooses choice test s marks → choice_place choice (kept_line s marks k) ≡ Some place
    → (a : Annotation) × IsLeast (start_at s) (starting test s marks k) a × (place ≡ at-column s k (start_at s a))
unfolding at-column
place_found choice test s marks k place chooses has =
    by (starting test s marks k) refl (sym has ∙ least_place-on choice test s marks k chooses)
  where
    by : (spans : List Annotation) → starting test s marks k ≡ spans
        → Some place ≡ option_map (at-column s k) (least (map (start_at s) (starting test s marks k)))
        → (a : Annotation) × IsLeast (start_at s) (starting test s marks k) a × (place ≡ at-column s k (start_at s a))
    by [] is known =
        let none : Some place ≡ None = known ∙ ap (λ spans. option_map (at-column s k) (least (map (start_at s) spans))) is in cc
    by (a ∷ spans) is known =
        let lowest = least-among (start_at s) (starting test s marks k) a (subst (λ spans. Contains spans a) (sym is) (contains-here a a spans refl)) in
        let same : Some place ≡ Some (at-column s k (start_at s lowest.0)) = known ∙ ap (option_map (at-column s k)) lowest.1.is in (lowest.0, lowest.1, cc)

-- the first line on which such a span starts is named, at the least column of one there
named-by : (choice : List LineAnnotation → List LineAnnotation) (test : Annotation → Bool) (fold : Bool) (s : Source) (marks : List Annotation) (a : Annotation)
    → All (λ a. IsSpan s.text a.span.start a.span.end) marks → Chooses choice test s marks → Contains marks a → test a ≡ true
    → (place : Location) × (first_place (choice_place choice) (annotated_lines fold s marks) ≡ Some place) × IsPlaceBy test s marks place
unfolding at-column starting
named-by choice test fold s marks a spans chooses among passes =
    let ks : List ℕ = kept_lines fold s.text marks in
    let kept-first : (b : Annotation) → Contains marks b → Contains ks (first_line s.text b) = λ b found.
    first_kept fold s.text marks b found (All-contains (λ a. IsSpan s.text a.span.start a.span.end) marks b spans found) in
    let has : (b : Annotation) → Contains marks b → test b ≡ true → is_some (choice_place choice (kept_line s marks (first_line s.text b)))
    ≡ true = λ b found passed. has-place choice test s marks (first_line s.text b) b chooses
    (starts-there test s marks (first_line s.text b) b found passed refl) in
    let first = first_placed (choice_place choice) (kept_line s marks) ks (first_line s.text a) (kept-ascends fold s.text marks) (kept-first a among)
    (has a among passes) in
    let k : ℕ = first.0 in
    let lowest = place_found choice test s marks k first.1 chooses first.2.has in
    let span : Annotation = lowest.0 in
    let chosen = passing (λ (b : Annotation). test b && eqb (first_line s.text b) k) marks span lowest.1.among in
    let parts = and_parts (test span) (eqb (first_line s.text span) k) chosen.1 in
    let on : first_line s.text span ≡ k = eqb-true (first_line s.text span) k parts.1 in (
      first.1,
      first.2.is,
      record {
        span = span;
        among = chosen.0;
        passes = parts.0;
        line = ap (λ (p : Location). p.line) lowest.2 ∙ ap (λ n. s.first + n) (sym on);
        column = ap (λ (p : Location). p.column) lowest.2;
        first = λ other found passed. elim (cases_lt (first_line s.text other) k) [
          | inl above ↦ absurd (both_ways (is_some (choice_place choice (kept_line s marks (first_line s.text other))))
              (ap is_some (first.2.none (first_line s.text other) (kept-first other found) above)) (has other found passed))
          | inr below ↦ omega arith
        ];
        lowest = λ other found passed beside. lowest.1.lowest other (starts-there test s marks k other found passed (beside ∙ on));
      },
    )

-- ---- the kinds of spans

-- a span of several lines isn't marked
abbrev NoneLong : Source → List Annotation → Type 0
NoneLong s marks = All (λ a. is_long s.text a ≡ false) marks

untouched : (s : Source) (marks : List Annotation) (k : ℕ) → NoneLong s marks → is_untouched s.text marks k ≡ true
untouched s [] k none = refl
untouched s (a ∷ marks) k none = grind (arith, and_from, All-head, All-tail, untouched s marks k (All-tail (λ a. is_long s.text a ≡ false) a marks none))

-- so a span that is marked is marked on the line on which it starts
marked-there : (s : Source) (k : ℕ) (a : Annotation) → is_long s.text a ≡ false → is_marked_on s.text k a ≡ (is_marking a.kind && eqb (first_line s.text a) k)
marked-there s k a none = grind (arith)

parts-marked : (s : Source) (marks : List Annotation) (k : ℕ) → All (λ a. IsSpan s.text a.span.start a.span.end) marks → NoneLong s marks
    → parts_on s marks k ≡ map (single_part s) (starting (λ a. is_marking a.kind) s marks k)
unfolding starting
parts-marked s marks k spans none =
    untouched-parts s marks k spans (untouched s marks k none)
    ∙ ap (map (single_part s)) (filter-agree (is_marked_on s.text k) (λ (a : Annotation). is_marking a.kind && eqb (first_line s.text a) k) marks
    (λ i d within. marked-there s k (get_or marks i d) (none i d within)))

-- the entries are those of the spans that are marked
chooses-all : (s : Source) (marks : List Annotation) → All (λ a. IsSpan s.text a.span.start a.span.end) marks → NoneLong s marks
    → Chooses all_parts (λ a. is_marking a.kind) s marks
chooses-all s marks spans none = record { parts = λ k. filter-true (parts_on s marks k) ∙ parts-marked s marks k spans none }

-- and the primary ones those of the primary spans
chooses-primary : (s : Source) (marks : List Annotation) → All (λ a. IsSpan s.text a.span.start a.span.end) marks → NoneLong s marks
    → Chooses primary_parts (λ a. is_primary a.kind) s marks
unfolding starting
chooses-primary s marks spans none = record { parts = on }
  where
    by : (kind : AnnotationKind) (there : Bool) → (is_marking kind && there && is_primary kind) ≡ (is_primary kind && there)
    by Primary true = refl
    by Primary false = refl
    by Context true = refl
    by Context false = refl
    by Visible there = refl

    on : (k : ℕ) → primary_parts (parts_on s marks k) ≡ map (single_part s) (starting (λ a. is_primary a.kind) s marks k)
    on k =
        ap primary_parts (parts-marked s marks k spans none)
        ∙ filter-map (λ (p : LineAnnotation). is_primary p.kind) (single_part s) (starting (λ a. is_marking a.kind) s marks k)
        ∙ ap (map (single_part s))
        (filter-filter (λ (a : Annotation). is_primary a.kind) (λ (a : Annotation). is_marking a.kind && eqb (first_line s.text a)
        k) marks ∙ filter-agree (λ (a : Annotation). is_marking a.kind && eqb (first_line s.text a) k && is_primary a.kind)
        (λ (a : Annotation). is_primary a.kind && eqb (first_line s.text a) k)
        marks (λ i d within. by (get_or marks i d).kind (eqb (first_line s.text (get_or marks i d)) k)))

-- ---- the kind that names

-- where a span is primary, the primary ones name, and else the context ones
named-primary : (s : Source) (marks : List Annotation) (place : Location) → list_any (λ a. is_primary a.kind) marks ≡ true
    → IsPlaceBy (λ a. is_primary a.kind) s marks place → IsLocation s marks place
named-primary s marks place some by = grind (arith, cond-true)

named-context : (s : Source) (marks : List Annotation) (place : Location) → list_any (λ a. is_primary a.kind) marks ≡ false
    → IsPlaceBy (λ a. is_marking a.kind) s marks place → IsLocation s marks place
named-context s marks place none by =
    grind (arith, common_steps, by.span, by.among, by.span.kind, by.passes, by.line, by.column, by.first, by.lowest, cond-false, none-member)

-- without primary spans no line has a place of a primary entry
no-primary : (s : Source) (marks : List Annotation) (fold : Bool) → All (λ a. IsSpan s.text a.span.start a.span.end) marks → NoneLong s marks
    → list_any (λ a. is_primary a.kind) marks ≡ false → first_place (choice_place primary_parts) (annotated_lines fold s marks) ≡ None
unfolding starting
no-primary s marks fold spans none other =
    first-none (choice_place primary_parts) (kept_line s marks) (kept_lines fold s.text marks)
    (λ k. least_place-on primary_parts (λ a. is_primary a.kind) s marks k (chooses-primary s marks spans none)
    ∙ ap (λ spans. option_map (λ column. record { line = s.first + k; column = Some column }) (least (map (start_at s) spans)))
    (filter-none (λ (a : Annotation). is_primary a.kind && eqb (first_line s.text a)
    k) marks (λ i d within. and_left (is_primary (get_or marks i d).kind) (eqb (first_line s.text (get_or marks i d)) k)
    (none-member (λ a. is_primary a.kind) marks (get_or marks i d) (Contains-get_or marks i d within) other))))

-- what the head of a primary snippet names, where a span is marked and none of several lines is
pub primary_place-location : (fold : Bool) (s : Source) (marks : List Annotation) (lines : List KeptLine)
    → All (λ a. IsSpan s.text a.span.start a.span.end) marks → lines ≡ annotated_lines fold s marks → list_any (λ a. is_marking a.kind) marks ≡ true
    → All (λ a. is_long s.text a ≡ false) marks → IsSomeAnd (primary_place lines) (IsLocation s marks)
primary_place-location fold s marks lines spans are some none =
    subst (λ lines. IsSomeAnd (primary_place lines) (IsLocation s marks)) (sym are) (elim (cases_Bool (list_any (λ a. is_primary a.kind) marks)) [
      | inl primary ↦
          let a = member-passing (λ a. is_primary a.kind) marks primary in
          let named = named-by primary_parts (λ a. is_primary a.kind) fold s marks a.0 spans (chooses-primary s marks spans none) a.1 a.2 in
          known (primary_place (annotated_lines fold s marks)) named.0 (primary-is (annotated_lines fold s marks) ∙ ap (λ o.
          option_or o (first_place (choice_place all_parts) (annotated_lines fold s marks))) named.1) (named-primary s marks named.0 primary named.2)
      | inr other ↦
          let a = member-passing (λ a. is_marking a.kind) marks some in
          let named = named-by all_parts (λ a. is_marking a.kind) fold s marks a.0 spans (chooses-all s marks spans none) a.1 a.2 in
          known (primary_place (annotated_lines fold s marks)) named.0 (primary-is (annotated_lines fold s marks) ∙ ap (λ o.
          option_or o (first_place (choice_place all_parts) (annotated_lines fold s marks))) (no-primary s marks fold spans none other) ∙ named.1)
          (named-context s marks named.0 other named.2)
    ])
  where
    known : (o : Option Location) (place : Location) → o ≡ Some place → IsLocation s marks place → IsSomeAnd o (IsLocation s marks)
    known o place is named = subst (λ o. IsSomeAnd o (IsLocation s marks)) (sym is) named
