-- What is known of the entries of the lines that are kept or shown, for those who draw them.
use Rattle.snippet_parts.proofs.Common.{common_steps, ◌≡◌, ℕ, ◌+◌, ◌-◌, ◌*◌, ◌^◌, ◌<◌, ◌≤◌, Bool, true, false, ◌&&◌, cond, not, add-zero, eqb, leb, ltb, Option}
use Rattle.snippet_parts.proofs.Common.{Some, None, List, [], ◌∷◌, map, length, get_or, inl, inr, refl, sym, ap, subst, ◌∙◌, arith, All, Contains, count_by}
use Rattle.snippet_parts.proofs.Common.{filter, list_all, list_any, IfSome, option_map, cow_str_bytes, IsUtf8, zero-add, cases_Bool, cond-true, cond-false}
use Rattle.snippet_parts.proofs.Common.{or_cases, and_parts, and_from, and_right, le-leb, eqb-true, le-ltb, ne_eqb, not-true, both_ways, All-nil, All-cons}
use Rattle.snippet_parts.proofs.Common.{All-head, All-tail, All-same, All-weaker, All-filter, All-contains, filter-append, filter_agree, list_all_at}
use Rattle.snippet_parts.proofs.Common.{sum_by-cons, sum_by-append, Annotation, AnnotationKind, AnnotationFits, LineAnnotation, LongExtent, AnnotatedLineInfo}
use Rattle.snippet_parts.proofs.Common.{KeptLine, kept_line, is_long, long_entry, long_place, long_spans, long_parts, depth_of, deepest, single_part}
use Rattle.snippet_parts.proofs.Common.{made_parts, parts_on, bar_lines, same_place, depth_among, greatest_depth, AllEntries, HasCharacterRoom, HasColumnRoom}
use Rattle.snippet_parts.proofs.Common.{HasShortLabel, HasDepthWithin, seen_kept, is_untouched, Source, is_marking, is_single_line, touches}
use Rattle.snippet_parts.proofs.Common.{is_marked_on, is_wide, first_line, last_line, is_single_part, is_wide_entry, IsSpan, length-text_at-source}
use Rattle.snippet_model.specs.Fits.{TextFits}
use Rattle.snippet_parts.proofs.DepthLemmas.{depths-within}
use Rattle.snippet_parts.proofs.RawDepthLemmas.{same-true}
use Rattle.snippet_parts.proofs.KeptPartLemmas.{lines_ordered}
use Rattle.snippet_parts.proofs.MarkLemmas.{start-line, end-line, start_column-from, end_column-from, entry_of-line, eqb-shift}
use Rattle.snippet_parts.proofs.PartLemmas.{HoldsOfSpan, IsBarLine, bar_lines-stand, filter-none, longs-all, made-all}
use Rattle.snippet_parts.proofs.PlaceBounds.{start-column-bound, end-column-bound, start-character-bound, end-character-bound}
use Rattle.snippet_parts.proofs.ShownLemmas.{filter-map, place-among}
use Rattle.snippet_parts.proofs.PartWords.{entry_of, is_short, long_places}

-- ---- lines by what is seen of them

-- what holds of each line that is seen as one of these lines of the source
pub each-line : (Q : AnnotatedLineInfo → Type 0) (s : Source) (marks : List Annotation) (ks : List ℕ) (infos : List AnnotatedLineInfo)
    → map seen_kept infos ≡ map (kept_line s marks) ks → All (λ k. (info : AnnotatedLineInfo) → seen_kept info ≡ kept_line s marks k → Q info) ks → All Q infos
each-line Q s marks ks [] same all = All-nil Q
each-line Q s marks [] (info ∷ infos) same all = cc
each-line Q s marks (k ∷ ks) (info ∷ infos) same all =
    let P = λ (k : ℕ). (info : AnnotatedLineInfo) → seen_kept info ≡ kept_line s marks k → Q info in
    All-cons Q info infos (All-head P k ks all info
    (head_same (seen_kept info) (kept_line s marks k) (map seen_kept infos) (map (kept_line s marks) ks) same))
    (each-line Q s marks ks infos (tail_same (seen_kept info) (kept_line s marks k) (map seen_kept infos) (map (kept_line s marks) ks) same)
    (All-tail P k ks all))
  where
    head_same : (x y : KeptLine) (xs ys : List KeptLine) → x ∷ xs ≡ y ∷ ys → x ≡ y
    head_same x y xs ys same = cc

    tail_same : (x y : KeptLine) (xs ys : List KeptLine) → x ∷ xs ≡ y ∷ ys → xs ≡ ys
    tail_same x y xs ys same = cc

-- the entries of a line that is seen as line k
pub entries-parts_on : (s : Source) (marks : List Annotation) (k : ℕ) (info : AnnotatedLineInfo) → seen_kept info ≡ kept_line s marks k
    → info.annotations.items ≡ parts_on s marks k
entries-parts_on s marks k info seen = ap (λ (l : KeptLine). l.parts) seen

-- what holds of each entry that is made holds of those of these lines
pub each-entry : (P : LineAnnotation → Type 0) (s : Source) (marks : List Annotation) (ks : List ℕ) (infos : List AnnotatedLineInfo)
    → map seen_kept infos ≡ map (kept_line s marks) ks → All P (made_parts s marks) → AllEntries P infos
each-entry P s marks ks infos same all =
    each-line (λ info. All P info.annotations.items) s marks ks infos same (λ i d within info seen. let k : ℕ = get_or ks i d in
    let on : All P (parts_on s marks k) = All-filter (λ (p : LineAnnotation). eqb p.start.line (s.first + k)) P (made_parts s marks) all in
    All-same P info.annotations.items (parts_on s marks k) (entries-parts_on s marks k info seen) on)

-- ---- places

-- the entries of kept lines have room for their places, where the source fits
pub places-fit : (s : Source) (marks : List Annotation) (ks : List ℕ) (infos : List AnnotatedLineInfo) → map seen_kept infos ≡ map (kept_line s marks) ks
    → length s.text < 2 ^ 56 → AllEntries HasColumnRoom infos
places-fit s marks ks infos same fits =
    each-entry Room s marks ks infos same (made-all Room s marks (λ a among is. short a) (λ a among is kind. long a kind))
  where
    Room : LineAnnotation → Type 0
    Room p = (p.start.display ≤ p.end.display) × (p.end.display < 2 ^ 60)

    short : (a : Annotation) → Room (single_part s a)
    short a = (omega arith, omega (arith, start-column-bound s a.span.start a.span.end, end-column-bound s a.span.start a.span.end))

    long : (a : Annotation) (kind : AnnotationKind) → HoldsOfSpan Room s (depth_of s marks a) (record (long_entry s a) { kind = kind })
    long a kind = record {
      start = (omega arith, omega (arith, start-column-bound s a.span.start a.span.end));
      bars = λ k d within. (omega arith, omega arith);
      end = (omega arith, omega (arith, end-column-bound s a.span.start a.span.end));
      again = (omega arith, omega (arith, end-column-bound s a.span.start a.span.end));
    }

-- and the characters at which entries start leave room for one more
pub characters-fit : (s : Source) (marks : List Annotation) (ks : List ℕ) (infos : List AnnotatedLineInfo) → map seen_kept infos ≡ map (kept_line s marks) ks
    → length s.text < 2 ^ 56 → AllEntries HasCharacterRoom infos
characters-fit s marks ks infos same fits =
    each-entry Room s marks ks infos same (made-all Room s marks (λ a among is.
    omega (arith, start-character-bound s a.span.start a.span.end)) (λ a among is kind. long a kind))
  where
    Room : LineAnnotation → Type 0
    Room p = p.start.char < 2 ^ 60

    long : (a : Annotation) (kind : AnnotationKind) → HoldsOfSpan Room s (depth_of s marks a) (record (long_entry s a) { kind = kind })
    long a kind = record {
      start = omega (arith, start-character-bound s a.span.start a.span.end);
      bars = λ k d within. omega arith;
      end = omega (arith, end-character-bound s a.span.start a.span.end);
      again = omega (arith, end-character-bound s a.span.start a.span.end);
    }

-- ---- texts and numbers

-- the texts of kept lines fit, where the source does
pub texts-fit : (s : Source) (marks : List Annotation) (ks : List ℕ) (infos : List AnnotatedLineInfo) → map seen_kept infos ≡ map (kept_line s marks) ks
    → length s.text < 2 ^ 56 → All (λ info. length info.line.now < 2 ^ 56) infos
texts-fit s marks ks infos same fits =
    each-line (λ info. length info.line.now < 2 ^ 56) s marks ks infos same (λ i d within info seen.
    omega (arith, ap (λ (l : KeptLine). length l.text) seen, length-text_at-source s.text (get_or ks i d)))

-- ---- labels

-- the labels of the entries of kept lines are short, where the annotations fit
pub labels-fit : (s : Source) (marks : List Annotation) (ks : List ℕ) (infos : List AnnotatedLineInfo) → map seen_kept infos ≡ map (kept_line s marks) ks
    → All AnnotationFits marks → AllEntries HasShortLabel infos
labels-fit s marks ks infos same fit =
    each-entry Short s marks ks infos same (made-all Short s marks (λ a among is. mapped a among) (λ a among is kind. long a among kind))
  where
    Short : LineAnnotation → Type 0
    Short p = IfSome p.label (λ t. length t < 2 ^ 56)

    of-mark : {X : Type 0} (f : X → List ℕ) (label : Option X) → IfSome label (λ t. TextFits (f t)) → IfSome (option_map f label) (λ t. length t < 2 ^ 56)
    of-mark f None fits = tt
    of-mark f (Some t) fits = fits

    mapped : (a : Annotation) → Contains marks a → IfSome (option_map cow_str_bytes a.label) (λ t. length t < 2 ^ 56)
    mapped a among = of-mark cow_str_bytes a.label (All-contains AnnotationFits marks a fit among)

    long : (a : Annotation) → Contains marks a → (kind : AnnotationKind) → HoldsOfSpan Short s (depth_of s marks a) (record (long_entry s a) { kind = kind })
    long a among kind = record { start = tt; bars = λ k d within. tt; end = mapped a among; again = mapped a among }

-- ---- depths

place-holds : (f : LongExtent → ℕ) (P : ℕ → Type 0) (p : LongExtent) (ps : List LongExtent) → list_any (same_place p) ps ≡ true → All P (map f ps) → P (f p)
place-holds f P p [] among all = cc
place-holds f P p (q ∷ ps) among all =
    elim (or_cases (same_place p q) (list_any (same_place p) ps) among) [
      | inl here ↦ subst (λ r. P (f r)) (sym (same-true p q here)) (All-head P (f q) (map f ps) all)
      | inr later ↦ place-holds f P p ps later (All-tail P (f q) (map f ps) all)
    ]

-- the depth of a span of several lines
pub depth-within : (s : Source) (marks : List Annotation) (a : Annotation) → Contains marks a → is_long s.text a ≡ true
    → (0 < depth_of s marks a) × (depth_of s marks a ≤ deepest s marks)
depth-within s marks a among long =
    place-holds (depth_among (long_places s marks)) (λ n. (1 ≤ n) × (n ≤ greatest_depth (long_places s marks))) (long_place (long_entry s a))
    (long_places s marks) (place-among s marks a among long) (depths-within (long_places s marks))

-- no entry of a kept line stands deeper than the deepest span
pub depths-fit : (s : Source) (marks : List Annotation) (ks : List ℕ) (infos : List AnnotatedLineInfo) → map seen_kept infos ≡ map (kept_line s marks) ks
    → AllEntries (λ e. HasDepthWithin (deepest s marks) e.annotation_type) infos
depths-fit s marks ks infos same =
    each-entry (λ p. HasDepthWithin (deepest s marks) p.annotation_type) s marks ks infos same
    (made-all (λ p. HasDepthWithin (deepest s marks) p.annotation_type) s marks (λ a among is. tt) (λ a among is kind. long a among is kind))
  where
    long : (a : Annotation) → Contains marks a → is_long s.text a ≡ true → (kind : AnnotationKind)
        → HoldsOfSpan (λ p. HasDepthWithin (deepest s marks) p.annotation_type) s (depth_of s marks a) (record (long_entry s a) { kind = kind })
    long a among is kind =
        let within : (0 < depth_of s marks a) × (depth_of s marks a ≤ deepest s marks) = depth-within s marks a among is in
        record { start = within; bars = λ k d below. within; end = within; again = tt }

-- ---- lines that no span of several lines touches

-- what passes one test and then another passes both
pub filter-filter : {X : Type 0} (q p : X → Bool) (xs : List X) → filter q (filter p xs) ≡ filter (λ x. p x && q x) xs
filter-filter q p [] = refl
filter-filter q p (x ∷ xs) = grind (arith, cond-true, cond-false, filter-filter q p xs)

all-member : {X : Type 0} (p : X → Bool) (xs : List X) (x : X) → list_all p xs ≡ true → Contains xs x → p x ≡ true
all-member p xs x all among = grind (arith, both_ways, list_all_at)

-- the entries on line k of spans on one line are those of the spans that are marked there
pub singles-on : (s : Source) (marks : List Annotation) (k : ℕ)
    → filter (λ (p : LineAnnotation). eqb p.start.line (s.first + k)) (map (single_part s) (filter (is_short s.text) marks))
    ≡ map (single_part s) (filter (is_marked_on s.text k) marks)
singles-on s marks k = grind (arith, filter-map, filter-filter, entry_of, filter_agree, eqb-shift, entry_of-line)

-- no part of a span of several lines stands on a line that no span touches
pub longs-off : (s : Source) (marks : List Annotation) (k : ℕ) → All (λ a. IsSpan s.text a.span.start a.span.end) marks → is_untouched s.text marks k ≡ true
    → filter (λ (p : LineAnnotation). eqb p.start.line (s.first + k)) (long_parts s (long_places s marks) [] (long_spans s marks)) ≡ []
longs-off s marks k spans untouched =
    filter-none (λ (p : LineAnnotation). eqb p.start.line (s.first + k)) (long_parts s (long_places s marks) [] (long_spans s marks))
    (longs-all Off s marks long)
  where
    Off : LineAnnotation → Type 0
    Off p = eqb p.start.line (s.first + k) ≡ false

    away : (a : Annotation) → Contains marks a → is_long s.text a ≡ true → first_line s.text a ≤ k → k ≤ last_line s.text a → ⊥
    away a among long from to =
        let parts = and_parts (is_marking a.kind) (not (is_single_line s.text a)) long in
        let there : touches s.text a k ≡ true = and_from (leb (first_line s.text a) k) (leb k (last_line s.text a)) (le-leb (first_line s.text a) k from)
        (le-leb k (last_line s.text a) to) in
        let touched : (is_marking a.kind && touches s.text a k && not (is_single_line s.text a))
        ≡ true = and_from (is_marking a.kind && touches s.text a k) (not (is_single_line s.text a))
        (and_from (is_marking a.kind) (touches s.text a k) parts.0 there) parts.1 in
        both_ways (is_marking a.kind && touches s.text a k && not (is_single_line s.text a))
        (not-true (is_marking a.kind && touches s.text a k && not
        (is_single_line s.text a))
        (all-member (λ (a : Annotation). not (is_marking a.kind && touches s.text a k && not (is_single_line s.text a))) marks a untouched among))
        touched

    off : (a : Annotation) → Contains marks a → is_long s.text a ≡ true → (n m : ℕ) → n ≡ s.first + m → first_line s.text a ≤ m → m ≤ last_line s.text a
        → eqb n (s.first + k) ≡ false
    off a among long n m is from to = ne_eqb n (s.first + k) (λ here. away a among long (omega arith) (omega arith))

    long : (a : Annotation) → Contains marks a → is_long s.text a ≡ true → (kind : AnnotationKind)
        → HoldsOfSpan Off s (depth_of s marks a) (record (long_entry s a) { kind = kind })
    long a among is kind =
        let first : (long_entry s a).start.line ≡ s.first + first_line s.text a = start-line s a.span.start a.span.end in
        let last : (long_entry s a).end.line ≡ s.first + last_line s.text a = end-line s a.span.start a.span.end in
        let up : first_line s.text a ≤ last_line s.text a = lines_ordered s.text a
        (All-contains (λ a. IsSpan s.text a.span.start a.span.end) marks a spans among) in
        let from : ℕ = (long_entry s a).start.line - s.first in
        let to : ℕ = (long_entry s a).end.line - s.first in
        let end : eqb (long_entry s a).end.line (s.first + k) ≡ false = off a among is (long_entry s a).end.line (last_line s.text a) last up (omega arith) in
        record {
          start = off a among is (long_entry s a).start.line (first_line s.text a) first (omega arith) up;
          bars = All-weaker (IsBarLine s.text from to) (λ m. eqb (s.first + m) (s.first + k) ≡ false) (λ m bar.
              off a among is (s.first + m) m refl (omega (arith, bar.from)) (omega (arith, bar.to)))
              (bar_lines s.text from to) (bar_lines-stand s.text from to);
          end = end;
          again = end;
        }

-- on a line that no span of several lines touches the entries are those of the spans that are marked there
pub untouched-parts : (s : Source) (marks : List Annotation) (k : ℕ) → All (λ a. IsSpan s.text a.span.start a.span.end) marks
    → is_untouched s.text marks k ≡ true → parts_on s marks k ≡ map (single_part s) (filter (is_marked_on s.text k) marks)
untouched-parts s marks k spans untouched =
    grind (arith, common_steps, filter-append, s.first, s.text, longs-off s marks k spans untouched, spans, untouched, singles-on s marks k)

-- ---- wide spans

-- as many of the made elements pass as elements whose made ones pass
pub count-map : {X Y : Type 0} (p : Y → Bool) (f : X → Y) (xs : List X) → count_by p (map f xs) ≡ count_by (λ x. p (f x)) xs
count-map p f [] = refl
count-map p f (x ∷ xs) =
    sum_by-cons (λ y. cond (p y) 1 0) (f x) (map f xs) ∙ ap (λ n. cond (p (f x)) 1 0 + n) (count-map p f xs) ∙ sym (sum_by-cons (λ x. cond (p (f x)) 1 0) x xs)

count-filter : {X : Type 0} (q p : X → Bool) (xs : List X) → count_by q (filter p xs) ≡ count_by (λ x. p x && q x) xs
count-filter q p [] = refl
count-filter q p (x ∷ xs) =
    elim (cases_Bool (p x)) [
      | inl t ↦ ap (count_by q) (cond-true (p x) (x ∷ filter p xs) (filter p xs) t) ∙ sum_by-cons (λ y. cond (q y) 1 0) x (filter p xs)
          ∙ ap (λ n. cond (q x) 1 0 + n) (count-filter q p xs)
          ∙ sym (sum_by-cons (λ y. cond (p y && q y) 1 0) x xs ∙ ap (λ b. cond (b && q x) 1 0 + count_by (λ y. p y && q y) xs) t)
      | inr f ↦ ap (count_by q) (cond-false (p x) (x ∷ filter p xs) (filter p xs) f) ∙ count-filter q p xs
          ∙ sym (sum_by-cons (λ y. cond (p y && q y) 1 0) x xs ∙ ap (λ b. cond (b && q x) 1 0 + count_by (λ y. p y && q y) xs) f
          ∙ zero-add (count_by (λ y. p y && q y) xs))
    ]

count-agree : {X : Type 0} (p q : X → Bool) → ((x : X) → p x ≡ q x) → (xs : List X) → count_by p xs ≡ count_by q xs
count-agree p q same [] = refl
count-agree p q same (x ∷ xs) = grind (arith, sum_by-cons, count-agree p q same xs)

count-none : {X : Type 0} (p : X → Bool) (xs : List X) → All (λ x. p x ≡ false) xs → count_by p xs ≡ 0
count-none p [] all = refl
count-none p (x ∷ xs) all = grind (arith, sum_by-cons, All-head, zero-add, All-tail, count-none p xs (All-tail (λ x. p x ≡ false) x xs all))

-- whether an entry that is made stands for a whole span that is wide
is_wide_part : ℕ → ℕ → LineAnnotation → Bool
is_wide_part room placeholder_width p =
    let width = p.end.display - p.start.display in
    is_single_part p.annotation_type && ltb (2 * room) width && ltb (10 + placeholder_width) width

wide-single : (room placeholder_width : ℕ) (s : Source) (a : Annotation) → is_single_line s.text a ≡ true
    → is_wide_part room placeholder_width (single_part s a) ≡ is_wide room placeholder_width s.text a
unfolding is_wide_part
wide-single room placeholder_width s a single = grind (arith, start_column-from, start-line, end-line, eqb-true, end_column-from)

wide-marked : (room placeholder_width : ℕ) (s : Source) (k : ℕ) (a : Annotation)
    → (is_marked_on s.text k a && is_wide_part room placeholder_width (single_part s a)) ≡ (is_marked_on s.text k a && is_wide room placeholder_width s.text a)
wide-marked room placeholder_width s k a = grind (arith, and_parts, wide-single)

-- the entries of spans of several lines are one column wide at most
wide-long : (room placeholder_width : ℕ) (s : Source) (marks : List Annotation)
    → All (λ p. is_wide_part room placeholder_width p ≡ false) (long_parts s (long_places s marks) [] (long_spans s marks))
unfolding is_wide_part
wide-long room placeholder_width s marks =
    longs-all (λ p. is_wide_part room placeholder_width p ≡ false) s marks (λ a among is kind.
    record { start = refl; bars = λ k d within. refl; end = refl; again = narrow (long_entry s a).end.display })
  where
    narrow : (n : ℕ) → (ltb (2 * room) (n - (n - 1)) && ltb (10 + placeholder_width) (n - (n - 1))) ≡ false
    narrow n = and_right (ltb (2 * room) (n - (n - 1))) (ltb (10 + placeholder_width) (n - (n - 1)))
        (le-ltb (10 + placeholder_width) (n - (n - 1)) (omega arith))

-- the wide entries of a line are as many as the wide spans that are marked there
pub wide-count : (room placeholder_width : ℕ) (s : Source) (marks : List Annotation) (k : ℕ) (info : AnnotatedLineInfo)
    → seen_kept info ≡ kept_line s marks k → count_by (is_wide_entry room placeholder_width)
    info.annotations.items ≡ count_by (λ a. is_marked_on s.text k a && is_wide room placeholder_width s.text a) marks
unfolding is_wide_part
wide-count room placeholder_width s marks k info seen =
    let wide = λ (p : LineAnnotation). is_wide_part room placeholder_width p in
    let on = λ (p : LineAnnotation). eqb p.start.line (s.first + k) in
    let singles : List LineAnnotation = map (single_part s) (filter (is_short s.text) marks) in
    let longs : List LineAnnotation = long_parts s (long_places s marks) [] (long_spans s marks) in
    ap (count_by wide) (entries-parts_on s marks k info seen ∙ filter-append on singles longs)
    ∙ sum_by-append (λ p. cond (wide p) 1 0) (filter on singles) (filter on longs)
    ∙ ap (λ n. count_by wide (filter on singles) + n) (count-none wide (filter on longs)
    (All-filter on (λ p. wide p ≡ false) longs (wide-long room placeholder_width s marks)))
    ∙ add-zero (count_by wide (filter on singles))
    ∙ ap (count_by wide) (singles-on s marks k) ∙ count-map wide (single_part s) (filter (is_marked_on s.text k) marks)
    ∙ count-filter (λ a. wide (single_part s a)) (is_marked_on s.text k) marks
    ∙ count-agree (λ a. is_marked_on s.text k a && wide (single_part s a)) (λ a.
    is_marked_on s.text k a && is_wide room placeholder_width s.text a) (wide-marked room placeholder_width s k) marks
