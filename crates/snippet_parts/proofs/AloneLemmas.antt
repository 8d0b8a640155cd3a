-- Spans that are all marked on one line alone: it is the only line that is kept, and all entries stand on it.
use Rattle.snippet_parts.proofs.Common.{common_steps, ◌≡◌, ℕ, ◌+◌, ◌-◌, ◌<◌, Bool, true, false, ◌&&◌, ◌||◌, cond, not, eqb, leb, List, [], ◌∷◌, ◌++◌, length}
use Rattle.snippet_parts.proofs.Common.{map, get_or, refl, sym, ap, ◌∙◌, arith, All, filter, list_any, range_with_len, and-false, and_parts, eq-eqb, eqb-true}
use Rattle.snippet_parts.proofs.Common.{false≢true, le-leb, lt-leb, ne_eqb, append-nil, All-nil, All-cons, All-head, All-tail, All-filter, All-map}
use Rattle.snippet_parts.proofs.Common.{filter-append, filter_agree, list_any_none, Source, source_lines, text_at, line_of-within, Annotation, LineAnnotation}
use Rattle.snippet_parts.proofs.Common.{LocatedSpan, KeptLine, annotated_lines, deepest, kept_line, long_parts, long_place, long_spans, made_parts, parts_on}
use Rattle.snippet_parts.proofs.Common.{single_part, greatest_depth, keeps, kept_lines, IsLocated, annotations_of, is_alone_on, is_long_span, is_short_span}
use Rattle.snippet_parts.proofs.Common.{short_part, is_marking, touches, first_line, last_line}
use Rattle.snippet_parts.proofs.KeptLemmas.{lines-split, range-none, range-split}
use Rattle.snippet_parts.proofs.LocatedLemmas.{long-are, short-parts}
use Rattle.snippet_parts.proofs.MarkLemmas.{start-line}
use Rattle.snippet_parts.proofs.PartLemmas.{filter-none, list_any-map}
use Rattle.snippet_parts.proofs.PartWords.{is_short}
use Rattle.snippet_parts.proofs.ShownLemmas.{same-kept}

-- ---- tests of lists

-- where none fails a test, each passes it
passed : (b c : Bool) → (not b || c) ≡ false → b ≡ true
passed x y z = grind (arith, false≢true)

others : (b c : Bool) → (not b || c) ≡ false → c ≡ false
others x y z = grind (arith, false≢true)

none-fails : {X : Type 0} (p : X → Bool) (xs : List X) → list_any (λ x. not (p x)) xs ≡ false → All (λ x. p x ≡ true) xs
none-fails p [] none = All-nil (λ x. p x ≡ true)
none-fails p (x ∷ xs) none = grind (arith, common_steps, All-cons, passed)

-- those that pass a test are all of some that do
filter-passed : {X : Type 0} (p : X → Bool) (xs : List X) → All (λ x. p x ≡ true) xs → filter p xs ≡ xs
filter-passed p [] all = refl
filter-passed p (x ∷ xs) all = grind (arith, All-head, All-tail, filter-passed p xs (All-tail (λ y. p y ≡ true) x xs all))

-- whether one of some passes a test is what each answers
any-same : {X : Type 0} (p : X → Bool) (b : Bool) (xs : List X) → 0 < length xs → All (λ x. p x ≡ b) xs → list_any p xs ≡ b
any-same p true [] some all = grind (arith)
any-same p true (x ∷ xs) some all = ap (λ c. c || list_any p xs) (All-head (λ y. p y ≡ true) x xs all)
any-same p false xs some all = list_any_none p xs all

-- ---- one span

-- a span that stands on line k alone is marked, and its lines are that one
alone-marked : (l : LocatedSpan) (k : ℕ) → is_alone_on k l ≡ true → is_marking l.annotation.now.kind ≡ true
alone-marked l k alone = grind (arith, and_parts)

alone-same : (l : LocatedSpan) (k : ℕ) → is_alone_on k l ≡ true → eqb l.last l.first ≡ true
alone-same l k alone = (and_parts (is_marking l.annotation.now.kind) (eqb l.last l.first) (and_parts (is_short_span l) (eqb l.first k) alone).0).1

alone-first : (l : LocatedSpan) (k : ℕ) → is_alone_on k l ≡ true → l.first ≡ k
alone-first l k alone = eqb-true l.first k (and_parts (is_short_span l) (eqb l.first k) alone).1

first-is : (s : Source) (l : LocatedSpan) (k : ℕ) → IsLocated s l → is_alone_on k l ≡ true → first_line s.text l.annotation.now ≡ k
first-is s l k at alone = sym at.first ∙ alone-first l k alone

last-is : (s : Source) (l : LocatedSpan) (k : ℕ) → IsLocated s l → is_alone_on k l ≡ true → last_line s.text l.annotation.now ≡ k
last-is s l k at alone = sym at.last ∙ eqb-true l.last l.first (alone-same l k alone) ∙ alone-first l k alone

-- it keeps that line and no other
here : (a b e m n : Bool) → a ≡ true → b ≡ true → e ≡ true → (a && b && (e || e || m || n)) ≡ e
here x y z u v w a b = grind (arith)

above : (a b e m n : Bool) → a ≡ false → e ≡ false → (a && b && (e || e || m || n)) ≡ e
above x y z u v w a = grind (arith)

below : (a b e m n : Bool) → b ≡ false → e ≡ false → (a && b && (e || e || m || n)) ≡ e
below x y z u v w a = grind (arith)

keeps-at : (j k : ℕ) (m n : Bool) → (leb k j && leb j k && (eqb j k || eqb j k || m || n)) ≡ eqb j k
keeps-at j k m n = grind (arith, le-leb, eq-eqb, above, lt-leb, ne_eqb)

keeps-one : (source : List ℕ) (a : Annotation) (k j : ℕ) → first_line source a ≡ k → last_line source a ≡ k → keeps source j a ≡ eqb j k
keeps-one source a k j first last = grind (arith, keeps-at)

-- its entry stands on it
starts-on : (s : Source) (l : LocatedSpan) (k : ℕ) → IsLocated s l → is_alone_on k l ≡ true → eqb (short_part l).start.line (s.first + k) ≡ true
starts-on s l k at alone = grind (arith, start-line, eq-eqb, first-is)

-- it isn't one of several lines
not-long : (l : LocatedSpan) (k : ℕ) → is_alone_on k l ≡ true → is_long_span l ≡ false
not-long l k alone = ap (λ b. is_marking l.annotation.now.kind && not b) (alone-same l k alone) ∙ and-false (is_marking l.annotation.now.kind)

-- ---- all spans

abbrev AllAlone : ℕ → List LocatedSpan → Type 0
AllAlone k ls = All (λ l. is_alone_on k l ≡ true) ls

is-line : (s : Source) (ls : List LocatedSpan) (k : ℕ) → All (IsLocated s) ls → 0 < length ls → AllAlone k ls → k < length (source_lines s.text)
is-line s [] k at some alone = grind (arith)
is-line s (l ∷ ls) k at some alone = grind (arith, first-is, All-head, line_of-within)

-- one number of a range is itself
only-one : (n k : ℕ) → k < n → filter (λ j. eqb j k) (range_with_len 0 n) ≡ k ∷ []
only-one n k in_range =
    let p = λ (j : ℕ). eqb j k in
    let rest : ℕ = n - k - 1 in
    let whole : n ≡ k + (1 + rest) = omega (arith, in_range) in
    let before : filter p (range_with_len 0 k) ≡ [] = range-none p 0 k (λ j from to. ne_eqb j k (λ same. omega (arith, same, to))) in
    let after : filter p (range_with_len (k + 1) rest) ≡ [] = range-none p (k + 1) rest (λ j from to. ne_eqb j k (λ same. omega (arith, same, from))) in
    let one : filter p (range_with_len k 1) ≡ k ∷ [] = ap (λ b. cond b (k ∷ []) []) (eq-eqb k k refl) in
    ap (λ m. filter p (range_with_len 0 m)) whole ∙ ap (filter p) (lines-split k (1 + rest))
    ∙ filter-append p (range_with_len 0 k) (range_with_len k (1 + rest)) ∙ ap (λ ks. ks ++ filter p (range_with_len k (1 + rest))) before
    ∙ ap (filter p) (range-split k 1 rest) ∙ filter-append p (range_with_len k 1) (range_with_len (k + 1) rest)
    ∙ ap (λ ks. filter p (range_with_len k 1) ++ ks) after ∙ append-nil (filter p (range_with_len k 1)) ∙ one

-- no other line is kept
kept-one : (s : Source) (ls : List LocatedSpan) (k : ℕ) → All (IsLocated s) ls → 0 < length ls → AllAlone k ls
    → kept_lines true s.text (annotations_of ls) ≡ k ∷ []
kept-one s ls k at some alone =
    let marks : List Annotation = annotations_of ls in
    let n : ℕ = length (source_lines s.text) in
    let kept : (j : ℕ) → list_any (keeps s.text j) marks ≡ eqb j k = λ j. list_any-map (keeps s.text j) (λ (l : LocatedSpan). l.annotation.now) ls
    ∙ any-same (λ (l : LocatedSpan). keeps s.text j l.annotation.now) (eqb j k) ls some (λ i d inside.
    let l : LocatedSpan = get_or ls i d in
    keeps-one s.text l.annotation.now k j (first-is s l k (at i d inside) (alone i d inside)) (last-is s l k (at i d inside) (alone i d inside))) in
    filter_agree (λ j. not true || list_any (keeps s.text j) marks) (λ j. eqb j k) kept (range_with_len 0 n)
    ∙ only-one n k (is-line s ls k at some alone)

-- no span keeps it unmarked
none-unmarked : (s : Source) (ls : List LocatedSpan) (k : ℕ) → AllAlone k ls
    → list_any (λ a. not (is_marking a.kind) && touches s.text a k) (annotations_of ls) ≡ false
none-unmarked s ls k alone = grind (arith, list_any-map, list_any_none, alone-marked)

-- there are no spans of several lines
no-longs : (s : Source) (ls : List LocatedSpan) (k : ℕ) → All (IsLocated s) ls → AllAlone k ls → long_spans s (annotations_of ls) ≡ []
no-longs s ls k at alone = grind (arith, long-are, filter-none, not-long)

-- all entries stand on it
parts-one : (s : Source) (ls : List LocatedSpan) (k : ℕ) → All (IsLocated s) ls → AllAlone k ls
    → map short_part (filter is_short_span ls) ≡ parts_on s (annotations_of ls) k
parts-one s ls k at alone =
    let marks : List Annotation = annotations_of ls in
    let p : LineAnnotation → Bool = λ e. eqb e.start.line (s.first + k) in
    let shorts : List LineAnnotation = map short_part (filter is_short_span ls) in
    let singles : List LineAnnotation = map (single_part s) (filter (is_short s.text) marks) in
    let made : made_parts s marks ≡ shorts = ap (λ (es : List LineAnnotation). singles ++ long_parts s (map long_place es) [] es)
    (no-longs s ls k at alone) ∙ append-nil singles ∙ sym (short-parts s ls at) in
    let on : All (λ e. p e ≡ true) shorts = All-map (λ e. p e ≡ true) short_part (filter is_short_span ls)
    (All-filter is_short_span (λ l. p (short_part l) ≡ true) ls (λ i d inside. starts-on s (get_or ls i d) k (at i d inside) (alone i d inside))) in
    sym (ap (filter p) made ∙ filter-passed p shorts on)

-- ---- what is shown of them

-- line k with these entries
abbrev pub line_of-parts : Source → ℕ → List LineAnnotation → KeptLine
line_of-parts s k parts = record { number = s.first + k; text = text_at (source_lines s.text) k; parts = parts; keep = false }

pub alone-bound : (s : Source) (ls : List LocatedSpan) (k : ℕ) → All (IsLocated s) ls → 0 < length ls → list_any (λ l. not (is_alone_on k l)) ls ≡ false
    → k < length (source_lines s.text)
alone-bound s ls k at some none = is-line s ls k at some (none-fails (is_alone_on k) ls none)

pub alone-shallow : (s : Source) (ls : List LocatedSpan) (k : ℕ) → All (IsLocated s) ls → list_any (λ l. not (is_alone_on k l)) ls ≡ false
    → deepest s (annotations_of ls) ≡ 0
alone-shallow s ls k at none =
    ap (λ (es : List LineAnnotation). greatest_depth (map long_place es)) (no-longs s ls k at (none-fails (is_alone_on k) ls none))

pub alone-lines : (s : Source) (ls : List LocatedSpan) (k : ℕ) → All (IsLocated s) ls → 0 < length ls → list_any (λ l. not (is_alone_on k l)) ls ≡ false
    → line_of-parts s k (map short_part (filter is_short_span ls)) ∷ [] ≡ annotated_lines true s (annotations_of ls)
alone-lines s ls k at some none =
    let alone = none-fails (is_alone_on k) ls none in
    let marks : List Annotation = annotations_of ls in
    let text : List ℕ = text_at (source_lines s.text) k in
    let keep : Bool = list_any (λ a. not (is_marking a.kind) && touches s.text a k) marks in
    let line : line_of-parts s k (map short_part (filter is_short_span ls)) ≡ kept_line s marks k =
    same-kept (s.first + k) (s.first + k) text text (map short_part (filter is_short_span ls)) (parts_on s marks k) false keep refl refl
    (parts-one s ls k at alone) (sym (none-unmarked s ls k alone)) in
    ap (λ l. l ∷ []) line ∙ sym (ap (map (kept_line s marks)) (kept-one s ls k at some alone))
