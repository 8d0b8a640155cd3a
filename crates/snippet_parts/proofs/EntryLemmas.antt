-- The entries of spans, in the order made.
use Rattle.snippet_parts.proofs.Common.{common_steps, None, ◌≡◌, ℕ, ◌+◌, ◌-◌, ◌<◌, ◌≤◌, Bool, true, false, ◌&&◌, ◌||◌, cond, not, eqb, leb, ltb, min, List, []}
use Rattle.snippet_parts.proofs.Common.{◌∷◌, ◌++◌, map, length, take, drop, get_or, inl, inr, refl, sym, ap, ◌∙◌, arith, All, filter, list_any, range_with_len}
use Rattle.snippet_parts.proofs.Common.{cases_lt, le-leb, le-ltb, lt-leb, cond-true, cond-false, and_parts, both_ways, eq-eqb, ne_eqb, false_from_ne_true}
use Rattle.snippet_parts.proofs.Common.{map_more, drop-map, take-map, drop_more, length-map, get_or-map, filter-append, map-range_with_len_more, LineAnnotation}
use Rattle.snippet_parts.proofs.Common.{span_parts, long_parts, long_place, promoted, is_primary, same_place, depth_among, LongExtent, AnnotationKind, Primary}
use Rattle.snippet_parts.proofs.Common.{IsNonDecreasingBy, has_bar, is_trivial_line, Source, bar_lines, seen_long, HasFit, LongSpan, Loc, map-map}
use Rattle.std.proofs.lemmas.List.{append_assoc}
use Rattle.snippet_parts.proofs.RawDepthLemmas.{same-true}
use Rattle.snippet_parts.proofs.KeptLemmas.{after-least, range-all, range-none, range-split}
use Rattle.snippet_parts.proofs.PartLemmas.{list_any-map}
use Rattle.snippet_parts.proofs.PartWords.{stands_among}

-- whether a span has a bar beside line k, the line before its last
abbrev closes : List ℕ → ℕ → ℕ → ℕ → Bool
closes source first last k = eqb (k + 1) last && ltb (first + 4) k && not (is_trivial_line source k)

-- the bars of a span: up to the last line of its beginning, and the one before its last line
pub bars-are : (source : List ℕ) (first last u m : ℕ) (closing : Bool) → first ≤ u → u ≤ min (first + 4) last → u < last
    → ((k : ℕ) → first < k → leb k u ≡ list_any (λ j. not (is_trivial_line source j)) (range_with_len k (min (first + 4) last - k)))
    → closing ≡ (ltb (min (first + 4) last) (last - 1) && not (is_trivial_line source (last - 1))) → m ≡ u - first
    → range_with_len (first + 1) m ++ cond closing ((last - 1) ∷ []) [] ≡ bar_lines source first last
bars-are source first last u m closing from to before bars is count =
    let parts : last - (first + 1) ≡ m + (last - (u + 1)) = omega arith in
    let next : first + 1 + m ≡ u + 1 = omega arith in
    sym (ap (λ n. filter (has_bar source first last) (range_with_len (first + 1) n)) parts
    ∙ ap (filter (has_bar source first last)) (range-split (first + 1) m (last - (u + 1)))
    ∙ filter-append (has_bar source first last) (range_with_len (first + 1) m) (range_with_len (first + 1 + m) (last - (u + 1)))
    ∙ ap (λ ks. ks ++ filter (has_bar source first last) (range_with_len (first + 1 + m) (last - (u + 1))))
    (range-all (has_bar source first last) (first + 1) m early)
    ∙ ap (λ a. range_with_len (first + 1) m ++ filter (has_bar source first last) (range_with_len a (last - (u + 1)))) next
    ∙ ap (λ ks. range_with_len (first + 1) m ++ ks) late)
  where
    early : (k : ℕ) → first + 1 ≤ k → k < first + 1 + m → has_bar source first last k ≡ true
    early k low high = ap (λ b. b || closes source first last k) (sym (bars k (omega arith)) ∙ le-leb k u (omega arith))

    past : (k : ℕ) → u < k → has_bar source first last k ≡ closes source first last k
    past k after = ap (λ b. b || closes source first last k) (sym (bars k (omega arith)) ∙ lt-leb k u after)

    none : (k : ℕ) → u + 1 ≤ k → k < u + 1 + (last - 1 - (u + 1)) → has_bar source first last k ≡ false
    none k low high = past k (omega arith) ∙ ap (λ b. b && ltb (first + 4) k && not (is_trivial_line source k)) (ne_eqb (k + 1) last (λ e. omega arith))

    closing-is : closing ≡ (ltb (first + 4) (last - 1) && not (is_trivial_line source (last - 1)))
    closing-is = is ∙ ap (λ b. b && not (is_trivial_line source (last - 1))) (after-least (first + 4) last)

    late : filter (has_bar source first last) (range_with_len (u + 1) (last - (u + 1))) ≡ cond closing ((last - 1) ∷ []) []
    late =
        elim (cases_lt (u + 1) last) [
          | inl room ↦
              let parts : last - (u + 1) ≡ (last - 1 - (u + 1)) + 1 = omega arith in
              let end : u + 1 + (last - 1 - (u + 1)) ≡ last - 1 = omega arith in
              ap (λ n. filter (has_bar source first last) (range_with_len (u + 1) n)) parts
              ∙ ap (filter (has_bar source first last)) (range-split (u + 1) (last - 1 - (u + 1)) 1)
              ∙ filter-append (has_bar source first last) (range_with_len (u + 1) (last - 1 - (u + 1))) (range_with_len (u + 1 + (last - 1 - (u + 1))) 1)
              ∙ ap (λ ks. ks ++ filter (has_bar source first last) (range_with_len (u + 1 + (last - 1 - (u + 1))) 1))
              (range-none (has_bar source first last) (u + 1) (last - 1 - (u + 1)) none)
              ∙ ap (λ a. filter (has_bar source first last) (range_with_len a 1)) end
              ∙ ap (λ b. cond b ((last - 1) ∷ []) []) (past (last - 1) (omega arith)
              ∙ ap (λ b. b && ltb (first + 4) (last - 1) && not (is_trivial_line source (last - 1))) (eq-eqb (last - 1 + 1) last (omega arith))
              ∙ sym closing-is)
          | inr full ↦
              let parts : last - (u + 1) ≡ 0 = omega arith in
              ap (λ n. filter (has_bar source first last) (range_with_len (u + 1) n)) parts ∙ sym (cond-false closing ((last - 1) ∷ []) []
              (is ∙ ap (λ b. b && not (is_trivial_line source (last - 1))) (le-ltb (min (first + 4) last) (last - 1) (omega arith))))
        ]

-- ---- bars that are pushed

-- with one more bar the bars so far are those of the lines up to that one
pub bars_more : (f : ℕ → LineAnnotation) (old now new : List LineAnnotation) (e : LineAnnotation) (a line : ℕ) → a ≤ line → new ≡ now ++ e ∷ []
    → e ≡ f line → now ≡ old ++ map f (range_with_len a (line - a))
    → new ≡ old ++ map f (range_with_len a ((line + 1) - a))
bars_more f old now new e a line le pushed is before = grind (arith, append_assoc, map-range_with_len_more)

-- all bars, with the one before the last line
pub bars-closed : (f : ℕ → LineAnnotation) (old now new : List LineAnnotation) (e : LineAnnotation) (source : List ℕ) (first last u a n : ℕ)
    (closing : Bool) → closing ≡ true → new ≡ now ++ e ∷ [] → e ≡ f (last - 1)
    → now ≡ old ++ map f (range_with_len a n) → a ≡ first + 1 → n ≡ u - first → first ≤ u → u ≤ min (first + 4) last → u < last
    → ((k : ℕ) → first < k → leb k u ≡ list_any (λ j. not (is_trivial_line source j)) (range_with_len k (min (first + 4) last - k)))
    → closing ≡ (ltb (min (first + 4) last) (last - 1) && not (is_trivial_line source (last - 1)))
    → new ≡ old ++ map f (bar_lines source first last)
bars-closed f old now new e source first last u a n closing there pushed is before at count from to inside bars close =
    grind (arith, common_steps, bars-are source first last u n closing from to inside bars close count, from, to, inside, count, pushed, before, is, at, there)

-- all bars, without it
pub bars-open : (f : ℕ → LineAnnotation) (old now : List LineAnnotation) (source : List ℕ) (first last u a n : ℕ) (closing : Bool) → closing ≡ false
    → now ≡ old ++ map f (range_with_len a n) → a ≡ first + 1 → n ≡ u - first → first ≤ u → u ≤ min (first + 4) last → u < last
    → ((k : ℕ) → first < k → leb k u ≡ list_any (λ j. not (is_trivial_line source j)) (range_with_len k (min (first + 4) last - k)))
    → closing ≡ (ltb (min (first + 4) last) (last - 1) && not (is_trivial_line source (last - 1)))
    → now ≡ old ++ map f (bar_lines source first last)
bars-open f old now source first last u a n closing none before at count from to inside bars close =
    grind (arith, common_steps, bars-are source first last u n closing from to inside bars close count, from, to, inside, count, before, at, none)

-- ---- the entries of all spans of several lines

-- a span as it is drawn
pub promoted-primary : (before : List LongSpan) (l : LongSpan) (b : Bool)
    → b ≡ (is_primary l.kind || list_any (λ (o : LongSpan). is_primary o.kind && same_place (long_place (seen_long l))
    (long_place (seen_long o))) before) → b ≡ true → record (seen_long l) { kind = Primary } ≡ promoted (map seen_long before) (seen_long l)
promoted-primary before l b is there = grind (arith, cond-true, list_any-map)

-- a span that is neither primary nor at the place of a primary one stays as it is
pub promoted-plain : (before : List LongSpan) (l : LongSpan) (b : Bool)
    → b ≡ (is_primary l.kind || list_any (λ (o : LongSpan). is_primary o.kind && same_place (long_place (seen_long l)) (long_place (seen_long o))) before)
    → b ≡ false → seen_long l ≡ promoted (map seen_long before) (seen_long l)
promoted-plain before l b is none = grind (arith, cond-false, list_any-map)

-- one more span of several lines
pub parts-more : (s : Source) (places : List LongExtent) (spans : List LongSpan) (i : ℕ) (x : LongSpan) (now new all : List LineAnnotation) (depth : ℕ)
    (again : Bool) (e : LineAnnotation) → i < length spans → x ≡ get_or spans i x → new ≡ now ++ span_parts s depth again e
    → depth ≡ depth_among places (long_place (seen_long x))
    → again ≡ list_any (λ (o : LongSpan). same_place (long_place (seen_long x)) (long_place (seen_long o))) (drop (i + 1) spans)
    → e ≡ promoted (map seen_long (take i spans)) (seen_long x)
    → now ++ long_parts s places (take i (map seen_long spans)) (drop i (map seen_long spans)) ≡ all
    → new ++ long_parts s places (take (i + 1) (map seen_long spans)) (drop (i + 1) (map seen_long spans)) ≡ all
parts-more s places spans i x now new all depth again e within is pushed deep among draw before =
    let later : List LineAnnotation = map seen_long (drop (i + 1) spans) in
    let earlier : List LineAnnotation = map seen_long (take i spans) in
    let e1 : drop i (map seen_long spans) ≡ seen_long x ∷ later = drop-map seen_long i spans ∙ ap (map seen_long) (drop_more spans i x within)
    ∙ ap (λ y. seen_long y ∷ later) (sym is) in
    let e2 : drop (i + 1) (map seen_long spans) ≡ later = drop-map seen_long (i + 1) spans in
    let e3 : take i (map seen_long spans) ≡ earlier = take-map seen_long i spans in
    let e4 : take (i + 1) (map seen_long spans) ≡ earlier ++ seen_long x ∷ [] = take-map seen_long (i + 1) spans ∙ map_more seen_long spans i x within
    ∙ ap (λ y. earlier ++ seen_long y ∷ []) (sym is) in
    let same : span_parts s depth again e ≡ span_parts s (depth_among places (long_place (seen_long x))) (stands_among (seen_long x) later)
    (promoted earlier (seen_long x)) = ap (λ n. span_parts s n again e) deep
    ∙ ap (λ b. span_parts s (depth_among places (long_place (seen_long x))) b e)
    (among ∙ sym (list_any-map (λ (d : LineAnnotation). same_place (long_place (seen_long x)) (long_place d)) seen_long (drop (i + 1) spans)))
    ∙ ap (λ d. span_parts s (depth_among places (long_place (seen_long x))) (stands_among (seen_long x) later) d) draw in
    ap (λ ps. ps ++ long_parts s places (take (i + 1) (map seen_long spans)) (drop (i + 1) (map seen_long spans))) (pushed ∙ ap (λ ps. now ++ ps) same)
    ∙ ap (λ es. (now ++ span_parts s (depth_among places (long_place (seen_long x))) (stands_among (seen_long x) later) (promoted earlier (seen_long x)))
    ++ long_parts s places es (drop (i + 1) (map seen_long spans))) e4
    ∙ ap (λ es. (now ++ span_parts s (depth_among places (long_place (seen_long x))) (stands_among (seen_long x) later) (promoted earlier (seen_long x)))
    ++ long_parts s places (earlier ++ seen_long x ∷ []) es) e2
    ∙ append_assoc now (span_parts s (depth_among places (long_place (seen_long x))) (stands_among (seen_long x) later) (promoted earlier (seen_long x)))
    (long_parts s places (earlier ++ seen_long x ∷ []) later)
    ∙ sym (ap (λ es. now ++ long_parts s places es (drop i (map seen_long spans))) e3 ∙ ap (λ es. now ++ long_parts s places earlier es) e1)
    ∙ before

-- the places of spans
pub places-are : (places : List LongExtent) (spans : List LongSpan) → places ≡ map (λ (l : LongSpan). long_place (seen_long l)) spans
    → places ≡ map long_place (map seen_long spans)
places-are places spans is = is ∙ sym (map-map long_place seen_long spans)

-- the depths of places are those of the spans that stand there
pub depths-of : (places : List LongExtent) (spans : List LongSpan) (depths : List ℕ) → places ≡ map (λ (l : LongSpan). long_place (seen_long l)) spans
    → depths ≡ map (depth_among places) places
    → depths ≡ map (λ (l : LongSpan). depth_among (map long_place (map seen_long spans)) (long_place (seen_long l))) spans
depths-of places spans depths is value = grind (arith, map-map, places-are)

-- the places of spans that are ordered by their first lines are ordered by theirs
pub places-ordered : (places : List LongExtent) (spans : List LongSpan) (none : LongSpan) → places ≡ map (λ (l : LongSpan). long_place (seen_long l)) spans
    → IsNonDecreasingBy (λ (l : LongSpan). l.start.line) spans → IsNonDecreasingBy (λ (p : LongExtent). p.first) places
places-ordered places spans none is ordered i j d le within =
    let len : length places ≡ length spans = ap length is ∙ length-map spans (λ (l : LongSpan). long_place (seen_long l)) in
    let at : (k : ℕ) → k < length spans → get_or places k d ≡ long_place (seen_long (get_or spans k none)) = λ k below.
    ap (λ ps. get_or ps k d) is ∙ get_or-map (λ (l : LongSpan). long_place (seen_long l)) spans k none d below in
    omega (
      arith,
      ap (λ (p : LongExtent). p.first) (at i (omega arith)),
      ap (λ (p : LongExtent). p.first) (at j (omega arith)),
      ordered i j none le
          (omega arith),
    )

-- no place ends above the line on which it starts
pub places-lines : (s : Source) (places : List LongExtent) (spans : List LongSpan) (none : LongSpan)
    → places ≡ map (λ (l : LongSpan). long_place (seen_long l)) spans → All (HasFit s) spans → All (λ (p : LongExtent). p.first ≤ p.last) places
places-lines s places spans none is fit k d within =
    let len : length places ≡ length spans = ap length is ∙ length-map spans (λ (l : LongSpan). long_place (seen_long l)) in
    let at : get_or places k d ≡ long_place (seen_long (get_or spans k none)) = ap (λ ps. get_or ps k d) is
    ∙ get_or-map (λ (l : LongSpan). long_place (seen_long l)) spans k none d (omega arith) in
    omega (arith, ap (λ (p : LongExtent). p.first) at, ap (λ (p : LongExtent). p.last) at, (fit k none (omega arith)).lines)

abbrev pub no_loc : Loc
no_loc = record { line = 0; char = 0; display = 0; byte = 0 }

-- a span of several lines that stands for none
abbrev pub no_span : LongSpan
no_span = record { start = no_loc; end = no_loc; kind = Primary; label = None; highlight_source = false; bars = record { end = 0; closing = false } }

-- ---- spans of one place start on one line

any-filtered : {X : Type 0} (q p : X → Bool) → ((x : X) → q x ≡ true → p x ≡ true) → (xs : List X) → list_any q (filter p xs) ≡ list_any q xs
any-filtered q p implied [] = refl
any-filtered q p implied (x ∷ xs) = grind (arith, cond-true, cond-false, false_from_ne_true, both_ways, any-filtered q p implied xs)

same_line : (x o : LongSpan) → same_place (long_place (seen_long x)) (long_place (seen_long o)) ≡ true → eqb o.start.line x.start.line ≡ true
same_line x o same = grind (arith, eq-eqb, same-true)

-- whether a place stands again is told by the spans that are near
pub place-near : (x : LongSpan) (others near : List LongSpan) (b : Bool) → near ≡ filter (λ (o : LongSpan). eqb o.start.line x.start.line) others
    → b ≡ list_any (λ (o : LongSpan). same_place (long_place (seen_long x)) (long_place (seen_long o))) near
    → b ≡ list_any (λ (o : LongSpan). same_place (long_place (seen_long x)) (long_place (seen_long o))) others
place-near x others near b is found = grind (arith, any-filtered, same_line)

kind-other : (kind : AnnotationKind) → (kind ≡ Primary → ⊥) → is_primary kind ≡ false
kind-other x y = grind (arith)

-- whether a primary span stands at the same place is told by the spans that are near
pub primary-near : (x : LongSpan) (others near : List LongSpan) (b : Bool) → near ≡ filter (λ (o : LongSpan). eqb o.start.line x.start.line) others
    → b ≡ list_any (λ (o : LongSpan). is_primary o.kind && same_place (long_place (seen_long x)) (long_place (seen_long o))) near
    → (x.kind ≡ Primary → ⊥)
    → b ≡ (is_primary x.kind || list_any (λ (o : LongSpan). is_primary o.kind && same_place (long_place (seen_long x))
    (long_place (seen_long o))) others)
primary-near x others near b is found other = grind (arith, any-filtered, same_line, and_parts, kind-other)
