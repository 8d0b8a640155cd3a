-- Which lines a snippet keeps with the lines around those that it kept, and that what stands on its lines stays.
use Rattle.snippet_shown.proofs.Common.{common_steps, ◌≡◌, ◌∙◌, ℕ, ◌+◌, ◌-◌, ◌<◌, ◌≤◌, Bool, true, false, ◌&&◌, ◌||◌, eqb, leb, cond, min, List, [], ◌∷◌, ◌++◌}
use Rattle.snippet_shown.proofs.Common.{map, length, inl, inr, arith, zero, suc, refl, sym, ap, ap₂, subst, and_parts, cases_lt, eqb-true, false≢true, le-leb}
use Rattle.snippet_shown.proofs.Common.{leb-true, or_cases, or_left, or_right, All-head, All-tail, filter-append, list_any-append, ⊤, cow_str_bytes, list_any}
use Rattle.snippet_shown.proofs.Common.{range_with_len, Range, Source, source_lines, SourceSeen, Annotation, Snippet, among-kept, kept-within, made_parts}
use Rattle.snippet_shown.proofs.Common.{has_bar, keeps, kept_lines, touches, first_line, last_line, numbered_source, context_spans, is_line_near, lines_around}
use Rattle.snippet_shown.proofs.Common.{reach_after, span_around, spans_around, visible_mark, IsSnippetWithContext, KeepsLinesAround}
use Rattle.std.specs.List.{All, filter}
use Rattle.snippet_shown.proofs.SpanLemmas.{around-first, around-last}

-- ---- the line of a range

either-later : (a b x y : Bool) → (a ≡ true → b ≡ true) → (x ≡ true → y ≡ true) → (a || x) ≡ true → (b || y) ≡ true
either-later true b x y first rest is = or_left b y (first refl)
either-later false b x y first rest is = or_right b y (rest is)

any-later : (p q : ℕ → Bool) → ((k : ℕ) → p k ≡ true → q k ≡ true) → (ks : List ℕ) → list_any p ks ≡ true → list_any q ks ≡ true
any-later p q later [] none = none
any-later p q later (k ∷ ks) is = either-later (p k) (q k) (list_any p ks) (list_any q ks) (later k) (any-later p q later ks) is

-- two tests that agree on the lines of a range keep the same of them
range-same : (p q : ℕ → Bool) (a n : ℕ) → ((k : ℕ) → a ≤ k → k < a + n → p k ≡ q k) → filter p (range_with_len a n) ≡ filter q (range_with_len a n)
range-same p q a zero same = refl
range-same p q a (suc n) same = grind (arith, range-same p q (a + 1) n (λ k from to. same k (omega arith) (omega arith)))

-- ---- which lines the span around a line keeps

-- a span that isn't marked keeps the lines that it touches
keeps-seen : (t f l b : Bool) → (t && (f || l || true || b)) ≡ t
keeps-seen true true l b = refl
keeps-seen true false true b = refl
keeps-seen true false false b = refl
keeps-seen false f l b = refl

-- the lines from `before` lines before one to `after` lines after it are those near it
near-between : (before after n j k : ℕ) → j < n → k < n → (leb (j - before) k && leb k (min (j + after) (n - 1))) ≡ is_line_near before after k j
near-between before after n j k inside within = grind (arith, cases_lt)

keeps-near : (before after : ℕ) (source : List ℕ) (j k : ℕ) → j < length (source_lines source) → k < length (source_lines source)
    → keeps source k (visible_mark (span_around before after source j)) ≡ is_line_near before after k j
keeps-near before after source j k inside within =
    let a : Annotation = visible_mark (span_around before after source j) in
    keeps-seen (touches source a k) (eqb k (first_line source a)) (eqb k (last_line source a)) (has_bar source (first_line source a) (last_line source a) k)
    ∙ ap₂ (λ f l. leb f k && leb k l) (around-first before after source j inside) (around-last before after source j inside)
    ∙ near-between before after (length (source_lines source)) j k inside within

-- ---- lines in order

-- lines in order, none before one
abbrev pub IsAfter : ℕ → List ℕ → Type 0
IsAfter last [] = ⊤
IsAfter last (j ∷ js) = (last ≤ j) × IsAfter j js

after-sooner : (a b : ℕ) (js : List ℕ) → a ≤ b → IsAfter b js → IsAfter a js
after-sooner a b [] le after = tt
after-sooner a b (j ∷ js) le after = (omega (arith, after.0), after.1)

-- those of a range that pass a test are in order
filtered-after : (p : ℕ → Bool) (a n : ℕ) → IsAfter a (filter p (range_with_len a n))
filtered-after p a zero = tt
filtered-after p a (suc n) = grind (arith, after-sooner, filtered-after p (a + 1) n)

-- ---- near

is-near : (before after k j : ℕ) → j ≤ k + before → k ≤ j + after → is_line_near before after k j ≡ true
is-near before after k j from to = ap₂ (λ a b. a && b) (le-leb j (k + before) from) (le-leb k (j + after) to)

near-from : (before after k j : ℕ) → is_line_near before after k j ≡ true → j ≤ k + before
near-from before after k j is = leb-true j (k + before) (and_parts (leb j (k + before)) (leb k (j + after)) is).0

near-to : (before after k j : ℕ) → is_line_near before after k j ≡ true → k ≤ j + after
near-to before after k j is = leb-true k (j + after) (and_parts (leb j (k + before)) (leb k (j + after)) is).1

-- a line that is near one of lines in order is no further before the first
near-first : (before after k j : ℕ) (js : List ℕ) → IsAfter j js → list_any (is_line_near before after k) js ≡ true → j ≤ k + before
near-first before after k j [] order none = absurd (false≢true none)
near-first before after k j (m ∷ ms) order near =
    elim (or_cases (is_line_near before after k m) (list_any (is_line_near before after k) ms) near) [
      | inl this ↦ omega (arith, order.0, near-from before after k m this)
      | inr later ↦ omega (arith, order.0, near-first before after k m ms order.1 later)
    ]

reach-le : (after j : ℕ) (js : List ℕ) → reach_after after j js ≤ after
reach-le after j [] = omega arith
reach-le after j (k ∷ ks) = omega arith

-- ---- which lines are kept

module _ (before after : ℕ) (source : List ℕ) where
  abbrev count : ℕ
  count = length (source_lines source)

  abbrev near : ℕ → List ℕ → Bool
  near k js = list_any (is_line_near before after k) js

  -- whether one of the spans around some lines keeps line k
  abbrev spanned : ℕ → ℕ → List ℕ → Bool
  spanned k last js = list_any (keeps source k) (map visible_mark (spans_around before after source last js))

  -- the first of them keeps what is near its line and not beyond those next to it
  first-keeps : (k last j : ℕ) (js : List ℕ) → j < count → k < count
      → keeps source k (visible_mark (span_around (min before (j - last)) (reach_after after j js) source j))
      ≡ is_line_near (min before (j - last)) (reach_after after j js) k j
  first-keeps k last j js inside within = keeps-near (min before (j - last)) (reach_after after j js) source j k inside within

  -- they keep nothing but lines near one
  spanned-near : (k last : ℕ) (js : List ℕ) → All (λ j. j < count) js → k < count → spanned k last js ≡ true → near k js ≡ true
  spanned-near k last [] all within none = none
  spanned-near k last (j ∷ js) all within is =
      let back : ℕ = min before (j - last) in
      let on : ℕ = reach_after after j js in
      elim (or_cases (keeps source k (visible_mark (span_around back on source j))) (spanned k j js) is) [
        | inl this ↦
            let here : is_line_near back on k j ≡ true =
            sym (first-keeps k last j js (All-head (λ i. i < count) j js all) within) ∙ this in
            or_left (is_line_near before after k j) (near k js)
            (is-near before after k j (omega (arith, near-from back on k j here)) (omega (arith, near-to back on k j here, reach-le after j js)))
        | inr later ↦ or_right (is_line_near before after k j) (near k js)
            (spanned-near k j js (All-tail (λ i. i < count) j js all) within later)
      ]

  -- and each that is, from the line before them on: what is near a line and beyond the next is near that
  near-spanned : (k last : ℕ) (js : List ℕ) → All (λ j. j < count) js → IsAfter last js → last ≤ k → k < count → near k js ≡ true
      → spanned k last js ≡ true
  near-spanned k last [] all order from within none = none
  near-spanned k last (j ∷ js) all order from within is =
      by (λ near le. near-spanned k j js (All-tail (λ i. i < count) j js all) order.1 le within near)
    where
      this : j ≤ k + before → k ≤ j + reach_after after j js → spanned k last (j ∷ js) ≡ true
      this back on = or_left (keeps source k (visible_mark (span_around (min before (j - last)) (reach_after after j js) source j))) (spanned k j js)
          (first-keeps k last j js (All-head (λ i. i < count) j js all) within
          ∙ is-near (min before (j - last)) (reach_after after j js) k j (omega (arith, from, order.0, back)) on)

      rest : spanned k j js ≡ true → spanned k last (j ∷ js) ≡ true
      rest later = or_right (keeps source k (visible_mark (span_around (min before (j - last)) (reach_after after j js) source j))) (spanned k j js) later

      beyond : (ms : List ℕ) → js ≡ ms → (near k js ≡ true → j ≤ k → spanned k j js ≡ true) → k ≤ j + after → j < k → spanned k last (j ∷ js) ≡ true
      beyond [] none others to later = this (omega arith) (omega (arith, to, ap (reach_after after j) none))
      beyond (m ∷ ms) next others to later =
          let order_next : IsAfter j (m ∷ ms) = subst (IsAfter j) next order.1 in
          elim (cases_lt m k) [
            | inl past ↦ rest (others (ap (near k) next ∙ or_left (is_line_near before after k m) (near k ms)
                (is-near before after k m (omega arith) (omega (arith, to, order_next.0)))) (omega arith))
            | inr here ↦ this (omega arith) (omega (arith, to, here, order_next.0, ap (reach_after after j) next))
          ]

      by : (near k js ≡ true → j ≤ k → spanned k j js ≡ true) → spanned k last (j ∷ js) ≡ true
      by others = elim (cases_lt j k) [
        | inl later ↦ elim (or_cases (is_line_near before after k j) (near k js) is) [
          | inl at ↦ beyond js refl others (near-to before after k j at) later
          | inr other ↦ rest (others other (omega arith))
        ]
        | inr sooner ↦ this (near-first before after k j (j ∷ js) (omega arith, order.1) is) (omega arith)
      ]

module _ (before after : ℕ) (source : List ℕ) (marks : List Annotation) where
  abbrev lines : List ℕ
  lines = kept_lines true source marks

  abbrev added : List Annotation
  added = map visible_mark (spans_around before after source 0 lines)

  all-lines : All (λ j. j < length (source_lines source)) lines
  all-lines = kept-within (λ j. list_any (keeps source j) marks) (length (source_lines source))

  -- the spans around those that are kept keep those near one
  added-keep : (k : ℕ) → k < length (source_lines source) → list_any (keeps source k) added ≡ list_any (is_line_near before after k) lines
  added-keep k within = grind (arith, spanned-near, all-lines, near-spanned, filtered-after)

  -- a line that is kept is near itself
  kept-near : (k : ℕ) → k < length (source_lines source) → list_any (keeps source k) marks ≡ true → list_any (is_line_near before after k) lines ≡ true
  kept-near k within is =
      any-later (λ j. eqb j k) (is_line_near before after k)
      (λ j same. let at : j ≡ k = eqb-true j k same in ap₂ (λ a b. a && b) (le-leb j (k + before) (omega arith)) (le-leb k (j + after) (omega arith)))
      lines (among-kept (λ j. list_any (keeps source j) marks) (length (source_lines source)) k within ∙ is)

  folded-around : kept_lines true source (marks ++ added) ≡ lines_around before after (length (source_lines source)) lines
  folded-around =
      range-same (λ k. list_any (keeps source k) (marks ++ added)) (λ k. list_any (is_line_near before after k) lines) 0 (length (source_lines source))
      (λ k from to. list_any-append (keeps source k) marks added ∙ ap (λ b. list_any (keeps source k) marks || b) (added-keep k (omega arith))
      ∙ absorbed (list_any (keeps source k) marks) (list_any (is_line_near before after k) lines) (kept-near k (omega arith)))
    where
      absorbed : (a b : Bool) → (a ≡ true → b ≡ true) → (a || b) ≡ b
      absorbed true b later = sym (later refl)
      absorbed false b later = refl

-- where lines aren't folded all are kept, and each is near itself
unfolded-around : (before after : ℕ) (source : List ℕ) (marks more : List Annotation)
    → kept_lines false source more ≡ lines_around before after (length (source_lines source)) (kept_lines false source marks)
unfolded-around before after source marks more =
    range-same (λ k. true) (λ k. list_any (is_line_near before after k) (kept_lines false source marks)) 0 (length (source_lines source))
    (λ k from to. sym (any-later (λ j. eqb j k) (is_line_near before after k)
    (λ j same. let at : j ≡ k = eqb-true j k same in ap₂ (λ a b. a && b) (le-leb j (k + before) (omega arith)) (le-leb k (j + after) (omega arith)))
    (kept_lines false source marks) (among-kept (λ j. true) (length (source_lines source)) k (omega arith))))

kept-around : (before after : ℕ) (fold : Bool) (source : List ℕ) (marks : List Annotation)
    → kept_lines fold source (marks ++ map visible_mark (cond fold (spans_around before after source 0 (kept_lines true source marks)) []))
    ≡ lines_around before after (length (source_lines source)) (kept_lines fold source marks)
kept-around before after true source marks = folded-around before after source marks
kept-around before after false source marks = unfolded-around before after source marks (marks ++ [])

-- ---- what stands on lines

filter-visible_mark : (test : Annotation → Bool) → ((span : Range ℕ) → test (visible_mark span) ≡ false) → (spans : List (Range ℕ))
    → filter test (map visible_mark spans) ≡ []
filter-visible_mark test none [] = refl
filter-visible_mark test none (span ∷ spans) = grind (arith, filter-visible_mark test none spans)

still-marked : (test : Annotation → Bool) → ((span : Range ℕ) → test (visible_mark span) ≡ false) → (marks : List Annotation) (spans : List (Range ℕ))
    → filter test (marks ++ map visible_mark spans) ≡ filter test marks
still-marked test none marks spans = grind (arith, common_steps, filter-append, filter-visible_mark)

-- annotations that mark nothing have no entries
made-same : (s : Source) (marks : List Annotation) (spans : List (Range ℕ)) → made_parts s (marks ++ map visible_mark spans) ≡ made_parts s marks
made-same s marks spans = grind (arith, still-marked)

-- ---- of a snippet

-- a snippet with the lines around those that it keeps keeps just these, and has the same entries
pub keeps-around : (before after : ℕ) (a b : Snippet Annotation) → IsSnippetWithContext before after a b → KeepsLinesAround before after a b
keeps-around before after a b with =
    let source : List ℕ = cow_str_bytes a.source.text in
    let same : cow_str_bytes b.source.text ≡ source = ap (λ (s : SourceSeen). cow_str_bytes s.text) with.source in
    record {
      lines = ap (λ fold. kept_lines fold (cow_str_bytes b.source.text) b.markers.items) with.fold
          ∙ ap (λ text. kept_lines a.fold text b.markers.items) same ∙ ap (kept_lines a.fold source) with.markers
          ∙ kept-around before after a.fold source a.markers.items;
      entries = ap₂ (λ text first. made_parts (record { text = text; first = first }) b.markers.items) same with.line_start
          ∙ ap (made_parts (numbered_source a)) with.markers ∙ made-same (numbered_source a) a.markers.items (context_spans before after a);
    }
