-- Which bars are open above a line: those of the spans of several lines that begin above it and don't end above it.
use Rattle.annotate_snippets.proofs.Common.{◌≡◌, ◌≢◌, ℕ, ◌+◌, ◌<◌, ◌≤◌, ◌==◌, Bool, true, false, not, Option, Some, None, List}
use Rattle.annotate_snippets.proofs.Common.{[], ◌⊎◌, map, inl, inr, refl, sym, ap, ◌∙◌, arith, Contains, filter, filter_map, and_from, and_parts}
use Rattle.annotate_snippets.proofs.Common.{cases_eq, cases_lt, eq-eqb, eqb-true, false_from_ne_true, le-leb, not-true, is_primary, Annotation, Source, IsSpan}
use Rattle.annotate_snippets.proofs.Common.{LineAnnotation, LongExtent, MultilineEnd, MultilineStart, depth_of, end_part, is_long, long_entry, long_parts}
use Rattle.annotate_snippets.proofs.Common.{long_place, long_spans, made_parts, parts_on, single_part, start_part, depth_among, first_line, last_line, Among}
use Rattle.annotate_snippets.proofs.Common.{among_filter, among_filter_map, among_in_order, among_left, among_map, among_right, any_among, any_cases}
use Rattle.annotate_snippets.proofs.Common.{append_cases, filter_cases, in_order_cases, map_cases, lines_ordered, end-line, start-line, annotations-distinct}
use Rattle.annotate_snippets.proofs.Common.{Bar, bar_at, bars_apart, open_past, HasOwnDepth, has_depth, all_from_among, among_contains, contains_among}
use Rattle.annotate_snippets.proofs.Common.{filter_map_cases, is_short, long_places, stands_before}
use Rattle.std.specs.List.{All}
use Rattle.annotate_snippets.proofs.SpanParts.{HasEnds, IsEndOf, end_of, ends_of, is_primary_at}

-- ---- the bars of a line

-- the place of a span in its source
abbrev pub place_in : Source → Annotation → LongExtent
place_in s a = long_place (long_entry s a)

-- the bar that spans at a place have
abbrev pub bar_at_place : Source → List Annotation → LongExtent → Bar
bar_at_place s marks place =
    record { depth = depth_among (long_places s marks) place; primary = is_primary_at (long_spans s marks) place }

-- the bars of the starts and ends on line k
abbrev pub bars_of_line : Source → List Annotation → ℕ → List Bar
bars_of_line s marks k = filter_map (λ (e : LineAnnotation). bar_at e.annotation_type (is_primary e.kind)) (parts_on s marks k)

-- an entry is the start of a span on line k, or the end of one, with this bar
pub record IsPartOf (s : Source) (marks : List Annotation) (k : ℕ) (p : LineAnnotation) (bar : Bar) : Type 0 where
  pub span : Annotation
  pub among : Contains marks span
  pub long : is_long s.text span ≡ true
  pub bar_is : bar ≡ bar_at_place s marks (place_in s span)
  pub line : ((p.annotation_type ≡ MultilineStart bar.depth) × (first_line s.text span ≡ k))
      ⊎ ((p.annotation_type ≡ MultilineEnd bar.depth) × (last_line s.text span ≡ k))

-- the bar is that of a span which begins or ends on line k
pub record IsBarOf (s : Source) (marks : List Annotation) (k : ℕ) (bar : Bar) : Type 0 where
  pub span : Annotation
  pub among : Contains marks span
  pub long : is_long s.text span ≡ true
  pub bar_is : bar ≡ bar_at_place s marks (place_in s span)
  pub line : (first_line s.text span ≡ k) ⊎ (last_line s.text span ≡ k)

module _ (s : Source) (marks : List Annotation) where
  abbrev spans_in_order : List LineAnnotation
  spans_in_order = long_spans s marks

  abbrev places : List LongExtent
  places = long_places s marks

  abbrev singles : List LineAnnotation
  singles = map (single_part s) (filter (is_short s.text) marks)

  abbrev longs : List LineAnnotation
  longs = long_parts s places [] spans_in_order

  abbrev has : LineAnnotation → Option Bar
  has e = bar_at e.annotation_type (is_primary e.kind)

  abbrev on_line : ℕ → LineAnnotation → Bool
  on_line k p = p.start.line == s.first + k

  -- an entry of line k that has a bar is the start or the end of a span
  pub part_bar : (k : ℕ) (p : LineAnnotation) (bar : Bar) → Among (parts_on s marks k) p → has p ≡ Some bar → IsPartOf s marks k p bar
  part_bar k p bar here has_it =
      let on = filter_cases (on_line k) (made_parts s marks) p here in
      let line : p.start.line ≡ s.first + k = eqb-true p.start.line (s.first + k) on.1 in
      elim (append_cases singles longs p on.0) [
        | inl single ↦ (let made = map_cases (single_part s) (filter (is_short s.text) marks) p single in absurd (no_bar (ap has made.2 ∙ has_it)))
        | inr long ↦
            let e : IsEndOf places spans_in_order spans_in_order p bar = end_of s places [] spans_in_order spans_in_order refl p bar long has_it in
            let made = map_cases (long_entry s) (filter (is_long s.text) marks) e.span
            (in_order_cases stands_before (map (long_entry s) (filter (is_long s.text) marks)) e.span e.among) in
            let given = filter_cases (is_long s.text) marks made.0 made.1 in
            let first : (long_entry s made.0).start.line ≡ s.first + first_line s.text made.0 = start-line s made.0.span.start made.0.span.end in
            let last : (long_entry s made.0).end.line ≡ s.first + last_line s.text made.0 = end-line s made.0.span.start made.0.span.end in
            let starts : (long_entry s made.0).start.line ≡ e.span.start.line = ap (λ (d : LineAnnotation). d.start.line) made.2 in
            let ends : (long_entry s made.0).end.line ≡ e.span.end.line = ap (λ (d : LineAnnotation). d.end.line) made.2 in
            record {
              span = made.0;
              among = among_contains marks made.0 given.0;
              long = given.1;
              bar_is = e.bar_is ∙ ap (λ (d : LineAnnotation). bar_at_place s marks (long_place d)) (sym made.2);
              line = elim e.line [
                | inl at ↦ inl (at.0, omega (arith, at.1, line, first, starts))
                | inr at ↦ inr (at.0, omega (arith, at.1, line, last, ends))
              ];
            }
      ]
    where
      no_bar : None ≡ Some bar → ⊥
      no_bar wrong = cc wrong

  end_bar : (k : ℕ) (bar : Bar) → Among (bars_of_line s marks k) bar → IsBarOf s marks k bar
  end_bar k bar here =
      let found = filter_map_cases has (parts_on s marks k) bar here in
      let is = part_bar k found.0 bar found.1 found.2 in
      record { span = is.span; among = is.among; long = is.long; bar_is = is.bar_is; line = elim is.line [ inl start ↦ inl start.1 | inr end ↦ inr end.1 ] }

  -- the entries of a span's place
  place_ends : (a : Annotation) → Contains marks a → is_long s.text a ≡ true → HasEnds places spans_in_order longs (place_in s a)
  place_ends a among long =
      let given : Among (filter (is_long s.text) marks) a = among_filter (is_long s.text) marks a (contains_among marks a among) long in
      let ordered : Among spans_in_order (long_entry s a) = among_in_order stands_before (map (long_entry s) (filter (is_long s.text) marks)) (long_entry s a)
      (among_map (long_entry s) (filter (is_long s.text) marks) a given) in
      ends_of s places [] spans_in_order spans_in_order refl (place_in s a) (long_entry s a) ordered refl

  -- an entry of a span's place that stands on line k gives its bar
  gives_bar : (k : ℕ) (p : LineAnnotation) (place : LongExtent) → Among longs p → p.start.line ≡ s.first + k → has p ≡ Some (bar_at_place s marks place)
      → Among (bars_of_line s marks k) (bar_at_place s marks place)
  gives_bar k p place among line is =
      among_filter_map has (parts_on s marks k) p (bar_at_place s marks place)
      (among_filter (on_line k) (made_parts s marks) p (among_right singles longs p among) (eq-eqb p.start.line (s.first + k) line)) is

  -- where a span begins its bar is one of the line's
  pub start_here : (k : ℕ) (a : Annotation) → Contains marks a → is_long s.text a ≡ true → first_line s.text a ≡ k
      → Among (bars_of_line s marks k) (bar_at_place s marks (place_in s a))
  start_here k a among long here =
      let place : LongExtent = place_in s a in
      let ends = place_ends a among long in
      let depth : ℕ = depth_among places place in
      let line : ends.span.start.line ≡ (long_entry s a).start.line = ap (λ (p : LongExtent). p.first) ends.place_is in
      let first : (long_entry s a).start.line ≡ s.first + first_line s.text a = start-line s a.span.start a.span.end in
      gives_bar k (start_part ends.span depth) place ends.start (omega (arith, line, first, here))
      (ap (λ b. Some (record { depth = depth; primary = b })) ends.primary)

  -- and where it ends
  pub end_here : (k : ℕ) (a : Annotation) → Contains marks a → is_long s.text a ≡ true → last_line s.text a ≡ k
      → Among (bars_of_line s marks k) (bar_at_place s marks (place_in s a))
  end_here k a among long here =
      let place : LongExtent = place_in s a in
      let ends = place_ends a among long in
      let depth : ℕ = depth_among places place in
      let line : ends.span.end.line ≡ (long_entry s a).end.line = ap (λ (p : LongExtent). p.last) ends.place_is in
      let last : (long_entry s a).end.line ≡ s.first + last_line s.text a = end-line s a.span.start a.span.end in
      gives_bar k (end_part ends.span (MultilineEnd depth)) place ends.end (omega (arith, line, last, here))
      (ap (λ b. Some (record { depth = depth; primary = b })) ends.primary)

-- ---- bars that none of some others closes or has open

apart_cases : (bars others : List Bar) (bar : Bar) → Among (bars_apart bars others) bar
    → Among bars bar × ((b : Bar) → Among others b → b.depth ≡ bar.depth → ⊥)
apart_cases bars others bar here = grind (arith, filter_cases, not-true, any_among, eq-eqb, bar.depth)

among_apart : (bars others : List Bar) (bar : Bar) → Among bars bar → ((b : Bar) → Among others b → b.depth ≡ bar.depth → ⊥)
    → Among (bars_apart bars others) bar
among_apart bars others bar here none =
    let no : has_depth others bar.depth ≡ false = false_from_ne_true (has_depth others bar.depth) (λ yes.
    some (any_cases (λ (x : Bar). x.depth == bar.depth) others yes)) in
    among_filter (λ (b : Bar). not (has_depth others b.depth)) bars bar here (ap not no)
  where
    some : (x : Bar) × Among others x × ((x.depth == bar.depth) ≡ true) → ⊥
    some found = none found.0 found.1 (eqb-true found.0.depth bar.depth found.2)

-- ---- which bars are open

-- the bar is that of a span of several lines that begins above line k and doesn't end above it
pub record IsOpenBar (s : Source) (marks : List Annotation) (k : ℕ) (bar : Bar) : Type 0 where
  pub span : Annotation
  pub among : Contains marks span
  pub long : is_long s.text span ≡ true
  pub bar_is : bar ≡ bar_at_place s marks (place_in s span)
  pub above : first_line s.text span < k
  pub below : k ≤ last_line s.text span

-- these are the bars of those spans
pub record AreOpen (s : Source) (marks : List Annotation) (k : ℕ) (bars : List Bar) : Type 0 where
  pub own : (bar : Bar) → Among bars bar → IsOpenBar s marks k bar
  pub all : (a : Annotation) → Contains marks a → is_long s.text a ≡ true → first_line s.text a < k → k ≤ last_line s.text a
      → Among bars (bar_at_place s marks (place_in s a))

module _ (s : Source) (marks : List Annotation) (spans : All (λ a. IsSpan s.text a.span.start a.span.end) marks) where
  -- a span of several lines ends below its first line
  pub longer : (a : Annotation) → Contains marks a → is_long s.text a ≡ true → first_line s.text a < last_line s.text a
  longer a among long = grind (arith, lines_ordered, not-true, and_parts, cases_eq, eq-eqb, a.span.start, a.span.end, a.kind)

  -- spans that share a line and have one depth have one place
  pub one_place : (a b : Annotation) → Contains marks a → Contains marks b → is_long s.text a ≡ true → is_long s.text b ≡ true
      → first_line s.text a ≤ last_line s.text b → first_line s.text b ≤ last_line s.text a → depth_of s marks a ≡ depth_of s marks b
      → place_in s a ≡ place_in s b
  one_place a b among-a among-b long-a long-b from to same =
      grind (arith, start-line, end-line, annotations-distinct, and_from, le-leb, a.span.start, a.span.end, b.span.start, b.span.end)

  -- spans of one place have the same lines
  same_lines : (a b : Annotation) → place_in s a ≡ place_in s b → (first_line s.text a ≡ first_line s.text b) × (last_line s.text a ≡ last_line s.text b)
  same_lines a b same = grind (arith, start-line, end-line, a.span.start, a.span.end, b.span.start, b.span.end)

  -- a cell's depth is none of those of the spans of several lines that touch line k
  abbrev pub IsFreeAt : ℕ → ℕ → Type 0
  IsFreeAt k depth =
      (a : Annotation) → Contains marks a → is_long s.text a ≡ true → first_line s.text a ≤ k → k ≤ last_line s.text a → depth_of s marks a ≢ depth

  module _ (k : ℕ) where
    -- then no bar that is open above the line has it
    pub open_apart : (depth : ℕ) (bars : List Bar) → AreOpen s marks k bars → IsFreeAt k depth → All (λ (b : Bar). b.depth ≢ depth) bars
    open_apart depth bars are free =
        all_from_among (λ (b : Bar). b.depth ≢ depth) bars (λ b here same.
        let o = are.own b here in
        free o.span o.among o.long (omega (arith, o.above)) o.below (sym (ap (λ (x : Bar). x.depth) o.bar_is) ∙ same))

    -- and none of the line's
    pub ends_apart : (depth : ℕ) → IsFreeAt k depth → All (λ (b : Bar). b.depth ≢ depth) (bars_of_line s marks k)
    ends_apart depth free =
        all_from_among (λ (b : Bar). b.depth ≢ depth) (bars_of_line s marks k) (λ b here same.
        let is = end_bar s marks k b here in
        let order = longer is.span is.among is.long in
        let deep : depth_of s marks is.span ≡ depth = sym (ap (λ (x : Bar). x.depth) is.bar_is) ∙ same in
        elim is.line [
          | inl first ↦ free is.span is.among is.long (omega (arith, first)) (omega (arith, first, order)) deep
          | inr last ↦ free is.span is.among is.long (omega (arith, last, order)) (omega (arith, last)) deep
        ])

    -- of the bars of a line no other has the depth of a span's that the line touches
    pub own_on_line : (a : Annotation) → Contains marks a → is_long s.text a ≡ true → first_line s.text a ≤ k → k ≤ last_line s.text a
        → HasOwnDepth (bar_at_place s marks (place_in s a)) (bars_of_line s marks k)
    own_on_line a among long from to =
        all_from_among (λ (b : Bar). b.depth ≡ depth_of s marks a → b ≡ bar_at_place s marks (place_in s a)) (bars_of_line s marks k) (λ b here same.
        let is = end_bar s marks k b here in
        let order = longer is.span is.among is.long in
        let depth : depth_of s marks is.span ≡ depth_of s marks a = sym (ap (λ (x : Bar). x.depth) is.bar_is) ∙ same in
        is.bar_is ∙ ap (bar_at_place s marks) (one_place is.span a is.among among is.long long (touch-from is order) (touch-to is order) depth))
      where
        touch-from : {b : Bar} (is : IsBarOf s marks k b) → first_line s.text is.span < last_line s.text is.span
            → first_line s.text is.span ≤ last_line s.text a
        touch-from is order = elim is.line [ inl first ↦ omega (arith, first, to) | inr last ↦ omega (arith, last, order, to) ]

        touch-to : {b : Bar} (is : IsBarOf s marks k b) → first_line s.text is.span < last_line s.text is.span → first_line s.text a ≤ last_line s.text is.span
        touch-to is order = elim is.line [ inl first ↦ omega (arith, first, order, from) | inr last ↦ omega (arith, last, from) ]

    -- where a span begins no end of a span has its depth
    pub no_end : (a : Annotation) → Contains marks a → is_long s.text a ≡ true → first_line s.text a ≡ k → (p : LineAnnotation) → Among (parts_on s marks k) p
        → p.annotation_type ≡ MultilineEnd (depth_of s marks a) → ⊥
    no_end a among long here p on end =
        let b : Bar = record { depth = depth_of s marks a; primary = is_primary p.kind } in
        let is : IsPartOf s marks k p b = part_bar s marks k p b on (ap (λ t. bar_at t (is_primary p.kind)) end) in
        let order = longer is.span is.among is.long in
        let order-a = longer a among long in
        let depth : depth_of s marks is.span ≡ depth_of s marks a = sym (ap (λ (x : Bar). x.depth) is.bar_is) in
        elim is.line [
          | inl start ↦ two_parts (sym start.0 ∙ end)
          | inr last ↦ (let lines = same_lines is.span a (one_place is.span a is.among among is.long long (omega (arith, last.1, order, order-a, here))
              (omega (arith, last.1, here)) depth) in omega (arith, lines.1, last.1, here, order-a))
        ]
      where
        two_parts : {d e : ℕ} → MultilineStart d ≡ MultilineEnd e → ⊥
        two_parts wrong = cc wrong

    -- and where it ends no start
    pub no_start : (a : Annotation) → Contains marks a → is_long s.text a ≡ true → last_line s.text a ≡ k → (p : LineAnnotation) → Among (parts_on s marks k) p
        → p.annotation_type ≡ MultilineStart (depth_of s marks a) → ⊥
    no_start a among long here p on start =
        let b : Bar = record { depth = depth_of s marks a; primary = is_primary p.kind } in
        let is : IsPartOf s marks k p b = part_bar s marks k p b on (ap (λ t. bar_at t (is_primary p.kind)) start) in
        let order = longer is.span is.among is.long in
        let order-a = longer a among long in
        let depth : depth_of s marks is.span ≡ depth_of s marks a = sym (ap (λ (x : Bar). x.depth) is.bar_is) in
        elim is.line [
          | inl first ↦ (let lines = same_lines is.span a (one_place is.span a is.among among is.long long (omega (arith, first.1, here))
              (omega (arith, first.1, order, order-a, here)) depth) in omega (arith, lines.0, first.1, here, order-a))
          | inr end ↦ two_parts (sym start ∙ end.0)
        ]
      where
        two_parts : {d e : ℕ} → MultilineStart d ≡ MultilineEnd e → ⊥
        two_parts wrong = cc wrong

  -- no bar is open above the first line
  pub none_open : AreOpen s marks 0 []
  none_open = record { own = λ bar none. absurd none; all = λ a among long above below. absurd (omega (arith, above)) }

  -- the bars that are open above a line are open above a lower one, where no span begins or ends between
  pub open_lower : (j k : ℕ) (bars : List Bar) → AreOpen s marks j bars → j ≤ k
      → ((a : Annotation) → Contains marks a → is_long s.text a ≡ true → ((first_line s.text a < j) ⊎ (k ≤ first_line s.text a))
      × ((last_line s.text a < j) ⊎ (k ≤ last_line s.text a)))
      → AreOpen s marks k bars
  open_lower j k bars open_bars lower between =
      record {
        own = λ bar here.
            let o = open_bars.own bar here in
            record {
              span = o.span;
              among = o.among;
              long = o.long;
              bar_is = o.bar_is;
              above = omega (arith, o.above, lower);
              below = elim (between o.span o.among o.long).1 [ inl before ↦ absurd (omega (arith, before, o.below)) | inr after ↦ after ];
            };
        all = λ a among long above below.
            open_bars.all a among long (elim (between a among long).0 [ inl before ↦ before | inr after ↦ absurd (omega (arith, after, above)) ])
            (omega (arith, lower, below));
      }

  module _ (k : ℕ) (bars : List Bar) (open_bars : AreOpen s marks k bars) where
    abbrev ends : List Bar
    ends = bars_of_line s marks k

    -- a bar that is open above the line and ends below it goes on past the line
    pub goes_past : (a : Annotation) → Contains marks a → is_long s.text a ≡ true → first_line s.text a < k → k < last_line s.text a
        → Among (bars_apart bars ends) (bar_at_place s marks (place_in s a))
    goes_past a among long above below =
        among_apart bars ends (bar_at_place s marks (place_in s a)) (open_bars.all a among long above (omega (arith, below))) (λ b here same.
        none b (end_bar s marks k b here) same)
      where
        none : (b : Bar) → IsBarOf s marks k b → b.depth ≡ depth_of s marks a → ⊥
        none b is same =
            let order = longer is.span is.among is.long in
            let depth : depth_of s marks a ≡ depth_of s marks is.span = sym same ∙ ap (λ (x : Bar). x.depth) is.bar_is in
            elim is.line [
              | inl first ↦ (let lines = same_lines a is.span (one_place a is.span among is.among long is.long (omega (arith, above, first, order))
                  (omega (arith, below, first)) depth) in omega (arith, above, first, lines.0))
              | inr last ↦ (let lines = same_lines a is.span (one_place a is.span among is.among long is.long (omega (arith, above, last))
                  (omega (arith, below, last, order)) depth) in omega (arith, below, last, lines.1))
            ]

    -- no other bar that is open has its depth
    pub alone : (a : Annotation) → Contains marks a → is_long s.text a ≡ true → first_line s.text a < k → k ≤ last_line s.text a
        → HasOwnDepth (bar_at_place s marks (place_in s a)) bars
    alone a among long above below =
        all_from_among (λ (b : Bar). b.depth ≡ depth_of s marks a → b ≡ bar_at_place s marks (place_in s a)) bars (λ b here same.
        let o = open_bars.own b here in
        let depth : depth_of s marks o.span ≡ depth_of s marks a = sym (ap (λ (x : Bar). x.depth) o.bar_is) ∙ same in
        o.bar_is ∙ ap (bar_at_place s marks) (one_place o.span a o.among among o.long long (omega (arith, o.above, below))
        (omega (arith, o.below, above)) depth))

    -- a bar that is open above the line, or that one of its spans opens, ends below it
    left_open : (bar : Bar) → Among (open_past bars ends) bar → IsOpenBar s marks (k + 1) bar
    left_open bar here =
        elim (append_cases (bars_apart bars ends) (bars_apart ends bars) bar here) [
          | inl past ↦
              let found = apart_cases bars ends bar past in
              let o = open_bars.own bar found.0 in
              record {
                span = o.span;
                among = o.among;
                long = o.long;
                bar_is = o.bar_is;
                above = omega (arith, o.above);
                below = elim (cases_eq (last_line s.text o.span) k) [
                  | inl here ↦ absurd (found.1 (bar_at_place s marks (place_in s o.span)) (end_here s marks k o.span o.among o.long here)
                      (sym (ap (λ (x : Bar). x.depth) o.bar_is)))
                  | inr lower ↦ omega (arith, o.below, lower)
                ];
              }
          | inr begun ↦
              let found = apart_cases ends bars bar begun in
              let is = end_bar s marks k bar found.0 in
              let order = longer is.span is.among is.long in
              let first : first_line s.text is.span ≡ k = elim is.line [
                | inl at ↦ at
                | inr last ↦ absurd (found.1 (bar_at_place s marks (place_in s is.span))
                    (open_bars.all is.span is.among is.long (omega (arith, last, order)) (omega (arith, last))) (sym (ap (λ (x : Bar). x.depth) is.bar_is)))
              ] in
              record { span = is.span; among = is.among; long = is.long; bar_is = is.bar_is; above = omega (arith, first); below = omega (arith, first, order) }
        ]

    -- so those that are open below the line are those of the spans that begin on it or above, and end below
    pub open_next : AreOpen s marks (k + 1) (open_past bars ends)
    open_next =
        record {
          own = left_open;
          all = λ a among long above below.
              elim (cases_lt (first_line s.text a) k) [
                | inl higher ↦ among_left (bars_apart bars ends) (bars_apart ends bars) (bar_at_place s marks (place_in s a))
                    (goes_past a among long higher (omega (arith, below)))
                | inr here ↦ among_right (bars_apart bars ends) (bars_apart ends bars) (bar_at_place s marks (place_in s a))
                    (begins a among long (omega (arith, here, above)))
              ];
        }
      where
        begins : (a : Annotation) → Contains marks a → is_long s.text a ≡ true → first_line s.text a ≡ k
            → Among (bars_apart ends bars) (bar_at_place s marks (place_in s a))
        begins a among long first =
            let order = longer a among long in
            among_apart ends bars (bar_at_place s marks (place_in s a)) (start_here s marks k a among long first) (λ b here same.
            let o = open_bars.own b here in
            let depth : depth_of s marks o.span ≡ depth_of s marks a = sym (ap (λ (x : Bar). x.depth) o.bar_is) ∙ same in
            let lines = same_lines o.span a (one_place o.span a o.among among o.long long (omega (arith, o.above, first, order))
            (omega (arith, o.below, first)) depth) in
            omega (arith, lines.0, o.above, first))
