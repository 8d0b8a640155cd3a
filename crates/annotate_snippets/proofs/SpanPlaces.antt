-- The place of a span is its bytes: so the bar of a span is that of its place.
use Rattle.std.proofs.Common.{arith}
use Rattle.annotate_snippets.proofs.Common.{◌≡◌, ℕ, ◌==◌, ◌&&◌, Bool, true, false, eqb, List, map, refl, sym, ap, ◌∙◌, filter, and_from}
use Rattle.annotate_snippets.proofs.Common.{and_parts, cond_both, eq-eqb, eqb-true, is_primary, Annotation, AnnotationKind, Primary, Context, Visible, Snippet}
use Rattle.annotate_snippets.proofs.Common.{Loc, Source, end_location, location_of, locations_of, start_location, LineAnnotation, LongExtent, depth_of, is_long}
use Rattle.annotate_snippets.proofs.Common.{long_entry, long_place, long_spans, same_place, is_marking, among_filter, among_in_order, among_map, any_among}
use Rattle.annotate_snippets.proofs.Common.{any_cases, filter_cases, in_order_cases, map_cases, same-refl, same-true, Layout, bar_cell, Bar, numbered_source}
use Rattle.annotate_snippets.proofs.Common.{bar_of_span, stands_before}
use Rattle.annotate_snippets.proofs.SpanOpen.{bar_at_place, place_in}
use Rattle.annotate_snippets.proofs.SpanParts.{is_primary_at}

-- the cell of a row in which the bar of a span stands: at depth 1 the second after the separator
abbrev pub bar_cell_of : Layout → Snippet Annotation → Annotation → ℕ
bar_cell_of layout s a = bar_cell layout (depth_of (numbered_source s) s.markers.items a)

-- ---- the place of a span is its bytes

starts_at : (s : Source) (start end : ℕ) → (locations_of s start end).0.byte ≡ start
unfolding locations_of start_location location_of
starts_at s start end = refl

ends_at : (s : Source) (start end : ℕ) → (locations_of s start end).1.byte ≡ end
unfolding locations_of start_location end_location location_of
ends_at s start end =
    cond_both (eqb start end) (start_location s start) (end_location s start end) (λ (l : Loc). l.byte ≡ end) (λ same. eqb-true start end same) (λ _. refl)

place_from : Source → ℕ → ℕ → LongExtent
place_from s start end =
    let at = locations_of s start end in
    record { from = at.0.byte; to = at.1.byte; first = at.0.line; last = at.1.line }

-- spans of the same bytes have one place
pub same_bytes : (s : Source) (a b : Annotation) → a.span.start ≡ b.span.start → a.span.end ≡ b.span.end → place_in s a ≡ place_in s b
unfolding place_from
same_bytes s a b starts ends = ap (λ n. place_from s n a.span.end) starts ∙ ap (λ n. place_from s b.span.start n) ends

-- and spans of one place the same bytes
pub bytes_same : (s : Source) (a b : Annotation) → place_in s a ≡ place_in s b → (a.span.start ≡ b.span.start) × (a.span.end ≡ b.span.end)
bytes_same s a b same = grind (arith, starts_at, ends_at, a.span.start, a.span.end, b.span.start, b.span.end)

-- primary spans are marked
primary_marks : (k : AnnotationKind) → is_primary k ≡ true → is_marking k ≡ true
primary_marks Primary is = refl
primary_marks Context is = cc
primary_marks Visible is = cc

-- a span of the bytes of one of several lines is of several lines
long_too : (source : List ℕ) (a b : Annotation) → is_long source a ≡ true → is_marking b.kind ≡ true → b.span.start ≡ a.span.start → b.span.end ≡ a.span.end
    → is_long source b ≡ true
long_too source a b long marking starts ends = grind (arith, and_parts, and_from, a.kind, b.kind)

-- tests that pass where the other does are the same
pass_alike : (x y : Bool) → (x ≡ true → y ≡ true) → (y ≡ true → x ≡ true) → x ≡ y
pass_alike true y there back = sym (there refl)
pass_alike false true there back = back refl
pass_alike false false there back = refl

module _ (s : Snippet Annotation) where
  abbrev pub source : Source
  source = numbered_source s

  abbrev pub marks : List Annotation
  marks = s.markers.items

  abbrev pub bar_by_place : Annotation → Bar
  bar_by_place a = bar_at_place source marks (place_in source a)

  -- the bar of a span's place is primary where one of the spans of its bytes is
  pub bar_given : (a : Annotation) → is_long source.text a ≡ true → bar_by_place a ≡ bar_of_span s a
  bar_given a long =
      ap (λ b. record { depth = depth_of source marks a; primary = b })
      (pass_alike (is_primary_at (long_spans source marks) (place_in source a)) (bar_of_span s a).primary given back)
    where
      given : is_primary_at (long_spans source marks) (place_in source a) ≡ true → (bar_of_span s a).primary ≡ true
      given there =
          let d = any_cases (λ (d : LineAnnotation). is_primary d.kind && same_place (place_in source a) (long_place d)) (long_spans source marks) there in
          let made = map_cases (long_entry source) (filter (is_long source.text) marks) d.0
          (in_order_cases stands_before (map (long_entry source) (filter (is_long source.text) marks)) d.0 d.1) in
          let b : Annotation = made.0 in
          let among = filter_cases (is_long source.text) marks b made.1 in
          let parts = and_parts (is_primary d.0.kind) (same_place (place_in source a) (long_place d.0)) d.2 in
          let bytes = bytes_same source b a (ap long_place made.2 ∙ sym (same-true (place_in source a) (long_place d.0) parts.1)) in
          let primary : is_primary b.kind ≡ true = ap (λ (e : LineAnnotation). is_primary e.kind) made.2 ∙ parts.0 in
          any_among (λ (b : Annotation). is_primary b.kind && (b.span.start == a.span.start && b.span.end == a.span.end)) marks b among.0
          (and_from (is_primary b.kind) (b.span.start == a.span.start && b.span.end == a.span.end) primary
          (and_from (b.span.start == a.span.start) (b.span.end == a.span.end) (eq-eqb b.span.start a.span.start bytes.0)
          (eq-eqb b.span.end a.span.end bytes.1)))

      back : (bar_of_span s a).primary ≡ true → is_primary_at (long_spans source marks) (place_in source a) ≡ true
      back there =
          let found = any_cases (λ (b : Annotation). is_primary b.kind && (b.span.start == a.span.start && b.span.end == a.span.end)) marks there in
          let b : Annotation = found.0 in
          let parts = and_parts (is_primary b.kind) (b.span.start == a.span.start && b.span.end == a.span.end) found.2 in
          let bytes = and_parts (b.span.start == a.span.start) (b.span.end == a.span.end) parts.1 in
          let starts : b.span.start ≡ a.span.start = eqb-true b.span.start a.span.start bytes.0 in
          let ends : b.span.end ≡ a.span.end = eqb-true b.span.end a.span.end bytes.1 in
          let among = among_filter (is_long source.text) marks b found.1 (long_too source.text a b long (primary_marks b.kind parts.0) starts ends) in
          let ordered = among_in_order stands_before (map (long_entry source) (filter (is_long source.text) marks)) (long_entry source b)
          (among_map (long_entry source) (filter (is_long source.text) marks) b among) in
          let same : same_place (place_in source a) (place_in source b) ≡ true = cc (same_bytes source b a starts ends, same-refl (place_in source a)) in
          any_among (λ (d : LineAnnotation). is_primary d.kind && same_place (place_in source a) (long_place d)) (long_spans source marks)
          (long_entry source b) ordered (and_from (is_primary b.kind) (same_place (place_in source a) (place_in source b)) parts.0 same)
