-- The bounds of a snippet's window follow from its spans, as they do from the entries of its lines.
use Rattle.snippet_window.proofs.Common.{common_steps, ◌≡◌, ◌∙◌, ◌⊎◌, ℕ, ◌+◌, ◌-◌, ◌<◌, ◌≤◌, Bool, true, false, not, cond, eqb, leb, ◌&&◌, ◌||◌, List, [], ◌∷◌}
use Rattle.snippet_window.proofs.Common.{◌++◌, All, None, map, unwrap_or, refl, sym, ap, subst, inl, inr, arith, length, filter, flat_map, cases_Bool, or_right}
use Rattle.snippet_window.proofs.Common.{and_parts, and_from, eq-eqb, eqb-true, nat_tests, Annotation, Primary, LongExtent, AnnotatedLineInfo, LineAnnotation}
use Rattle.snippet_window.proofs.Common.{Singleline, MultilineEnd, Loc, long_entry, long_place, is_long, long_spans, bar_lines, bar_part, single_part}
use Rattle.snippet_window.proofs.Common.{start_part, end_part, span_parts, promoted, long_parts, made_parts, parts_on, KeptLine, kept_line, annotated_lines}
use Rattle.snippet_window.proofs.Common.{seen_kept, same_place, depth_among, keeps, kept_lines, Source, source_lines, is_marking, is_single_line, first_line}
use Rattle.snippet_window.proofs.Common.{last_line, ReachesLines, end_with, margin_of, greatest, least, Extent, start_location, IsSpan, chars_at, Among}
use Rattle.snippet_window.proofs.Common.{all_among, among_left, among_right, append_cases, among_map, among_filter, among_flat_map, flat_map_cases}
use Rattle.snippet_window.proofs.Common.{among_in_order, among_range, any_among, any_cases, least_same, greatest_same, start-line, end-line, entry_of-line}
use Rattle.snippet_window.proofs.Common.{line_of-mono, line_of-within, locations_of-start, start_byte, is_promoted, is_short, long_places, stands_among}
use Rattle.snippet_window.proofs.Common.{stands_before}
use Rattle.snippet_window.proofs.MeasureWords.{margin_by, whitespaces_of, widths_of}
use Rattle.snippet_window.proofs.SpanMeasures.{Measure, columns, drawn_end, drawn_start, ends, has_columns, kept_parts, kept_texts, long_among, long_span}
use Rattle.snippet_window.proofs.SpanMeasures.{measured, measured_long, measured_parts, measured_span, parts_there, seen_entries, seen_texts, short_span}
use Rattle.snippet_window.proofs.SpanMeasures.{single_list, span_columns, span_ends}

-- ---- what is measured of the spans is measured of the parts

drawn_start_line : (before : List LineAnnotation) (e : LineAnnotation) → (promoted before e).start.line ≡ e.start.line
drawn_start_line before e =
    elim (is_promoted before e) as (λ b. (cond b (record e { kind = Primary }) e).start.line ≡ e.start.line) [ true ↦ refl | false ↦ refl ]

drawn_end_line : (before : List LineAnnotation) (e : LineAnnotation) → (promoted before e).end.line ≡ e.end.line
drawn_end_line before e =
    elim (is_promoted before e) as (λ b. (cond b (record e { kind = Primary }) e).end.line ≡ e.end.line) [ true ↦ refl | false ↦ refl ]

-- a part with columns on this line, of which these numbers are measured
abbrev Stands : Measure → List LineAnnotation → ℕ → List ℕ → Type 0
Stands g ps line ns =
    (p : LineAnnotation) × Among ps p × (has_columns p ≡ true) × (p.start.line ≡ line) × (measured g p ≡ ns)

-- the end of a span has a part
span_end : (g : Measure) (s : Source) (before : List LineAnnotation) (depth : ℕ) (again : Bool) (e : LineAnnotation)
    → Stands g (span_parts s depth again (promoted before e)) e.end.line (measured g (end_part e Singleline))
span_end g s before depth true e =
    (end_part (promoted before e) Singleline, inl refl, refl, drawn_end_line before e, drawn_end g before e Singleline)
span_end g s before depth false e =
    let x = promoted before e in
    let bars = map (λ k. bar_part x depth (s.first + k)) (bar_lines s.text (x.start.line - s.first) (x.end.line - s.first)) in
    let p = end_part x (MultilineEnd depth) in
    (p, inr (among_right bars (p ∷ []) p (inl refl)), refl, drawn_end_line before e, drawn_end g before e (MultilineEnd depth))

end_there : (g : Measure) (s : Source) (places : List LongExtent) (before es : List LineAnnotation) (e : LineAnnotation) → Among es e
    → Stands g (long_parts s places before es) e.end.line (measured g (end_part e Singleline))
end_there g s places before [] e here = absurd here
end_there g s places before (d ∷ later) e (inl same) =
    let depth = depth_among places (long_place d) in
    let again = stands_among d later in
    let found = span_end g s before depth again d in (
      found.0,
      among_left (span_parts s depth again (promoted before d)) (long_parts s places (before ++ d ∷ []) later) found.0 found.1,
      found.2,
      found.3
          ∙ ap (λ (x : LineAnnotation). x.end.line) same,
      found.4 ∙ ap (λ (x : LineAnnotation). measured g (end_part x Singleline)) same,
    )
end_there g s places before (d ∷ later) e (inr more) = grind (arith, common_steps, end_there g s places (before ++ d ∷ []) later e more, among_right)

-- of the spans of one place the last has a part at its start
abbrev StandsSomewhere : Measure → Source → List LongExtent → List LineAnnotation → List LineAnnotation → LineAnnotation → Type 0
StandsSomewhere g s places before es e =
    (d : LineAnnotation) × Among es d × (d.start.byte ≡ e.start.byte) × Stands g (long_parts s places before es) d.start.line (measured g (start_part d 0))

later_stands : (g : Measure) (s : Source) (places : List LongExtent) (before later : List LineAnnotation) (d e : LineAnnotation)
    → StandsSomewhere g s places (before ++ d ∷ []) later e → StandsSomewhere g s places before (d ∷ later) e
later_stands g s places before later d e found =
    grind (arith, common_steps, found.3, found.0, found.1, found.2, found.3.0, among_right, found.3.1, found.3.2, found.3.3, found.3.4)

start_there : (g : Measure) (s : Source) (places : List LongExtent) (before es : List LineAnnotation) (e : LineAnnotation) → Among es e
    → StandsSomewhere g s places before es e
start_there g s places before [] e here = absurd here
start_there g s places before (d ∷ later) e (inr more) =
    later_stands g s places before later d e (start_there g s places (before ++ d ∷ []) later e more)
start_there g s places before (d ∷ later) e (inl same) =
    let depth = depth_among places (long_place d) in
    let rest = long_parts s places (before ++ d ∷ []) later in
    elim (cases_Bool (stands_among d later)) [
      | inl again ↦
          let next = any_cases (λ q. same_place (long_place d) (long_place q)) later again in
          let place = and_parts (eqb d.start.byte next.0.start.byte) (eqb d.end.byte next.0.end.byte
          && (eqb d.start.line next.0.start.line && eqb d.end.line next.0.end.line)) next.2 in
          let byte : d.start.byte ≡ next.0.start.byte = eqb-true d.start.byte next.0.start.byte place.0 in
          let found = start_there g s places (before ++ d ∷ []) later next.0 next.1 in
          later_stands g s places before later d e (found.0, found.1, found.2 ∙ sym byte ∙ ap (λ (x : LineAnnotation). x.start.byte) same, found.3)
      | inr last ↦
          let p = start_part (promoted before d) depth in
          let here : Among (span_parts s depth (stands_among d later) (promoted before d)) p = subst (λ b.
          Among (span_parts s depth b (promoted before d)) p) (sym last) (inl refl) in (
            d,
            inl refl,
            ap (λ (x : LineAnnotation). x.start.byte) same,
            (
              p,
              among_left
                  (span_parts s depth (stands_among d later) (promoted before d)) rest p here,
              refl,
              drawn_start_line before d,
              drawn_start g before d depth,
            ),
          )
    ]

-- the lines on which a span starts and ends are kept
keeps-ends : (f l k : ℕ) (x y : Bool) → f ≤ l → (k ≡ f) ⊎ (k ≡ l) → (leb f k && leb k l && (eqb k f || eqb k l || x || y)) ≡ true
keeps-ends f l k x y up (inl first) = grind (arith, nat_tests)
keeps-ends f l k x y up (inr last) = grind (arith, nat_tests)

line_kept : (fold : Bool) (source : List ℕ) (marks : List Annotation) (a : Annotation) (k : ℕ) → Among marks a → k < length (source_lines source)
    → keeps source k a ≡ true → Among (kept_lines fold source marks) k
line_kept fold source marks a k here within keep = grind (arith, common_steps, among_filter, among_range, or_right, any_among)

first_kept : (fold : Bool) (source : List ℕ) (marks : List Annotation) (a : Annotation) → a.span.start ≤ a.span.end → Among marks a
    → Among (kept_lines fold source marks) (first_line source a)
first_kept fold source marks a ordered here = grind (arith, common_steps, line_of-mono, a.span.start, a.span.end, line_of-within, line_kept, keeps-ends)

last_kept : (fold : Bool) (source : List ℕ) (marks : List Annotation) (a : Annotation) → a.span.start ≤ a.span.end → Among marks a
    → Among (kept_lines fold source marks) (last_line source a)
last_kept fold source marks a ordered here = grind (arith, common_steps, line_of-mono, a.span.start, a.span.end, line_of-within, line_kept, keeps-ends)

-- a part that stands on a kept line is measured
part_measured : (g : Measure) (fold : Bool) (s : Source) (marks : List Annotation) (k c : ℕ) (ns : List ℕ) → Among (kept_lines fold s.text marks) k
    → Stands g (made_parts s marks) (s.first + k) ns → Among ns c → Among (measured_parts g (kept_parts fold s marks)) c
part_measured g fold s marks k c ns kept found inside =
    let p = found.0 in
    let on : Among (parts_on s marks k) p = among_filter (λ (q : LineAnnotation). eqb q.start.line (s.first + k)) (made_parts s marks) p found.1
    (eq-eqb p.start.line (s.first + k) found.3) in
    let here : Among (kept_parts fold s marks) p = among_flat_map (λ (l : KeptLine). l.parts) (annotated_lines fold s marks) (kept_line s marks k) p
    (among_map (kept_line s marks) (kept_lines fold s.text marks) k kept) on in
    among_flat_map (measured g) (filter has_columns (kept_parts fold s marks)) p c (among_filter has_columns (kept_parts fold s marks) p here found.2)
    (subst (λ ms. Among ms c) (sym found.4) inside)

same_start : (s : Source) (a b : Annotation) → a.span.start ≡ b.span.start → (long_entry s a).start ≡ (long_entry s b).start
same_start s a b same =
    locations_of-start s a.span.start a.span.end ∙ ap (start_location s) same ∙ sym (locations_of-start s b.span.start b.span.end)

long_there : (s : Source) (marks : List Annotation) (a : Annotation) → Among marks a → is_long s.text a ≡ true → Among (long_spans s marks) (long_entry s a)
long_there s marks a here long =
    among_in_order stands_before (map (long_entry s) (filter (is_long s.text) marks)) (long_entry s a)
    (among_map (long_entry s) (filter (is_long s.text) marks) a (among_filter (is_long s.text) marks a here long))

made_long : (g : Measure) (s : Source) (marks : List Annotation) (line : ℕ) (ns : List ℕ)
    → Stands g (long_parts s (long_places s marks) [] (long_spans s marks)) line ns → Stands g (made_parts s marks) line ns
made_long g s marks line ns found = grind (arith, common_steps, found.0, among_right, s.text, found.1, found.2, found.3, found.4)

short_back : (g : Measure) (fold : Bool) (s : Source) (marks : List Annotation) (a : Annotation) (c : ℕ) → a.span.start ≤ a.span.end → Among marks a
    → is_short s.text a ≡ true → Among (measured g (single_part s a)) c → Among (measured_parts g (kept_parts fold s marks)) c
short_back g fold s marks a c ordered here short inside =
    let p = single_part s a in
    let made : Among (made_parts s marks) p = among_left (map (single_part s) (filter (is_short s.text) marks))
    (long_parts s (long_places s marks) [] (long_spans s marks)) p
    (among_map (single_part s) (filter (is_short s.text) marks) a (among_filter (is_short s.text) marks a here short)) in
    part_measured g fold s marks (first_line s.text a) c (measured g p) (first_kept fold s.text marks a ordered here)
    (p, made, refl, entry_of-line s a, refl) inside

start_back : (g : Measure) (fold : Bool) (s : Source) (marks : List Annotation) (a : Annotation) (c : ℕ)
    → All (λ (b : Annotation). IsSpan s.text b.span.start b.span.end) marks → Among marks a → is_long s.text a ≡ true
    → Among (measured g (start_part (long_entry s a) 0)) c → Among (measured_parts g (kept_parts fold s marks)) c
start_back g fold s marks a c spans here long inside =
    let there = start_there g s (long_places s marks) [] (long_spans s marks) (long_entry s a) (long_there s marks a here long) in
    let found = long_among s marks there.0 there.1 in
    let b = found.0 in
    let span = all_among (λ (x : Annotation). IsSpan s.text x.span.start x.span.end) marks b spans found.1 in
    let byte : b.span.start ≡ a.span.start = sym (start_byte s b) ∙ ap (λ (x : LineAnnotation). x.start.byte) found.3 ∙ there.2 ∙ start_byte s a in
    let start : there.0.start ≡ (long_entry s a).start = ap (λ (x : LineAnnotation). x.start) (sym found.3) ∙ same_start s b a byte in
    let line : there.0.start.line
    ≡ s.first + first_line s.text b = ap (λ (x : LineAnnotation). x.start.line) (sym found.3) ∙ start-line s b.span.start b.span.end in
    let part = there.3 in
    let read : Loc → List ℕ = λ l. g l (record { line = l.line; char = l.char + 1; display = l.display + 1; byte = l.byte }) None in
    part_measured g fold s marks (first_line s.text b) c (measured g (start_part (long_entry s a) 0))
    (first_kept fold s.text marks b span.ordered found.1)
    (made_long g s marks (s.first + first_line s.text b) (measured g (start_part (long_entry s a) 0))
    (part.0, part.1, part.2, part.3 ∙ line, part.4 ∙ ap read start)) inside

end_back : (g : Measure) (fold : Bool) (s : Source) (marks : List Annotation) (a : Annotation) (c : ℕ) → a.span.start ≤ a.span.end → Among marks a
    → is_long s.text a ≡ true → Among (measured g (end_part (long_entry s a) Singleline)) c → Among (measured_parts g (kept_parts fold s marks)) c
end_back g fold s marks a c ordered here long inside =
    let part = end_there g s (long_places s marks) [] (long_spans s marks) (long_entry s a) (long_there s marks a here long) in
    part_measured g fold s marks (last_line s.text a) c (measured g (end_part (long_entry s a) Singleline))
    (last_kept fold s.text marks a ordered here)
    (made_long g s marks (s.first + last_line s.text a) (measured g (end_part (long_entry s a) Singleline))
    (part.0, part.1, part.2, part.3 ∙ end-line s a.span.start a.span.end, part.4)) inside

parts_back : (g : Measure) (fold : Bool) (s : Source) (marks : List Annotation) (c : ℕ) → All (λ (b : Annotation). IsSpan s.text b.span.start b.span.end) marks
    → Among (flat_map (measured_span g s) marks) c → Among (measured_parts g (kept_parts fold s marks)) c
parts_back g fold s marks c spans here =
    let found = flat_map_cases (measured_span g s) marks c here in
    let a = found.0 in
    let ordered : a.span.start ≤ a.span.end = (all_among (λ (x : Annotation). IsSpan s.text x.span.start x.span.end) marks a spans found.1).ordered in
    let single = measured g (single_part s a) in
    let several = measured_long g (long_entry s a) in
    elim (cases_Bool (is_marking a.kind)) [
      | inr unmarked ↦ absurd (subst (λ b. Among (cond (not b) [] (cond (is_single_line s.text a) single several)) c) unmarked found.2)
      | inl marked ↦ elim (cases_Bool (is_single_line s.text a)) [
        | inl one ↦
            let short : is_short s.text a ≡ true = and_from (is_marking a.kind) (is_single_line s.text a) marked one in
            short_back g fold s marks a c ordered found.1 short (subst (λ ns. Among ns c) (short_span g s a short) found.2)
        | inr some ↦
            let long : is_long s.text a ≡ true = and_from (is_marking a.kind) (not (is_single_line s.text a)) marked (ap not some) in
            elim (append_cases (measured g (start_part (long_entry s a) 0)) (measured g (end_part (long_entry s a) Singleline)) c
            (subst (λ ns. Among ns c) (long_span g s a long) found.2)) [
              | inl start ↦ start_back g fold s marks a c spans found.1 long start
              | inr end ↦ end_back g fold s marks a c ordered found.1 long end
            ]
      ]
    ]

-- ---- the laws

-- the bounds for how far lines reach are those for the lines as they are seen
pub bounds_reached : (room : ℕ) (infos : List AnnotatedLineInfo) (x : Extent) → ReachesLines infos x
    → margin_by (unwrap_or x.whitespace 0) (unwrap_or x.first 0) x.last x.label_end room x.widest ≡ margin_of room (map seen_kept infos)
bounds_reached room infos x reaches =
    grind (
      arith,
      common_steps,
      seen_entries,
      single_list,
      x.whitespace,
      reaches.whitespace,
      seen_texts,
      x.first,
      reaches.entries.first,
      x.last,
      x.label_end,
      x.widest,
      reaches.entries.last,
      reaches.entries.label_end,
      reaches.widest,
    )

-- the bounds for the lines that are kept follow from the spans
pub margin_of_spans : (room : ℕ) (fold : Bool) (s : Source) (marks : List Annotation) → All (λ (a : Annotation). IsSpan s.text a.span.start a.span.end) marks
    → margin_of room (annotated_lines fold s marks)
    ≡ margin_by (unwrap_or (least (whitespaces_of (map (chars_at s.text) (kept_lines fold s.text marks)))) 0)
    (unwrap_or (least (flat_map (span_columns s) marks)) 0) (greatest (flat_map (span_columns s) marks)) (greatest (flat_map (span_ends s) marks)) room
    (greatest (widths_of (map (chars_at s.text) (kept_lines fold s.text marks))))
margin_of_spans room fold s marks spans =
    let parts = filter has_columns (kept_parts fold s marks) in
    let end_of : LineAnnotation → ℕ = λ p. end_with p.end.display p.label in
    let texts = map (chars_at s.text) (kept_lines fold s.text marks) in
    let low : unwrap_or (least (flat_map (measured columns) parts)) 0 ≡ unwrap_or (least (flat_map (span_columns s) marks)) 0 =
    least_same (measured_parts columns (kept_parts fold s marks)) (flat_map (span_columns s) marks) (parts_there columns fold s marks)
    (λ c. parts_back columns fold s marks c spans) in
    let high : greatest (flat_map (measured columns) parts) ≡ greatest (flat_map (span_columns s) marks) =
    greatest_same (measured_parts columns (kept_parts fold s marks)) (flat_map (span_columns s) marks) (parts_there columns fold s marks) (λ c.
    parts_back columns fold s marks c spans) in
    let after : greatest (map end_of parts) ≡ greatest (flat_map (span_ends s) marks) = ap greatest (single_list end_of parts)
    ∙ greatest_same (measured_parts ends (kept_parts fold s marks)) (flat_map (span_ends s) marks) (parts_there ends fold s marks) (λ c.
    parts_back ends fold s marks c spans) in
    ap (λ ts. margin_by (unwrap_or (least (whitespaces_of ts)) 0) (unwrap_or (least (flat_map (measured columns) parts)) 0)
    (greatest (flat_map (measured columns) parts)) (greatest (map end_of parts)) room (greatest (widths_of ts)))
    (kept_texts s marks (kept_lines fold s.text marks))
    ∙ ap (λ n. margin_by (unwrap_or (least (whitespaces_of texts)) 0) n (greatest (flat_map (measured columns) parts)) (greatest (map end_of parts))
    room (greatest (widths_of texts))) low ∙ ap
    (λ n. margin_by (unwrap_or (least (whitespaces_of texts)) 0) (unwrap_or (least (flat_map (span_columns s) marks)) 0)
    n (greatest (map end_of parts)) room (greatest (widths_of texts))) high
    ∙ ap (λ n. margin_by (unwrap_or (least (whitespaces_of texts)) 0) (unwrap_or (least (flat_map (span_columns s) marks)) 0)
    (greatest (flat_map (span_columns s) marks)) n room (greatest (widths_of texts))) after
