-- What is measured of a snippet's spans, and of the entries that they become, is measured of no other: no part has more.
use Rattle.snippet_window.proofs.Common.{common_steps, arith, ◌≡◌, ◌∙◌, ℕ, ◌+◌, ◌-◌, Bool, true, false, not, cond, eqb, List, [], ◌∷◌, ◌++◌, Option, map, refl}
use Rattle.snippet_window.proofs.Common.{sym, ap, subst, inl, inr, filter, flat_map, Annotation, LongExtent, AnnotatedLineInfo, LineAnnotation}
use Rattle.snippet_window.proofs.Common.{LineAnnotationType, Singleline, MultilineEnd, Loc, long_entry, long_place, is_long, long_spans, bar_part, single_part}
use Rattle.snippet_window.proofs.Common.{start_part, end_part, span_parts, promoted, long_parts, made_parts, parts_on, KeptLine, kept_line, annotated_lines}
use Rattle.snippet_window.proofs.Common.{seen_kept, depth_among, bar_lines, kept_lines, Source, is_marking, is_single_line, entries_of, line_texts, end_with}
use Rattle.snippet_window.proofs.Common.{is_bar, chars_at, Among, among_left, among_right, append_cases, map_cases, filter_cases, among_flat_map}
use Rattle.snippet_window.proofs.Common.{flat_map_cases, in_order_cases, is_short, long_places, stands_among, stands_before}
use Rattle.std.proofs.Common.{chars}

-- what is measured of an entry: some numbers, by where it starts and ends and by its label
abbrev pub Measure : Type 0
Measure = Loc → Loc → Option (List ℕ) → List ℕ

-- the columns at which an entry starts and ends
abbrev pub columns : Measure
columns start end label = start.display ∷ end.display ∷ []

abbrev pub ends : Measure
ends start end label = end_with end.display label ∷ []

-- what is measured of a part
abbrev pub measured : Measure → LineAnnotation → List ℕ
measured g p = g p.start p.end p.label

-- whether a part has columns
abbrev pub has_columns : LineAnnotation → Bool
has_columns p = not (is_bar p.annotation_type)

abbrev pub measured_parts : Measure → List LineAnnotation → List ℕ
measured_parts g ps = flat_map (measured g) (filter has_columns ps)

-- ---- entries as they are seen

pub single_list : {X : Type 0} (f : X → ℕ) (xs : List X) → map f xs ≡ flat_map (λ x. f x ∷ []) xs
single_list f [] = refl
single_list f (x ∷ xs) = ap (λ ns. f x ∷ ns) (single_list f xs)

pub seen_entries : (infos : List AnnotatedLineInfo) → entries_of infos ≡ flat_map (λ (l : KeptLine). l.parts) (map seen_kept infos)
seen_entries [] = refl
seen_entries (info ∷ infos) =
    ap (λ ps. info.annotations.items ++ ps) (seen_entries infos)

pub seen_texts : (infos : List AnnotatedLineInfo) → line_texts infos ≡ map (λ (l : KeptLine). chars l.text) (map seen_kept infos)
seen_texts [] = refl
seen_texts (info ∷ infos) = ap (λ ts. chars info.line.now ∷ ts) (seen_texts infos)

pub kept_texts : (s : Source) (marks : List Annotation) (ks : List ℕ)
    → map (λ (l : KeptLine). chars l.text) (map (kept_line s marks) ks) ≡ map (chars_at s.text) ks
kept_texts s marks [] = refl
kept_texts s marks (k ∷ ks) = ap (λ ts. chars_at s.text k ∷ ts) (kept_texts s marks ks)

-- ---- what is measured of a span

-- what is measured of a span of several lines: its start, and its end
abbrev pub measured_long : Measure → LineAnnotation → List ℕ
measured_long g e = measured g (start_part e 0) ++ measured g (end_part e Singleline)

abbrev pub measured_span : Measure → Source → Annotation → List ℕ
measured_span g s a =
    cond (not (is_marking a.kind)) [] (cond (is_single_line s.text a) (measured g (single_part s a)) (measured_long g (long_entry s a)))

-- the columns at which the marks of a span start and end, and those after its marks with its label
abbrev pub span_columns : Source → Annotation → List ℕ
span_columns s a = measured_span columns s a

abbrev pub span_ends : Source → Annotation → List ℕ
span_ends s a = measured_span ends s a

-- what is measured of a span on one line is measured of its part
pub short_span : (g : Measure) (s : Source) (a : Annotation) → is_short s.text a ≡ true → measured_span g s a ≡ measured g (single_part s a)
short_span g s a short = grind (arith, common_steps, a.kind, s.text)

-- what is measured of a span of several lines is measured of its entry
pub long_span : (g : Measure) (s : Source) (a : Annotation) → is_long s.text a ≡ true → measured_span g s a ≡ measured_long g (long_entry s a)
long_span g s a long = grind (arith, common_steps, a.kind, s.text)

-- the kind with which a span is drawn isn't measured
pub drawn_start : (g : Measure) (before : List LineAnnotation) (e : LineAnnotation) (depth : ℕ)
    → measured g (start_part (promoted before e) depth) ≡ measured g (start_part e 0)
drawn_start g before e depth = grind (arith, common_steps)

pub drawn_end : (g : Measure) (before : List LineAnnotation) (e : LineAnnotation) (part : LineAnnotationType)
    → measured g (end_part (promoted before e) part) ≡ measured g (end_part e Singleline)
drawn_end g before e part = grind (arith, common_steps)

-- ---- what is measured of the parts is measured of the spans

-- each bar has no columns
bars_none : (e : LineAnnotation) (depth first : ℕ) (ks : List ℕ) (p : LineAnnotation) → Among (map (λ k. bar_part e depth (first + k)) ks) p
    → has_columns p ≡ true → ⊥
bars_none e depth first ks p here some =
    let bar = map_cases (λ k. bar_part e depth (first + k)) ks p here in
    let none : has_columns p ≡ false = ap has_columns (sym bar.2) in
    absurd cc

span_part : (g : Measure) (s : Source) (before : List LineAnnotation) (depth : ℕ) (again : Bool) (e : LineAnnotation) (p : LineAnnotation) (c : ℕ)
    → Among (span_parts s depth again (promoted before e)) p → has_columns p ≡ true → Among (measured g p) c → Among (measured_long g e) c
span_part g s before depth true e p c (inl same) some inside = grind (arith, common_steps, among_right, drawn_end)
span_part g s before depth true e p c (inr later) some inside = elim later [ ]
span_part g s before depth false e p c (inl same) some inside = grind (arith, common_steps, among_left, drawn_start)
span_part g s before depth false e p c (inr later) some inside =
    let x = promoted before e in
    let lines = bar_lines s.text (x.start.line - s.first) (x.end.line - s.first) in
    elim (append_cases (map (λ k. bar_part x depth (s.first + k)) lines) (end_part x (MultilineEnd depth) ∷ []) p later) [
      | inl bar ↦ absurd (bars_none x depth s.first lines p bar some)
      | inr last ↦ closing last
    ]
  where
    closing : Among (end_part (promoted before e) (MultilineEnd depth) ∷ []) p → Among (measured_long g e) c
    closing (inl same) = among_right (measured g (start_part e 0)) (measured g (end_part e Singleline)) c
        (subst (λ ns. Among ns c) (ap (measured g) (sym same) ∙ drawn_end g before e (MultilineEnd depth)) inside)
    closing (inr none) = absurd none

long_part : (g : Measure) (s : Source) (places : List LongExtent) (before es : List LineAnnotation) (p : LineAnnotation) (c : ℕ)
    → Among (long_parts s places before es) p
    → has_columns p ≡ true → Among (measured g p) c → (e : LineAnnotation) × Among es e × Among (measured_long g e) c
long_part g s places before [] p c here some inside = absurd here
long_part g s places before (e ∷ later) p c here some inside =
    elim (append_cases (span_parts s (depth_among places (long_place e)) (stands_among e later) (promoted before e))
    (long_parts s places (before ++ e ∷ []) later) p here) [
      | inl first ↦ (e, inl refl, span_part g s before (depth_among places (long_place e)) (stands_among e later) e p c first some inside)
      | inr rest ↦ (let more = long_part g s places (before ++ e ∷ []) later p c rest some inside in (more.0, inr more.1, more.2))
    ]

-- an entry among the spans of several lines stands for one of them
pub long_among : (s : Source) (marks : List Annotation) (e : LineAnnotation) → Among (long_spans s marks) e
    → (a : Annotation) × Among marks a × (is_long s.text a ≡ true) × (long_entry s a ≡ e)
long_among s marks e here =
    let found = map_cases (long_entry s) (filter (is_long s.text) marks) e
    (in_order_cases stands_before (map (long_entry s) (filter (is_long s.text) marks)) e here) in
    let taken = filter_cases (is_long s.text) marks found.0 found.1 in
    (found.0, taken.0, taken.1, found.2)

made_part : (g : Measure) (s : Source) (marks : List Annotation) (p : LineAnnotation) (c : ℕ) → Among (made_parts s marks) p → has_columns p ≡ true
    → Among (measured g p) c → Among (flat_map (measured_span g s) marks) c
made_part g s marks p c here some inside =
    elim (append_cases (map (single_part s) (filter (is_short s.text) marks)) (long_parts s (long_places s marks) [] (long_spans s marks)) p here) [
      | inl single ↦
          let found = map_cases (single_part s) (filter (is_short s.text) marks) p single in
          let taken = filter_cases (is_short s.text) marks found.0 found.1 in
          among_flat_map (measured_span g s) marks found.0 c taken.0 (subst (λ ns.
          Among ns c) (ap (measured g) (sym found.2) ∙ sym (short_span g s found.0 taken.1)) inside)
      | inr several ↦
          let part = long_part g s (long_places s marks) [] (long_spans s marks) p c several some inside in
          let found = long_among s marks part.0 part.1 in
          among_flat_map (measured_span g s) marks found.0 c found.1 (subst (λ ns.
          Among ns c) (ap (measured_long g) (sym found.3) ∙ sym (long_span g s found.0 found.2)) part.2)
    ]

-- the parts of the kept lines
abbrev pub kept_parts : Bool → Source → List Annotation → List LineAnnotation
kept_parts fold s marks = flat_map (λ (l : KeptLine). l.parts) (annotated_lines fold s marks)

kept_part : (fold : Bool) (s : Source) (marks : List Annotation) (p : LineAnnotation) → Among (kept_parts fold s marks) p → Among (made_parts s marks) p
kept_part fold s marks p here =
    let line = flat_map_cases (λ (l : KeptLine). l.parts) (annotated_lines fold s marks) p here in
    let number = map_cases (kept_line s marks) (kept_lines fold s.text marks) line.0 line.1 in
    let on : Among (parts_on s marks number.0) p = subst (λ (l : KeptLine). Among l.parts p) (sym number.2) line.2 in
    (filter_cases (λ (q : LineAnnotation). eqb q.start.line (s.first + number.0)) (made_parts s marks) p on).0

pub parts_there : (g : Measure) (fold : Bool) (s : Source) (marks : List Annotation) (c : ℕ) → Among (measured_parts g (kept_parts fold s marks)) c
    → Among (flat_map (measured_span g s) marks) c
parts_there g fold s marks c here =
    let part = flat_map_cases (measured g) (filter has_columns (kept_parts fold s marks)) c here in
    let taken = filter_cases has_columns (kept_parts fold s marks) part.0 part.1 in
    made_part g s marks part.0 c (kept_part fold s marks part.0 taken.0) taken.1 part.2
