-- Where a snippet stands whole, nothing of its lines is cut on the left.
use Rattle.snippet_window.proofs.Common.{common_steps, ◌≡◌, ◌∙◌, ℕ, ◌+◌, ◌-◌, ◌≤◌, Bool, true, false, not, cond, eqb, leb, max, min, ◌&&◌, ◌||◌, List, [], ◌∷◌}
use Rattle.snippet_window.proofs.Common.{◌++◌, Option, Some, None, map, unwrap_or, refl, ap, inl, inr, arith, cons_option, flat_map, list_all, list_any}
use Rattle.snippet_window.proofs.Common.{is_none, option_map_or, cases_Bool, cond-true, cond-false, and_parts, and_from, not-true, leb-true, or_cases}
use Rattle.snippet_window.proofs.Common.{nat_tests, width_of, Annotation, annotated_lines, long_entry, single_part, kept_lines, Source, is_marking}
use Rattle.snippet_window.proofs.Common.{is_marked_on, is_single_line, is_wide, start_column, greatest, least, margin_of, IsSpan, end_location, location_of}
use Rattle.snippet_window.proofs.Common.{place_of, chars_at, end_mark_column, is_near_left, is_near_span, leading_whitespace, stands_whole, Among, among_map}
use Rattle.snippet_window.proofs.Common.{map_cases, among_flat_map, any_cases, least_le, greatest_most, all_pass, among_filter_map, start_column-from}
use Rattle.snippet_window.proofs.Common.{locations_of-end, Margin}
use Rattle.std.specs.List.{All}
use Rattle.snippet_window.proofs.MarginLaws.{margin_of_spans}
use Rattle.snippet_window.proofs.SpanMeasures.{columns, measured, measured_long, long_span, span_columns, span_ends}
use Rattle.snippet_window.proofs.MeasureWords.{margin_by, whitespaces_of, widths_of}

-- lines of which each is blank begin with no whitespace that counts
blank_none : (source ks : List ℕ) → list_all (λ k. is_none (leading_whitespace (chars_at source k))) ks ≡ true → whitespaces_of (map (chars_at source) ks) ≡ []
blank_none source [] all = refl
blank_none source (k ∷ ks) all =
    let both = and_parts (is_none (leading_whitespace (chars_at source k))) (list_all (λ j. is_none (leading_whitespace (chars_at source j))) ks) all in
    none (leading_whitespace (chars_at source k)) both.0 (blank_none source ks both.1)
  where
    none : (o : Option ℕ) → is_none o ≡ true → whitespaces_of (map (chars_at source) ks) ≡ [] → cons_option o (whitespaces_of (map (chars_at source) ks)) ≡ []
    none None blank rest = rest
    none (Some n) blank rest = absurd cc

-- the width is known and at most 26
abbrev is_near : Option ℕ → Bool
is_near o = option_map_or (λ columns. leb columns 26) o false

near_some : (o : Option ℕ) → is_near o ≡ true → (n : ℕ) × (o ≡ Some n) × (n ≤ 26)
near_some None near = absurd cc
near_some (Some n) near = (n, refl, leb-true n 26 near)

-- spans that aren't marked have no columns
unmarked_none : (s : Source) (marks : List Annotation) → list_all (λ (a : Annotation). not (is_marking a.kind)) marks ≡ true
    → flat_map (span_columns s) marks ≡ []
unmarked_none s [] all = refl
unmarked_none s (a ∷ marks) all =
    let both = and_parts (not (is_marking a.kind)) (list_all (λ (b : Annotation). not (is_marking b.kind)) marks) all in
    ap (λ b. cond b [] (cond (is_single_line s.text a) (measured columns (single_part s a)) (measured_long columns (long_entry s a)))
    ++ flat_map (span_columns s) marks) both.0 ∙ unmarked_none s marks both.1

-- the column at which a span of several lines ends doesn't depend on the number of the first line
same_lines : (f a b : ℕ) → eqb (f + a) (f + b) ≡ eqb (0 + a) (0 + b)
same_lines f a b = grind (arith, nat_tests)

end_display : (s : Source) (start end : ℕ) → (end_location s start end).display ≡ (end_location (record { text = s.text; first = 0 }) start end).display
unfolding end_location location_of place_of
end_display s start end = grind (arith, common_steps, s.text, same_lines, s.first)

end_mark : (s : Source) (a : Annotation) → is_single_line s.text a ≡ false → (long_entry s a).end.display - 1 ≡ end_mark_column s.text a
end_mark s a several = grind (arith, common_steps, a.span.start, a.span.end, s.text, locations_of-end, end_display)

-- the first column of a span, and that of the mark at the end of one of several lines
start_among : (s : Source) (a : Annotation) → is_marking a.kind ≡ true → Among (span_columns s a) (start_column s.text a)
start_among s a marked = grind (arith, common_steps, start_column-from, cases_Bool, long_span)

end_among : (s : Source) (a : Annotation) → is_marking a.kind ≡ true → is_single_line s.text a ≡ false → Among (span_columns s a) (end_mark_column s.text a)
end_among s a marked some = grind (arith, common_steps, s.text, long_span, and_from, a.kind, end_mark)

near_span : (s : Source) (marks : List Annotation) → list_any (is_near_span s.text) marks ≡ true → unwrap_or (least (flat_map (span_columns s) marks)) 0 ≤ 26
near_span s marks any =
    let found = any_cases (is_near_span s.text) marks any in
    let a = found.0 in
    let all = flat_map (span_columns s) marks in
    let starts : Bool = leb (start_column s.text a) 26 in
    let closes : Bool = leb (end_mark_column s.text a) 26 in
    let both = and_parts (is_marking a.kind) (starts || (not (is_single_line s.text a) && closes)) found.2 in
    elim (or_cases starts (not (is_single_line s.text a) && closes) both.1) [
      | inl start ↦ omega (
        arith,
        leb-true (start_column s.text a) 26 start,
        least_le all (start_column s.text a)
            (among_flat_map (span_columns s) marks a (start_column s.text a) found.1 (start_among s a both.0)),
      )
      | inr end ↦
          let parts = and_parts (not (is_single_line s.text a)) closes end in
          omega (
            arith,
            leb-true (end_mark_column s.text a) 26 parts.1,
            least_le all (end_mark_column s.text a)
                (among_flat_map (span_columns s) marks a (end_mark_column s.text a) found.1
                (end_among s a both.0 (not-true (is_single_line s.text a) parts.0))),
          )
    ]

near_line : (source ks : List ℕ) → list_any (λ k. is_near (leading_whitespace (chars_at source k))) ks ≡ true
    → unwrap_or (least (whitespaces_of (map (chars_at source) ks))) 0 ≤ 26
near_line source ks any =
    let found = any_cases (λ k. is_near (leading_whitespace (chars_at source k))) ks any in
    let near = near_some (leading_whitespace (chars_at source found.0)) found.2 in
    omega (
      arith,
      near.2,
      least_le (whitespaces_of (map (chars_at source) ks)) near.0
          (among_filter_map leading_whitespace (map (chars_at source) ks) (chars_at source found.0) near.0
          (among_map (chars_at source) ks found.0 found.1) near.1),
    )

near_left : (s : Source) (marks : List Annotation) (ks : List ℕ) → is_near_left s.text ks marks ≡ true
    → min (unwrap_or (least (whitespaces_of (map (chars_at s.text) ks))) 0) (unwrap_or (least (flat_map (span_columns s) marks)) 0) ≤ 26
near_left s marks ks near =
    let blank : Bool = list_all (λ k. is_none (leading_whitespace (chars_at s.text k))) ks in
    let line : Bool = list_any (λ k. is_near (leading_whitespace (chars_at s.text k))) ks in
    let span : Bool = list_any (is_near_span s.text) marks in
    let unmarked : Bool = list_all (λ (a : Annotation). not (is_marking a.kind)) marks in
    elim (or_cases (blank || line || span) unmarked near) [
      | inr none ↦ omega (arith, ap (λ ns. unwrap_or (least ns) 0) (unmarked_none s marks none))
      | inl known ↦ elim (or_cases (blank || line) span known) [
        | inr here ↦ omega (arith, near_span s marks here)
        | inl lines ↦ elim (or_cases blank line lines) [
          | inr here ↦ omega (arith, near_line s.text ks here)
          | inl none ↦ omega (arith, ap (λ ns. unwrap_or (least ns) 0) (blank_none s.text ks none))
        ]
      ]
    ]

-- lines that fit the room, of which little is blank on the left, aren't cut
uncut_left : (left room widest : ℕ) (rest : Margin) → left ≡ 0 → widest ≤ room
    → (cond (leb (max widest left - left) room) (record { computed_left = left; computed_right = max widest left; term_width = room }) rest).computed_left ≡ 0
uncut_left left room widest rest none fits = grind (arith, common_steps, nat_tests, cond-true)

margin_near : (whitespace first last after room widest : ℕ) → min whitespace first ≤ 26 → widest ≤ room
    → (margin_by whitespace first last after room widest).computed_left ≡ 0
margin_near whitespace first last after room widest near fits = grind (arith, common_steps, uncut_left, cond-false, nat_tests)

-- where a line stands whole, nothing is cut on the left
pub margin_whole : (room placeholder_width : ℕ) (fold : Bool) (s : Source) (marks : List Annotation) (k : ℕ)
    → All (λ (a : Annotation). IsSpan s.text a.span.start a.span.end) marks → stands_whole room placeholder_width fold s.text marks k ≡ true
    → (margin_of room (annotated_lines fold s marks)).computed_left ≡ 0
margin_whole room placeholder_width fold s marks k spans whole =
    let kept = kept_lines fold s.text marks in
    let here : Bool = leb (width_of (chars_at s.text k)) room in
    let fit : Bool = list_all (λ j. leb (width_of (chars_at s.text j)) room) kept in
    let near : Bool = is_near_left s.text kept marks in
    let narrow : Bool = list_all (λ (a : Annotation). not (is_marked_on s.text k a && is_wide room placeholder_width s.text a)) marks in
    let front = and_parts (here && fit && near) narrow whole in
    let known = and_parts (here && fit) near front.0 in
    let fits = and_parts here fit known.0 in
    let texts = map (chars_at s.text) kept in
    let widest : greatest (widths_of texts) ≤ room = greatest_most (widths_of texts) room (each fits.1) in
    ap (λ (m : Margin). m.computed_left) (margin_of_spans room fold s marks spans)
    ∙ margin_near _ _ (greatest (flat_map (span_columns s) marks)) (greatest (flat_map (span_ends s) marks)) room (greatest (widths_of texts))
    (near_left s marks kept known.1) widest
  where
    each : list_all (λ j. leb (width_of (chars_at s.text j)) room) (kept_lines fold s.text marks) ≡ true → (n : ℕ)
        → Among (widths_of (map (chars_at s.text) (kept_lines fold s.text marks))) n → n ≤ room
    each all n among =
        let text = map_cases width_of (map (chars_at s.text) (kept_lines fold s.text marks)) n among in
        let line = map_cases (chars_at s.text) (kept_lines fold s.text marks) text.0 text.1 in
        omega (
          arith,
          text.2,
          ap width_of line.2,
          leb-true (width_of (chars_at s.text line.0)) room
              (all_pass (λ j. leb (width_of (chars_at s.text j)) room) (kept_lines fold s.text marks) line.0 all line.1),
        )
