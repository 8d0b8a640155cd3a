-- The entries of a line end where its spans do.
use Rattle.std.proofs.lemmas.Grind.{common_steps}
use Rattle.annotate_snippets.proofs.Common.{◌≡◌, ℕ, ◌+◌, ◌-◌, ◌<◌, ◌≤◌, ◌==◌, ◌||◌, Bool, true, false, List, map, get_or, refl, sym, subst, arith}
use Rattle.annotate_snippets.proofs.Common.{cases_Bool, eqb-true, filter_passes, All-contains, All-filter, All-map, Annotation, Contains, Source, first_line}
use Rattle.annotate_snippets.proofs.Common.{start_column, is_bar, is_long, is_start_part, locations_of, long_entry, made-all, made_parts, parts_on}
use Rattle.annotate_snippets.proofs.Common.{LineAnnotation, Layout, shifted}
use Rattle.std.specs.List.{All}
use Rattle.snippet_parts.proofs.MarkLemmas.{first_line-from, start_column-from}
use Rattle.snippet_strokes.proofs.SeenLabels.{EndsBy}

module _ (s : Source) (marks : List Annotation) (k dropped edge : ℕ) (layout : Layout) (right : layout.code < edge)
    (starts : All (λ a. is_long s.text a ≡ true → first_line s.text a ≡ k → layout.code + (start_column s.text a - dropped) < edge) marks) where
  abbrev is_on_line : LineAnnotation → Bool
  is_on_line p = p.start.line == s.first + k

  -- whether an entry is one at which no span ends
  abbrev is_before_end : LineAnnotation → Bool
  is_before_end p = is_start_part p.annotation_type || is_bar p.annotation_type

  -- what is known of an entry's columns: where a span ends it covers one, if there is any before its end; and any other one of the line begins
  -- before this cell, and covers no more than one
  record HasColumns (p : LineAnnotation) : Type 0 where
    pub ending : is_before_end p ≡ false → p.start.display ≤ p.end.display - 1
    pub begins : is_before_end p ≡ true → is_on_line p ≡ true → layout.code + (p.start.display - dropped) < edge
    pub narrow : is_before_end p ≡ true → p.end.display ≤ p.start.display + 1

  -- the start of a span of several lines
  begun : (a : Annotation) → Contains marks a → is_long s.text a ≡ true → (long_entry s a).start.line == s.first + k ≡ true
      → layout.code + ((long_entry s a).start.display - dropped) < edge
  begun a among long line =
      let S : Annotation → Type 0 = λ x. is_long s.text x ≡ true → first_line s.text x ≡ k → layout.code + (start_column s.text x - dropped) < edge in
      let at = locations_of s a.span.start a.span.end in
      let here : first_line s.text a ≡ k = omega (arith, eqb-true (long_entry s a).start.line (s.first + k) line, first_line-from s a at refl) in
      omega (arith, All-contains S marks a starts among long here, start_column-from s a at refl)

  made : All HasColumns (made_parts s marks)
  made =
      made-all HasColumns s marks (λ a among short. record { ending = λ _. omega arith; begins = λ wrong. cc wrong; narrow = λ wrong. cc wrong })
      (λ a among long kind. record {
        start = record { ending = λ wrong. cc wrong; begins = λ _ line. begun a among long line; narrow = λ _. omega arith };
        bars = λ i d within. record { ending = λ wrong. cc wrong; begins = λ _ _. omega (arith, right); narrow = λ _. omega arith };
        end = record { ending = λ _. omega arith; begins = λ wrong. cc wrong; narrow = λ wrong. cc wrong };
        again = record { ending = λ _. omega arith; begins = λ wrong. cc wrong; narrow = λ wrong. cc wrong };
      })

  -- so all entries of a line end by a cell right of where the code begins, where its spans of several lines begin before it, and those that
  -- end on the line do so by it
  pub entries_end : (es : List LineAnnotation) → es ≡ parts_on s marks k
      → All (λ (p : LineAnnotation). is_before_end p ≡ false → layout.code + (p.end.display - dropped) ≤ edge) es
      → All (EndsBy layout edge) (map (shifted dropped) es)
  entries_end es same ends =
      let own : All HasColumns es = subst (All HasColumns) (sym same) (All-filter is_on_line HasColumns (made_parts s marks) made) in
      let lines : All (λ p. is_on_line p ≡ true) es = subst (All (λ p. is_on_line p ≡ true)) (sym same) (filter_passes is_on_line (made_parts s marks)) in
      All-map (EndsBy layout edge) (shifted dropped) es (λ i d within. one (get_or es i d) (own i d within) (lines i d within) (ends i d within))
    where
      one : (p : LineAnnotation) → HasColumns p → is_on_line p ≡ true
          → (is_before_end p ≡ false → layout.code + (p.end.display - dropped) ≤ edge) → EndsBy layout edge (shifted dropped p)
      one p has line ends = grind (arith, common_steps, cases_Bool)
