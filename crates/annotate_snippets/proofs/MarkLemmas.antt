-- The marks of a line's spans are those of its entries.
use Rattle.std.proofs.lemmas.Grind.{common_steps}
use Rattle.annotate_snippets.proofs.Common.{◌≡◌, ℕ, ◌+◌, ◌-◌, ◌<◌, ◌≤◌, ◌==◌, ◌&&◌, true, false, List, [], ◌∷◌, map, length, get_or, refl, sym, ap, subst, ◌∙◌}
use Rattle.annotate_snippets.proofs.Common.{arith, Contains, filter, list_any, and_parts, eqb-true, eq-eqb, cases_Bool, All-contains, All-contains_itself}
use Rattle.annotate_snippets.proofs.Common.{All-filter, All-map, filter_passes, Contains-get_or, Annotation, AnnotationKind, Primary, Context, Visible}
use Rattle.annotate_snippets.proofs.Common.{LineAnnotation, Source, place_of, location_of, start_location, end_location, locations_of, first_line, is_marking}
use Rattle.annotate_snippets.proofs.Common.{is_single_line, is_marked_on, start_column, end_column, span_width, IsMarkedAt, IsMarkOf, label_chars, label_text}
use Rattle.annotate_snippets.proofs.Common.{shown_label, EntryCovers, IsEntryMark, shifted, is_primary, StandsFrom, from_map, entry_of}
use Rattle.std.specs.List.{All}
use Rattle.snippet_labels.specs.PlacedEntries as entry
use Rattle.annotate_snippets.proofs.ListLemmas.{Contains-filter, Contains-map, Contains-head, from_any}

-- the start of an entry is its span's
pub start_of_entry : (s : Source) (a : Annotation) → (entry_of s a).start.display ≡ start_column s.text a
unfolding locations_of start_location location_of
start_of_entry s a = refl

-- and so is its end, where the span stands on one line
end_of_empty : (s : Source) (a : Annotation) → (a.span.start == a.span.end) ≡ true → (entry_of s a).end.display ≡ end_column s.text a
unfolding locations_of start_location location_of
end_of_empty s a empty = grind (arith, eqb-true, a.span.start, a.span.end, s.text)

end_of_other : (s : Source) (a : Annotation) → (a.span.start == a.span.end) ≡ false → is_single_line s.text a ≡ true
    → (entry_of s a).end.display ≡ end_column s.text a
unfolding locations_of start_location end_location location_of place_of
end_of_other s a other single = grind (arith, eqb-true, eq-eqb, s.text, s.first)

-- the entry of a span on one line ends at the column where the span ends
pub end_of_entry : (s : Source) (a : Annotation) → is_single_line s.text a ≡ true → (entry_of s a).end.display ≡ end_column s.text a
end_of_entry s a single = grind (arith, cases_Bool, end_of_empty, end_of_other, a.span.start, a.span.end)

-- an entry is that of a span: it covers the same columns, with marks of the same kind
pub record IsEntryOf (s : Source) (k : ℕ) (a : Annotation) (e : LineAnnotation) : Type 0 where
  pub marked : is_marked_on s.text k a ≡ true
  pub start : e.start.display ≡ start_column s.text a
  pub end : e.end.display ≡ end_column s.text a
  pub kind : e.kind ≡ a.kind
  pub label : label_chars e.label ≡ shown_label a

entry_is : (s : Source) (k : ℕ) (a : Annotation) (e : LineAnnotation) → is_marked_on s.text k a ≡ true → is_single_line s.text a ≡ true
    → e ≡ entry_of s a → IsEntryOf s k a e
entry_is s k a e marked single same = grind (arith, common_steps, start_of_entry, end_of_entry)

module _ (s : Source) (marks : List Annotation) (k : ℕ) (es : List LineAnnotation)
    (same : es ≡ map (entry_of s) (filter (is_marked_on s.text k) marks)) where
  -- a span that is marked on a line stands on it alone
  single_of : (a : Annotation) → is_marked_on s.text k a ≡ true → is_single_line s.text a ≡ true
  single_of a marked =
      (and_parts (is_marking a.kind) (is_single_line s.text a) (and_parts (is_marking a.kind && is_single_line s.text a) (first_line s.text a == k) marked).0).1

  -- each span of the line has an entry
  pub entry_of_span : (a : Annotation) → Contains marks a → is_marked_on s.text k a ≡ true → (e : LineAnnotation) × Contains es e × IsEntryOf s k a e
  entry_of_span a among marked =
      let seen : Contains es (entry_of s a) = subst (λ xs.
      Contains xs (entry_of s a)) (sym same) (Contains-map (entry_of s) _ a (Contains-filter (is_marked_on s.text k) marks a marked among)) in
      (entry_of s a, seen, entry_is s k a (entry_of s a) marked (single_of a marked) refl)

  -- each entry is that of a span
  pub span_of_entry : (e : LineAnnotation) → Contains es e → (a : Annotation) × Contains marks a × IsEntryOf s k a e
  span_of_entry e among =
      let kept : List Annotation = filter (is_marked_on s.text k) marks in
      let found = from_map (entry_of s) kept e (subst (λ xs. Contains xs e) same among) in
      let a : Annotation = found.0 in
      let in_marks : Contains marks a = All-contains (Contains marks) kept a
      (All-filter (is_marked_on s.text k) (Contains marks) marks (All-contains_itself marks)) found.1 in
      let marked : is_marked_on s.text k a ≡ true = grind (arith, common_steps, kept, a, filter_passes, found, found.1) in
      (a, in_marks, entry_is s k a e marked (single_of a marked) (sym found.2))

  -- the mark of a column is that which the entries leave there
  pub mark_of_entries : (p : ℕ) (kind : AnnotationKind) → IsMarkOf s.text marks k p kind → IsEntryMark es p kind
  mark_of_entries p kind mark =
      let own = entry_of_span mark.span mark.among mark.covers.0 in
      let e : LineAnnotation = own.0 in
      let is : IsEntryOf s k mark.span e = own.2 in
      record {
        entry = e;
        among = own.1;
        covers = (omega (arith, is.start, mark.covers.1), omega (arith, is.end, mark.covers.2));
        is = is.kind ∙ mark.is;
        least = λ other in_es covers.
            let theirs = span_of_entry other in_es in
            let b : Annotation = theirs.0 in
            let isb : IsEntryOf s k b other = theirs.2 in
            let narrow : span_width s.text mark.span ≤ span_width s.text b = mark.least b theirs.1
            (isb.marked, omega (arith, isb.start, covers.0), omega (arith, isb.end, covers.1)) in
            omega (arith, is.start, is.end, isb.start, isb.end, narrow);
        primary_wins = λ unprimary other in_es covers primary.
            let theirs = span_of_entry other in_es in
            let b : Annotation = theirs.0 in
            let isb : IsEntryOf s k b other = theirs.2 in
            let narrow : span_width s.text mark.span < span_width s.text b = grind (arith, common_steps, context_of, and_parts, unprimary, b, primary) in
            omega (arith, is.start, is.end, isb.start, isb.end, narrow);
      }
    where
      context_of : (kind : AnnotationKind) → is_marking kind ≡ true → is_primary kind ≡ false → kind ≡ Context
      context_of Primary marking unprimary = cc
      context_of Context marking unprimary = refl
      context_of Visible marking unprimary = cc

  -- where no span is marked, no entry covers
  pub unmarked_by_entries : (p : ℕ) → All (λ a. IsMarkedAt s.text k p a → ⊥) marks → All (λ e. EntryCovers e p → ⊥) es
  unmarked_by_entries p none =
      λ i d within covers.
      let theirs = span_of_entry (get_or es i d) (Contains-get_or es i d within) in
      let b : Annotation = theirs.0 in
      let isb : IsEntryOf s k b (get_or es i d) = theirs.2 in
      All-contains (λ a. IsMarkedAt s.text k p a → ⊥) marks b none theirs.1 (isb.marked, omega (arith, isb.start, covers.0), omega (arith, isb.end, covers.1))

  -- where a column stands left of all spans of the line, every entry starts after it
  pub entries_after : (code p : ℕ) → All (λ a. is_marked_on s.text k a ≡ true → p < start_column s.text a) marks → All (StandsFrom code (code + p + 1)) es
  entries_after code p right =
      λ i d within.
      let theirs = span_of_entry (get_or es i d) (Contains-get_or es i d within) in
      let b : Annotation = theirs.0 in
      let isb : IsEntryOf s k b (get_or es i d) = theirs.2 in
      let after : p < start_column s.text b = grind (arith, common_steps, start_column, b, theirs, isb, theirs.1, isb.marked) in
      omega (arith, isb.start, after)

  -- a line that qualifies has an entry
  pub some_entry : list_any (is_marked_on s.text k) marks ≡ true → 0 < length es
  some_entry some = grind (arith, from_any, entry_of_span)

  -- where no span on the line has a label that shows anything, no entry has one
  pub unlabelled_entries : All (λ a. is_marked_on s.text k a ≡ true → shown_label a ≡ []) marks → All (λ e. label_text e ≡ []) es
  unlabelled_entries none =
      λ i d within.
      let theirs = span_of_entry (get_or es i d) (Contains-get_or es i d within) in
      let b : Annotation = theirs.0 in
      let isb : IsEntryOf s k b (get_or es i d) = theirs.2 in
      isb.label ∙ All-contains (λ a. is_marked_on s.text k a ≡ true → shown_label a ≡ []) marks b none theirs.1 isb.marked

  -- the one span of a line has the one entry
  pub lone_entry : (a : Annotation) → filter (is_marked_on s.text k) marks ≡ a ∷ [] → (e : LineAnnotation) × (es ≡ e ∷ []) × IsEntryOf s k a e
  lone_entry a lone =
      let sole : es ≡ entry_of s a ∷ [] = same ∙ ap (map (entry_of s)) lone in
      let marked : is_marked_on s.text k a ≡ true = All-contains (λ b. is_marked_on s.text k b ≡ true) _ a (filter_passes (is_marked_on s.text k) marks)
      (subst (λ xs. Contains xs a) (sym lone) (Contains-head a [])) in
      (entry_of s a, sole, entry_is s k a (entry_of s a) marked (single_of a marked) refl)

-- ---- entries on a line of which columns are dropped

-- a column of the line, where no entry stands left of those that are dropped
module _ (dropped : ℕ) (es : List LineAnnotation) (clear : All (λ e. dropped ≤ e.start.display) es) where
  -- an entry as it stands then is one of the line
  pub unshifted_entry : (e : LineAnnotation) → Contains (map (shifted dropped) es) e
      → (own : LineAnnotation) × Contains es own × (e ≡ shifted dropped own) × (dropped ≤ own.start.display)
  unshifted_entry e among =
      let found = from_map (shifted dropped) es e among in
      (found.0, found.1, sym found.2, All-contains (λ x. dropped ≤ x.start.display) es found.0 clear found.1)

  -- the mark of a column stays the mark of it
  pub shifted_mark : (p : ℕ) (kind : AnnotationKind) → IsEntryMark es p kind → IsEntryMark (map (shifted dropped) es) (p - dropped) kind
  shifted_mark p kind mark =
      let e : LineAnnotation = mark.entry in
      let right : dropped ≤ e.start.display = All-contains (λ x. dropped ≤ x.start.display) es e clear mark.among in
      record {
        entry = shifted dropped e;
        among = Contains-map (shifted dropped) es e mark.among;
        covers = (omega (arith, right, mark.covers.0), omega (arith, right, mark.covers.0, mark.covers.1));
        is = mark.is;
        least = λ other inside covers.
            let own = unshifted_entry other inside in
            let start : other.start.display ≡ own.0.start.display - dropped = ap (λ (x : LineAnnotation). x.start.display) own.2 in
            let end : other.end.display ≡ own.0.end.display - dropped = ap (λ (x : LineAnnotation). x.end.display) own.2 in
            let narrow : entry.entry_width e ≤ entry.entry_width own.0 = mark.least own.0 own.1
            (omega (arith, own.3, start, covers.0, right, mark.covers.0), omega (arith, own.3, end, covers.1, right, mark.covers.0)) in
            omega (arith, narrow, start, end, own.3, right, covers.0, covers.1);
        primary_wins = λ unprimary other inside covers primary.
            let own = unshifted_entry other inside in
            let start : other.start.display ≡ own.0.start.display - dropped = ap (λ (x : LineAnnotation). x.start.display) own.2 in
            let end : other.end.display ≡ own.0.end.display - dropped = ap (λ (x : LineAnnotation). x.end.display) own.2 in
            let narrow : entry.entry_width e < entry.entry_width own.0 =
            grind (arith, common_steps, own, start, right, end, mark.primary_wins, own.0, own.1, own.3, mark.covers.0, own.2) in
            omega (arith, narrow, start, end, own.3, right, covers.0, covers.1, mark.covers.0, mark.covers.1);
      }

  -- a column that no entry covers is covered by none
  pub shifted_unmarked : (p : ℕ) → dropped ≤ p → All (λ e. EntryCovers e p → ⊥) es → All (λ e. EntryCovers e (p - dropped) → ⊥) (map (shifted dropped) es)
  shifted_unmarked p right none =
      All-map (λ (e : LineAnnotation). EntryCovers e (p - dropped) → ⊥) (shifted dropped) es (λ i d within covers.
      none i d within (omega (arith, clear i d within, right, covers.0), omega (arith, clear i d within, right, covers.1)))

  -- entries that stand after a column stand after it
  pub shifted_after : (code p : ℕ) → dropped ≤ p → All (StandsFrom code (code + p + 1)) es
      → All (StandsFrom code (code + (p - dropped) + 1)) (map (shifted dropped) es)
  shifted_after code p right after =
      All-map (StandsFrom code (code + (p - dropped) + 1)) (shifted dropped) es (λ i d within. omega (arith, clear i d within, after i d within, right))
