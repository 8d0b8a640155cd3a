-- What is known of the lines of a snippet, in the words of its page.
use Rattle.annotate_snippets.proofs.Common.{◌≡◌, ℕ, ◌+◌, ◌<◌, ◌≤◌, ◌^◌, ◌&&◌, not, Bool, true, false, List, map, length, count_by}
use Rattle.annotate_snippets.proofs.Common.{Contains, filter, list_all, Annotation, AnnotatedLineInfo, ◌==◌, ◌||◌, sym, subst, ◌∙◌, get_or}
use Rattle.annotate_snippets.proofs.Common.{ap, arith, inl, inr, IfSome, [], list_any, cases_Bool, or_parts, nat_tests, All-contains, All-nil, All-weaker}
use Rattle.annotate_snippets.proofs.Common.{Contains-get_or, get_or-range_with_len, length-range_with_len, range_with_len, keeps, kept_lines, none-unkept}
use Rattle.annotate_snippets.proofs.Common.{length-in_order, from_map, length-map, count_by-le-length, length-filter, AnnotationFits, LineAnnotationType}
use Rattle.annotate_snippets.proofs.Common.{Singleline, MultilineStart, MultilineEnd, MultilineLine, Margin, depths-fit, each-line, labels-fit, places-fit}
use Rattle.annotate_snippets.proofs.Common.{texts-fit, untouched-parts, wide-count, margin_whole, shown_lines-first_line, last-shown, shown-ascends}
use Rattle.annotate_snippets.proofs.Common.{shown-within, KeptLine, annotated_lines, deepest, kept_line, parts_on, single_part, seen_kept, HasDepthWithin}
use Rattle.annotate_snippets.proofs.Common.{shown_lines, Source, source_lines, is_marked_on, is_marking, is_single_line, is_wide, touches, first_line}
use Rattle.annotate_snippets.proofs.Common.{last_line, StandsClear, margin_of, is_wide_entry, AreDrawable, HasBarCell, HasBarCellAt, HasPlace, Layout}
use Rattle.annotate_snippets.proofs.Common.{code_after, IsSpan, stands_whole, greatest-bound, places-bound}
use Rattle.std.specs.List.{All}
use Rattle.annotate_snippets.proofs.ListLemmas.{Contains-filter, Contains-map}
use Rattle.annotate_snippets.proofs.Ascending.{IsAscending, ascending}

module _ (s : Source) (marks : List Annotation) (spans : All (λ a. IsSpan s.text a.span.start a.span.end) marks) where
  -- a line that no span of several lines touches has the parts of the spans that are marked on it
  pub untouched : (k : ℕ) → list_all (λ a. not (is_marking a.kind && touches s.text a k && not (is_single_line s.text a))) marks ≡ true
      → parts_on s marks k ≡ map (single_part s) (filter (is_marked_on s.text k) marks)
  untouched k none = untouched-parts s marks k spans none

  -- a kept line has as many wide entries as wide spans are marked on it
  pub wide_on_line : (k : ℕ) (info : AnnotatedLineInfo) (room placeholder_width : ℕ) → seen_kept info ≡ kept_line s marks k
      → count_by (is_wide_entry room placeholder_width) info.annotations.items
      ≡ count_by (λ a. is_marked_on s.text k a && is_wide room placeholder_width s.text a) marks
  wide_on_line k info room placeholder_width same = wide-count room placeholder_width s marks k info same

  -- each line that is shown is a line of the source
  pub snippet_shown-within : (fold : Bool) → All (λ k. k < length (source_lines s.text)) (shown_lines fold s.text marks)
  snippet_shown-within fold = shown-within fold s.text marks

  -- the lines that are shown ascend
  pub shown_ascending : (fold : Bool) → IsAscending (shown_lines fold s.text marks)
  shown_ascending fold = ascending (shown_lines fold s.text marks) (shown-ascends fold s.text marks)

  -- the lines on which spans start and end are shown
  pub ends_shown : (fold : Bool)
      → All (λ a. Contains (shown_lines fold s.text marks) (first_line s.text a) × Contains (shown_lines fold s.text marks) (last_line s.text a)) marks
  ends_shown fold = grind (arith, shown_lines-first_line, Contains-get_or, last-shown)

  -- where lines stand whole, nothing is cut on the left
  pub stands_left : (room placeholder_width : ℕ) (fold : Bool) (k : ℕ) → stands_whole room placeholder_width fold s.text marks k ≡ true
      → (margin_of room (annotated_lines fold s marks)).computed_left ≡ 0
  stands_left room placeholder_width fold k whole = margin_whole room placeholder_width fold s marks k spans whole

-- where the code leaves room for the greatest depth, a bar of a depth that is no greater has a cell
bar_cell : (layout : Layout) (deepest : ℕ) → code_after layout.gutter deepest ≤ layout.code → (part : LineAnnotationType) → HasDepthWithin deepest part
    → HasBarCellAt layout part
bar_cell layout deepest code part depth = by part depth
  where
    after : (depth : ℕ) → 0 < depth → depth ≤ deepest → layout.gutter + 3 + depth < layout.code
    after depth some low =
        let more : (deepest == 0) ≡ false = grind (arith, nat_tests, some, low) in
        let wide : code_after layout.gutter deepest ≡ layout.gutter + 3 + deepest + 1 = cc more in omega (arith, code, wide, low)

    by : (part : LineAnnotationType) → HasDepthWithin deepest part → HasBarCellAt layout part
    by Singleline depth = tt
    by (MultilineStart n) depth = (depth.0, after n depth.0 depth.1)
    by (MultilineEnd n) depth = (depth.0, after n depth.0 depth.1)
    by (MultilineLine n) depth = (depth.0, after n depth.0 depth.1)

-- ---- what drawing asks of the lines

module _ (s : Source) (marks : List Annotation) (spans : All (λ a. IsSpan s.text a.span.start a.span.end) marks) (ks : List ℕ) (infos : List AnnotatedLineInfo)
    (same : map seen_kept infos ≡ map (kept_line s marks) ks) where
  -- the texts of kept lines fit, where the source does
  pub lines_texts : length s.text < 2 ^ 56 → All (λ info. length info.line.now < 2 ^ 56) infos
  lines_texts short = texts-fit s marks ks infos same short

  -- the labels on kept lines fit, where those of the annotations do
  pub lines_labels : All AnnotationFits marks → All (λ info. All (λ e. IfSome e.label (λ t. length t < 2 ^ 56)) info.annotations.items) infos
  lines_labels fit = labels-fit s marks ks infos same fit

  -- the entries of kept lines have places, where the source fits
  pub lines_places : length s.text < 2 ^ 56 → All (λ info. All HasPlace info.annotations.items) infos
  lines_places short = grind (arith, All-weaker, places-fit)

  -- the bars on kept lines have cells between the gutter and the code, where the code stands far enough right
  pub lines_bar_cells : (layout : Layout) → code_after layout.gutter (deepest s marks) ≤ layout.code
      → All (λ info. All (HasBarCell layout) info.annotations.items) infos
  lines_bar_cells layout code = grind (arith, All-weaker, depths-fit)

  -- so the entries of kept lines can be drawn
  pub lines_entries : (layout : Layout) → code_after layout.gutter (deepest s marks) ≤ layout.code → length s.text < 2 ^ 56 → All AnnotationFits marks
      → All (λ info. AreDrawable layout info.annotations.items) infos
  lines_entries layout code short fit k d within = grind (arith, lines_places, lines_bar_cells, lines_labels)

-- entries stand clear on all lines that are shown, where they do on those that are kept: none stand on the others
pub shown_clear : (s : Source) (marks : List Annotation) → All (λ a. IsSpan s.text a.span.start a.span.end) marks
    → (fold : Bool) (kept shown : List AnnotatedLineInfo) (margin : Margin) → map seen_kept kept ≡ annotated_lines fold s marks
    → map seen_kept shown ≡ map (kept_line s marks) (shown_lines fold s.text marks)
    → All (λ info. All (StandsClear margin) info.annotations.items) kept → All (λ info. All (StandsClear margin) info.annotations.items) shown
shown_clear s marks spans fold kept shown margin kept_is shown_is clear =
    each-line (λ info. All (StandsClear margin) info.annotations.items) s marks (shown_lines fold s.text marks) shown shown_is (λ i d within info seen.
    on_line (get_or (shown_lines fold s.text marks) i d) (All-get_or_within i d within) info seen)
  where
    keeps_it : ℕ → Bool
    keeps_it k = not fold || list_any (keeps s.text k) marks

    All-get_or_within : (i d : ℕ) → i < length (shown_lines fold s.text marks) → get_or (shown_lines fold s.text marks) i d < length (source_lines s.text)
    All-get_or_within i d within = shown-within fold s.text marks i d within

    on_line : (k : ℕ) → k < length (source_lines s.text) → (info : AnnotatedLineInfo) → seen_kept info ≡ kept_line s marks k
        → All (StandsClear margin) info.annotations.items
    on_line k within info seen =
        elim (cases_Bool (keeps_it k)) [
          | inl kept_here ↦
              let among : Contains (kept_lines fold s.text marks) k =
              Contains-filter keeps_it (range_with_len 0 (length (source_lines s.text)))
              k kept_here (
                k,
                omega (arith, within, length-range_with_len 0 (length (source_lines s.text))),
                omega (arith, get_or-range_with_len 0 (length (source_lines s.text)) k k within),
              ) in
              let found = from_map seen_kept kept (kept_line s marks k) (subst (λ ls.
              Contains ls (kept_line s marks k)) (sym kept_is) (Contains-map (kept_line s marks) (kept_lines fold s.text marks) k among)) in
              let own : All (StandsClear margin) found.0.annotations.items = All-contains
              (λ (x : AnnotatedLineInfo). All (StandsClear margin) x.annotations.items) kept found.0 clear found.1 in
              let same : found.0.annotations.items ≡ info.annotations.items = ap (λ (l : KeptLine). l.parts) (found.2 ∙ sym seen) in
              subst (All (StandsClear margin)) same own
          | inr left_out ↦
              let unkept = (or_parts (not fold) (list_any (keeps s.text k) marks) left_out).1 in
              let none : info.annotations.items ≡ [] = ap (λ (l : KeptLine). l.parts) seen ∙ none-unkept s marks k spans unkept in
              subst (All (StandsClear margin)) (sym none) (All-nil (StandsClear margin))
        ]

-- ---- how deep bars stand

-- no deeper than there are spans
pub deepest_few : (s : Source) (marks : List Annotation) → deepest s marks ≤ length marks
deepest_few s marks = grind (arith, greatest-bound, places-bound, length-map, length-in_order, length-filter, count_by-le-length, s.text)
