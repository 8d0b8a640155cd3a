-- The rows of a line show it: its source row, the row of its marks, and the others below.
use Rattle.std.proofs.lemmas.Grind.{common_steps}
use Rattle.annotate_snippets.proofs.Common.{◌≡◌, ℕ, ◌+◌, ◌-◌, ◌<◌, ◌≤◌, ◌==◌, ◌&&◌, nat_le, not, Bool, true, false, cond, label_pieces, List, [], ◌∷◌, map}
use Rattle.annotate_snippets.proofs.Common.{length, drop, count_by, get_or, refl, sym, ap, subst, ◌∙◌, arith, inl, inr, filter, list_all, list_any}
use Rattle.annotate_snippets.proofs.Common.{cow_str_bytes, and_parts, and_from, cases_lt, eq-eqb, lt-ltb, nat_tests, drop-map, get_or-take, length-map}
use Rattle.annotate_snippets.proofs.Common.{All-contains, All-head, All-map, All-tail, Contains-get_or, AllPass-from_list_all, list_all-from_AllPass}
use Rattle.annotate_snippets.proofs.Common.{sum_by-cons, Annotation, Snippet, row_at, Cell, SPACE, row_text, placeholder_of, DecorStyle, Quotation, norm}
use Rattle.annotate_snippets.proofs.Common.{width_of, width_of-norm, AnnotatedLineInfo, LineAnnotation, LineAnnotationType, Singleline, MultilineStart}
use Rattle.annotate_snippets.proofs.Common.{MultilineEnd, MultilineLine, Margin, KeptLine, kept_line, parts_on, single_part, seen_kept, source_lines}
use Rattle.annotate_snippets.proofs.Common.{end_column, is_marked_on, is_marking, is_single_line, is_wide, qualifies_for_marks, touches, is_bar, is_single_part}
use Rattle.annotate_snippets.proofs.Common.{is_wide_entry, IsSpan, chars_at, dropped_part, stands_whole, window, IsMarkCell, is_mark_role, IsEntryMark}
use Rattle.annotate_snippets.proofs.Common.{are_plain, has_column, is_single, wide_entries, label_role, shifted, label_text, shown_number, AreSeen, IsStrokeRow}
use Rattle.annotate_snippets.proofs.Common.{ShowsMarks, window_cells-whole, row_text-window_cells, window_cells, ShowsLine, Bar, Layout, highlighted_left}
use Rattle.annotate_snippets.proofs.Common.{highlighted_text, Renderer, line_numbers, number_text, numbered_source, IsRowBelow, ShowsSourceLine, is_uncut_line}
use Rattle.annotate_snippets.proofs.Common.{wide_spans, is_uncut, ShowsLabels, ShowsMarksOf, shown_label, margin_in, row_text-text_cells}
use Rattle.std.proofs.Common.{chars}
use Rattle.std.specs.List.{All}
use Rattle.annotate_snippets.proofs.MarginWords.{room_of}
use Rattle.snippet_strokes.proofs.RowWidths.{narrow_left}
use Rattle.annotate_snippets.proofs.LabelLemmas.{labelled_at_end, labels_shown, head_same, tail_same}
use Rattle.annotate_snippets.proofs.LeftLaws.{left_of_source, space_of_source}
use Rattle.annotate_snippets.proofs.MarkLemmas.{span_of_entry, IsEntryOf, mark_of_entries, unmarked_by_entries, entries_after, unlabelled_entries, lone_entry}
use Rattle.annotate_snippets.proofs.MarkLemmas.{some_entry, shifted_mark, shifted_unmarked, shifted_after}
use Rattle.annotate_snippets.proofs.PartsFacts.{stands_left, untouched, wide_on_line}
use Rattle.annotate_snippets.proofs.WindowLemmas.{dropped-none}
use Rattle.snippet_labels.specs.Pieces.{beside_column}
use Rattle.std.specs.Prelude.{if◌then◌else◌}
use Rattle.snippet_grid.specs.Layout.{code_cell}
use Rattle.snippet_strokes.proofs.SeenRows.{first_piece}

-- the label after a mark that doesn't end at column 0 begins one column after it
beside_past : (n : ℕ) → 0 < n → (if n == 0 then 2 else n + 1) ≡ n + 1
beside_past n some = grind (arith, nat_tests)

-- a row that is as a bare one left of the bars is a row below a line
pub row_below : (decor : DecorStyle) (layout : Layout) (closes plain : Bool) (es : List LineAnnotation) (rows : List (List Cell)) (i : ℕ)
    → IsStrokeRow (record layout { decor = decor }) plain es (closes && i + 1 == length rows) (row_at rows i)
    → IsRowBelow decor layout (closes && i + 1 == length rows) (row_at rows i)
row_below decor layout closes plain es rows i is = record { left = is.left; bars = is.bar_cells }

-- a wide entry stays one, however many columns are dropped left of it
wide_shifted : (dropped room width : ℕ) (e : LineAnnotation) → (is_bar e.annotation_type ≡ false → dropped ≤ e.start.display)
    → is_wide_entry room width (shifted dropped e) ≡ is_wide_entry room width e
wide_shifted dropped room width e clear = by_part e.annotation_type refl
  where
    same_columns : dropped ≤ e.start.display → e.end.display - dropped - (e.start.display - dropped) ≡ e.end.display - e.start.display
    same_columns right = omega (arith, right)

    by_part : (part : LineAnnotationType) → e.annotation_type ≡ part → is_wide_entry room width (shifted dropped e) ≡ is_wide_entry room width e
    by_part Singleline is = rw (same_columns (clear (ap is_bar is))) refl
    by_part (MultilineStart depth) is = rw is refl
    by_part (MultilineEnd depth) is = rw is refl
    by_part (MultilineLine depth) is = rw is refl

wide_entries-shifted : (dropped room width : ℕ) (es : List LineAnnotation) → All (λ e. is_bar e.annotation_type ≡ false → dropped ≤ e.start.display) es
    → count_by (is_wide_entry room width) (map (shifted dropped) es) ≡ count_by (is_wide_entry room width) es
wide_entries-shifted dropped room width [] clear = refl
wide_entries-shifted dropped room width (e ∷ es) clear =
    let here = wide_shifted dropped room width e (All-head (λ (x : LineAnnotation). is_bar x.annotation_type ≡ false → dropped ≤ x.start.display) e es clear) in
    let rest = wide_entries-shifted dropped room width es (All-tail
    (λ (x : LineAnnotation). is_bar x.annotation_type ≡ false → dropped ≤ x.start.display) e es clear) in grind (arith, common_steps, sum_by-cons, here, rest)

-- a number that passes the test is at most the other
le_of : (a b : ℕ) → nat_le a b ≡ true → a ≤ b
le_of a b is = grind (arith, nat_tests)

-- a count of things that aren't there
count-none : {X : Type 0} (p : X → Bool) (xs : List X) → list_all (λ x. not (p x)) xs ≡ true → count_by p xs ≡ 0
count-none p [] none = refl
count-none p (x ∷ xs) none =
    let parts = and_parts (not (p x)) (list_all (λ y. not (p y)) xs) none in
    let first : ◌≡◌ {A = ℕ} (cond (p x) 1 0) 0 = ap (λ b. cond b 1 0) (negated (p x) parts.0) in
    omega (arith, sum_by-cons (λ y. cond (p y) 1 0) x xs, first, count-none p xs parts.1)
  where
    negated : (b : Bool) → not b ≡ true → b ≡ false
    negated true is = cc
    negated false is = refl

module _ (s : Snippet Annotation) (es : List LineAnnotation) (k : ℕ)
    (same : es ≡ map (single_part (numbered_source s)) (filter (is_marked_on (cow_str_bytes s.source.text) k) s.markers.items)) where
  abbrev marked : List Annotation
  marked = filter (is_marked_on (cow_str_bytes s.source.text) k) s.markers.items

  -- each of them stands for a whole span
  pub all_single : list_all is_single es ≡ true
  all_single = each es marked same
    where
      each : (xs : List LineAnnotation) (ys : List Annotation) → xs ≡ map (single_part (numbered_source s)) ys → list_all is_single xs ≡ true
      each [] ys is = refl
      each (x ∷ xs) [] is = cc
      each (x ∷ xs) (y ∷ ys) is =
          let here : x ≡ single_part (numbered_source s) y = head_same x _ xs _ is in
          let rest : xs ≡ map (single_part (numbered_source s)) ys = tail_same x _ xs _ is in
          and_from (is_single x) (list_all is_single xs) (ap is_single_part (ap (λ (p : LineAnnotation). p.annotation_type) here)) (each xs ys rest)

-- so they are where columns are dropped
single-shifted : (dropped : ℕ) (es : List LineAnnotation) → list_all is_single es ≡ true → list_all is_single (map (shifted dropped) es) ≡ true
single-shifted dropped [] all = refl
single-shifted dropped (e ∷ es) all =
    let parts = and_parts (is_single e) (list_all is_single es) all in
    and_from (is_single e) (list_all is_single (map (shifted dropped) es)) parts.0 (single-shifted dropped es parts.1)

-- an entry that stands for a whole span is no bar
single_columns : (dropped : ℕ) (es : List LineAnnotation) → list_all is_single es ≡ true
    → All (λ e. is_bar e.annotation_type ≡ false → dropped ≤ e.start.display) es → All (λ e. dropped ≤ e.start.display) es
single_columns dropped es all clear = λ i d within.
    clear i d within (no_bar (get_or es i d).annotation_type (AllPass-from_list_all is_single es all i d within))
  where
    no_bar : (part : LineAnnotationType) → is_single_part part ≡ true → is_bar part ≡ false
    no_bar Singleline is = refl
    no_bar (MultilineStart depth) is = refl
    no_bar (MultilineEnd depth) is = refl
    no_bar (MultilineLine depth) is = cc

module _ (r : Renderer) (layout : Layout) (s : Snippet Annotation)
    (spans : All (λ a. IsSpan (cow_str_bytes s.source.text) a.span.start a.span.end) s.markers.items) (margin : Margin)
    (room : margin.term_width ≡ room_of r layout) (margin_is : margin ≡ margin_in r layout s)
    (ordered : margin.computed_left ≤ margin.computed_right) where
  abbrev row_shows : Bool → List Bar → AnnotatedLineInfo → List (List Cell) → Type 0
  row_shows closes open_bars info rows = ShowsLine layout margin (line_numbers r s.line_numbering) closes open_bars info rows

  abbrev placeholder_width : ℕ
  placeholder_width = length (placeholder_of layout.decor)

  module _ (closes : Bool) (open_bars : List Bar) (k : ℕ) (info : AnnotatedLineInfo) (rows : List (List Cell))
      (within : k < length (source_lines (cow_str_bytes s.source.text))) (seen : seen_kept info ≡ kept_line (numbered_source s) s.markers.items k)
      (fits : length (shown_number (line_numbers r s.line_numbering) layout.gutter info.line_index) ≤ layout.gutter + 1)
      (shows : row_shows closes open_bars info rows)
      (rows_show : AreSeen layout margin.term_width (map (shifted shows.dropped) info.annotations.items) closes shows.highlighted rows) where
    abbrev text : List ℕ
    text = norm (chars_at (cow_str_bytes s.source.text) k)

    abbrev shown : List ℕ
    shown = shown_number (line_numbers r s.line_numbering) layout.gutter info.line_index

    abbrev es : List LineAnnotation
    es = info.annotations.items

    same_number : shown ≡ number_text r s.line_numbering layout.gutter (s.line_start + k)
    same_number = ap (λ n. shown_number (line_numbers r s.line_numbering) layout.gutter n) (ap (λ (l : KeptLine). l.number) seen)

    line_text : norm (chars info.line.now) ≡ text
    line_text = ap (λ bytes. norm (chars bytes)) (ap (λ (l : KeptLine). l.text) seen)

    -- as many entries are wide as spans
    wide_is : wide_entries margin.term_width layout.decor (map (shifted shows.dropped) es) ≡ wide_spans (room_of r layout) placeholder_width s k
    wide_is = wide_entries-shifted shows.dropped margin.term_width placeholder_width es shows.clear
        ∙ ap (λ n. count_by (is_wide_entry n placeholder_width) es) room
        ∙ wide_on_line (numbered_source s) s.markers.items spans k info (room_of r layout) placeholder_width seen

    -- left of the bars the row is as drawn, whatever is highlighted
    left_cell : (c : ℕ) → c < layout.gutter + 3 → c < layout.code → get_or rows_show.source c SPACE ≡ get_or shows.plain c SPACE
    left_cell c beside left = kept ∙ highlighted_left layout.code shows.dropped _ shows.plain shows.highlighted shows.highlights c left
      where
        kept : get_or rows_show.source c SPACE ≡ get_or shows.highlighted c SPACE
        kept =
            elim (cases_lt c (layout.gutter + 2)) [
              | inl front ↦ sym (get_or-take (layout.gutter + 2) rows_show.source c SPACE front) ∙ ap (λ cs. get_or cs c SPACE) rows_show.beside.front
                  ∙ get_or-take (layout.gutter + 2) shows.highlighted c SPACE front
              | inr after ↦
                  let at : c ≡ layout.gutter + 2 = omega (arith, after, beside) in cc (at, rows_show.beside.gap)
            ]

    -- the text of the line before it is cut where spans are wide
    window_text : row_text (drop layout.code shows.highlighted) ≡ window (placeholder_of layout.decor) (margin_in r layout s).term_width
        (margin_in r layout s).computed_left (margin_in r layout s).computed_right text
    window_text =
        sym (drop-map (λ (cell : Cell). cell.ch) layout.code shows.highlighted)
        ∙ ap (drop layout.code) (highlighted_text layout.code shows.dropped _ shows.plain shows.highlighted shows.highlights)
        ∙ drop-map (λ (cell : Cell). cell.ch) layout.code shows.plain
        ∙ ap row_text shows.shows.shows.code ∙ row_text-window_cells layout.decor margin (norm (chars info.line.now))
        ∙ ap (λ (m : Margin). window (placeholder_of layout.decor) m.term_width m.computed_left m.computed_right (norm (chars info.line.now))) margin_is
        ∙ ap (window (placeholder_of layout.decor) (margin_in r layout s).term_width (margin_in r layout s).computed_left
        (margin_in r layout s).computed_right) line_text

    dropped_here : shows.dropped ≡ width_of (dropped_part (margin_in r layout s).computed_left text)
    dropped_here = cc (shows.dropped_is, margin_is, line_text)

    -- where the line stands whole, nothing is dropped and nothing is cut
    whole_text : stands_whole (room_of r layout) placeholder_width s.fold (cow_str_bytes s.source.text) s.markers.items k ≡ true
        → (shows.dropped ≡ 0) × (row_text (drop layout.code rows_show.source) ≡ text)
    whole_text stands =
        let left : (margin_in r layout s).computed_left ≡ 0 = stands_left _ s.markers.items spans (room_of r layout) placeholder_width s.fold k stands in
        let parts = and_parts _ _ stands in
        let narrow : list_all (λ a. not (is_marked_on (cow_str_bytes s.source.text) k a
        && is_wide (room_of r layout) placeholder_width (cow_str_bytes s.source.text) a)) s.markers.items ≡ true = parts.1 in
        let none : wide_spans (room_of r layout) placeholder_width s k ≡ 0 = count-none (λ a. is_marked_on (cow_str_bytes s.source.text) k a
        && is_wide (room_of r layout) placeholder_width (cow_str_bytes s.source.text) a) s.markers.items narrow in
        let own_fits : width_of (chars_at (cow_str_bytes s.source.text) k) ≤ room_of r layout = le_of _ _ (and_parts _ _ (and_parts _ _ parts.0).0).0 in
        let at_left : margin.computed_left ≡ 0 = ap (λ (m : Margin). m.computed_left) margin_is ∙ left in
        let uncut : drop layout.code rows_show.source ≡ drop layout.code shows.highlighted = rows_show.beside.uncut (wide_is ∙ none) in
        let narrow_text : width_of (norm (chars info.line.now)) ≤ margin.term_width = omega
        (arith, room, own_fits, ap width_of line_text, width_of-norm (chars_at (cow_str_bytes s.source.text) k)) in
        let all : row_text (drop layout.code shows.plain) ≡ text = ap row_text (shows.shows.shows.code
        ∙ window_cells-whole layout.decor margin (norm (chars info.line.now)) at_left narrow_text)
        ∙ row_text-text_cells Quotation (norm (chars info.line.now)) ∙ line_text in (
          dropped_here ∙ ap (λ n. width_of (dropped_part n text)) left ∙ dropped-none text,
          ap row_text uncut ∙ sym (drop-map (λ (cell : Cell). cell.ch) layout.code shows.highlighted)
              ∙ ap (drop layout.code) (highlighted_text layout.code shows.dropped _ shows.plain shows.highlighted shows.highlights)
              ∙ drop-map (λ (cell : Cell). cell.ch) layout.code shows.plain ∙ all,
        )

    -- the source row shows its line
    pub source_line : layout.gutter + 3 ≤ layout.code → ShowsSourceLine r layout s k shows.dropped rows_show.source
    source_line place =
        let cells : List Cell = window_cells layout.decor margin (norm (chars info.line.now)) in
        let same : (c : ℕ) → c < layout.gutter + 3 → get_or rows_show.source c SPACE ≡ get_or shows.plain c SPACE = λ c beside.
        left_cell c beside (omega (arith, beside, place)) in
        record {
          within = within;
          left = cc (left_of_source layout shown cells shows.plain rows_show.source fits place shows.shows same, same_number);
          space = space_of_source layout shown cells shows.plain rows_show.source fits place shows.shows same;
          bars = rows_show.beside.bar_cells;
          window = grind (arith, common_steps, dropped_here, wide_is, wide_entries, window_text);
          whole = whole_text;
        }

    -- no label of the spans that end on the line is lost, where none of its entries is cut
    pub labels_of_line : is_uncut_line r layout s k shows.dropped ≡ true → ShowsLabels layout.decor layout s k shows.dropped rows_show.below
    labels_of_line uncut =
        let parts : es ≡ parts_on (numbered_source s) s.markers.items k = ap (λ (l : KeptLine). l.parts) seen in
        let same_entries : is_uncut margin.term_width layout (map (shifted shows.dropped) es) ≡ is_uncut_line r layout s k shows.dropped = cc (room, parts) in
        let stand = rows_show.strokes.labels (same_entries ∙ uncut) (labelled_at_end (numbered_source s) s.markers.items k shows.dropped es parts) in
        labels_shown s k shows.dropped layout es rows_show.below parts shows.clear stand
        (narrow_left layout (are_plain margin.term_width layout.decor (map (shifted shows.dropped) es)) (map (shifted shows.dropped) es)
        (λ j. closes && j + 1 == length rows_show.below) rows_show.below rows_show.strokes.are)

    -- where the line qualifies, its strokes are those of whole spans
    module _ (qualifies : qualifies_for_marks (room_of r layout) placeholder_width (cow_str_bytes s.source.text) s.markers.items k ≡ true) where
      abbrev moved : List LineAnnotation
      moved = map (shifted shows.dropped) es

      qualified_parts : (list_any (is_marked_on (cow_str_bytes s.source.text) k) s.markers.items ≡ true)
          × (list_all
          (λ a. not (is_marked_on (cow_str_bytes s.source.text) k a && is_wide (room_of r layout) placeholder_width (cow_str_bytes s.source.text) a))
          s.markers.items ≡ true) × (list_all
          (λ a. not (is_marking a.kind && touches (cow_str_bytes s.source.text) a k && not (is_single_line (cow_str_bytes s.source.text) a)))
          s.markers.items ≡ true)
      qualified_parts =
          let outer = and_parts _ _ qualifies in
          let inner = and_parts _ _ outer.0 in (inner.0, inner.1, outer.1)

      same_parts : es ≡ map (single_part (numbered_source s)) (filter (is_marked_on (cow_str_bytes s.source.text) k) s.markers.items)
      same_parts = ap (λ (l : KeptLine). l.parts) seen ∙ untouched (numbered_source s) s.markers.items spans k qualified_parts.2

      single : list_all is_single es ≡ true
      single = all_single s es k same_parts

      clear : All (λ e. shows.dropped ≤ e.start.display) es
      clear = single_columns shows.dropped es single shows.clear

      -- each entry covers a column, where it stands then
      columns : list_all has_column moved ≡ true
      columns =
          list_all-from_AllPass has_column moved (All-map (λ e. has_column e ≡ true) (shifted shows.dropped) es (λ i d inside.
          let e : LineAnnotation = get_or es i d in
          let own = span_of_entry (numbered_source s) s.markers.items k es same_parts e (Contains-get_or es i d inside) in
          let is : IsEntryOf (numbered_source s) k own.0 e = own.2 in
          lt-ltb (e.start.display - shows.dropped) (e.end.display - shows.dropped) (omega (arith, clear i d inside, is.start, is.end))))

      plain : are_plain margin.term_width layout.decor moved ≡ true
      plain =
          let none : wide_spans (room_of r layout) placeholder_width s k ≡ 0 = count-none (λ a. is_marked_on (cow_str_bytes s.source.text) k a
          && is_wide (room_of r layout) placeholder_width (cow_str_bytes s.source.text) a) s.markers.items qualified_parts.1 in
          let narrow : (wide_entries margin.term_width layout.decor moved == 0)
          ≡ true = eq-eqb (wide_entries margin.term_width layout.decor moved) 0 (wide_is ∙ none) in
          and_from (list_all is_single moved) (list_all has_column moved && wide_entries margin.term_width layout.decor moved == 0)
          (single-shifted shows.dropped es single) (and_from (list_all has_column moved)
          (wide_entries margin.term_width layout.decor moved == 0) columns narrow)

      -- there is a row below
      pub marks_there : 0 < length rows_show.below
      marks_there =
          let some : 0 < length es = some_entry (numbered_source s) s.markers.items k es same_parts qualified_parts.0 in
          rows_show.strokes.some plain (omega (arith, some, length-map es (shifted shows.dropped)))

      -- and it has the marks of the line
      pub marks_of_line : ShowsMarksOf layout.decor layout s k shows.dropped (row_at rows_show.below 0)
      marks_of_line =
          let row : List Cell = row_at rows_show.below 0 in
          let d : ℕ = shows.dropped in
          let marks_are : ShowsMarks layout layout.decor layout.code moved row = rows_show.strokes.marks plain in
          let strokes_row = rows_show.strokes.are 0 marks_there in
          record {
            marks = λ p kind mark.
                let own : IsEntryMark es p kind = mark_of_entries (numbered_source s) s.markers.items k es same_parts p kind mark in
                let right : d ≤ p = omega (arith, All-contains (λ (e : LineAnnotation). d ≤ e.start.display) es own.entry clear own.among, own.covers.0) in
                subst (λ c. IsMarkCell layout.decor kind (get_or row c SPACE)) (omega (arith, right))
                (marks_are.marks (p - d) kind (shifted_mark d es clear p kind own));
            unmarked = λ p right none. subst (λ c. is_mark_role (get_or row c SPACE).role ≡ false) (omega (arith, right))
                (marks_are.unmarked (p - d) (shifted_unmarked d es clear p right
                (unmarked_by_entries (numbered_source s) s.markers.items k es same_parts p none)));
            before = λ p right left. subst (λ c. get_or row c SPACE ≡ SPACE) (omega (arith, right))
                (strokes_row.before plain (layout.code + (p - d)) (layout.code + (p - d) + 1) (omega arith) (omega arith)
                (shifted_after d es clear layout.code p right (entries_after (numbered_source s) s.markers.items k es same_parts layout.code p left)));
            spaces = λ unlabelled p right none. subst (λ c. get_or row c SPACE ≡ SPACE) (omega (arith, right))
                (marks_are.spaces (All-map (λ (e : LineAnnotation). label_text e ≡ []) (shifted d) es (unlabelled_entries (numbered_source s)
                s.markers.items k es same_parts unlabelled)) (p - d)
                (shifted_unmarked d es clear p right (unmarked_by_entries (numbered_source s) s.markers.items k es same_parts p none)));
            lone = λ a alone label.
                let own = lone_entry (numbered_source s) s.markers.items k es same_parts a alone in
                let e : LineAnnotation = own.0 in
                let is : IsEntryOf (numbered_source s) k a e = own.2 in
                let right : d ≤ e.start.display = All-head (λ (x : LineAnnotation). d ≤ x.start.display) e []
                (subst (All (λ (x : LineAnnotation). d ≤ x.start.display)) own.1 clear) in
                let end : ℕ = layout.code + end_column (cow_str_bytes s.source.text) a - d in
                let at : layout.code + (e.end.display - d) ≡ end = omega (arith, is.end, is.start, right) in
                let begins : code_cell layout (beside_column (shifted d e)) ≡ end + 1 = ap (code_cell layout)
                (beside_past (e.end.display - d) (omega (arith, is.end, is.start, right))) ∙ omega (arith, at) in
                let text : first_piece layout (shifted d e) ≡ piece_of (end + 1) (shown_label a) = cc (begins, is.label) in
                let after = marks_are.lone (shifted d e) (ap (map (shifted d)) own.1) (omega (arith, is.start, is.end, right))
                (omega (arith, label, ap length text)) in
                subst (λ c. row_text (drop c row) ≡ 32 ∷ piece_of (end + 1) (shown_label a)) at
                (ap row_text after ∙ ap (λ cs. 32 ∷ cs) (row_text-text_cells (label_role e.kind) (first_piece layout (shifted d e)) ∙ text));
          }
        where
          piece_of : ℕ → List ℕ → List ℕ
          piece_of cell text = get_or (label_pieces layout cell text) 0 []
