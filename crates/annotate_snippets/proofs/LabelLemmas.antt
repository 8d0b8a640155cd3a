-- The labels of a line's entries are those of its spans.
use Rattle.std.proofs.lemmas.Grind.{common_steps}
use Rattle.annotate_snippets.proofs.Common.{◌≡◌, ℕ, ◌+◌, ◌-◌, ◌<◌, ◌≤◌, ◌==◌, ◌&&◌, ◌||◌, max, cond, not, Bool, true, false, None, Option, List, [], ◌∷◌, ◌++◌}
use Rattle.annotate_snippets.proofs.Common.{map, length, get_or, count_by, refl, sym, ap, subst, ◌∙◌, arith, inl, inr, filter, and_parts, nat_tests, length-map}
use Rattle.annotate_snippets.proofs.Common.{map-append, All-cons, All-filter, All-head, All-map, All-nil, All-tail, filter-append, filter_passes, sum_by-cons}
use Rattle.annotate_snippets.proofs.Common.{Cell, unlinked_cell, Annotation, AnnotationKind, Source, promoted, end_part, long_parts, long_place, long_spans}
use Rattle.annotate_snippets.proofs.Common.{made_parts, parts_on, single_part, span_parts, start_part, depth_among, LongExtent, Snippet, numbered_source}
use Rattle.annotate_snippets.proofs.Common.{end_column, is_marked_on, is_single_line, start_column, is_bar, LineAnnotation, Singleline, MultilineEnd}
use Rattle.annotate_snippets.proofs.Common.{singles-on, filter-none, made-all, bar_part, long_entry, bar_lines, label_role, shifted, label_text}
use Rattle.annotate_snippets.proofs.Common.{IsLabelledAtEnd, IsLedTo, LabelsStand, PlacedLabel, zero, suc, StandsIn, is_cell_of, is_start_part, Layout, HasStem}
use Rattle.annotate_snippets.proofs.Common.{ShowsLabel, ShowsLabels, ShownLabel, SpanLabel, promoted_spans, is_in_label, labels_ending_on, normalized_chars}
use Rattle.annotate_snippets.proofs.Common.{shown_label, is_short, long_places, stands_among, All-unmapped, cell_at, char_width, columns_of}
use Rattle.annotate_snippets.proofs.Common.{false≢true, letters_of, row_text, width_of}
use Rattle.std.specs.List.{All, slice_split}
use Rattle.annotate_snippets.proofs.EntryEnds.{entries_end}
use Rattle.annotate_snippets.specs.Laws.Labels.{IsBroken, pieces_shown}
use Rattle.snippet_labels.proofs.PieceLemmas.{label_pieces-broken, label_pieces-nil}
use Rattle.snippet_labels.specs.Pieces.{label_pieces, shows_any}
use Rattle.snippet_shown.proofs.DrawnLemmas.{rows-within}
use Rattle.snippet_shown.proofs.WrapLemmas.{wrapped-laws}
use Rattle.snippet_shown.specs.Letters.{first_place, letter, letter_width, letters}
use Rattle.snippet_shown.specs.WrapLaws.{AreRowsWithin}
use Rattle.snippet_shown.specs.Wrapped.{wrapped}
use Rattle.snippet_strokes.proofs.PieceWrites.{piece_shows, piece_within}
use Rattle.snippet_strokes.proofs.RowWidths.{label_rows_have_room, rows_have_room}
use Rattle.snippet_strokes.proofs.SeenLabels.{HasPieceRoom}
use Rattle.std.proofs.lemmas.List.{get_or_default}
use Rattle.std.specs.Prelude.{nat_le, nat_lt}
use Rattle.annotate_snippets.proofs.MarkLemmas.{end_of_entry, start_of_entry}

-- lists that are the same begin with the same
pub head_same : {X : Type 0} (x y : X) (xs ys : List X) → x ∷ xs ≡ y ∷ ys → x ≡ y
head_same x y xs ys same = cc

-- lists that are the same go on in the same way after their first element
pub tail_same : {X : Type 0} (x y : X) (xs ys : List X) → x ∷ xs ≡ y ∷ ys → xs ≡ ys
tail_same x y xs ys same = cc

-- ---- which entries have labels

-- the start of a span of several lines, and a bar, have none
abbrev HasNoneBefore : LineAnnotation → Type 0
HasNoneBefore p = (is_start_part p.annotation_type || is_bar p.annotation_type) ≡ true → p.label ≡ None

none_before : (s : Source) (marks : List Annotation) → All HasNoneBefore (made_parts s marks)
none_before s marks =
    made-all HasNoneBefore s marks (λ a among short wrong. cc wrong) (λ a among long kind.
    let e : LineAnnotation = record (long_entry s a) { kind = kind } in
    record { start = λ _. refl; bars = λ i d within _. refl; end = λ wrong. cc wrong; again = λ wrong. cc wrong })

-- so an entry of a line has a label only where a span ends
pub labelled_at_end : (s : Source) (marks : List Annotation) (k dropped : ℕ) (es : List LineAnnotation) → es ≡ parts_on s marks k
    → All IsLabelledAtEnd (map (shifted dropped) es)
labelled_at_end s marks k dropped es same =
    each es (subst (All HasNoneBefore) (sym same) (All-filter (λ (p : LineAnnotation). p.start.line == s.first + k) HasNoneBefore (made_parts s marks)
    (none_before s marks)))
  where
    own : (e : LineAnnotation) → HasNoneBefore e → IsLabelledAtEnd (shifted dropped e)
    own e none before = no_text (none before)
      where
        no_text : {o : Option (List ℕ)} → o ≡ None → normalized_chars o ≡ []
        no_text is = ap normalized_chars is

    each : (xs : List LineAnnotation) → All HasNoneBefore xs → All IsLabelledAtEnd (map (shifted dropped) xs)
    each [] all = All-nil IsLabelledAtEnd
    each (x ∷ xs) all =
        All-cons IsLabelledAtEnd (shifted dropped x) (map (shifted dropped) xs) (own x (All-head HasNoneBefore x xs all))
        (each xs (All-tail HasNoneBefore x xs all))

-- ---- labels that are broken

label_broken : (layout : Layout) → layout.label_lines ≡ true → (l : ShownLabel) → l.cell + 20 ≤ layout.label_end → IsBroken layout l
label_broken layout cut l wide =
    let room : ℕ = layout.label_end - l.cell in
    let shown : List ℕ = wrapped room false l.label.text in
    let lines : pieces_shown layout l ≡ slice_split (λ c. c == 10) shown = label_pieces-broken layout cut l.cell l.label.text wide in
    let kept = wrapped-laws room false l.label.text in
    record {
      text = shown;
      lines = lines;
      kept = kept;
      fits = subst (AreRowsWithin false room) (sym lines) (rows-within room false shown (kept.rows (omega (arith, wide))));
    }

-- the pieces of a label without text have none
no_piece : (layout : Layout) (cell i : ℕ) (ps : List (List ℕ)) → ps ≡ label_pieces layout cell [] → length (get_or ps i []) ≡ 0
no_piece layout cell i ps is = ap (λ (qs : List (List ℕ)). length (get_or qs i [])) (is ∙ label_pieces-nil layout cell) ∙ none i
  where
    none : (i : ℕ) → length {A = ℕ} (get_or ([] ∷ []) i []) ≡ 0
    none zero = refl
    none (suc i) = refl

-- ---- the labels of the entries at which spans end

-- the label of a span on one line, and that of a span of several lines, below its last column
abbrev label_of_span : List ℕ → Annotation → SpanLabel
label_of_span source a =
    record { text = shown_label a; kind = a.kind; from = start_column source a; to = end_column source a }

abbrev label_of_end : LineAnnotation → SpanLabel
label_of_end e =
    record { text = normalized_chars e.label; kind = e.kind; from = e.end.display - 1; to = e.end.display }

-- the characters of an untrusted text take the columns of the text
letters-width : (cs : List ℕ) → columns_of (letters_of false cs) ≡ width_of cs
letters-width [] = refl
letters-width (c ∷ cs) =
    omega (arith, sum_by-cons letter_width (letter (first_place false) c) (letters (first_place false) cs), sum_by-cons char_width c cs, letters-width cs)

-- whether an entry is one at which a span ends
abbrev ends_here : LineAnnotation → Bool
ends_here p = not (is_start_part p.annotation_type || is_bar p.annotation_type)

-- the label of an entry
abbrev label_of_part : LineAnnotation → SpanLabel
label_of_part p =
    record { text = normalized_chars p.label; kind = p.kind; from = p.start.display; to = p.end.display }

-- the labels of those entries, at their places
abbrev shown_at : LineAnnotation → PlacedLabel → ShownLabel
shown_at e l = record { label = label_of_part e; row = l.row; cell = l.cell }

shown_labels : List LineAnnotation → List PlacedLabel → List ShownLabel
shown_labels [] ls = []
shown_labels (e ∷ es) [] = []
shown_labels (e ∷ es) (l ∷ ls) = cond (ends_here e) (shown_at e l ∷ shown_labels es ls) (shown_labels es ls)

labels_are : (es : List LineAnnotation) (ls : List PlacedLabel) → length ls ≡ length es
    → map (λ (l : ShownLabel). l.label) (shown_labels es ls) ≡ map (label_of_part) (filter ends_here es)
unfolding shown_labels
labels_are [] ls long = refl
labels_are (e ∷ es) [] long = absurd (omega (arith, long))
labels_are (e ∷ es) (l ∷ ls) long = both (ends_here e) (labels_are es ls (omega (arith, long)))
  where
    both : (b : Bool) → map (λ (x : ShownLabel). x.label) (shown_labels es ls) ≡ map (label_of_part) (filter ends_here es)
        → map (λ (x : ShownLabel). x.label) (cond b (shown_at e l ∷ shown_labels es ls) (shown_labels es ls))
        ≡ map (label_of_part) (cond b (e ∷ filter ends_here es) (filter ends_here es))
    both true rest = ap (λ xs. label_of_part e ∷ xs) rest
    both false rest = rest

module _ (dropped : ℕ) (layout : Layout) (rows : List (List Cell)) where
  abbrev IsClear : LineAnnotation → Type 0
  IsClear e = is_bar e.annotation_type ≡ false → dropped ≤ e.start.display

  abbrev Stands : PlacedLabel → Type 0
  Stands l = shows_any l.pieces ≡ true → StandsIn layout rows l

  abbrev HasPieces : PlacedLabel → Type 0
  HasPieces l = l.pieces ≡ label_pieces layout l.cell (label_text l.entry)

  abbrev Shows : ShownLabel → Type 0
  Shows l = shows_any (pieces_shown layout l) ≡ true → ShowsLabel layout dropped rows l

  pieces_are : (e : LineAnnotation) (l : PlacedLabel) → l.entry ≡ shifted dropped e → HasPieces l → l.pieces ≡ pieces_shown layout (shown_at e l)
  pieces_are e l entry has = has ∙ ap (λ (x : LineAnnotation). label_pieces layout l.cell (label_text x)) entry

  one_label : (e : LineAnnotation) (l : PlacedLabel) → l.entry ≡ shifted dropped e → HasPieces l → IsClear e → ends_here e ≡ true
      → Stands l → Shows (shown_at e l)
  one_label e l entry has clear ends stands some =
      let text = pieces_are e l entry has in
      let there : StandsIn layout rows l = stands (ap shows_any text ∙ some) in
      let right : dropped ≤ e.start.display = clear (no_bar (is_start_part e.annotation_type) (is_bar e.annotation_type) ends) in
      let start : l.entry.start.display ≡ e.start.display - dropped = ap (λ (x : LineAnnotation). x.start.display) entry in
      let end : l.entry.end.display ≡ e.end.display - dropped = ap (λ (x : LineAnnotation). x.end.display) entry in
      let kind : l.entry.kind ≡ e.kind = ap (λ (x : LineAnnotation). x.kind) entry in
      record {
        whole = λ i n within. there.whole i n (omega (arith, within, ap (λ (ps : List (List ℕ)). length (get_or ps i [])) text))
            ∙ ap (λ (x : AnnotationKind). unlinked_cell (label_role x) (get_or (get_or l.pieces i []) n 0)) kind
            ∙ ap (λ (ps : List (List ℕ)). unlinked_cell (label_role e.kind) (get_or (get_or ps i []) n 0)) text;
        place = elim there.place [
          | inl at ↦ inl (at.0, at.1 ∙ ap (λ m. layout.code + max m 1 + 1) end)
          | inr at ↦ inr (at.0, omega (arith, at.1, start, right))
        ];
      }
    where
      no_bar : (a b : Bool) → not (a || b) ≡ true → b ≡ false
      no_bar true b is = cc is
      no_bar false true is = cc is
      no_bar false false is = refl

  -- what follows of what holds of the entries' labels holds of those at which spans end
  all_kept : (P : PlacedLabel → Type 0) (Q : ShownLabel → Type 0)
      → ((e : LineAnnotation) (l : PlacedLabel) → l.entry ≡ shifted dropped e → HasPieces l → IsClear e → ends_here e ≡ true → P l → Q (shown_at e l))
      → (es : List LineAnnotation) (ls : List PlacedLabel) → map (λ (l : PlacedLabel). l.entry) ls ≡ map (shifted dropped) es → All HasPieces ls
      → All IsClear es → All P ls → All Q (shown_labels es ls)
  unfolding shown_labels
  all_kept P Q own [] ls entries has clear all = All-nil Q
  all_kept P Q own (e ∷ es) [] entries has clear all = cc entries
  all_kept P Q own (e ∷ es) (l ∷ ls) entries has clear all =
      let entry = head_same l.entry (shifted dropped e) (map (λ (x : PlacedLabel). x.entry) ls) (map (shifted dropped) es) entries in
      let further = tail_same l.entry (shifted dropped e) (map (λ (x : PlacedLabel). x.entry) ls) (map (shifted dropped) es) entries in
      both (ends_here e) (own e l entry (All-head HasPieces l ls has) (All-head IsClear e es clear)) (All-head P l ls all)
      (all_kept P Q own es ls further (All-tail HasPieces l ls has) (All-tail IsClear e es clear) (All-tail P l ls all))
    where
      both : (b : Bool) → (b ≡ true → P l → Q (shown_at e l)) → P l → All Q (shown_labels es ls)
          → All Q (cond b (shown_at e l ∷ shown_labels es ls) (shown_labels es ls))
      both true one holds rest = All-cons Q (shown_at e l) (shown_labels es ls) (one refl holds) rest
      both false one holds rest = rest

  -- a stem leads to one of some labels, where no label of all these has the cell
  abbrev Led : List PlacedLabel → PlacedLabel → Type 0
  Led all l = shows_any l.pieces ≡ true → IsLedTo layout.decor all rows l

  abbrev Stemmed : List ShownLabel → ShownLabel → Type 0
  Stemmed shown l = shows_any (pieces_shown layout l) ≡ true → HasStem layout.decor layout shown rows l

  one_led : (all : List PlacedLabel) (shown : List ShownLabel) → ((r c : ℕ) → count_by (is_in_label layout r c) shown ≡ 0 → count_by (is_cell_of r c) all ≡ 0)
      → (e : LineAnnotation) (l : PlacedLabel) → l.entry ≡ shifted dropped e → HasPieces l → IsClear e → ends_here e ≡ true → Led all l
      → Stemmed shown (shown_at e l)
  one_led all shown none_kept e l entry has clear ends led some r under above none =
      led (ap shows_any (pieces_are e l entry has) ∙ some) r under above (none_kept r l.cell none)

  -- the rows of a label have room, if it has room for 20 columns
  abbrev Fits : PlacedLabel → Type 0
  Fits l =
      shows_any l.pieces ≡ true → l.cell + 20 ≤ layout.label_end → (n : ℕ) → n < length l.pieces
      → width_of (row_text (get_or rows (l.row + n) [])) ≤ layout.label_end

  abbrev RowsFit : ShownLabel → Type 0
  RowsFit l =
      l.cell + 20 ≤ layout.label_end → shows_any (pieces_shown layout l) ≡ true → (i : ℕ) → i < length (pieces_shown layout l)
      → width_of (row_text (get_or rows (l.row + i) [])) ≤ layout.label_end

  one_roomy : (e : LineAnnotation) (l : PlacedLabel) → l.entry ≡ shifted dropped e → HasPieces l → IsClear e → ends_here e ≡ true
      → Fits l → RowsFit (shown_at e l)
  one_roomy e l entry has clear ends rows_fit wide some i within =
      let same = pieces_are e l entry has in
      rows_fit (ap shows_any same ∙ some) wide i (omega (arith, within, ap (λ (ps : List (List ℕ)). length ps) same))

  -- a cell is in no more of these than of all the entries' labels
  cells_few : (r c : ℕ) (es : List LineAnnotation) (ls : List PlacedLabel) → map (λ (l : PlacedLabel). l.entry) ls ≡ map (shifted dropped) es
      → All HasPieces ls → count_by (is_in_label layout r c) (shown_labels es ls) ≤ count_by (is_cell_of r c) ls
  unfolding shown_labels
  cells_few r c [] ls entries has = omega arith
  cells_few r c (e ∷ es) [] entries has = omega arith
  cells_few r c (e ∷ es) (l ∷ ls) entries has =
      let entry = head_same l.entry (shifted dropped e) (map (λ (x : PlacedLabel). x.entry) ls) (map (shifted dropped) es) entries in
      let further = tail_same l.entry (shifted dropped e) (map (λ (x : PlacedLabel). x.entry) ls) (map (shifted dropped) es) entries in
      let one : is_in_label layout r c (shown_at e l) ≡ is_cell_of r c l = cc (pieces_are e l entry (All-head HasPieces l ls has)) in
      both (ends_here e) one (cells_few r c es ls further (All-tail HasPieces l ls has))
    where
      both : (b : Bool) → is_in_label layout r c (shown_at e l) ≡ is_cell_of r c l
          → count_by (is_in_label layout r c) (shown_labels es ls) ≤ count_by (is_cell_of r c) ls
          → count_by (is_in_label layout r c) (cond b (shown_at e l ∷ shown_labels es ls) (shown_labels es ls)) ≤ count_by (is_cell_of r c) (l ∷ ls)
      both true one rest =
          let f : ShownLabel → ℕ = λ x. cond (is_in_label layout r c x) 1 0 in
          let g : PlacedLabel → ℕ = λ x. cond (is_cell_of r c x) 1 0 in
          let same : f (shown_at e l) ≡ g l = ap (λ b. cond b 1 0) one in
          omega (arith, rest, same, sum_by-cons f (shown_at e l) (shown_labels es ls), sum_by-cons g l ls)
      both false one rest =
          let g : PlacedLabel → ℕ = λ x. cond (is_cell_of r c x) 1 0 in
          omega (arith, rest, sum_by-cons g l ls)

  -- nor in fewer, since no other entry has a label
  cells_all : (r c : ℕ) (es : List LineAnnotation) (ls : List PlacedLabel) → map (λ (l : PlacedLabel). l.entry) ls ≡ map (shifted dropped) es
      → All IsLabelledAtEnd (map (shifted dropped) es) → All HasPieces ls
      → count_by (is_cell_of r c) ls ≤ count_by (is_in_label layout r c) (shown_labels es ls)
  unfolding shown_labels
  cells_all r c [] [] entries ends has = omega arith
  cells_all r c [] (l ∷ ls) entries ends has = cc entries
  cells_all r c (e ∷ es) [] entries ends has = cc entries
  cells_all r c (e ∷ es) (l ∷ ls) entries ends has =
      let entry = head_same l.entry (shifted dropped e) (map (λ (x : PlacedLabel). x.entry) ls) (map (shifted dropped) es) entries in
      let further = tail_same l.entry (shifted dropped e) (map (λ (x : PlacedLabel). x.entry) ls) (map (shifted dropped) es) entries in
      let one : is_in_label layout r c (shown_at e l) ≡ is_cell_of r c l = cc (pieces_are e l entry (All-head HasPieces l ls has)) in
      let none : (is_start_part e.annotation_type || is_bar e.annotation_type) ≡ true → is_cell_of r c l ≡ false =
      λ before. no_cell r c l.row l.cell (length (get_or l.pieces (r - l.row) []))
      (no_piece layout l.cell (r - l.row) l.pieces (All-head HasPieces l ls has ∙ ap (label_pieces layout l.cell) (ap label_text entry
      ∙ All-head IsLabelledAtEnd (shifted dropped e) (map (shifted dropped) es) ends before))) in
      both (is_start_part e.annotation_type || is_bar e.annotation_type) one none
      (cells_all r c es ls further (All-tail IsLabelledAtEnd (shifted dropped e) (map (shifted dropped) es) ends) (All-tail HasPieces l ls has))
    where
      no_cell : (r c row cell n : ℕ) → n ≡ 0 → (nat_le row r && (nat_le cell c && nat_lt c (cell + n))) ≡ false
      no_cell r c row cell n is = grind (arith, nat_tests, is)

      both : (b : Bool) → is_in_label layout r c (shown_at e l) ≡ is_cell_of r c l → (b ≡ true → is_cell_of r c l ≡ false)
          → count_by (is_cell_of r c) ls ≤ count_by (is_in_label layout r c) (shown_labels es ls)
          → count_by (is_cell_of r c) (l ∷ ls) ≤ count_by (is_in_label layout r c) (cond (not b) (shown_at e l ∷ shown_labels es ls) (shown_labels es ls))
      both false one none rest =
          let f : ShownLabel → ℕ = λ x. cond (is_in_label layout r c x) 1 0 in
          let g : PlacedLabel → ℕ = λ x. cond (is_cell_of r c x) 1 0 in
          let same : f (shown_at e l) ≡ g l = ap (λ b. cond b 1 0) one in
          omega (arith, rest, same, sum_by-cons f (shown_at e l) (shown_labels es ls), sum_by-cons g l ls)
      both true one none rest =
          let g : PlacedLabel → ℕ = λ x. cond (is_cell_of r c x) 1 0 in
          let here : g l ≡ 0 = ap (λ b. cond b 1 0) (none refl) in
          omega (arith, rest, here, sum_by-cons g l ls)

  -- where each label that shows anything has room, so has each piece of all entries' labels
  abbrev IsRoomy : ShownLabel → Type 0
  IsRoomy l = shows_any (pieces_shown layout l) ≡ true → l.cell + 20 ≤ layout.label_end

  abbrev Ends : PlacedLabel → Type 0
  Ends = HasPieceRoom layout.label_end

  label_ends : (e : LineAnnotation) (l : PlacedLabel) → layout.label_lines ≡ true → l.pieces ≡ pieces_shown layout (shown_at e l) → IsRoomy (shown_at e l)
      → Ends l
  label_ends e l cut are room n some =
      let ps : List (List ℕ) = pieces_shown layout (shown_at e l) in
      let piece : List ℕ = get_or ps n [] in
      let same : get_or l.pieces n [] ≡ piece = ap (λ (qs : List (List ℕ)). get_or qs n []) are in
      let some_too : 0 < length piece = omega (arith, some, ap (λ (q : List ℕ). length q) same) in
      let wide : (shown_at e l).cell + 20 ≤ layout.label_end = room (piece_shows ps n some_too) in
      omega (arith, wide, (label_broken layout cut (shown_at e l) wide).fits n [] (piece_within ps n some_too), letters-width, ap width_of same)

  labels_end : layout.label_lines ≡ true → (es : List LineAnnotation) (ls : List PlacedLabel)
      → map (λ (l : PlacedLabel). l.entry) ls ≡ map (shifted dropped) es → All IsLabelledAtEnd (map (shifted dropped) es) → All HasPieces ls
      → All IsRoomy (shown_labels es ls) → All Ends ls
  unfolding shown_labels
  labels_end cut [] [] entries ends has room = All-nil Ends
  labels_end cut [] (l ∷ ls) entries ends has room = cc entries
  labels_end cut (e ∷ es) [] entries ends has room = cc entries
  labels_end cut (e ∷ es) (l ∷ ls) entries ends has room =
      let entry = head_same l.entry (shifted dropped e) (map (λ (x : PlacedLabel). x.entry) ls) (map (shifted dropped) es) entries in
      let further = tail_same l.entry (shifted dropped e) (map (λ (x : PlacedLabel). x.entry) ls) (map (shifted dropped) es) entries in
      let none : (is_start_part e.annotation_type || is_bar e.annotation_type) ≡ true → Ends l = λ before n some.
      absurd (omega (
        arith,
        some,
        no_piece layout l.cell n l.pieces (All-head HasPieces l ls has ∙ ap (label_pieces layout l.cell) (ap label_text entry
            ∙ All-head IsLabelledAtEnd (shifted dropped e) (map (shifted dropped) es) ends before)),
      )) in
      both (is_start_part e.annotation_type || is_bar e.annotation_type) none (label_ends e l cut (pieces_are e l entry (All-head HasPieces l ls has)))
      (labels_end cut es ls further (All-tail IsLabelledAtEnd (shifted dropped e) (map (shifted dropped) es) ends) (All-tail HasPieces l ls has)) room
    where
      both : (b : Bool) → (b ≡ true → Ends l) → (IsRoomy (shown_at e l) → Ends l) → (All IsRoomy (shown_labels es ls) → All Ends ls)
          → All IsRoomy (cond (not b) (shown_at e l ∷ shown_labels es ls) (shown_labels es ls)) → All Ends (l ∷ ls)
      both true none own rest room = All-cons Ends l ls (none refl) (rest room)
      both false none own rest room =
          All-cons Ends l ls (own (All-head IsRoomy (shown_at e l) (shown_labels es ls) room))
          (rest (All-tail IsRoomy (shown_at e l) (shown_labels es ls) room))

-- ---- which spans these are

-- of the entries of a span of several lines the last one alone is where it ends
one_end : (s : Source) (k depth : ℕ) (again : Bool) (e : LineAnnotation)
    → map (label_of_part) (filter ends_here (filter (λ (p : LineAnnotation). p.start.line == s.first + k) (span_parts s depth again e)))
    ≡ map (label_of_end) (cond (e.end.line == s.first + k) (e ∷ []) [])
one_end s k depth true e = both (e.end.line == s.first + k)
  where
    both : (b : Bool) → map (label_of_part) (filter ends_here (cond b (end_part e Singleline ∷ []) [])) ≡ map (label_of_end) (cond b (e ∷ []) [])
    both true = refl
    both false = refl
one_end s k depth false e =
    let bars : List LineAnnotation = map (λ n. bar_part e depth (s.first + n)) (bar_lines s.text (e.start.line - s.first) (e.end.line - s.first)) in
    let rest : List LineAnnotation = bars ++ end_part e (MultilineEnd depth) ∷ [] in
    ap (map (label_of_part)) (first (e.start.line == s.first + k) (filter on_line rest))
    ∙ ap (λ ps. map (label_of_part) (filter ends_here ps)) (filter-append on_line bars (end_part e (MultilineEnd depth) ∷ []))
    ∙ ap (map (label_of_part)) (filter-append ends_here (filter on_line bars) (filter on_line (end_part e (MultilineEnd depth) ∷ [])))
    ∙ ap (λ ps. map (label_of_part) (ps ++ filter ends_here (filter on_line (end_part e (MultilineEnd depth) ∷ []))))
    (filter-none ends_here (filter on_line bars) (All-filter on_line (λ p. ends_here p ≡ false)
    bars (All-map (λ p. ends_here p ≡ false) (λ n. bar_part e depth (s.first + n))
    (bar_lines s.text (e.start.line - s.first) (e.end.line - s.first)) (λ i d within. refl)))) ∙ both (e.end.line == s.first + k)
  where
    on_line : LineAnnotation → Bool
    on_line = λ (p : LineAnnotation). p.start.line == s.first + k

    first : (b : Bool) (ps : List LineAnnotation) → filter ends_here (cond b (start_part e depth ∷ ps) ps) ≡ filter ends_here ps
    first true ps = refl
    first false ps = refl

    both : (b : Bool)
        → map (label_of_part) (filter ends_here (cond b (end_part e (MultilineEnd depth) ∷ []) [])) ≡ map (label_of_end) (cond b (e ∷ []) [])
    both true = refl
    both false = refl

long_ends : (s : Source) (k : ℕ) (places : List LongExtent) (before es : List LineAnnotation)
    → map (label_of_part) (filter ends_here (filter (λ (p : LineAnnotation). p.start.line == s.first + k) (long_parts s places before es)))
    ≡ map (label_of_end) (filter (λ (e : LineAnnotation). e.end.line == s.first + k) (promoted_spans before es))
long_ends s k places before [] = refl
long_ends s k places before (e ∷ later) =
    let on_line : LineAnnotation → Bool = λ (p : LineAnnotation). p.start.line == s.first + k in
    let own : List LineAnnotation = span_parts s (depth_among places (long_place e)) (stands_among e later) (promoted before e) in
    let others : List LineAnnotation = long_parts s places (before ++ e ∷ []) later in
    let ends : LineAnnotation → Bool = λ (x : LineAnnotation). x.end.line == s.first + k in
    let rest : List LineAnnotation = promoted_spans (before ++ e ∷ []) later in
    ap (λ ps. map (label_of_part) (filter ends_here ps)) (filter-append on_line own others)
    ∙ ap (map (label_of_part)) (filter-append ends_here (filter on_line own) (filter on_line others))
    ∙ map-append (label_of_part) (filter ends_here (filter on_line own)) (filter ends_here (filter on_line others))
    ∙ ap (λ xs. xs ++ map (label_of_part) (filter ends_here (filter on_line others)))
    (one_end s k (depth_among places (long_place e)) (stands_among e later) (promoted before e))
    ∙ ap (λ xs. map (label_of_end) (cond (ends (promoted before e)) (promoted before e ∷ []) []) ++ xs)
    (long_ends s k places (before ++ e ∷ []) later) ∙ both (ends (promoted before e)) (filter ends rest)
  where
    both : (b : Bool) (xs : List LineAnnotation)
        → map (label_of_end) (cond b (promoted before e ∷ []) []) ++ map (label_of_end) xs ≡ map (label_of_end) (cond b (promoted before e ∷ xs) xs)
    both true xs = refl
    both false xs = refl

-- a span on one line has its entry's label
single_labels : (s : Source) (k : ℕ) (marked : List Annotation) → All (λ a. is_marked_on s.text k a ≡ true) marked
    → map (label_of_part) (filter ends_here (map (single_part s) marked)) ≡ map (label_of_span s.text) marked
single_labels s k [] own = refl
single_labels s k (a ∷ marked) own =
    let O : Annotation → Type 0 = λ x. is_marked_on s.text k x ≡ true in
    let single : is_single_line s.text a ≡ true = grind (arith, common_steps, and_parts, All-head, O, a.kind, s.text) in
    let rest = single_labels s k marked (All-tail O a marked own) in
    let here : label_of_part (single_part s a) ≡ label_of_span s.text a = cc (start_of_entry s a, end_of_entry s a single) in cc (here, rest)

-- ---- the labels of a line

-- what holds of elements that pass a test
unfiltered : {X : Type 0} (p : X → Bool) (P : X → Type 0) (xs : List X) → All P (filter p xs) → All (λ x. p x ≡ true → P x) xs
unfiltered p P [] all = All-nil (λ x. p x ≡ true → P x)
unfiltered {X} p P (x ∷ xs) all = both (p x) refl all (unfiltered p P xs)
  where
    T : X → Type 0
    T y = p y ≡ true → P y

    both : (b : Bool) → p x ≡ b → All P (cond b (x ∷ filter p xs) (filter p xs)) → (All P (filter p xs) → All T xs) → All T (x ∷ xs)
    both true is all rest = All-cons T x xs (λ _. All-head P x (filter p xs) all) (rest (All-tail P x (filter p xs) all))
    both false is all rest = All-cons T x xs (λ yes. absurd (false≢true (sym is ∙ yes))) (rest all)

-- the labels of the spans that end on line k stand below it, whatever other entries the line has
pub labels_shown : (sn : Snippet Annotation) (k dropped : ℕ) (layout : Layout) (es : List LineAnnotation) (rows : List (List Cell))
    → es ≡ parts_on (numbered_source sn) sn.markers.items k
    → All (λ e. is_bar e.annotation_type ≡ false → dropped ≤ e.start.display) es → LabelsStand layout (map (shifted dropped) es) rows
    → ((r c : ℕ) → c < layout.code → char_width (cell_at rows r c).ch ≤ 1) → ShowsLabels layout.decor layout sn k dropped rows
labels_shown sn k dropped layout es rows same clear stand left =
    let s : Source = numbered_source sn in
    let marks : List Annotation = sn.markers.items in
    let on_line : LineAnnotation → Bool = λ (p : LineAnnotation). p.start.line == s.first + k in
    let marked : List Annotation = filter (is_marked_on s.text k) marks in
    let singles : List LineAnnotation = map (single_part s) marked in
    let longs : List LineAnnotation = filter on_line (long_parts s (long_places s marks) [] (long_spans s marks)) in
    let parts : es ≡ singles ++ longs = same ∙ filter-append on_line (map (single_part s) (filter (is_short s.text) marks))
    (long_parts s (long_places s marks) [] (long_spans s marks)) ∙ ap (λ ps. ps ++ longs) (singles-on s marks k) in
    let none_kept : (r c : ℕ) → count_by (is_in_label layout r c) (shown_labels es stand.labels) ≡ 0 → count_by (is_cell_of r c) stand.labels ≡ 0 = λ r c none.
    omega (arith, none, cells_all dropped layout rows r c es stand.labels stand.are (labelled_at_end s marks k dropped es same) stand.pieces) in
    let long : length stand.labels ≡ length es = grind (arith, common_steps, length-map, shifted, stand.labels, stand.are) in
    let spans : map (label_of_part) (filter ends_here es) ≡ labels_ending_on sn k = ap (λ ps. map (label_of_part) (filter ends_here ps)) parts
    ∙ ap (map (label_of_part)) (filter-append ends_here singles longs) ∙ map-append (label_of_part) (filter ends_here singles) (filter ends_here longs)
    ∙ ap (λ xs. xs ++ map (label_of_part) (filter ends_here longs)) (single_labels s k marked (filter_passes (is_marked_on s.text k) marks))
    ∙ ap (λ xs. map (label_of_span s.text) marked ++ xs) (long_ends s k (long_places s marks) [] (long_spans s marks)) in
    record {
      labels = shown_labels es stand.labels;
      spans = labels_are es stand.labels long ∙ spans;
      stand = all_kept dropped layout rows (Stands dropped layout rows) (Shows dropped layout rows) (one_label dropped layout rows) es stand.labels stand.are
          stand.pieces clear stand.stand;
      led = all_kept dropped layout rows (Led dropped layout rows stand.labels) (Stemmed dropped layout rows (shown_labels es stand.labels))
          (one_led dropped layout rows stand.labels (shown_labels es stand.labels) none_kept) es stand.labels stand.are stand.pieces clear stand.led;
      apart = λ r c. omega (arith, cells_few dropped layout rows r c es stand.labels stand.are stand.pieces, stand.apart r c);
      others = λ r c right none. stand.others r c right (none_kept r c none);
      broken = λ cut k d within wide. label_broken layout cut (get_or (shown_labels es stand.labels) k d) wide;
      within = λ cut room.
          let edge : ℕ = layout.label_end in
          let shown = labels_end dropped layout rows cut es stand.labels stand.are (labelled_at_end s marks k dropped es same) stand.pieces room in
          let E : SpanLabel → Type 0 = λ l. layout.code + (l.to - dropped) ≤ edge in (
            λ i d inside some. all_kept dropped layout rows (Fits dropped layout rows) (RowsFit dropped layout rows) (one_roomy dropped layout rows)
                es stand.labels stand.are stand.pieces clear (label_rows_have_room layout (map (shifted dropped) es) rows stand cut shown left) i d inside
                (room i d inside some) some,
            λ marks_room r d inside.
                let last : All (λ p. ends_here p ≡ true → E (label_of_part p)) es = unfiltered ends_here (λ p. E (label_of_part p)) es
                (All-unmapped E (label_of_part) (filter ends_here es) (subst (All E) (sym spans) marks_room.end)) in
                let end = entries_end s marks k dropped edge layout marks_room.code marks_room.begin es same (λ i x within ending.
                last i x within (ap not ending)) in
                omega (
                  arith,
                  rows_have_room layout (map (shifted dropped) es) rows stand cut shown left marks_room.code end r,
                  ap (λ (row : List Cell). width_of (row_text row)) (get_or_default rows r d [] inside),
                ),
          );
    }
