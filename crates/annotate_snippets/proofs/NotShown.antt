-- What is not shown: rows that are wrong, each on a small report, contradict the definitions of what rows show.
use Rattle.std.proofs.lemmas.Grind.{common_steps}
use Rattle.annotate_snippets.proofs.Common.{Option, Some, None, ◌≡◌, ℕ, ◌+◌, ◌<◌, ◌≤◌, ◌==◌, ◌&&◌, ◌⊎◌, Bool, true, false}
use Rattle.annotate_snippets.proofs.Common.{List, [], ◌∷◌, ◌++◌, codes, encode_utf8_all, length, drop, replicate, refl, sym, ap, subst, ◌∙◌}
use Rattle.annotate_snippets.proofs.Common.{arith, inl, inr, is_ascii_alphanumeric, cow_str_bytes, Contains, filter, slice_index_or, option_map, CowStr, Global}
use Rattle.annotate_snippets.proofs.Common.{eq-eqb, append_cancel_left, append_cancel_right, All-nil, All-cons, filter_map-append, Cell, SPACE, text_cells}
use Rattle.annotate_snippets.proofs.Common.{row_text, Ascii, LabelPrimary, LineNumber, Quotation, UnderlinePrimary, UnderlineSecondary, norm, char_width}
use Rattle.annotate_snippets.proofs.Common.{unicode_width, Snippet, Annotation, AnnotationKind, Primary, Context, start_of, line_of, place_of, Ascends}
use Rattle.annotate_snippets.proofs.Common.{is_marked_on, qualifies_for_marks, start_column, end_column, span_width, IsMarkedAt, IsMarkOf, chars_at}
use Rattle.annotate_snippets.proofs.Common.{stands_whole, IsMarkCell, is_mark_role, separator_row, Elision, RowName, OfferedLine, RemovedLine, SourceRow, Other}
use Rattle.annotate_snippets.proofs.Common.{NamedRow, lines_named, others, closes_with, cause_head, rows_after_cause, plain_settings, Layout, ElementContext}
use Rattle.annotate_snippets.proofs.Common.{IsMarkGlyph, char_of, placeholder_of, cell_of, shown_label, ShowsMarksOf, normalized_chars, ShowsSourceLine}
use Rattle.annotate_snippets.proofs.Common.{IsRowBelow, ShowsLineAndMarks, IsRowOf, AreRowsOf, ShowsSnippet, number_text}
use Rattle.std.specs.List.{All}
use Rattle.std.specs.Str.{chars}
use Rattle.annotate_snippets.proofs.MarginWords.{room_of}
use Rattle.annotate_snippets.proofs.Ascending.{IsAscending, ascending}
use Rattle.annotate_snippets.proofs.LeftLaws.{separator_of_left, unnumbered_below, unnumbered_elided}
use Rattle.annotate_snippets.proofs.ListLemmas.{Contains-head, Contains-tail, Contains-cons_cases}

-- ---- small reports, and their rows

-- where their rows have their parts: one digit in the gutter, and the code from cell 4 on, as in `1 | code`
abbrev pub layout : Layout
layout = record { gutter = 1; code = 4; decor = Ascii; label_lines = false; label_end = 0 }

-- a source row of line 1, with this code
abbrev source_row : List ℕ → List Cell
source_row code = text_cells LineNumber (codes "1") ++ SPACE ∷ text_cells LineNumber (codes "|") ++ SPACE ∷ text_cells Quotation code

-- a row below it, with these cells from the code's on
abbrev pub row_below : List Cell → List Cell
row_below cells = separator_row Ascii 1 ++ SPACE ∷ cells

-- a span of these bytes, with this label
abbrev pub labelled_span : Option (CowStr Global) → AnnotationKind → ℕ → ℕ → Annotation
labelled_span label kind start end =
    record { span = record { start = start; end = end }; label = label; kind = kind; highlight_source = false }

-- a span of these bytes, with no label
abbrev pub span_of : AnnotationKind → ℕ → ℕ → Annotation
span_of kind start end = labelled_span None kind start end

-- the snippet has this source and these spans
pub record IsSnippetOf (s : Snippet Annotation) (source : List ℕ) (marks : List Annotation) : Type 0 where
  pub source_is : cow_str_bytes s.source.text ≡ source
  pub marks_are : s.markers.items ≡ marks

-- whether the first line of a source stands whole in the plain renderer's room, and whether it qualifies for the promise on
-- marks there
abbrev pub is_whole : Bool → List ℕ → List Annotation → Bool
is_whole fold source marks =
    stands_whole (room_of plain_settings layout) (length (placeholder_of Ascii)) fold source marks 0

abbrev qualifies : List ℕ → List Annotation → Bool
qualifies source marks =
    qualifies_for_marks (room_of plain_settings layout) (length (placeholder_of Ascii)) source marks 0

-- it does both, with lines folded or not
record IsPlainLine (source : List ℕ) (marks : List Annotation) : Type 0 where
  folded : is_whole true source marks ≡ true
  unfolded : is_whole false source marks ≡ true
  qualified : qualifies source marks ≡ true

-- these cells aren't the marks of the first line of a snippet: a row that has them below the code hasn't the line's marks,
-- and so no source row with this row below it shows the line
record AreOtherMarks (source : List ℕ) (marks : List Annotation) (cells : List Cell) : Type 0 where
  below : (s : Snippet Annotation) → IsSnippetOf s source marks → ShowsMarksOf Ascii layout s 0 0 (row_below cells) → ⊥
  above : (s : Snippet Annotation) → IsSnippetOf s source marks → (row : List Cell) (rows : List (List Cell))
      → ShowsLineAndMarks plain_settings layout s 0 row (row_below cells) rows → ⊥

-- ---- lines that stand whole

-- the first line of a snippet stands whole if that of its source does
whole_line : (s : Snippet Annotation) (source : List ℕ) (marks : List Annotation) → IsSnippetOf s source marks → IsPlainLine source marks
    → is_whole s.fold (cow_str_bytes s.source.text) s.markers.items ≡ true
whole_line s source marks is plain =
    subst (λ text. is_whole s.fold text s.markers.items ≡ true) (sym is.source_is)
    (subst (λ spans. is_whole s.fold source spans ≡ true) (sym is.marks_are) (whole s.fold))
  where
    whole : (fold : Bool) → is_whole fold source marks ≡ true
    whole true = plain.folded
    whole false = plain.unfolded

-- then no column is dropped, and the row below has to have the line's marks
other_marks : (source : List ℕ) (marks : List Annotation) (cells : List Cell) → IsPlainLine source marks
    → ((s : Snippet Annotation) → IsSnippetOf s source marks → ShowsMarksOf Ascii layout s 0 0 (row_below cells) → ⊥) → AreOtherMarks source marks cells
other_marks source marks cells plain wrong = record { below = wrong; above = grind (arith, common_steps, whole_line, plain.qualified) }

-- ---- marks

-- the span is marked below the source's first line, from one column to before another
record IsMarkedFrom (source : List ℕ) (a : Annotation) (start end : ℕ) : Type 0 where
  marked : is_marked_on source 0 a ≡ true
  start_is : start_column source a ≡ start
  end_is : end_column source a ≡ end

is_marked_at : (source : List ℕ) (a : Annotation) (start end : ℕ) → IsMarkedFrom source a start end → (p : ℕ) → start ≤ p → p < end → IsMarkedAt source 0 p a
is_marked_at source a start end is p from to = (is.marked, omega arith, omega arith)

-- what a list of one span contains is that span
the_one : (a other : Annotation) → Contains (a ∷ []) other → a ≡ other
the_one a other among = grind (arith, Contains-cons_cases)

-- the mark of one span has its kind
mark_of_one : (source : List ℕ) (k p : ℕ) (a : Annotation) → IsMarkedAt source k p a → IsMarkOf source (a ∷ []) k p a.kind
mark_of_one source k p a at = grind (arith, Contains-head, the_one)

-- of two spans, a primary one that isn't wider than the first has the mark
mark_of_primary : (source : List ℕ) (k p : ℕ) (a b : Annotation) → IsMarkedAt source k p b → b.kind ≡ Primary → span_width source b ≤ span_width source a
    → IsMarkOf source (a ∷ b ∷ []) k p Primary
mark_of_primary source k p a b at primary narrow =
    record {
      span = b;
      among = Contains-tail a b (b ∷ []) (Contains-head b []);
      covers = at;
      is = primary;
      least = λ other among there. not_wider other (Contains-cons_cases a other (b ∷ []) among);
      primary_wins = λ context other among there theirs. cc;
    }
  where
    not_wider : (other : Annotation) → (a ≡ other) ⊎ Contains (b ∷ []) other → span_width source b ≤ span_width source other
    not_wider other (inl same) = subst (λ c. span_width source b ≤ span_width source c) same narrow
    not_wider other (inr rest) = subst (λ c. span_width source b ≤ span_width source c) (the_one b other rest) (omega arith)

-- in ASCII a primary mark is '^', whether a label hangs from it or not
caret : (ch : ℕ) → IsMarkGlyph Ascii true ch → ch ≡ char_of (codes "^")
caret ch (inl is) = is
caret ch (inr is) = is

-- what holds of a row that has the marks of such a snippet's first line, in terms of the snippet's source and spans
module _ {s : Snippet Annotation} {source : List ℕ} {marks : List Annotation} {row : List Cell} (is : IsSnippetOf s source marks)
    (shown : ShowsMarksOf Ascii layout s 0 0 row) where
  -- below a column that has a primary mark stands nothing but '^'
  primary_missing : (p : ℕ) → IsMarkOf source marks 0 p Primary → ((slice_index_or row (cell_of layout 0 p) SPACE).ch == char_of (codes "^")) ≡ false → ⊥
  primary_missing p mark other =
      let cell : IsMarkCell Ascii Primary (slice_index_or row (cell_of layout 0 p) SPACE) = shown.marks p Primary
      (subst (λ text. IsMarkOf text s.markers.items 0 p Primary) (sym is.source_is)
      (subst (λ spans. IsMarkOf source spans 0 p Primary) (sym is.marks_are) mark)) in
      let same : ((slice_index_or row (cell_of layout 0 p) SPACE).ch == char_of (codes "^")) ≡ true = eq-eqb _ _ (caret _ cell.0) in
      cc

  -- below a column that no span covers no cell is in the role of marks
  no_mark_role : (p : ℕ) → All (λ a. IsMarkedAt source 0 p a → ⊥) marks → is_mark_role (slice_index_or row (cell_of layout 0 p) SPACE).role ≡ false
  no_mark_role p none = grind arith

  -- after the mark of a lone span stands its label
  label_after : (a : Annotation) → filter (is_marked_on source 0) marks ≡ a ∷ [] → 0 < length (shown_label a)
      → row_text (drop (cell_of layout 0 (end_column source a)) row) ≡ 32 ∷ shown_label a
  label_after a alone some = grind arith

-- ---- numbers that ascend

-- numbers after others ascend as they do
rest_ascends : (j : ℕ) (js : List ℕ) → IsAscending (j ∷ js) → IsAscending js
rest_ascends j [] ascending = tt
rest_ascends j (i ∷ js) ascending = ascending.1

-- each is greater than those before it
greater : (i j : ℕ) (js ks : List ℕ) → IsAscending (i ∷ (js ++ (j ∷ ks))) → i < j
greater i j [] ks ascending = ascending.0
greater i j (l ∷ js) ks ascending = grind (arith, greater l j js ks ascending.1, ascending.1, ascending.0)

-- so none stands there twice
pub two_of_one : (k : ℕ) (before between after : List ℕ) → IsAscending (before ++ (k ∷ (between ++ (k ∷ after)))) → ⊥
two_of_one k [] between after ascending = grind (arith, greater)
two_of_one k (j ∷ before) between after ascending = two_of_one k before between after (rest_ascends j (before ++ (k ∷ (between ++ (k ∷ after)))) ascending)

-- ---- rows and their names

-- rows after others are what their names say, if all are
pub rows_after : (closes : Bool) (s : Snippet Annotation) (rows more : List NamedRow) → AreRowsOf plain_settings layout closes s (rows ++ more)
    → AreRowsOf plain_settings layout closes s more
rows_after closes s [] more named = named
rows_after closes s (row ∷ rows) more named = rows_after closes s rows more named.1

-- a row `1 | a` can only be named as that of the first line of `a`
named_first : (closes : Bool) (s : Snippet Annotation) → cow_str_bytes s.source.text ≡ codes "a" → (name : RowName) (cells : List Cell) (rows : List NamedRow)
    → cells ≡ source_row (codes "a") → IsRowOf plain_settings layout closes s name cells rows → name ≡ SourceRow 0
named_first closes s is (SourceRow k) cells rows same shows = grind (arith, shows.line.within)
named_first closes s is (OfferedLine j) cells rows same shows = absurd shows
named_first closes s is (RemovedLine i) cells rows same shows = absurd shows
named_first closes s is Elision cells rows same shows = grind (arith, slice_index_or, unnumbered_elided)
named_first closes s is Other cells rows same shows =
    let digit : true ≡ false = subst (λ row. is_ascii_alphanumeric (slice_index_or row 0 SPACE).ch ≡ false) same
    (unnumbered_below Ascii layout (closes && length rows == 0) cells shows 0 (omega arith)) in
    cc

-- ---- the laws

-- the placeholder in place of a line that has room, here of `ab`, however many columns are said to be dropped:
--
--     1 | ...
source_row_elided : (s : Snippet Annotation) → IsSnippetOf s (codes "ab") (span_of Primary 0 1 ∷ []) → (dropped : ℕ)
    → ShowsSourceLine plain_settings layout s 0 dropped (source_row (codes "...")) → ⊥
unfolding place_of line_of start_of chars char_width unicode_width norm
source_row_elided s is dropped shown =
    let whole = whole_line s (codes "ab") (span_of Primary 0 1 ∷ []) is (record { folded = refl; unfolded = refl; qualified = refl }) in
    let text : codes "..." ≡ codes "ab" = subst (λ source. codes "..." ≡ norm (chars_at source 0)) is.source_is (shown.whole whole).1 in
    cc

-- a separator in the role of marks, as a highlight that begins left of the code would leave it
coloured_separator : (s : Snippet Annotation) (k dropped : ℕ)
    → ShowsSourceLine plain_settings layout s k dropped (text_cells LineNumber (codes "1") ++ SPACE ∷ text_cells UnderlinePrimary (codes "|")
    ++ SPACE ∷ text_cells Quotation (codes "ab")) → ⊥
coloured_separator s k dropped shown =
    let shown_there : List ℕ = number_text plain_settings s.line_numbering 1 (s.line_start + k) in
    let marked : true ≡ false = ap (λ (c : Cell). is_mark_role c.role) (separator_of_left Ascii 1 shown_there
    (text_cells LineNumber (codes "1") ++ SPACE ∷ text_cells UnderlinePrimary (codes "|") ++ SPACE ∷ text_cells Quotation (codes "ab")) shown.left) in
    cc

-- a second copy of a line, here of `a`, whatever it is named: two rows that are named by one line don't ascend, whatever
-- stands before, between and after them, and the copy is no row below a line's, as it has a digit in the gutter
--
--     1 | a
--     1 | a
second_copy : (k : ℕ) (row copy : NamedRow) (before between after : List NamedRow) (closes : Bool) → row.name ≡ SourceRow k → copy.name ≡ SourceRow k
    → (IsAscending (lines_named (before ++ (row ∷ (between ++ (copy ∷ after))))) → ⊥) × (IsRowBelow Ascii layout closes (source_row (codes "a")) → ⊥)
second_copy k row copy before between after closes row_is copy_is = (
  λ ascending. two_of_one k (lines_named before) (lines_named between) (lines_named after) (simp (filter_map-append, row_is, copy_is) at ascending),
  λ below.
      let digit : true ≡ false = unnumbered_below Ascii layout closes (source_row (codes "a")) below 0 (omega arith) in cc,
)

-- so no rows in which it stands twice show the snippet, wherever that stands: neither after those that it begins with nor
-- before those below its lines
second_copy_of_a_line : (s : Snippet Annotation) → cow_str_bytes s.source.text ≡ codes "a"
    → (around : ElementContext) (row copy : NamedRow) (before between after : List NamedRow) → row.cells ≡ source_row (codes "a")
    → copy.cells ≡ source_row (codes "a") → ShowsSnippet plain_settings layout around s
    (others (cause_head plain_settings layout around s)
    ++ ((before ++ (row ∷ (between ++ (copy ∷ after)))) ++ others (rows_after_cause plain_settings layout around))) → ⊥
second_copy_of_a_line s is around row copy before between after row_is copy_is shown =
    let rows : List NamedRow = before ++ (row ∷ (between ++ (copy ∷ after))) in
    let tail : List NamedRow = others (rows_after_cause plain_settings layout around) in
    let closes : Bool = closes_with around in
    let same : shown.after ≡ rows = grind (arith, common_steps, append_cancel_right, rows, tail, append_cancel_left, others, shown.after, shown.rows_are) in
    let from_row : AreRowsOf plain_settings layout closes s (row ∷ (between ++ (copy ∷ after))) = rows_after closes s before
    (row ∷ (between ++ (copy ∷ after))) (subst (AreRowsOf plain_settings layout closes s) same shown.named) in
    let from_copy : AreRowsOf plain_settings layout closes s (copy ∷ after) = rows_after closes s between (copy ∷ after) from_row.1 in
    let row_named : row.name ≡ SourceRow 0 = named_first closes s is row.name row.cells (between ++ (copy ∷ after)) row_is from_row.0 in
    let copy_named : copy.name ≡ SourceRow 0 = named_first closes s is copy.name copy.cells after copy_is from_copy.0 in
    (second_copy 0 row copy before between after closes row_named copy_named).0 (ascending (lines_named rows)
    (subst (λ all. Ascends (lines_named all)) same shown.ordered))

-- the marks of a wider span below a narrower primary one, here of all of `abcdef` below `cd`:
--
--     1 | abcdef
--       | ------
underlines_in_given_order : AreOtherMarks (codes "abcdef") (span_of Context 0 6 ∷ span_of Primary 2 4 ∷ []) (text_cells UnderlineSecondary (codes "------"))
unfolding place_of line_of start_of chars char_width unicode_width
underlines_in_given_order =
    let source : List ℕ = codes "abcdef" in
    let wide : Annotation = span_of Context 0 6 in
    let narrow : Annotation = span_of Primary 2 4 in
    let at : IsMarkedAt source 0 2 narrow = is_marked_at source narrow 2 4 (record { marked = refl; start_is = refl; end_is = refl }) 2 (omega arith)
    (omega arith) in
    let mark : IsMarkOf source (wide ∷ narrow ∷ []) 0 2 Primary = mark_of_primary source 0 2 wide narrow at refl (omega arith) in
    other_marks source (wide ∷ narrow ∷ []) (text_cells UnderlineSecondary (codes "------")) (record { folded = refl; unfolded = refl; qualified = refl })
    (λ s is shown. primary_missing is shown 2 mark refl)

-- the marks for context below a primary span of the same width, here of `ab`:
--
--     1 | abcd
--       | --
context_wins_ties : AreOtherMarks (codes "abcd") (span_of Context 0 2 ∷ span_of Primary 0 2 ∷ []) (text_cells UnderlineSecondary (codes "--"))
unfolding place_of line_of start_of chars char_width unicode_width
context_wins_ties =
    let source : List ℕ = codes "abcd" in
    let context : Annotation = span_of Context 0 2 in
    let primary : Annotation = span_of Primary 0 2 in
    let at : IsMarkedAt source 0 0 primary = is_marked_at source primary 0 2 (record { marked = refl; start_is = refl; end_is = refl }) 0 (omega arith)
    (omega arith) in
    let mark : IsMarkOf source (context ∷ primary ∷ []) 0 0 Primary = mark_of_primary source 0 0 context primary at refl (omega arith) in
    other_marks source (context ∷ primary ∷ []) (text_cells UnderlineSecondary (codes "--")) (record { folded = refl; unfolded = refl; qualified = refl })
    (λ s is shown. primary_missing is shown 0 mark refl)

-- marks at the columns of a span's bytes, here below the second character of `日本`, which has the bytes 3 to 5 and stands
-- at columns 2 and 3:
--
--     1 | 日本
--       |    ^^^
marks_by_byte_offset : AreOtherMarks (encode_utf8_all (codes "日本")) (span_of Primary 3 6 ∷ []) (replicate 3 SPACE ++ text_cells UnderlinePrimary (codes "^^^"))
unfolding place_of line_of start_of chars char_width unicode_width lib.Utf8.encode
marks_by_byte_offset =
    let source : List ℕ = encode_utf8_all (codes "日本") in
    let span : Annotation = span_of Primary 3 6 in
    let at : IsMarkedAt source 0 2 span = is_marked_at source span 2 4 (record { marked = refl; start_is = refl; end_is = refl }) 2 (omega arith)
    (omega arith) in
    let mark : IsMarkOf source (span ∷ []) 0 2 Primary = mark_of_one source 0 2 span at in
    other_marks source (span ∷ []) (replicate 3 SPACE ++ text_cells UnderlinePrimary (codes "^^^"))
    (record { folded = refl; unfolded = refl; qualified = refl }) (λ s is shown. primary_missing is shown 2 mark refl)

-- a mark at the column of a span's character, here below the `x` after a tab, which is character 1 and stands at column 4:
--
--     1 |     x
--       |  ^
marks_by_character_count : AreOtherMarks (9 ∷ codes "x") (span_of Primary 1 2 ∷ []) (SPACE ∷ text_cells UnderlinePrimary (codes "^"))
unfolding place_of line_of start_of chars char_width unicode_width norm
marks_by_character_count =
    let source : List ℕ = 9 ∷ codes "x" in
    let span : Annotation = span_of Primary 1 2 in
    let at : IsMarkedAt source 0 4 span = is_marked_at source span 4 5 (record { marked = refl; start_is = refl; end_is = refl }) 4 (omega arith)
    (omega arith) in
    let mark : IsMarkOf source (span ∷ []) 0 4 Primary = mark_of_one source 0 4 span at in
    other_marks source (span ∷ []) (SPACE ∷ text_cells UnderlinePrimary (codes "^")) (record { folded = refl; unfolded = refl; qualified = refl })
    (λ s is shown. primary_missing is shown 4 mark refl)

-- marks below columns that no span covers, here below all of `ab cd`, of which a span covers `a` alone:
--
--     1 | ab cd
--       | ^^^^^
every_column_marked : AreOtherMarks (codes "ab cd") (span_of Primary 0 1 ∷ []) (text_cells UnderlinePrimary (codes "^^^^^"))
unfolding place_of line_of start_of chars char_width unicode_width
every_column_marked =
    let span : Annotation = span_of Primary 0 1 in
    let IsFreeOf : Annotation → Type 0 = λ a. IsMarkedAt (codes "ab cd") 0 1 a → ⊥ in
    let free : All IsFreeOf (span ∷ []) = All-cons IsFreeOf span [] (λ at. absurd (omega (arith, at.2))) (All-nil IsFreeOf) in
    other_marks (codes "ab cd") (span ∷ []) (text_cells UnderlinePrimary (codes "^^^^^")) (record { folded = refl; unfolded = refl; qualified = refl })
    (λ s is shown. let role : true ≡ false = no_mark_role is shown 1 free in cc)

-- a mark without its span's label, here `x`, where no other span is on the line:
--
--     1 | ab
--       | ^
lone_label_left_out : (label : Option (CowStr Global)) → option_map cow_str_bytes label ≡ Some (codes "x")
    → AreOtherMarks (codes "ab") (labelled_span label Primary 0 1 ∷ []) (text_cells UnderlinePrimary (codes "^"))
unfolding place_of line_of start_of chars char_width unicode_width norm
lone_label_left_out label label_is =
    let span : Annotation = labelled_span label Primary 0 1 in
    let text : shown_label span ≡ codes "x" = ap normalized_chars label_is in
    let some : 0 < length (shown_label span) = omega (arith, ap length text) in
    other_marks (codes "ab") (span ∷ []) (text_cells UnderlinePrimary (codes "^")) (record { folded = refl; unfolded = refl; qualified = refl }) (λ s is shown.
    let after : [] ≡ 32 ∷ shown_label span = label_after is shown span refl some in cc)

-- the label of the one span on a line elsewhere than one cell after its mark, here two cells:
--
--     1 | ab
--       | ^  x
label_elsewhere : (label : Option (CowStr Global)) → option_map cow_str_bytes label ≡ Some (codes "x")
    → AreOtherMarks (codes "ab") (labelled_span label Primary 0 1 ∷ [])
    (text_cells UnderlinePrimary (codes "^") ++ SPACE ∷ SPACE ∷ text_cells LabelPrimary (codes "x"))
unfolding place_of line_of start_of chars char_width unicode_width norm
label_elsewhere label label_is =
    let span : Annotation = labelled_span label Primary 0 1 in
    let text : shown_label span ≡ codes "x" = ap normalized_chars label_is in
    let some : 0 < length (shown_label span) = omega (arith, ap length text) in
    other_marks (codes "ab") (span ∷ []) (text_cells UnderlinePrimary (codes "^") ++ SPACE ∷ SPACE ∷ text_cells LabelPrimary (codes "x"))
    (record { folded = refl; unfolded = refl; qualified = refl })
    (λ s is shown. let after : 32 ∷ 32 ∷ codes "x" ≡ 32 ∷ shown_label span = label_after is shown span refl some in
    absurd (omega (arith, ap length after, ap length text)))

-- a label that is drawn as it is given, here U+001B, which is shown as U+241B:
--
--     1 | ab
--       | ^ <U+001B>
label_drawn_raw : (label : Option (CowStr Global)) → option_map cow_str_bytes label ≡ Some (27 ∷ [])
    → AreOtherMarks (codes "ab") (labelled_span label Primary 0 1 ∷ []) (text_cells UnderlinePrimary (codes "^") ++ SPACE ∷ text_cells LabelPrimary (27 ∷ []))
unfolding place_of line_of start_of chars char_width unicode_width norm
label_drawn_raw label label_is =
    let span : Annotation = labelled_span label Primary 0 1 in
    let text : shown_label span ≡ 0x241B ∷ [] = ap normalized_chars label_is in
    let some : 0 < length (shown_label span) = omega (arith, ap length text) in
    other_marks (codes "ab") (span ∷ []) (text_cells UnderlinePrimary (codes "^") ++ SPACE ∷ text_cells LabelPrimary (27 ∷ []))
    (record { folded = refl; unfolded = refl; qualified = refl })
    (λ s is shown. let after : 32 ∷ 27 ∷ [] ≡ 32 ∷ shown_label span = label_after is shown span refl some in let letter : ◌≡◌ {A = ℕ} 27 0x241B =
    ap (λ (cs : List ℕ). slice_index_or cs 1 0) after ∙ ap (λ (cs : List ℕ). slice_index_or cs 0 0) text in absurd (omega (arith, letter)))

-- a mark that stays where it would stand in the whole line, here of the third column of `abcd`, where two columns of the line are
-- dropped:
--
--     1 | ...
--       |   ^
marks_not_shifted : (s : Snippet Annotation) → IsSnippetOf s (codes "abcd") (span_of Primary 2 3 ∷ [])
    → ShowsMarksOf Ascii layout s 0 2 (row_below (SPACE ∷ SPACE ∷ text_cells UnderlinePrimary (codes "^"))) → ⊥
unfolding place_of line_of start_of chars char_width unicode_width
marks_not_shifted s is shown =
    let source : List ℕ = codes "abcd" in
    let span : Annotation = span_of Primary 2 3 in
    let at : IsMarkedAt source 0 2 span = is_marked_at source span 2 3 (record { marked = refl; start_is = refl; end_is = refl }) 2 (omega arith)
    (omega arith) in
    let mark : IsMarkOf source (span ∷ []) 0 2 Primary = mark_of_one source 0 2 span at in
    let cell : IsMarkCell Ascii Primary SPACE = shown.marks 2 Primary (subst (λ text. IsMarkOf text s.markers.items 0 2 Primary) (sym is.source_is)
    (subst (λ spans. IsMarkOf source spans 0 2 Primary) (sym is.marks_are) mark)) in
    let same : SPACE.ch ≡ char_of (codes "^") = caret SPACE.ch cell.0 in
    absurd (omega (arith, same))
