-- What is not kept: rows of a line that a report leaves out, on a small report, contradict the definitions of what rows show.
use Rattle.std.proofs.lemmas.Grind.{common_steps}
use Rattle.annotate_snippets.proofs.Common.{◌≡◌, ℕ, zero, suc, ◌==◌, ◌&&◌, Bool, true, false, List, [], ◌∷◌, ◌++◌, codes, length}
use Rattle.annotate_snippets.proofs.Common.{refl, sym, ap, subst, arith, is_ascii_alphanumeric, slice_index_or, append_cancel_left, append_cancel_right}
use Rattle.annotate_snippets.proofs.Common.{length-append, filter_map-append, Cell, SPACE, text_cells, Ascii, LineNumber, Quotation, norm, char_width}
use Rattle.annotate_snippets.proofs.Common.{unicode_width, Snippet, Annotation, Primary, start_of, line_of, place_of, shown_lines, Elision, RowName}
use Rattle.annotate_snippets.proofs.Common.{OfferedLine, RemovedLine, SourceRow, Other, NamedRow, lines_named, others, closes_with, cause_head}
use Rattle.annotate_snippets.proofs.Common.{rows_after_cause, plain_settings, ElementContext, IsRowOf, AreRowsOf, ShowsSnippet}
use Rattle.std.specs.Str.{chars}
use Rattle.annotate_snippets.proofs.LeftLaws.{unnumbered_below, unnumbered_elided}
use Rattle.annotate_snippets.proofs.NotShown.{layout, span_of, IsSnippetOf, is_whole, rows_after}

-- ---- a line that isn't kept

-- `a` and `b` on two lines, of which a span marks the first, and the row `2 | b`
abbrev two_lines : List ℕ
two_lines = codes "a" ++ 10 ∷ codes "b"

abbrev row_of_second : List Cell
row_of_second = text_cells LineNumber (codes "2") ++ SPACE ∷ text_cells LineNumber (codes "|") ++ SPACE ∷ text_cells Quotation (codes "b")

-- the first line stands whole
first_whole : (fold : Bool) → is_whole fold two_lines (span_of Primary 0 1 ∷ []) ≡ true
unfolding place_of line_of start_of chars char_width unicode_width norm
first_whole true = refl
first_whole false = refl

-- so that row can only be named as that of the second line
named_second : (closes : Bool) (s : Snippet Annotation) → IsSnippetOf s two_lines (span_of Primary 0 1 ∷ [])
    → (name : RowName) (cells : List Cell) (rows : List NamedRow) → cells ≡ row_of_second → IsRowOf plain_settings layout closes s name cells rows
    → name ≡ SourceRow 1
unfolding chars norm
named_second closes s is (SourceRow zero) cells rows same shows =
    grind (arith, first_whole, slice_index_or, s.fold, s.source.text, s.markers.items, is.source_is, is.marks_are, shows.line.whole)
named_second closes s is (SourceRow (suc k)) cells rows same shows = grind (arith, is.source_is, shows.line.within)
named_second closes s is (OfferedLine j) cells rows same shows = absurd shows
named_second closes s is (RemovedLine i) cells rows same shows = absurd shows
named_second closes s is Elision cells rows same shows = grind (arith, slice_index_or, unnumbered_elided)
named_second closes s is Other cells rows same shows =
    let digit : true ≡ false = subst (λ row. is_ascii_alphanumeric (slice_index_or row 0 SPACE).ch ≡ false) same
    (unnumbered_below Ascii layout (closes && length rows == 0) cells shows 0 (omega arith)) in
    cc

-- a list of one number holds no other
other_number : (before after : List ℕ) → before ++ (1 ∷ after) ≡ 0 ∷ [] → ⊥
other_number [] after same = grind (arith, slice_index_or)
other_number (k ∷ before) after same = absurd (omega (arith, ap length same, length-append before (1 ∷ after)))

-- the lines that are shown where lines are folded
first_alone : shown_lines true two_lines (span_of Primary 0 1 ∷ []) ≡ 0 ∷ []
unfolding place_of line_of start_of chars
first_alone = refl

-- so where lines are folded no rows show the snippet in which the second line has a row, wherever that stands:
--
--     1 | a
--       | ^
--     2 | b
fold_ignored : (s : Snippet Annotation) → IsSnippetOf s two_lines (span_of Primary 0 1 ∷ []) → s.fold ≡ true
    → (around : ElementContext) (row : NamedRow) (before after : List NamedRow) → row.cells ≡ row_of_second
    → ShowsSnippet plain_settings layout around s
    (others (cause_head plain_settings layout around s) ++ ((before ++ (row ∷ after)) ++ others (rows_after_cause plain_settings layout around))) → ⊥
fold_ignored s is folds around row before after row_is shown =
    let rows : List NamedRow = before ++ (row ∷ after) in
    let tail : List NamedRow = others (rows_after_cause plain_settings layout around) in
    let closes : Bool = closes_with around in
    let same : shown.after ≡ rows = append_cancel_right shown.after rows tail
    (sym (append_cancel_left (others (cause_head plain_settings layout around s)) (rows ++ tail) (shown.after ++ tail) shown.rows_are)) in
    let from_row : AreRowsOf plain_settings layout closes s (row ∷ after) = rows_after closes s before (row ∷ after)
    (subst (AreRowsOf plain_settings layout closes s) same shown.named) in
    let named : row.name ≡ SourceRow 1 = named_second closes s is row.name row.cells after row_is from_row.0 in
    let kept : lines_named rows ≡ 0 ∷ [] =
    grind (arith, common_steps, same, first_alone, shown.lines, s.source.text, s.markers.items, is.source_is, is.marks_are) in
    other_number (lines_named before) (lines_named after) (simp (filter_map-append, named) at kept)
