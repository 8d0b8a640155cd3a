-- Rows that are none of a line, and cells that are none of a row: each contradicts what is said of all rows of a snippet's lines.
use Rattle.annotate_snippets.proofs.Common.{◌≡◌, ℕ, ◌+◌, ◌<◌, ◌≤◌, Bool, true, false, cond, None, List, [], ◌∷◌, ◌++◌, codes}
use Rattle.annotate_snippets.proofs.Common.{length, refl, sym, ap, subst, ◌∙◌, arith, cow_str_bytes, append_cancel_left, append_cancel_right, cell_at}
use Rattle.annotate_snippets.proofs.Common.{HasNoNumber, Annotation, Primary, Snippet, Cell, SPACE, text_cells, underline_role, Ascii, LineNumber, Quotation}
use Rattle.annotate_snippets.proofs.Common.{start_of, line_of, place_of, norm, width_of, chars_at, dropped_part, Margin, shown_lines, Bar, bare_row_left}
use Rattle.annotate_snippets.proofs.Common.{Renderer, Layout, ElementContext, closes_with, margin_in, rows_of_line, Elision, NamedRow, OfferedLine, Other}
use Rattle.annotate_snippets.proofs.Common.{RemovedLine, RowName, SourceRow, line_named, others, rows_below, shows_lines, cause_head, rows_after_cause}
use Rattle.annotate_snippets.proofs.Common.{plain_settings, AreRowsOf, IsRowOf, ShowsSnippet, IsRowBelow, ShowsSourceLine}
use Rattle.std.specs.Str.{chars}
use Rattle.annotate_snippets.proofs.LineWords.{bars_on, entries_on}
use Rattle.annotate_snippets.proofs.FormLines.{IsWholeLine, line_of_rows, names_in, names_of_lines, names_of_rows, none_above}
use Rattle.annotate_snippets.proofs.LineRowValues.{bar_beside_line, lone_line_rows}
use Rattle.annotate_snippets.proofs.NotShown.{layout, span_of}
use Rattle.annotate_snippets.proofs.NotWhole.{IsLineA, unnamed}

-- two rows below a line on which one entry stands whose label is not cut:
--
--     1 | ab cd
--       | ^^
--       |
pub row_doubled : (r : Renderer) (layout : Layout) → layout.label_lines ≡ false → (around : ElementContext) (s : Snippet Annotation) (rows : List NamedRow)
    → (shown : ShowsSnippet r layout around s rows) (above : List NamedRow) (row : NamedRow) (below : List NamedRow) → shown.after ≡ above ++ row ∷ below
    → (k : ℕ) → row.name ≡ SourceRow k → length (entries_on s k) ≡ 1 → 1 < length (rows_below below) → ⊥
row_doubled r layout uncut around s rows shown above row below is k named lone many =
    let line : IsWholeLine r layout s k row.cells below = line_of_rows r layout s (closes_with around) []
    (shown_lines s.fold (cow_str_bytes s.source.text) s.markers.items) above row below (sym is ∙ shown.are) (SourceRow k) named in
    omega (arith, many, ap length line.are, line_alone r layout uncut line.closes s line.open_bars k lone)
  where
    line_alone : (r : Renderer) (layout : Layout) → layout.label_lines ≡ false → (closes : Bool) (s : Snippet Annotation) (open_bars : List Bar) (k : ℕ)
        → length (entries_on s k) ≡ 1 → length (rows_of_line r layout closes s open_bars k) ≤ 2
    line_alone r layout is_uncut closes s open_bars k lone =
        let margin : Margin = margin_in r layout s in
        let text : List ℕ = norm (chars_at (cow_str_bytes s.source.text) k) in
        lone_line_rows layout margin.term_width closes text (width_of (dropped_part margin.computed_left text)) _ is_uncut open_bars (entries_on s k) lone

-- beside a line on which no bar begins or ends, and above which one is open, a cell at its depth in another role than that of the
-- bar's kind, be it of the other kind or a space:
--
--     2 ┃ b         where the span is for context
pub bar_of_other_kind : (r : Renderer) (layout : Layout) (closes : Bool) (s : Snippet Annotation) (bar : Bar) (k : ℕ) → bars_on s k ≡ [] → (i : ℕ)
    → i < length (rows_of_line r layout closes s (bar ∷ []) k)
    → ((cell_at (rows_of_line r layout closes s (bar ∷ []) k) i (layout.gutter + 2 + bar.depth)).role ≡ underline_role bar.primary → ⊥) → ⊥
bar_of_other_kind r layout closes s bar k none i within other =
    let margin : Margin = margin_in r layout s in
    let text : List ℕ = norm (chars_at (cow_str_bytes s.source.text) k) in
    other (ap (λ (cell : Cell). cell.role)
    (bar_beside_line layout margin.term_width closes text (width_of (dropped_part margin.computed_left text)) _ bar (entries_on s k) none i within))

-- ---- rows that no line has

-- `a` has one line that is shown, and no row in place of lines
one_line : (fold : Bool) → names_of_lines (shown_lines fold (codes "a") (span_of Primary 0 1 ∷ [])) ≡ SourceRow 0 ∷ []
unfolding place_of line_of start_of chars
one_line true = refl
one_line false = refl

-- rows between those that a snippet begins with and those below its lines
abbrev page_of : Snippet Annotation → ElementContext → List NamedRow → List NamedRow
page_of s around rows =
    others (cause_head plain_settings layout around s) ++ (rows ++ others (rows_after_cause plain_settings layout around))

-- a row above the first line of a snippet that isn't its, here below the separator row that the snippet begins with, whatever it
-- is named:
--
--       |
--       |
--     1 | a
--       | ^
pub row_above_the_first_line : (s : Snippet Annotation) → IsLineA s → (around : ElementContext) (row : NamedRow) (more : List NamedRow)
    → HasNoNumber 1 row.cells → ShowsSnippet plain_settings layout around s (page_of s around (row ∷ more)) → ⊥
row_above_the_first_line s is around row more none shown =
    let closes : Bool = closes_with around in
    let tail : List NamedRow = others (rows_after_cause plain_settings layout around) in
    let same : shown.after ≡ row ∷ more = append_cancel_right shown.after (row ∷ more) tail
    (sym (append_cancel_left (others (cause_head plain_settings layout around s)) ((row ∷ more) ++ tail) (shown.after ++ tail) shown.rows_are)) in
    let named : IsRowOf plain_settings layout closes s row.name row.cells more = (subst (AreRowsOf plain_settings layout closes s) same shown.named).0 in
    let ks : List ℕ = shown_lines s.fold (cow_str_bytes s.source.text) s.markers.items in
    let names : names_in (row ∷ more) ≡ SourceRow 0 ∷ [] =
    cc (same, shown.are, names_of_rows plain_settings layout s closes [] ks, is.is.source_is, is.is.marks_are, one_line s.fold) in
    by_name row.name (unnamed closes s is row.name row.cells more none named)
    (ap rows_below (sym same ∙ shown.are) ∙ none_above plain_settings layout s closes [] ks) names
  where
    -- it is no row of a line, a row in place of lines would be one too many, and any other belongs to a line above it
    by_name : (name : RowName) → line_named name ≡ None → rows_below (record { name = name; cells = row.cells } ∷ more) ≡ []
        → names_in (record { name = name; cells = row.cells } ∷ more) ≡ SourceRow 0 ∷ [] → ⊥
    by_name (SourceRow k) no_line begins names = cc
    by_name Elision no_line begins names = cc
    by_name (OfferedLine j) no_line begins names = cc
    by_name (RemovedLine i) no_line begins names = cc
    by_name Other no_line begins names = cc

-- a row below one in place of lines that are left out, that shows no line either:
--
--     ...
--       |
--     9 | b
pub row_below_an_elision : (r : Renderer) (layout : Layout) (around : ElementContext) (s : Snippet Annotation) (rows : List NamedRow)
    → (shown : ShowsSnippet r layout around s rows) (above : List NamedRow) (gap row : NamedRow) (more : List NamedRow)
    → shown.after ≡ above ++ gap ∷ row ∷ more → gap.name ≡ Elision → shows_lines row.name ≡ false → ⊥
row_below_an_elision r layout around s rows shown above gap row more is elided other =
    let none : rows_below (row ∷ more) ≡ [] = line_of_rows r layout s (closes_with around) []
    (shown_lines s.fold (cow_str_bytes s.source.text) s.markers.items) above gap (row ∷ more) (sym is ∙ shown.are) Elision elided in
    let one : row.cells ∷ rows_below more ≡ [] = sym (ap (λ b. cond b [] (row.cells ∷ rows_below more)) other) ∙ none in
    absurd (omega (arith, ap length one))

-- ---- cells that no row has left of the code

-- a colon in place of the space after the separator of a line:
--
--     1 |:ab
pub punctuation_left_of_the_code : (s : Snippet Annotation) (k dropped : ℕ)
    → ShowsSourceLine plain_settings layout s k dropped (text_cells LineNumber (codes "1") ++ SPACE ∷ text_cells LineNumber (codes "|:")
    ++ text_cells Quotation (codes "ab")) → ⊥
punctuation_left_of_the_code s k dropped shown = grind (arith, shown.space)

-- a full stop in the gutter of a row below a line, be it the last or not:
--
--     . | ^^
pub punctuation_in_the_gutter : (closes : Bool) (cells : List Cell)
    → IsRowBelow Ascii layout closes (text_cells LineNumber (codes ".") ++ SPACE ∷ text_cells LineNumber (codes "|") ++ cells) → ⊥
punctuation_in_the_gutter closes cells shown = grind (arith, bare_row_left, shown.left)
