-- A row of an element begins with a number only where it shows a line.
use Rattle.std.proofs.lemmas.Grind.{common_steps}
use Rattle.annotate_snippets.proofs.Common.{◌≡◌, ℕ, ◌<◌, ◌==◌, ◌&&◌, ◌||◌, Bool, true, false, not, cond, Option, None, Some, List, [], ◌∷◌, ◌++◌, All, length}
use Rattle.annotate_snippets.proofs.Common.{get_or, inl, inr, refl, sym, subst, arith, is_ascii_alphanumeric, list_all, list_any, cases_Bool, eqb-true}
use Rattle.annotate_snippets.proofs.Common.{false≢true, All-append, All-cons, All-from_get_or, All-head, All-nil, All-tail, All-weaker, slice_get_cases}
use Rattle.annotate_snippets.proofs.Common.{HasNoNumber, Annotation, Element, Patch, Snippet, Cell, SPACE, DecorStyle, Ascii, Unicode, placeholder_of}
use Rattle.annotate_snippets.proofs.Common.{suggestion_glyph_of, is_stroke, SuggestionStart, primary_start, message_rows-unnumbered, snippet_head-unnumbered}
use Rattle.annotate_snippets.proofs.Common.{closing_row-unnumbered, origin_row-unnumbered, padding_row-unnumbered, separator_row-unnumbered, Renderer}
use Rattle.annotate_snippets.proofs.Common.{ElementContext, GroupPosition, Layout, closes_with, path_bytes, shows_a_line, RowName, SourceRow, Elision}
use Rattle.annotate_snippets.proofs.Common.{OfferedLine, RemovedLine, Other, NamedRow, GroupPage, others, cause_head, origin_layout, path_row, rows_after_cause}
use Rattle.annotate_snippets.proofs.Common.{suggestion_head, AreElementsShown, ShowsElement, AreRowsOf, IsRowOf, IsSuggestionRow, closing_row, separator_row}
use Rattle.snippet_model.specs.declared.snippet.Element.TheVariants as element
use Rattle.snippet_style.specs.declared.glyphs.SuggestionGlyph.TheVariants as sign
use Rattle.snippet_suggest.specs.declared.SuggestionStart.TheVariants as start
use Rattle.annotate_snippets.proofs.PageWords.{found_at, patch_place, suggestion_head_at}
use Rattle.annotate_snippets.proofs.LeftLaws.{unnumbered_below, unnumbered_elided}

-- ---- characters

both_first : (a b : Bool) → (a && b) ≡ true → a ≡ true
both_first true b is = refl
both_first false b is = absurd (false≢true is)

both_second : (a b : Bool) → (a && b) ≡ true → b ≡ true
both_second true b is = is
both_second false b is = absurd (false≢true is)

rest_of : (a b : Bool) → a ≡ false → (a || b) ≡ true → b ≡ true
rest_of true b none some = absurd (false≢true (sym none))
rest_of false b none some = some

not_true : (a : Bool) → not a ≡ true → a ≡ false
not_true true is = absurd (false≢true is)
not_true false is = refl

-- a character among some that are no letters or digits is none
one_of : (ds : List ℕ) (c : ℕ) → list_all (λ d. not (is_ascii_alphanumeric d)) ds ≡ true → list_any (λ d. d == c) ds ≡ true → is_ascii_alphanumeric c ≡ false
one_of [] c none some = absurd (false≢true some)
one_of (d ∷ ds) c none some =
    elim (cases_Bool (d == c)) [
      | inl same ↦ grind (arith, common_steps, eqb-true, not_true, both_first)
      | inr other ↦ one_of ds c (both_second (not (is_ascii_alphanumeric d)) (list_all (λ e. not (is_ascii_alphanumeric e)) ds) none)
          (rest_of (d == c) (list_any (λ e. e == c) ds) other some)
    ]

-- what stands left of the lines in a row of a suggestion that shows none
abbrev strokes : DecorStyle → List ℕ
strokes decor =
    32 ∷ (placeholder_of decor ++ suggestion_glyph_of decor sign.Opening ++ suggestion_glyph_of decor sign.Next ++ suggestion_glyph_of decor sign.Leading
    ++ suggestion_glyph_of decor sign.Closing)

-- it is no letter or digit
stroke_unnumbered : (decor : DecorStyle) (c : ℕ) → is_stroke decor c ≡ true → is_ascii_alphanumeric c ≡ false
stroke_unnumbered Ascii c is = one_of (strokes Ascii) c refl is
stroke_unnumbered Unicode c is = one_of (strokes Unicode) c refl is

-- ---- rows

-- a row of an element begins with a number only where it shows a line
abbrev pub IsNumberedAsLine : ℕ → NamedRow → Type 0
IsNumberedAsLine gutter row = shows_a_line row.name ≡ false → HasNoNumber gutter row.cells

others_numbered : (gutter : ℕ) (rows : List (List Cell)) → All (HasNoNumber gutter) rows → All (IsNumberedAsLine gutter) (others rows)
others_numbered gutter [] none = All-nil (IsNumberedAsLine gutter)
others_numbered gutter (row ∷ rows) none =
    grind (arith, others_numbered gutter rows (All-tail (HasNoNumber gutter) row rows none), All-cons, others, All-head, All-tail)

one_row : (gutter : ℕ) (row : List Cell) → HasNoNumber gutter row → All (HasNoNumber gutter) (row ∷ [])
one_row gutter row none = All-cons (HasNoNumber gutter) row [] none (All-nil (HasNoNumber gutter))

closing_unnumbered : (r : Renderer) (layout : Layout) (closes : Bool)
    → All (HasNoNumber layout.gutter) (cond closes (closing_row layout.decor layout.gutter ∷ []) [])
closing_unnumbered r layout true = one_row layout.gutter _ (closing_row-unnumbered layout.decor layout.gutter)
closing_unnumbered r layout false = All-nil (HasNoNumber layout.gutter)

after_unnumbered : (r : Renderer) (layout : Layout) (separates closes : Bool)
    → All (HasNoNumber layout.gutter) (cond separates (separator_row layout.decor layout.gutter ∷ [])
    (cond closes (closing_row layout.decor layout.gutter ∷ []) []))
after_unnumbered r layout true closes = one_row layout.gutter _ (separator_row-unnumbered layout.decor layout.gutter)
after_unnumbered r layout false closes = closing_unnumbered r layout closes

-- ---- snippets

row_numbered : (r : Renderer) (layout : Layout) (closes : Bool) (s : Snippet Annotation) (name : RowName) (cells : List Cell) (rows : List NamedRow)
    → IsRowOf r layout closes s name cells rows → shows_a_line name ≡ false → HasNoNumber layout.gutter cells
row_numbered r layout closes s (SourceRow k) cells rows is none = absurd (false≢true (sym none))
row_numbered r layout closes s Elision cells rows is none = unnumbered_elided layout cells is
row_numbered r layout closes s (OfferedLine j) cells rows is none = absurd is
row_numbered r layout closes s (RemovedLine i) cells rows is none = absurd is
row_numbered r layout closes s Other cells rows is none = unnumbered_below layout.decor layout (closes && length rows == 0) cells is

rows_numbered : (r : Renderer) (layout : Layout) (closes : Bool) (s : Snippet Annotation) (rows : List NamedRow) → AreRowsOf r layout closes s rows
    → All (IsNumberedAsLine layout.gutter) rows
rows_numbered r layout closes s [] are = All-nil (IsNumberedAsLine layout.gutter)
rows_numbered r layout closes s (row ∷ rows) are =
    grind (arith, rows_numbered r layout closes s rows are.1, All-cons, row_numbered, layout.gutter, row.name, row.cells, are.0, are.1)

-- ---- suggestions

suggested_numbered : (r : Renderer) (decor : DecorStyle) (gutter : ℕ) (s : Snippet Patch) (name : RowName) (cells : List Cell)
    → IsSuggestionRow r decor gutter s name cells → shows_a_line name ≡ false → HasNoNumber gutter cells
suggested_numbered r decor gutter s (SourceRow k) cells is none = absurd is
suggested_numbered r decor gutter s Elision cells is none = absurd is
suggested_numbered r decor gutter s (OfferedLine j) cells is none = absurd (false≢true (sym none))
suggested_numbered r decor gutter s (RemovedLine i) cells is none = absurd (false≢true (sym none))
suggested_numbered r decor gutter s Other cells is none = λ c left. stroke_unnumbered decor (get_or cells c SPACE).ch (is.strokes c (omega (arith, left)))

path_unnumbered : (r : Renderer) (layout : Layout) (first : Bool) (s : Snippet Patch) (path : Option (List ℕ))
    → All (HasNoNumber layout.gutter) (path_row r layout first s path)
path_unnumbered r layout first s None = All-nil (HasNoNumber layout.gutter)
path_unnumbered r layout first s (Some path) =
    one_row layout.gutter _ (origin_row-unnumbered (origin_layout r layout) (primary_start first) path (patch_place s))

head_unnumbered : (begins : SuggestionStart) (r : Renderer) (layout : Layout) (first : Bool) (s : Snippet Patch)
    → All (HasNoNumber layout.gutter) (suggestion_head_at begins r layout first s)
head_unnumbered start.Opening r layout first s = All-nil (HasNoNumber layout.gutter)
head_unnumbered start.Next r layout first s = All-nil (HasNoNumber layout.gutter)
head_unnumbered start.Path r layout first s = path_unnumbered r layout first s (path_bytes s.path)

-- ---- elements

element_numbered : (r : Renderer) (layout : Layout) (around : ElementContext) (found : List Cell) (e : Element) (rows : List NamedRow)
    → ShowsElement r layout around found e rows → All (IsNumberedAsLine layout.gutter) rows
element_numbered r layout around found (element.Message message) rows shown =
    grind (arith, message_rows-unnumbered, others_numbered, around.next, layout.gutter, shown.shows.rows_are, r.hyperlink, shown.named)
element_numbered r layout around found (element.Cause s) rows shown =
    let P : NamedRow → Type 0 = IsNumberedAsLine layout.gutter in
    let head : List (List Cell) = cause_head r layout around s in
    let tail : List (List Cell) = rows_after_cause r layout around in
    let above : All P (others head) = others_numbered layout.gutter head
    (snippet_head-unnumbered (origin_layout r layout) around.primary around.first (path_bytes s.path) _) in
    let below : All P (others tail) = grind (arith, common_steps, others_numbered, tail, after_unnumbered, layout.gutter, around.place, around.next) in
    let lines : All P shown.after = rows_numbered r layout (closes_with around) s shown.after shown.named in
    subst (All P) (sym shown.rows_are) (All-append P (others head) (shown.after ++ others tail) above (All-append P shown.after (others tail) lines below))
element_numbered r layout around found (element.Suggestion s) rows shown =
    let P : NamedRow → Type 0 = IsNumberedAsLine layout.gutter in
    let head : List (List Cell) = suggestion_head r layout around s in
    let above : All P (others head) = others_numbered layout.gutter head (head_unnumbered around.start r layout around.first s) in
    let lines : All P shown.after = grind (arith, common_steps, All-weaker, P, suggested_numbered, layout.decor, layout.gutter, shown.after, shown.named) in
    subst (All P) (sym shown.rows_are) (All-append P (others head) shown.after above lines)
element_numbered r layout around found (element.Origin origin) rows shown =
    grind (arith, common_steps, All-cons, origin_row-unnumbered, closing_unnumbered, others_numbered, layout.gutter, origin.path, shown.rows_are)
element_numbered r layout around found (element.Padding padding) rows shown =
    grind (arith, others_numbered, padding_row-unnumbered, layout.decor, layout.gutter, around.next)

-- a group's elements have numbers beside lines alone
pub group_numbered : (r : Renderer) (layout : Layout) (place : GroupPosition) (file : Option (List ℕ)) (es : List Element) (g : GroupPage)
    → AreElementsShown r layout place file es g.elements → All (λ rows. All (IsNumberedAsLine layout.gutter) rows) g.elements
group_numbered r layout place file es g shown = All-from_get_or (λ rows. All (IsNumberedAsLine layout.gutter) rows) g.elements [] each
  where
    each : (k : ℕ) → k < length g.elements → All (IsNumberedAsLine layout.gutter) (get_or g.elements k [])
    each k within =
        elim (slice_get_cases es k).1 [
          | inl there ↦ element_numbered r layout _ (found_at r layout es k) there.0 _ (shown.each k there.0 there.2)
          | inr past ↦ absurd (omega (arith, within, past.0, shown.count))
        ]
