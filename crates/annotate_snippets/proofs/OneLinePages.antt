-- Where no label of a report holds a line feed and no text is wrapped, its page is the same whether labels are cut or not.
use Rattle.std.proofs.lemmas.Grind.{common_steps}
use Rattle.annotate_snippets.proofs.Common.{◌≡◌, ℕ, ◌+◌, ◌==◌, ◌&&◌, ◌||◌, Bool, true, false, List, [], ◌∷◌, ◌++◌, All, length, map, refl, sym, ap, ◌∙◌, arith}
use Rattle.annotate_snippets.proofs.Common.{All-filter, All-head, All-tail, enumerate_from, None, Option, Some, option_map, Annotation, Cell, Element, Group}
use Rattle.annotate_snippets.proofs.Common.{Layout, LineAnnotation, Patch, Renderer, Snippet, Title, cow_str_bytes, is_drawn, numbered_source}
use Rattle.annotate_snippets.proofs.LineFeedLaws.{entries_plain}
use Rattle.annotate_snippets.proofs.OneLineTexts.{IsOneLineLabel}
use Rattle.annotate_snippets.specs.DrawnReport.{last_row, suggestion_layout, suggestion_lines}
use Rattle.annotate_snippets.specs.ElementContext.{closes_with, context_at, drawn_elements, file_of_group, is_end, next_of, position_of_group, suggestion_rows}
use Rattle.annotate_snippets.specs.GraphicForm.{element_rows, gap_below, graphic_form, group_page, margin_in, name_of_row, named_line, rows_of_line}
use Rattle.annotate_snippets.specs.GraphicForm.{rows_of_lines}
use Rattle.annotate_snippets.specs.Gutter.{layout_of_group, line_numbers, number_text}
use Rattle.annotate_snippets.specs.Page.{GroupPage, NamedRow, others}
use Rattle.annotate_snippets.specs.RowsWithoutSource.{cause_head, path_row, rows_after_cause, suggestion_head, title_part}
use Rattle.annotate_snippets.specs.declared.renderer.element_context.ElementContext.{ElementContext}
use Rattle.annotate_snippets.specs.declared.renderer.element_context.GroupPosition.{GroupPosition}
use Rattle.snippet_labels.specs.PlacedEntries.{is_end_part}
use Rattle.snippet_lines.specs.declared.number.LineNumbers.{LineNumbers}
use Rattle.snippet_model.specs.declared.snippet.Element.TheVariants as element
use Rattle.snippet_parts.specs.Annotated.{parts_on}
use Rattle.snippet_parts.specs.Kept.{shown_lines}
use Rattle.snippet_strokes.proofs.OneLineLabels.{line_same, with_cut}
use Rattle.snippet_strokes.specs.Bars.{Bar, ends_of_bars, open_past}
use Rattle.snippet_strokes.specs.SourceRows.{source_row, window_cells}
use Rattle.snippet_strokes.specs.StrokeRows.{highlighted_row}
use Rattle.snippet_suggest.proofs.CutLabels.{body_same, row_same}
use Rattle.snippet_suggest.specs.RowOrder.{Ends, SuggestionRow}
use Rattle.snippet_suggest.specs.declared.SuggestionLayout.{SuggestionLayout}
use Rattle.snippet_suggest.specs.declared.SuggestionStart.TheVariants as start
use Rattle.snippet_text.specs.Normalized.{norm}
use Rattle.snippet_text.specs.Width.{width_of}
use Rattle.snippet_titles.specs.HeadingRows.{heading_rows}
use Rattle.snippet_titles.specs.Origin.{file_row, origin_row}
use Rattle.snippet_window.specs.Window.{chars_at, dropped_part}
use Rattle.snippet_style.specs.Separators.{separator_row}
use Rattle.annotate_snippets.specs.declared.renderer.element_context.Next.{Next}
use Rattle.std.specs.List.{slice_get, zip}
use Rattle.std.specs.Prelude.{◌-◌, filter, if◌then◌else◌, not}

-- what two ways make of numbered things is the same if it is so of each
map_numbered : {X Y : Type 0} (P : X → Type 0) (f g : ℕ → X → Y) → ((n : ℕ) (x : X) → P x → f n x ≡ g n x) → (n : ℕ) (xs : List X) → All P xs
    → map (λ pair. f pair.0 pair.1) (enumerate_from n xs) ≡ map (λ pair. g pair.0 pair.1) (enumerate_from n xs)
map_numbered P f g same n [] all = refl
map_numbered P f g same n (x ∷ xs) all = cc (same n x (All-head P x xs all), map_numbered P f g same (n + 1) xs (All-tail P x xs all))

-- the labels of an element hold no line feed
abbrev HasPlainLabels : Element → Type 0
HasPlainLabels e = (s : Snippet Annotation) → e ≡ element.Cause s → All IsOneLineLabel s.markers.items

module _ (r : Renderer) (layout : Layout) (none : layout.label_end ≡ 0) (lines cut : Bool) where
  -- the settings and the layout, where labels are cut or aren't
  abbrev R : Bool → Renderer
  R b = record r { label_lines = b }

  abbrev L : Bool → Layout
  L b = with_cut b layout

  -- ---- an annotated snippet

  line_as_whole : (s : Snippet Annotation) → All IsOneLineLabel s.markers.items → (closes : Bool) (open_bars : List Bar) (k : ℕ)
      → rows_of_line (R lines) (L cut) closes s open_bars k ≡ rows_of_line (R false) (L false) closes s open_bars k
  line_as_whole s plain closes open_bars k =
      let es : List LineAnnotation = parts_on (numbered_source s) s.markers.items k in
      let text : List ℕ = norm (chars_at (cow_str_bytes s.source.text) k) in
      let margin = margin_in r layout s in
      let dropped : ℕ = width_of (dropped_part margin.computed_left text) in
      let row : List Cell = source_row layout (number_text r s.line_numbering layout.gutter (s.line_start + k)) (window_cells layout.decor margin text) in
      line_same layout none cut margin.term_width closes text dropped open_bars es
      (highlighted_row layout.code dropped (filter (λ e. not (is_end_part e.annotation_type)) es) row) (entries_plain s k es refl plain)

  lines_as_whole : (s : Snippet Annotation) → All IsOneLineLabel s.markers.items → (closes : Bool) (open_bars : List Bar) (ks : List ℕ)
      → rows_of_lines (R lines) (L cut) closes s open_bars ks ≡ rows_of_lines (R false) (L false) closes s open_bars ks
  lines_as_whole s plain closes open_bars [] = refl
  lines_as_whole s plain closes open_bars (k ∷ ks) =
      let below : List Bar = open_past open_bars (ends_of_bars (parts_on (numbered_source s) s.markers.items k)) in
      ap (λ rows. named_line k rows ++ (gap_below r layout below k ks ++ rows_of_lines (R lines) (L cut) closes s below ks))
      (line_as_whole s plain (closes && length ks == 0) open_bars k)
      ∙ ap (λ rows. named_line k (rows_of_line (R false) (L false) (closes && length ks == 0) s open_bars k) ++ (gap_below r layout below k ks ++ rows))
      (lines_as_whole s plain closes below ks)

  last_same : (follows : Bool) (e : Option Element) → last_row (R lines) (L cut) follows e ≡ last_row (R false) (L false) follows e
  last_same follows None = refl
  last_same follows (Some (element.Message message)) = refl
  last_same follows (Some (element.Cause s)) = refl
  last_same follows (Some (element.Suggestion s)) = row_same layout (line_numbers r s.line_numbering) cut s [] (Ends follows)
  last_same follows (Some (element.Origin origin)) = refl
  last_same follows (Some (element.Padding padding)) = refl

  -- ---- elements

  path_same : (first : Bool) (s : Snippet Patch) (path : Option (List ℕ)) → path_row (R lines) (L cut) first s path ≡ path_row (R false) (L false) first s path
  unfolding file_row origin_row
  path_same first s None = refl
  path_same first s (Some path) = refl

  head_same : (around : ElementContext) (s : Snippet Patch)
      → suggestion_head (R lines) (L cut) around s ≡ suggestion_head (R false) (L false) around s
  head_same around s = ap (λ rows. elim around.start [ start.Path ↦ rows | begin ↦ [] ]) (path_same around.first s (option_map cow_str_bytes s.path))

  element_as_whole : (around : ElementContext) (found other : List Cell) → found ≡ other → (e : Element) → HasPlainLabels e
      → element_rows (R lines) (L cut) around found e ≡ element_rows (R false) (L false) around other e
  unfolding file_row origin_row heading_rows
  element_as_whole around found other same (element.Message message) plain = refl
  element_as_whole around found other same (element.Cause s) plain =
      ap (λ rows. others (cause_head r layout around s) ++ (rows ++ others (rows_after_cause r layout around)))
      (lines_as_whole s (plain s refl) (closes_with around) [] (shown_lines s.fold (cow_str_bytes s.source.text) s.markers.items))
  element_as_whole around found other same (element.Suggestion s) plain = cc (head_same around s, own_same)
    where
      named : List (List Cell) → List (List Cell) → List NamedRow
      named head rows = others head ++ map (λ pair. record { name = name_of_row s pair.0; cells = pair.1 }) (zip (suggestion_rows around s) rows)

      numbers : LineNumbers
      numbers = line_numbers r s.line_numbering

      at : Bool → SuggestionLayout
      at b = suggestion_layout r (L b) s

      ends : SuggestionRow
      ends = Ends (not (is_end around.next))

      under : List Cell → List Cell
      under row = elim around.start [ start.Opening ↦ [] | start.Next ↦ row | start.Path ↦ separator_row layout.decor layout.gutter ]

      own_same : suggestion_lines (R lines) (L cut) around found s ≡ suggestion_lines (R false) (L false) around other s
      own_same = grind (arith, common_steps, at, ends, body_same, numbers, under, row_same)
  element_as_whole around found other same (element.Origin origin) plain = refl
  element_as_whole around found other same (element.Padding padding) plain = refl

  -- ---- groups

  title_same : (place : GroupPosition) (next : Next) (title : Option Title)
      → title_part (R lines) (L cut) place next title ≡ title_part (R false) (L false) place next title
  title_same place next None = refl
  title_same place next (Some title) = refl

  group_as_whole : (place : GroupPosition) (file : Option (List ℕ)) (g : Group) → All HasPlainLabels g.elements.items
      → group_page (R lines) (L cut) place file g ≡ group_page (R false) (L false) place file g
  group_as_whole place file g plain =
      let es : List Element = drawn_elements g in
      let rows : Bool → Bool → ℕ → Element → List NamedRow =
      λ a b i e. element_rows (R a) (L b) (context_at place file es i e) (last_row (R a) (L b) true (slice_get es (i - 1))) e in
      let page : List (List Cell) → List (List NamedRow) → GroupPage = λ title elements. record { level = g.level; title = title; elements = elements } in
      ap (λ title. page title (map (λ pair. rows lines cut pair.0 pair.1) (enumerate_from 0 es))) (title_same place (next_of es) g.title)
      ∙ ap (page (title_part (R false) (L false) place (next_of es) g.title))
      (map_numbered HasPlainLabels (rows lines cut) (rows false false) (λ i e own. element_as_whole (context_at place file es i e) _ _
      (last_same true (slice_get es (i - 1))) e own) 0 es (All-filter is_drawn HasPlainLabels g.elements.items plain))

-- the page of a report
pub page_as_whole : (r : Renderer) (groups : List Group) (lines : Bool) → r.wrap ≡ false → All (λ g. All HasPlainLabels g.elements.items) groups
    → graphic_form (record r { label_lines = lines }) groups ≡ graphic_form (record r { label_lines = false }) groups
page_as_whole r groups lines unwrapped plain =
    map_numbered (λ g. All HasPlainLabels g.elements.items) (page lines) (page false) (λ n g own.
    whole lines n g own ∙ sym (whole false n g own)) 0 groups plain
  where
    with : Bool → Renderer
    with b = record r { label_lines = b }

    page : Bool → ℕ → Group → GroupPage
    page b n g = group_page (with b) (layout_of_group (with b) groups g) (position_of_group (length groups) n) (file_of_group groups g) g

    whole : (b : Bool) (n : ℕ) (g : Group) → All HasPlainLabels g.elements.items
        → page b n g ≡ group_page (with false) (with_cut false (layout_of_group r groups g)) (position_of_group (length groups) n) (file_of_group groups g) g
    whole b n g own =
        group_as_whole r (layout_of_group r groups g) (ap (λ wraps. if wraps then r.term_width else 0) unwrapped) b (b || r.wrap)
        (position_of_group (length groups) n) (file_of_group groups g) g own
