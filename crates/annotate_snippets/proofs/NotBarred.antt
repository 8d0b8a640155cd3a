-- Rows without the bars of spans, and with others: each contradicts what is said of bars.
use Rattle.annotate_snippets.proofs.Common.{◌≡◌, ◌⊎◌, ℕ, ◌+◌, ◌<◌, ◌≤◌, Bool, true, false, List, ◌∷◌, ◌++◌, All, sym, ap}
use Rattle.annotate_snippets.proofs.Common.{◌∙◌, arith, inl, inr, slice_index_or, cow_str_bytes, cases_eq, All-weaker, Annotation, Snippet, Cell, SPACE}
use Rattle.annotate_snippets.proofs.Common.{unlinked_cell, strokes_of, underline_role, DecorStyle, Ascii, Unicode, is_long, first_line, last_line, cell_at}
use Rattle.annotate_snippets.proofs.Common.{Layout, Bar, IsNoBar, end_corner, Elision, NamedRow, OfferedLine, Other, RemovedLine, RowName, SourceRow}
use Rattle.annotate_snippets.proofs.Common.{rows_below, shows_lines, ShowsBars, bar_beside, bar_of_span, line_beside}
use Rattle.std.proofs.Common.{Contains}
use Rattle.annotate_snippets.proofs.SpanPlaces.{bar_cell_of}

-- no bar is a space
no_space : (layout : Layout) (name : RowName) (bar : Bar) → bar_beside layout name bar ≡ SPACE → ⊥
no_space layout name bar same = by_name name same
  where
    bar_is : (decor : DecorStyle) (primary : Bool) → (strokes_of decor primary).bar ≡ 32 → ⊥
    bar_is Ascii true is = omega (arith, is)
    bar_is Ascii false is = omega (arith, is)
    bar_is Unicode true is = omega (arith, is)
    bar_is Unicode false is = omega (arith, is)

    elided_is : (decor : DecorStyle) (primary : Bool) → (strokes_of decor primary).elided_bar ≡ 32 → ⊥
    elided_is Ascii true is = omega (arith, is)
    elided_is Ascii false is = omega (arith, is)
    elided_is Unicode true is = omega (arith, is)
    elided_is Unicode false is = omega (arith, is)

    letter : (cell : Cell) → cell ≡ SPACE → cell.ch ≡ 32
    letter cell is = ap (λ (c : Cell). c.ch) is

    by_name : (x : RowName) → bar_beside layout x bar ≡ SPACE → ⊥
    by_name (SourceRow k) is = bar_is layout.decor bar.primary (letter (bar_beside layout Other bar) is)
    by_name Elision is = elided_is layout.decor bar.primary (letter (bar_beside layout Elision bar) is)
    by_name (OfferedLine j) is = bar_is layout.decor bar.primary (letter (bar_beside layout Other bar) is)
    by_name (RemovedLine i) is = bar_is layout.decor bar.primary (letter (bar_beside layout Other bar) is)
    by_name Other is = bar_is layout.decor bar.primary (letter (bar_beside layout Other bar) is)

-- nor a part of a line that leads from another
no_line : (layout : Layout) (bar : Bar) (primary : Bool)
    → bar_beside layout Other bar ≡ unlinked_cell (underline_role primary) (strokes_of layout.decor primary).connector → ⊥
no_line layout bar primary same = by_kind layout.decor bar.primary primary (ap (λ (cell : Cell). cell.ch) same)
  where
    by_kind : (decor : DecorStyle) (p q : Bool) → (strokes_of decor p).bar ≡ (strokes_of decor q).connector → ⊥
    by_kind Ascii true true is = omega (arith, is)
    by_kind Ascii true false is = omega (arith, is)
    by_kind Ascii false true is = omega (arith, is)
    by_kind Ascii false false is = omega (arith, is)
    by_kind Unicode true true is = omega (arith, is)
    by_kind Unicode true false is = omega (arith, is)
    by_kind Unicode false true is = omega (arith, is)
    by_kind Unicode false false is = omega (arith, is)

module _ (layout : Layout) (s : Snippet Annotation) (rows : List NamedRow) (shown : ShowsBars layout s rows) (above : List NamedRow)
    (row : NamedRow) (below : List NamedRow) (is : rows ≡ above ++ row ∷ below) where
  -- the row stands between the lines of a span of several lines
  record GoesPast (a : Annotation) : Type 0 where
    among : Contains s.markers.items a
    long : is_long (cow_str_bytes s.source.text) a ≡ true
    first : first_line (cow_str_bytes s.source.text) a < line_beside above row.name
    last : line_beside above row.name < last_line (cow_str_bytes s.source.text) a

  has_bar : (a : Annotation) → GoesPast a → slice_index_or row.cells (bar_cell_of layout s a) SPACE ≡ SPACE → ⊥
  has_bar a past empty =
      let bar = (shown.each a past.among past.long above row below is).stand past.first past.last in
      no_space layout row.name (bar_of_span s a) (sym bar ∙ empty)

  -- a space in the cell of a bar, beside a line between the first and the last of its span:
  --
  --     1 |   a {
  --       |  ___^
  --     2 |     b
  --     3 | | }
  --       | |_^
  pub bar_left_out : (a : Annotation) → Contains s.markers.items a → is_long (cow_str_bytes s.source.text) a ≡ true
      → first_line (cow_str_bytes s.source.text) a < line_beside above row.name → line_beside above row.name < last_line (cow_str_bytes s.source.text) a
      → slice_index_or row.cells (bar_cell_of layout s a) SPACE ≡ SPACE → ⊥
  bar_left_out a among long first last empty = has_bar a (record { among = among; long = long; first = first; last = last }) empty

  -- a cell of bars, in a snippet that has no span of several lines
  clear_of_bars : All (λ a. is_long (cow_str_bytes s.source.text) a ≡ false) s.markers.items → (c : ℕ) → layout.gutter + 3 ≤ c → c < layout.code
      → (slice_index_or row.cells c SPACE ≡ SPACE) ⊎ ((shows_lines row.name ≡ false) × IsNoBar layout.decor (slice_index_or row.cells c SPACE))
  clear_of_bars none c from to = grind (arith, All-weaker)

  -- a bar of no span, beside a line or lines that are left out, in a snippet that has no span of several lines:
  --
  --     2 ┃ b
  pub bar_of_no_span : All (λ a. is_long (cow_str_bytes s.source.text) a ≡ false) s.markers.items → shows_lines row.name ≡ true → (c : ℕ)
      → layout.gutter + 3 ≤ c
      → c < layout.code → (slice_index_or row.cells c SPACE ≡ SPACE → ⊥) → ⊥
  bar_of_no_span none shows c from to filled = grind (arith, clear_of_bars)

  -- nor below a line, whatever bar that is:
  --
  --     2 | b
  --       ┃ ^
  pub bar_of_no_span_below : All (λ a. is_long (cow_str_bytes s.source.text) a ≡ false) s.markers.items → (bar : Bar)
      → layout.gutter + 3 ≤ layout.gutter + 2 + bar.depth → layout.gutter + 2 + bar.depth < layout.code
      → slice_index_or row.cells (layout.gutter + 2 + bar.depth) SPACE ≡ bar_beside layout Other bar → ⊥
  bar_of_no_span_below none bar from to there = grind (arith, clear_of_bars, bar.depth)

  -- a space in the cell of a bar, beside the last line of its span:
  --
  --     1 |   a {
  --       |  ___^
  --     2 |   }
  --       | |_^
  pub bar_left_out_at_its_end : (a : Annotation) → Contains s.markers.items a → is_long (cow_str_bytes s.source.text) a ≡ true
      → row.name ≡ SourceRow (last_line (cow_str_bytes s.source.text) a) → slice_index_or row.cells (bar_cell_of layout s a) SPACE ≡ SPACE → ⊥
  bar_left_out_at_its_end a among long last empty =
      let ends = (shown.each a among long above row below is).end last in
      no_space layout Other (bar_of_span s a) (sym (ends.beside 0 ends.below) ∙ empty)

  -- no corner at which the bar ends, in any row of the last line of its span:
  --
  --     2 ┃   }
  --       ┃━━━┛
  pub corner_left_out : (a : Annotation) → Contains s.markers.items a → is_long (cow_str_bytes s.source.text) a ≡ true
      → row.name ≡ SourceRow (last_line (cow_str_bytes s.source.text) a)
      → ((i : ℕ) → cell_at (row.cells ∷ rows_below below) i (bar_cell_of layout s a) ≡ end_corner layout (bar_of_span s a) → ⊥) → ⊥
  corner_left_out a among long last none =
      let ends = (shown.each a among long above row below is).end last in
      none ends.corner ends.corner_is

  -- the bars of two spans in one cell, beside a line between the first and the last of both, so that spaces stand in all other cells of
  -- bars:
  --
  --     1 |   a {
  --       |  ___^
  --     2 | | b {
  --       | |___^
  --     3 | |   c
  pub bars_all_in_one_column : (a b : Annotation) → Contains s.markers.items a → Contains s.markers.items b → is_long (cow_str_bytes s.source.text) a ≡ true
      → is_long (cow_str_bytes s.source.text) b ≡ true
      → first_line (cow_str_bytes s.source.text) a < line_beside above row.name → line_beside above row.name < last_line (cow_str_bytes s.source.text) a
      → first_line (cow_str_bytes s.source.text) b < line_beside above row.name → line_beside above row.name < last_line (cow_str_bytes s.source.text) b
      → (a.span.start ≡ b.span.start → a.span.end ≡ b.span.end → ⊥)
      → (column : ℕ) → ((c : ℕ) → layout.gutter + 3 ≤ c → c < layout.code → (c ≡ column → ⊥) → slice_index_or row.cells c SPACE ≡ SPACE) → ⊥
  bars_all_in_one_column a b among-a among-b long-a long-b first-a last-a first-b last-b differ column spaces =
      let at-a : bar_cell_of layout s a ≡ column = in_column a (record { among = among-a; long = long-a; first = first-a; last = last-a }) in
      let at-b : bar_cell_of layout s b ≡ column = in_column b (record { among = among-b; long = long-b; first = first-b; last = last-b }) in
      let same = shown.apart a b among-a among-b long-a long-b (omega (arith, first-a, last-b)) (omega (arith, first-b, last-a)) (at-a ∙ sym at-b) in
      differ same.0 same.1
    where
      in_column : (x : Annotation) → GoesPast x → bar_cell_of layout s x ≡ column
      in_column x past =
          let within = shown.within x past.among past.long in
          elim (cases_eq (bar_cell_of layout s x) column) [
            | inl same ↦ same
            | inr apart ↦ absurd (has_bar x past (spaces (bar_cell_of layout s x) within.0 (omega (arith, within.1)) apart))
          ]
