-- The rows of a line are what the spans of the snippet make of it.
use Rattle.std.proofs.lemmas.Grind.{common_steps}
use Rattle.std.proofs.Common.{arith, Contains, chars}
use Rattle.annotate_snippets.proofs.Common.{◌≡◌, ℕ, ◌+◌, ◌<◌, Bool, List, length, sym, ap, subst, Annotation, Snippet, Cell, unlinked_cell}
use Rattle.annotate_snippets.proofs.Common.{norm, KeptLine, kept_line, seen_kept, AnnotatedLineInfo, LineAnnotation, Margin, shown_number, LineNumbers, cell_at}
use Rattle.annotate_snippets.proofs.Common.{strokes_of, underline_role, Bar, bars_apart, ends_of_bars, HasOwnDepth, window_cells, IsSourceRow, ShowsLine}
use Rattle.annotate_snippets.proofs.Common.{bar_past, Renderer, Layout, line_numbers, number_text, numbered_source, margin_in}
use Rattle.annotate_snippets.proofs.LineWords.{bars_on, entries_on}
use Rattle.annotate_snippets.proofs.DrawnRows.{IsLineDrawn}
use Rattle.annotate_snippets.proofs.MarginWords.{room_of}

-- the bars of a line's entries are those of its spans
pub bars_seen : (s : Snippet Annotation) (k : ℕ) (es : List LineAnnotation) → es ≡ entries_on s k → ends_of_bars es ≡ bars_on s k
bars_seen s k es are = ap ends_of_bars are

module _ (r : Renderer) (layout : Layout) (s : Snippet Annotation) (margin : Margin) (room : margin.term_width ≡ room_of r layout)
    (margin_is : margin ≡ margin_in r layout s) where
  abbrev numbers : LineNumbers
  numbers = line_numbers r s.line_numbering

  abbrev Shows : Bool → List Bar → AnnotatedLineInfo → List (List Cell) → Type 0
  Shows closes open_bars info rows =
      ShowsLine layout margin numbers closes open_bars info rows

  -- the rows that show a kept line are what the spans of the snippet make of it
  pub line_drawn : (closes : Bool) (open_bars : List Bar) (k : ℕ) (info : AnnotatedLineInfo) (rows : List (List Cell))
      → seen_kept info ≡ kept_line (numbered_source s) s.markers.items k → (shows : Shows closes open_bars info rows)
      → IsLineDrawn r layout closes s open_bars k rows
  line_drawn closes open_bars k info rows seen shows =
      let text : List ℕ = norm (chars info.line.now) in
      let es : List LineAnnotation = info.annotations.items in
      let number : shown_number numbers layout.gutter info.line_index ≡ number_text r s.line_numbering layout.gutter (s.line_start + k) = ap (λ n.
      shown_number numbers layout.gutter n) (ap (λ (l : KeptLine). l.number) seen) in
      record {
        entries = es;
        are = ap (λ (l : KeptLine). l.parts) seen;
        margin = margin;
        room = room;
        margin_is = margin_is;
        text = text;
        text_is = ap (λ bytes. norm (chars bytes)) (ap (λ (l : KeptLine). l.text) seen);
        dropped = shows.dropped;
        dropped_is = shows.dropped_is;
        plain = shows.plain;
        shows = subst (λ shown. IsSourceRow layout shown (window_cells layout.decor margin text) shows.plain) number shows.shows;
        highlighted = shows.highlighted;
        highlights = shows.highlights;
        drawn = shows.drawn;
      }

module _ (r : Renderer) (layout : Layout) (closes : Bool) (s : Snippet Annotation) (open_bars : List Bar) (k : ℕ) where
  -- the bars that go on past line k
  abbrev past : List Bar
  past = bars_apart open_bars (bars_on s k)

  -- one of them whose depth no other has stands beside each row of the line, in the cell of its depth
  pub bar_shown : (rows : List (List Cell)) → IsLineDrawn r layout closes s open_bars k rows → (bar : Bar) → Contains past bar → HasOwnDepth bar past
      → (i : ℕ) → i < length rows → cell_at rows i (layout.gutter + 2 + bar.depth) ≡ unlinked_cell (underline_role bar.primary)
      (strokes_of layout.decor bar.primary).bar
  bar_shown rows line bar among alone i within =
      let ends : ends_of_bars line.entries ≡ bars_on s k = bars_seen s k line.entries line.are in
      let own : Contains (bars_apart open_bars (ends_of_bars line.entries)) bar = subst (λ bs. Contains (bars_apart open_bars bs) bar) (sym ends) among in
      let only : HasOwnDepth bar (bars_apart open_bars (ends_of_bars line.entries)) = grind (arith, common_steps, ends) in
      bar_past layout line.margin.term_width closes line.text line.dropped open_bars line.entries line.highlighted rows line.drawn bar own only i within
