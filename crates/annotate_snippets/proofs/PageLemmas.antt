-- The rows of an annotated snippet's lines, with their names.
use Rattle.std.proofs.lemmas.Grind.{common_steps}
use Rattle.annotate_snippets.proofs.Common.{◌≡◌, ℕ, suc, ◌+◌, ◌<◌, ◌≤◌, ◌==◌, ◌&&◌, Bool, true, false, List, [], ◌∷◌, ◌++◌, map, length, refl}
use Rattle.annotate_snippets.proofs.Common.{sym, ap, ◌∙◌, arith, subst, cow_str_bytes, nat_tests, length-append, length-map, All-head, All-tail, Annotation}
use Rattle.annotate_snippets.proofs.Common.{Snippet, row_at, Layout, Cell, AnnotatedLineInfo, Margin, KeptLine, kept_line, seen_kept, source_lines}
use Rattle.annotate_snippets.proofs.Common.{shown_number, IsSpan, shifted, Bar, open_past, HasBarRoom, open_below, gap_row, IsElisionRow, LineView, gap_drawn}
use Rattle.annotate_snippets.proofs.Common.{CanBeShown, ShowsLine, info_rows_show, room_below, line_seen, AreSeen, Renderer, gap_below, margin_in, named_line}
use Rattle.annotate_snippets.proofs.Common.{rows_of_line, rows_of_lines, line_numbers, numbered_source, Elision, NamedRow, Other, SourceRow, cells_of}
use Rattle.annotate_snippets.proofs.Common.{lines_named, others, rows_below, AreRowsOf, ShowsLineAndMarks, IsRowBelow, ShowsLabels, ShowsMarksOf}
use Rattle.std.specs.List.{All}
use Rattle.annotate_snippets.proofs.LineWords.{bars_on}
use Rattle.annotate_snippets.proofs.DrawnLines.{bars_seen, line_drawn}
use Rattle.annotate_snippets.proofs.DrawnRows.{AreRowsDrawn, IsLineDrawn}
use Rattle.annotate_snippets.proofs.InfoLines.{IsReadyLine, info_at, seen_at}
use Rattle.annotate_snippets.proofs.LineLemmas.{labels_of_line, marks_of_line, marks_there, row_below, source_line}
use Rattle.annotate_snippets.proofs.NamedRows.{lines_named-others}
use Rattle.annotate_snippets.proofs.MarginWords.{margin_room}

-- the first row below, where there is one
below-first : (below : List (List Cell)) (more : List NamedRow) → 0 < length below → row_at (cells_of (others below ++ more)) 0 ≡ row_at below 0
below-first [] more some = absurd (omega arith)
below-first (row ∷ below) more some = refl

-- the rows of a line, up to the next
pub below-own : (below : List (List Cell)) (more : List NamedRow) → rows_below more ≡ [] → rows_below (others below ++ more) ≡ below
below-own [] more ends = ends
below-own (row ∷ below) more ends = ap (λ rs. row ∷ rs) (below-own below more ends)

-- numbers above 0 are both not 0
some_more : (m n : ℕ) → (suc m == 0) ≡ (suc n == 0)
some_more m n = grind (arith, nat_tests)

module _ (r : Renderer) (layout : Layout) (s : Snippet Annotation)
    (spans : All (λ a. IsSpan (cow_str_bytes s.source.text) a.span.start a.span.end) s.markers.items)
    (ordered : (margin_in r layout s).computed_left ≤ (margin_in r layout s).computed_right) (place : layout.gutter + 3 ≤ layout.code)
    (closes : Bool) where
  abbrev own_lines : ℕ
  own_lines = length (source_lines (cow_str_bytes s.source.text))

  abbrev margin : Margin
  margin = margin_in r layout s

  abbrev line_of_snippet : ℕ → KeptLine
  line_of_snippet k = kept_line (numbered_source s) s.markers.items k

  abbrev NumberFits : AnnotatedLineInfo → Type 0
  NumberFits info = length (shown_number (line_numbers r s.line_numbering) layout.gutter info.line_index) ≤ layout.gutter + 1

  -- the rows of a line show it, with the marks below
  line_and_marks : (last : Bool) (open_bars : List Bar) (k : ℕ) (info : AnnotatedLineInfo) (rows : List (List Cell)) (more : List NamedRow)
      → k < own_lines → seen_kept info ≡ line_of_snippet k → NumberFits info
      → (line : ShowsLine layout margin (line_numbers r s.line_numbering) last open_bars info rows)
      → (shows : AreSeen layout margin.term_width (map (shifted line.dropped) info.annotations.items) last line.highlighted rows)
      → rows_below more ≡ []
      → ShowsLineAndMarks r layout s k shows.source (row_at (cells_of (others shows.below ++ more)) 0) (rows_below (others shows.below ++ more))
  line_and_marks last open_bars k info rows more within seen fits line shows ends =
      record {
        dropped = line.dropped;
        line = source_line r layout s spans margin (margin_room r layout s) refl ordered last open_bars k info rows within seen fits line shows place;
        marks = λ qualifies. subst (λ row. ShowsMarksOf layout.decor layout s k line.dropped row) (sym (below-first shows.below more
            (marks_there r layout s spans margin (margin_room r layout s) refl ordered last open_bars k info rows within seen fits line shows qualifies)))
            (marks_of_line r layout s spans margin (margin_room r layout s) refl ordered last open_bars k info rows within seen fits line shows qualifies);
        labels = λ uncut. subst (λ lower. ShowsLabels layout.decor layout s k line.dropped lower) (sym (below-own shows.below more ends))
            (labels_of_line r layout s spans margin (margin_room r layout s) refl ordered last open_bars k info rows within seen fits line shows uncut);
      }

  -- rows below a line, with the last of which the window closes where no row stands after
  others_are : (last : Bool) (rows : List (List Cell)) (more : List NamedRow) → (length more == 0) ≡ last
      → ((i : ℕ) → i < length rows → IsRowBelow layout.decor layout ((closes && last) && i + 1 == length rows) (row_at rows i))
      → AreRowsOf r layout closes s more → AreRowsOf r layout closes s (others rows ++ more)
  others_are last [] more ends below are = are
  others_are last (row ∷ rows) more ends below are =
      let own : IsRowBelow layout.decor layout ((closes && last) && 0 + 1 == length (row ∷ rows)) row = below 0 (omega arith) in
      let further : (i : ℕ) → i < length rows → IsRowBelow layout.decor layout ((closes && last) && i + 1 == length rows) (row_at rows i) =
      λ i within. subst (λ b. IsRowBelow layout.decor layout ((closes && last) && b) (row_at rows i)) (shifted i (length rows))
      (below (suc i) (omega (arith, within))) in
      (subst (λ b. IsRowBelow layout.decor layout b row) (with_last rows) own, others_are last rows more ends further are)
    where
      shifted : (i n : ℕ) → (suc i + 1 == suc n) ≡ (i + 1 == n)
      shifted i n = grind (arith, nat_tests)

      alone : (closes last : Bool) → ((closes && last) && 0 + 1 == 1) ≡ (closes && last)
      alone true true = refl
      alone true false = refl
      alone false last = refl

      with_last : (rows : List (List Cell)) → ((closes && last) && 0 + 1 == length (row ∷ rows)) ≡ (closes && length (others rows ++ more) == 0)
      with_last [] = alone closes last ∙ ap (λ b. closes && b) (sym ends)
      with_last (x ∷ xs) = grind (arith, nat_tests)

  -- rows with names: those that show these lines, and the others below them
  pub record AreNamed (open_bars : List Bar) (ks : List ℕ) (part : List NamedRow) : Type 0 where
    pub lines : lines_named part ≡ ks
    pub are : AreRowsOf r layout closes s part
    pub ends : (length part == 0) ≡ (length ks == 0)
    pub begins : rows_below part ≡ []
    pub drawn : AreRowsDrawn r layout closes s open_bars part

  -- the rows between a line and the next, above such rows: one where lines are left out
  record IsGapNamed (open_bars : List Bar) (ks : List ℕ) (gap more : List NamedRow) : Type 0 where
    pub lines : lines_named (gap ++ more) ≡ lines_named more
    pub are : AreRowsOf r layout closes s (gap ++ more)
    pub ends : (length (gap ++ more) == 0) ≡ (length ks == 0)
    pub begins : rows_below (gap ++ more) ≡ []
    pub drawn : AreRowsDrawn r layout closes s open_bars (gap ++ more)

  gap_named : (open_bars : List Bar) (j : ℕ) (ks : List ℕ) (more : List NamedRow) → All (HasBarRoom layout) open_bars → AreNamed open_bars ks more
      → IsGapNamed open_bars ks (gap_below r layout open_bars j ks) more
  gap_named open_bars j [] more bars rest = record { lines = refl; are = rest.are; ends = rest.ends; begins = rest.begins; drawn = rest.drawn }
  gap_named open_bars j (k ∷ ks) more bars rest =
      let row : NamedRow = record { name = Elision; cells = gap_row layout open_bars } in
      let is : IsElisionRow layout row.cells = gap_drawn layout open_bars place bars in grind (arith, common_steps, some_more, row, is)

  -- the bars that are open below a line are those that its spans leave open
  open_seen : (open_bars : List Bar) (k : ℕ) (info : AnnotatedLineInfo) → seen_kept info ≡ line_of_snippet k
      → open_below open_bars info.annotations.items ≡ open_past open_bars (bars_on s k)
  open_seen open_bars k info seen = ap (open_past open_bars) (bars_seen s k info.annotations.items (ap (λ (l : KeptLine). l.parts) seen))

  -- rows below a line are drawn with it
  others_drawn : (open_bars : List Bar) (rows : List (List Cell)) (more : List NamedRow) → AreRowsDrawn r layout closes s open_bars more
      → AreRowsDrawn r layout closes s open_bars (others rows ++ more)
  others_drawn open_bars [] more drawn = drawn
  others_drawn open_bars (row ∷ rows) more drawn = (tt, others_drawn open_bars rows more drawn)

  -- a line is the last where all rows after its source row are its own
  last_is : (rows : List (List Cell)) (more : List NamedRow) (last : Bool) → (length more == 0) ≡ last
      → (closes && length rows == length (others rows ++ more)) ≡ (closes && last)
  last_is rows more last ends =
      ap (λ b. closes && b) (same_long _ _ _
      (length-append (others rows) more ∙ ap (λ n. n + length more) (length-map rows (λ (cells : List Cell). record { name = Other; cells = cells }))) ∙ ends)
    where
      same_long : (m n all : ℕ) → all ≡ m + n → (m == all) ≡ (n == 0)
      same_long m n all is = grind (arith, nat_tests, is)

  -- the rows of these lines have the names of the lines
  pub named_lines : (open_bars : List Bar) (ks : List ℕ) → All (IsReadyLine s spans r layout) ks → All (HasBarRoom layout) open_bars
      → AreNamed open_bars ks (rows_of_lines r layout closes s open_bars ks)
  named_lines open_bars [] ready bars = record { lines = refl; are = tt; ends = refl; begins = refl; drawn = tt }
  named_lines open_bars (k ∷ ks) ready bars =
      let own : IsReadyLine s spans r layout k = All-head (IsReadyLine s spans r layout) k ks ready in
      let can : CanBeShown layout margin (line_numbers r s.line_numbering) (info_at s spans k) = own.1 in
      let info : AnnotatedLineInfo = info_at s spans k in
      let here : seen_kept info ≡ line_of_snippet k = seen_at s spans k in
      let past : List Bar = open_past open_bars (bars_on s k) in
      let past_is : open_below open_bars info.annotations.items ≡ past = open_seen open_bars k info here in
      let room : All (HasBarRoom layout) past = subst (All (HasBarRoom layout)) past_is
      (room_below layout open_bars info.annotations.items bars can.entries.bar_cells) in
      let rest : List NamedRow = rows_of_lines r layout closes s past ks in
      let last : Bool = length ks == 0 in
      let view : LineView = record { margin = margin; numbers = line_numbers r s.line_numbering; closes = closes && last } in
      let rows : List (List Cell) = rows_of_line r layout (closes && last) s open_bars k in
      let shown : ShowsLine layout margin (line_numbers r s.line_numbering) (closes && last) open_bars info rows = info_rows_show layout view open_bars info
      place can in
      let shows : AreSeen layout margin.term_width (map (shifted shown.dropped) info.annotations.items) (closes && last) shown.highlighted rows = line_seen
      layout margin (line_numbers r s.line_numbering) place (closes && last) open_bars info rows bars can.number can.entries shown in
      let below : AreNamed past ks rest = named_lines past ks (All-tail (IsReadyLine s spans r layout) k ks ready) room in
      let between : IsGapNamed past ks (gap_below r layout past k ks) rest = gap_named past k ks rest room below in
      let after : List NamedRow = gap_below r layout past k ks ++ rest in
      let source_row : NamedRow = record { name = SourceRow k; cells = shows.source } in
      let line : IsLineDrawn r layout (closes && last) s open_bars k (shows.source ∷ shows.below) = subst
      (IsLineDrawn r layout (closes && last) s open_bars k) shows.rows_are
      (line_drawn r layout s margin (margin_room r layout s) refl _ open_bars k info rows here shown) in
      subst (AreNamed open_bars (k ∷ ks)) (sym (ap (λ rs. named_line k rs ++ after) shows.rows_are)) (record {
        lines = ap (λ js. k ∷ js) (lines_named-others shows.below after ∙ between.lines ∙ below.lines);
        are = (
          line_and_marks (closes && last) open_bars k info rows after own.0 here can.number shown shows between.begins,
          others_are last shows.below after between.ends
              (λ i inside. row_below layout.decor layout (closes && last) _ _ shows.below i (shows.strokes.are i inside)) between.are,
        );
        ends = some_more (length (others shows.below ++ after)) (length ks);
        begins = refl;
        drawn = (
          subst (λ below. IsLineDrawn r layout (closes && length below == length (others shows.below ++ after)) s open_bars k (shows.source ∷ below))
              (sym (below-own shows.below after between.begins))
              (subst (λ b. IsLineDrawn r layout b s open_bars k (shows.source ∷ shows.below)) (sym (last_is shows.below after last between.ends)) line),
          others_drawn past shows.below after between.drawn,
        );
      })
