-- Beside the rows of a snippet's lines stand the bars of its spans.
use Rattle.std.proofs.lemmas.Grind.{common_steps}
use Rattle.annotate_snippets.proofs.Common.{◌≡◌, ℕ, zero, suc, ◌+◌, ◌-◌, ◌<◌, ◌≤◌, ◌==◌, ◌&&◌, Bool, true, false, not, cond, take, ◌≢◌, List, [], ◌∷◌}
use Rattle.annotate_snippets.proofs.Common.{◌++◌, ◌⊎◌, fold, length, get_or, inl, inr, refl, sym, ap, subst, ◌∙◌, arith, Contains, filter, cow_str_bytes}
use Rattle.annotate_snippets.proofs.Common.{le-leb, and_from, cases_Bool, nat_tests, All-contains, All-filter, All-head, All-nil, All-tail, Annotation, Snippet}
use Rattle.annotate_snippets.proofs.Common.{Cell, SPACE, DecorStyle, length-text_cells, length-append, length-replicate, length-take, IsSpan, deepest, depth_of}
use Rattle.annotate_snippets.proofs.Common.{is_long, LineAnnotation, LineAnnotationType, MultilineEnd, MultilineStart, touches, first_line, last_line, Among}
use Rattle.annotate_snippets.proofs.Common.{depth-within, Bar, bars_apart, ends_of_bars, HasOwnDepth, has_depth, bare_elision_row, BarEnds, IsNoBar, BarBegins}
use Rattle.annotate_snippets.proofs.Common.{all_from_among, among_contains, contains_among, bar_ends, elision_stands, highlighted_left, line_clear, begins}
use Rattle.annotate_snippets.proofs.Common.{gap_space, line_source, is_end_part, Renderer, Layout, number_text, code_after, Elision, NamedRow, OfferedLine}
use Rattle.annotate_snippets.proofs.Common.{Other, RemovedLine, RowName, SourceRow, lines_named, rows_below, shows_lines, AreRowsOf, IsRowOf, cells_left}
use Rattle.annotate_snippets.proofs.Common.{BarStarts, ShowsBars, bar_beside, line_beside}
use Rattle.std.specs.List.{All}
use Rattle.annotate_snippets.proofs.LineWords.{bars_on, entries_on}
use Rattle.annotate_snippets.proofs.DrawnRows.{AreRowsDrawn, IsRowDrawn, open_after}
use Rattle.annotate_snippets.proofs.Ascending.{IsAscending}
use Rattle.annotate_snippets.proofs.BarBeginnings.{begins_so}
use Rattle.annotate_snippets.proofs.DrawnLines.{bar_shown, bars_seen}
use Rattle.annotate_snippets.proofs.LabelLemmas.{head_same, tail_same}
use Rattle.annotate_snippets.proofs.SpanOpen.{AreOpen, IsFreeAt, alone, ends_apart, open_apart, end_here, goes_past, longer, no_end, no_start, none_open}
use Rattle.annotate_snippets.proofs.SpanOpen.{one_place, open_lower, open_next, own_on_line, start_here}
use Rattle.annotate_snippets.proofs.SpanPlaces.{bar_by_place, bar_cell_of, bar_given, bytes_same, marks, source}

-- ---- the lines that are left

-- the numbers ascend from one on
abbrev Climbs : ℕ → List ℕ → Type 0
Climbs n [] = Unit {0}
Climbs n (k ∷ ks) = (n ≤ k) × Climbs (k + 1) ks

climbs_least : (n : ℕ) (ks : List ℕ) (k : ℕ) → Climbs n ks → Among ks k → n ≤ k
climbs_least n [] k climbs here = absurd here
climbs_least n (j ∷ ks) k climbs (inl same) = omega (arith, same, climbs.0)
climbs_least n (j ∷ ks) k climbs (inr later) = omega (arith, climbs.0, climbs_least (j + 1) ks k climbs.1 later)

climbs_from : (n : ℕ) (ks : List ℕ) → ((k : ℕ) (more : List ℕ) → ks ≡ k ∷ more → n ≤ k) → IsAscending ks → Climbs n ks
climbs_from n [] first ascends = tt
climbs_from n (j ∷ []) first ascends = (first j [] refl, tt)
climbs_from n (j ∷ k ∷ ks) first ascends =
    (first j (k ∷ ks) refl, climbs_from (j + 1) (k ∷ ks) (λ m more same. omega (arith, ascends.0, head_same k m ks more same)) ascends.1)

-- a line stands above these, or is one of them
abbrev IsPast : ℕ → List ℕ → ℕ → Type 0
IsPast n ks line = (line < n) ⊎ Among ks line

-- where it isn't the next it stands above it or below
past_next : (n k : ℕ) (ks : List ℕ) (line : ℕ) → Climbs n (k ∷ ks) → IsPast n (k ∷ ks) line → (line < n) ⊎ (k ≤ line)
past_next n k ks line climbs (inl before) = inl before
past_next n k ks line climbs (inr (inl same)) = inr (omega (arith, same))
past_next n k ks line climbs (inr (inr later)) = inr (omega (arith, climbs_least (k + 1) ks line climbs.1 later))

past_after : (n k : ℕ) (ks : List ℕ) (line : ℕ) → n ≤ k → IsPast n (k ∷ ks) line → IsPast (k + 1) ks line
past_after n k ks line up (inl before) = inl (omega (arith, before, up))
past_after n k ks line up (inr (inl same)) = inl (omega (arith, same))
past_after n k ks line up (inr (inr later)) = inr later

-- the first line that comes after a row of this name, where that comes after those above it
abbrev next_line : ℕ → RowName → ℕ
next_line n (SourceRow k) = k + 1
next_line n Elision = n
next_line n (OfferedLine j) = n
next_line n (RemovedLine i) = n
next_line n Other = n

-- the line beside which a row of this name stands, where that line comes after those above it
abbrev here_line : ℕ → RowName → ℕ
here_line n (SourceRow k) = k
here_line n Elision = n
here_line n (OfferedLine j) = n - 1
here_line n (RemovedLine i) = n - 1
here_line n Other = n - 1

abbrev line_from : ℕ → List NamedRow → RowName → ℕ
line_from n above name = here_line (fold (λ before k. k + 1) n (lines_named above)) name

from_start : (above : List NamedRow) (name : RowName) → line_from 0 above name ≡ line_beside above name
from_start above (SourceRow k) = refl
from_start above Elision = refl
from_start above (OfferedLine j) = refl
from_start above (RemovedLine i) = refl
from_start above Other = refl

from_later : (n : ℕ) (first : RowName) (cells : List Cell) (above : List NamedRow) (name : RowName)
    → line_from n (record { name = first; cells = cells } ∷ above) name ≡ line_from (next_line n first) above name
from_later n (SourceRow k) cells above name = refl
from_later n Elision cells above name = refl
from_later n (OfferedLine j) cells above name = refl
from_later n (RemovedLine i) cells above name = refl
from_later n Other cells above name = refl

-- an element that is there is the same whatever stands for others
get_or_any : (xs : List (List Cell)) (i : ℕ) (x y : List Cell) → i < length xs → get_or xs i x ≡ get_or xs i y
get_or_any [] i x y within = absurd (omega (arith, within))
get_or_any (z ∷ xs) zero x y within = refl
get_or_any (z ∷ xs) (suc i) x y within = get_or_any xs i x y (omega (arith, within))

-- what stands in the gutter beside a line is no wider than the gutter
short_number : (decor : DecorStyle) (gutter : ℕ) (shown : List ℕ) (row : List Cell) → take (gutter + 2) row ≡ cells_left decor gutter shown
    → length shown ≤ gutter + 1
short_number decor gutter shown row same = grind (arith, common_steps, length-take, length-append, length-text_cells, length-replicate)

-- ---- the rows

module _ (r : Renderer) (layout : Layout) (closes : Bool) (s : Snippet Annotation)
    (spans : All (λ a. IsSpan (cow_str_bytes s.source.text) a.span.start a.span.end) s.markers.items) where
  abbrev Open : ℕ → List Bar → Type 0
  Open k bars = AreOpen (source s) (marks s) k bars

  -- a row beside line k has the bars of the spans that begin above it and end below
  abbrev HasBars : RowName → ℕ → List Cell → Type 0
  HasBars name k cells =
      (a : Annotation) → Contains (marks s) a → is_long (cow_str_bytes s.source.text) a ≡ true → first_line (cow_str_bytes s.source.text) a < k
      → k < last_line (cow_str_bytes s.source.text) a
      → get_or cells (bar_cell_of layout s a) SPACE ≡ bar_beside layout name (bar_by_place s a)

  -- so has each row of a line that is drawn
  line_bars : (open_bars : List Bar) (k : ℕ) (row : List Cell) (rows : List NamedRow) → IsRowDrawn r layout closes s open_bars (SourceRow k) row rows
      → Open k open_bars → All (HasBars Other k) (row ∷ rows_below rows)
  line_bars open_bars k row rows drawn are_open i d within a among long above below =
      let all : List (List Cell) = row ∷ rows_below rows in
      let bar : Bar = bar_by_place s a in
      let past : Contains (bars_apart open_bars (bars_on s k)) bar = among_contains (bars_apart open_bars (bars_on s k)) bar
      (goes_past (source s) (marks s) spans k open_bars are_open a among long above below) in
      let own : HasOwnDepth bar open_bars = alone (source s) (marks s) spans k open_bars are_open a among long above (omega (arith, below)) in
      let only : HasOwnDepth bar (bars_apart open_bars (bars_on s k)) = All-filter (λ (b : Bar). not (has_depth (bars_on s k) b.depth))
      (λ (b : Bar). b.depth ≡ bar.depth → b ≡ bar) open_bars own in
      ap (λ (cells : List Cell). get_or cells (bar_cell_of layout s a) SPACE) (get_or_any all i d [] within)
      ∙ bar_shown r layout (closes && length (rows_below rows) == length rows) s open_bars k all drawn bar past only i within

  -- and a row in place of lines
  elision_bars : (open_bars : List Bar) (n : ℕ) (row : List Cell) (rows : List NamedRow) → IsRowDrawn r layout closes s open_bars Elision row rows
      → Open n open_bars → HasBars Elision n row
  elision_bars open_bars n row rows drawn are_open a among long above below =
      let bar : Bar = bar_by_place s a in
      let here : Contains open_bars bar = among_contains open_bars bar (are_open.all a among long above (omega (arith, below))) in
      let own : HasOwnDepth bar open_bars = alone (source s) (marks s) spans n open_bars are_open a among long above (omega (arith, below)) in
      cc (drawn.0, elision_stands layout bar open_bars (bare_elision_row layout.decor layout.gutter) own here)

  -- a cell of bars is a space that has the depth of no span which touches line k
  abbrev HasSpaces : ℕ → List Cell → Type 0
  HasSpaces k cells =
      (depth : ℕ) → 0 < depth → layout.gutter + 2 + depth < layout.code → IsFreeAt (source s) (marks s) spans k depth
      → get_or cells (layout.gutter + 2 + depth) SPACE ≡ SPACE

  -- in the row that shows a line alone spaces stand in the cells of bars
  line_blank : (open_bars : List Bar) (k : ℕ) (row : List Cell) (rows : List NamedRow) → IsRowOf r layout closes s (SourceRow k) row rows
      → (line : IsRowDrawn r layout closes s open_bars (SourceRow k) row rows) → (depth : ℕ) → 0 < depth → layout.gutter + 2 + depth < layout.code
      → get_or line.highlighted (layout.gutter + 2 + depth) SPACE ≡ SPACE
  line_blank open_bars k row rows shows line depth some within =
      let cell : ℕ = layout.gutter + 2 + depth in
      let short = short_number layout.decor layout.gutter (number_text r s.line_numbering layout.gutter (s.line_start + k)) row shows.line.left in
      highlighted_left layout.code line.dropped (filter (λ e. not (is_end_part e.annotation_type)) line.entries) line.plain line.highlighted line.highlights
      cell within ∙ line.shows.blank cell (omega (arith, short)) (λ same. omega (arith, same)) within

  -- so do they in a line's source row
  line_spaces : (open_bars : List Bar) (k : ℕ) (row : List Cell) (rows : List NamedRow) → IsRowOf r layout closes s (SourceRow k) row rows
      → IsRowDrawn r layout closes s open_bars (SourceRow k) row rows → Open k open_bars → HasSpaces k row
  line_spaces open_bars k row rows shows line are_open depth some within free =
      let ends : All (λ (b : Bar). b.depth ≢ depth) (ends_of_bars line.entries) = subst (All (λ (b : Bar). b.depth ≢ depth))
      (sym (bars_seen s k line.entries line.are)) (ends_apart (source s) (marks s) spans k depth free) in
      let others = open_apart (source s) (marks s) spans k depth open_bars are_open free in
      let last : Bool = closes && length (rows_below rows) == length rows in
      line_source layout depth within line.margin.term_width last line.text line.dropped line.entries line.highlighted ends open_bars
      (row ∷ rows_below rows) line.drawn others (omega arith) ∙ line_blank open_bars k row rows shows line depth some within

  -- and in none of its rows a bar stands there
  abbrev HasNoOthers : ℕ → List Cell → Type 0
  HasNoOthers k cells =
      (depth : ℕ) → 0 < depth → layout.gutter + 2 + depth < layout.code → IsFreeAt (source s) (marks s) spans k depth
      → IsNoBar layout.decor (get_or cells (layout.gutter + 2 + depth) SPACE)

  line_others : (open_bars : List Bar) (k : ℕ) (row : List Cell) (rows : List NamedRow) → IsRowOf r layout closes s (SourceRow k) row rows
      → IsRowDrawn r layout closes s open_bars (SourceRow k) row rows → Open k open_bars → All (HasNoOthers k) (row ∷ rows_below rows)
  line_others open_bars k row rows shows line are_open i d inside depth some within free =
      let all : List (List Cell) = row ∷ rows_below rows in
      let ends : All (λ (b : Bar). b.depth ≢ depth) (ends_of_bars line.entries) = subst (All (λ (b : Bar). b.depth ≢ depth))
      (sym (bars_seen s k line.entries line.are)) (ends_apart (source s) (marks s) spans k depth free) in
      let others = open_apart (source s) (marks s) spans k depth open_bars are_open free in
      let blank = line_blank open_bars k row rows shows line depth some within in
      let clear = line_clear layout depth some within line.margin.term_width _ line.text line.dropped line.entries line.highlighted ends blank open_bars all
      line.drawn others i inside in
      subst (λ (cells : List Cell). IsNoBar layout.decor (get_or cells (layout.gutter + 2 + depth) SPACE)) (get_or_any all i [] d inside) clear

  -- and in a row in place of lines
  elision_spaces : (open_bars : List Bar) (n : ℕ) (row : List Cell) (rows : List NamedRow) → IsRowDrawn r layout closes s open_bars Elision row rows
      → Open n open_bars → HasSpaces n row
  elision_spaces open_bars n row rows drawn are_open depth some within free =
      cc (drawn.0, gap_space layout depth within open_bars (open_apart (source s) (marks s) spans n depth open_bars are_open free) some)

  -- a row of this name beside line k has its bars, and where it stands for lines spaces beside them
  record IsShown (name : RowName) (k : ℕ) (cells : List Cell) : Type 0 where
    bars : HasBars name k cells
    spaces : shows_lines name ≡ true → HasSpaces k cells
    others : HasNoOthers k cells

  -- what is known above some rows: which lines are left, and which bars are open
  record IsReady (open_bars : List Bar) (n : ℕ) (rows : List NamedRow) : Type 0 where
    named : AreRowsOf r layout closes s rows
    drawn : AreRowsDrawn r layout closes s open_bars rows
    are_open : Open n open_bars
    lines : Climbs n (lines_named rows)
    ends : (a : Annotation) → Contains (marks s) a → is_long (cow_str_bytes s.source.text) a ≡ true
        → IsPast n (lines_named rows) (first_line (cow_str_bytes s.source.text) a) × IsPast n (lines_named rows) (last_line (cow_str_bytes s.source.text) a)
    below : All (HasBars Other (n - 1)) (rows_below rows)
    others : All (HasNoOthers (n - 1)) (rows_below rows)

  -- a row has its bars, and the same is known below it
  one_row : (open_bars : List Bar) (n : ℕ) (name : RowName) (cells : List Cell) (rows : List NamedRow)
      → IsReady open_bars n (record { name = name; cells = cells } ∷ rows)
      → IsShown name (here_line n name) cells × IsReady (open_after s name open_bars) (next_line n name) rows
  one_row open_bars n (SourceRow k) cells rows ready =
      let ks : List ℕ = lines_named rows in
      let up : n ≤ k = ready.lines.0 in
      let here : Open k open_bars = open_lower (source s) (marks s) spans n k open_bars ready.are_open up (λ a among long.
      let ends = ready.ends a among long in (
        past_next n k ks (first_line (cow_str_bytes s.source.text) a) ready.lines ends.0,
        past_next n k ks (last_line (cow_str_bytes s.source.text) a) ready.lines ends.1,
      )) in
      let bars : All (HasBars Other k) (cells ∷ rows_below rows) = line_bars open_bars k cells rows ready.drawn.0 here in
      let others : All (HasNoOthers k) (cells ∷ rows_below rows) = line_others open_bars k cells rows ready.named.0 ready.drawn.0 here in
      let last : k ≡ k + 1 - 1 = omega arith in (
        record {
          bars = All-head (HasBars Other k) cells (rows_below rows) bars;
          spaces = λ _. line_spaces open_bars k cells rows ready.named.0 ready.drawn.0 here;
          others = All-head (HasNoOthers k) cells (rows_below rows) others;
        },
        record {
          named = ready.named.1;
          drawn = ready.drawn.1;
          are_open = open_next (source s) (marks s) spans k open_bars here;
          lines = ready.lines.1;
          ends = grind (arith, common_steps, past_after, ks, up, last_line, ready.ends);
          below = subst (λ m. All (HasBars Other m) (rows_below rows)) last (All-tail (HasBars Other k) cells (rows_below rows) bars);
          others = subst (λ m. All (HasNoOthers m) (rows_below rows)) last (All-tail (HasNoOthers k) cells (rows_below rows) others);
        },
      )
  one_row open_bars n Elision cells rows ready = (
    record {
      bars = elision_bars open_bars n cells rows ready.drawn.0 ready.are_open;
      spaces = λ _. elision_spaces open_bars n cells rows ready.drawn.0 ready.are_open;
      others = λ depth some within free. inl (elision_spaces open_bars n cells rows ready.drawn.0 ready.are_open depth some within free);
    },
    record {
      named = ready.named.1;
      drawn = ready.drawn.1;
      are_open = ready.are_open;
      lines = ready.lines;
      ends = ready.ends;
      below = subst (All (HasBars Other (n - 1))) (sym ready.drawn.0.1) (All-nil (HasBars Other (n - 1)));
      others = subst (All (HasNoOthers (n - 1))) (sym ready.drawn.0.1) (All-nil (HasNoOthers (n - 1)));
    },
  )
  one_row open_bars n (OfferedLine j) cells rows ready = absurd ready.named.0
  one_row open_bars n (RemovedLine i) cells rows ready = absurd ready.named.0
  one_row open_bars n Other cells rows ready = (
    record {
      bars = All-head (HasBars Other (n - 1)) cells (rows_below rows) ready.below;
      spaces = grind (arith, common_steps);
      others = All-head (HasNoOthers (n - 1)) cells (rows_below rows) ready.others;
    },
    record {
      named = ready.named.1;
      drawn = ready.drawn.1;
      are_open = ready.are_open;
      lines = ready.lines;
      ends = ready.ends;
      below = All-tail (HasBars Other (n - 1)) cells (rows_below rows) ready.below;
      others = All-tail (HasNoOthers (n - 1)) cells (rows_below rows) ready.others;
    },
  )

  all_rows : (open_bars : List Bar) (n : ℕ) (rows : List NamedRow) → IsReady open_bars n rows → (above : List NamedRow) (row : NamedRow) (below : List NamedRow)
      → rows ≡ above ++ row ∷ below → IsShown row.name (line_from n above row.name) row.cells
  all_rows open_bars n [] ready [] row below is = cc
  all_rows open_bars n [] ready (x ∷ above) row below is = cc
  all_rows open_bars n (x ∷ rows) ready [] row below is =
      subst (λ (y : NamedRow). IsShown y.name (here_line n y.name) y.cells) (head_same x row rows below is) (one_row open_bars n x.name x.cells rows ready).0
  all_rows open_bars n (x ∷ rows) ready (y ∷ above) row below is =
      let same : x ≡ y = head_same x y rows (above ++ row ∷ below) is in
      let rest = all_rows (open_after s x.name open_bars) (next_line n x.name) rows (one_row open_bars n x.name x.cells rows ready).1 above row below
      (tail_same x y rows (above ++ row ∷ below) is) in
      let line : line_from (next_line n x.name) above row.name ≡ line_from n (y ∷ above) row.name = sym (from_later n x.name x.cells above row.name)
      ∙ ap (λ z. line_from n (z ∷ above) row.name) same in
      subst (λ k. IsShown row.name k row.cells) line rest

  -- what is known of one row: what its name says, and that it is drawn, where some bars are open above it
  record IsKnown (row : NamedRow) (below : List NamedRow) : Type 0 where
    named : IsRowOf r layout closes s row.name row.cells below
    bars : List Bar
    drawn : IsRowDrawn r layout closes s bars row.name row.cells below

  row_known : (open_bars : List Bar) (rows : List NamedRow) → AreRowsOf r layout closes s rows → AreRowsDrawn r layout closes s open_bars rows
      → (above : List NamedRow) (row : NamedRow) (below : List NamedRow) → rows ≡ above ++ row ∷ below → IsKnown row below
  row_known open_bars [] named drawn [] row below is = cc
  row_known open_bars [] named drawn (y ∷ above) row below is = cc
  row_known open_bars (x ∷ rows) named drawn [] row below is =
      let own : IsKnown x rows = record { named = named.0; bars = open_bars; drawn = drawn.0 } in
      subst (λ more. IsKnown row more) (tail_same x row rows below is) (subst (λ (y : NamedRow). IsKnown y rows) (head_same x row rows below is) own)
  row_known open_bars (x ∷ rows) named drawn (y ∷ above) row below is =
      row_known (open_after s x.name open_bars) rows named.1 drawn.1 above row below (tail_same x y rows (above ++ row ∷ below) is)

  -- it is the same for a row of this name
  renamed : (name : RowName) (row : NamedRow) (below : List NamedRow) → row.name ≡ name → IsKnown row below
      → IsKnown (record { name = name; cells = row.cells }) below
  renamed name row below is known = grind (arith, common_steps)

  module _ (a : Annotation) (among : Contains (marks s) a) (long : is_long (cow_str_bytes s.source.text) a ≡ true)
      (room : layout.gutter + 2 + depth_of (source s) (marks s) a < layout.code) where
    abbrev bar : Bar
    bar = bar_by_place s a

    -- no entry of line k stands for this part of a span, where none of those of its spans does
    none_there : (k : ℕ) (part : LineAnnotationType) (es : List LineAnnotation) → es ≡ entries_on s k
        → ((p : LineAnnotation) → Among (entries_on s k) p → p.annotation_type ≡ part → ⊥) → All (λ (e : LineAnnotation). e.annotation_type ≡ part → ⊥) es
    none_there k part es are none =
        let P : LineAnnotation → Type 0 = λ p. p.annotation_type ≡ part → ⊥ in
        subst (All P) (sym are) (all_from_among P (entries_on s k) none)

    -- the bar begins in the rows of the span's first line
    line_begins : (open_bars : List Bar) (k : ℕ) (row : List Cell) (rows : List NamedRow) → IsRowOf r layout closes s (SourceRow k) row rows
        → IsRowDrawn r layout closes s open_bars (SourceRow k) row rows
        → first_line (cow_str_bytes s.source.text) a ≡ k → BarBegins layout bar (row ∷ rows_below rows)
    line_begins open_bars k row rows shows line here =
        let ends : bars_on s k ≡ ends_of_bars line.entries = sym (bars_seen s k line.entries line.are) in
        let own : Contains (ends_of_bars line.entries) bar = subst (λ bs.
        Contains bs bar) ends (among_contains (bars_on s k) bar (start_here (source s) (marks s) k a among long here)) in
        let only : HasOwnDepth bar (ends_of_bars line.entries) = subst (HasOwnDepth bar) ends
        (own_on_line (source s) (marks s) spans k a among long (omega (arith, here)) (omega (arith, here, longer (source s) (marks s) spans a among long))) in
        let none = none_there k (MultilineEnd bar.depth) line.entries line.are (no_end (source s) (marks s) spans k a among long here) in
        let blank = line_blank open_bars k row rows shows line bar.depth (depth-within (source s) (marks s) a among long).0 room in
        begins layout bar room line.entries own only line.margin.term_width _ line.text line.dropped open_bars line.highlighted _ line.drawn none blank

    -- and ends in those of the last
    line_ends : (open_bars : List Bar) (k : ℕ) (row : List Cell) (rows : List NamedRow) → IsRowDrawn r layout closes s open_bars (SourceRow k) row rows
        → last_line (cow_str_bytes s.source.text) a ≡ k → BarEnds layout bar (row ∷ rows_below rows)
    line_ends open_bars k row rows line here =
        let ends : bars_on s k ≡ ends_of_bars line.entries = sym (bars_seen s k line.entries line.are) in
        let own : Contains (ends_of_bars line.entries) bar = subst (λ bs.
        Contains bs bar) ends (among_contains (bars_on s k) bar (end_here (source s) (marks s) k a among long here)) in
        let only : HasOwnDepth bar (ends_of_bars line.entries) = subst (HasOwnDepth bar) ends
        (own_on_line (source s) (marks s) spans k a among long (omega (arith, here, longer (source s) (marks s) spans a among long)) (omega (arith, here))) in
        let none = none_there k (MultilineStart bar.depth) line.entries line.are (no_start (source s) (marks s) spans k a among long here) in
        bar_ends layout bar room line.entries own only line.margin.term_width _ line.text line.dropped open_bars line.highlighted _ line.drawn none

  -- so the rows of a snippet's lines show the bars of its spans
  pub bars_shown : (rows : List NamedRow) → AreRowsOf r layout closes s rows → AreRowsDrawn r layout closes s [] rows → rows_below rows ≡ []
      → IsAscending (lines_named rows)
      → All
      (λ a. Contains (lines_named rows) (first_line (cow_str_bytes s.source.text) a) × Contains (lines_named rows) (last_line (cow_str_bytes s.source.text) a))
      (marks s)
      → code_after layout.gutter (deepest (source s) (marks s)) ≤ layout.code → ShowsBars layout s rows
  bars_shown rows named drawn none_above ascends ends room =
      let ks : List ℕ = lines_named rows in
      let text : List ℕ = cow_str_bytes s.source.text in
      let ready : IsReady [] 0 rows = record {
        named = named;
        drawn = drawn;
        are_open = none_open (source s) (marks s) spans;
        lines = climbs_from 0 ks (λ k more same. omega arith) ascends;
        ends = λ a among long. let shown = All-contains (λ a. Contains ks (first_line text a) × Contains ks (last_line text a)) (marks s) a ends among in
            (inr (contains_among ks (first_line text a) shown.0), inr (contains_among ks (last_line text a) shown.1));
        below = subst (All (HasBars Other 0)) (sym none_above) (All-nil (HasBars Other 0));
        others = subst (All (HasNoOthers 0)) (sym none_above) (All-nil (HasNoOthers 0));
      } in
      record {
        each = λ a among long above row below is. record {
          stand = λ begun ended.
              let line : line_from 0 above row.name ≡ line_beside above row.name = from_start above row.name in
              (all_rows [] 0 rows ready above row below is).bars a among long (omega (arith, line, begun)) (omega (arith, line, ended))
              ∙ ap (bar_beside layout row.name) (bar_given s a long);
          begin = λ name.
              let line = renamed (SourceRow (first_line text a)) row below name (row_known [] rows named drawn above row below is) in
              subst (λ bar. BarStarts layout bar (row.cells ∷ rows_below below)) (bar_given s a long)
              (begins_so layout (bar_by_place s a) (row.cells ∷ rows_below below)
              (line_begins a among long (deep a among long) line.bars (first_line text a) row.cells below line.named line.drawn refl));
          end = λ name.
              let line = renamed (SourceRow (last_line text a)) row below name (row_known [] rows named drawn above row below is) in
              subst (λ bar. BarEnds layout bar (row.cells ∷ rows_below below)) (bar_given s a long)
              (line_ends a among long (deep a among long) line.bars (last_line text a) row.cells below line.drawn refl);
        };
        within = λ a among long. let depth = depth-within (source s) (marks s) a among long in inside (depth_of (source s) (marks s) a) depth.0 depth.1;
        others = λ above row below is c from to free.
            let cell : layout.gutter + 2 + (c - (layout.gutter + 2)) ≡ c = omega (arith, from) in
            elim (cases_Bool (shows_lines row.name)) [
              | inl shows ↦
                  inl (ap (λ n. get_or row.cells n SPACE) (sym cell) ∙ (all_rows [] 0 rows ready above row below is).spaces shows (c - (layout.gutter + 2))
                  (omega (arith, from)) (omega (arith, to, cell)) (free_there above row c from free))
              | inr other ↦ inr (
                other,
                subst (λ n. IsNoBar layout.decor (get_or row.cells n SPACE)) cell
                    ((all_rows [] 0 rows ready above row below is).others (c - (layout.gutter + 2)) (omega (arith, from)) (omega (arith, to, cell))
                    (free_there above row c from free)),
              )
            ];
        apart = λ a b among-a among-b long-a long-b from to same.
            bytes_same (source s) a b (one_place (source s) (marks s) spans a b among-a among-b long-a long-b from to (omega (arith, same)));
      }
    where
      free_there : (above : List NamedRow) (row : NamedRow) (c : ℕ) → layout.gutter + 3 ≤ c
          → All (λ a. is_long (cow_str_bytes s.source.text) a ≡ true → touches (cow_str_bytes s.source.text) a (line_beside above row.name) ≡ true
          → bar_cell_of layout s a ≢ c) (marks s)
          → IsFreeAt (source s) (marks s) spans (line_from 0 above row.name) (c - (layout.gutter + 2))
      free_there above row c from free a among long first last same =
          grind (arith, common_steps, from_start, le-leb, and_from, All-contains, bar_cell_of, marks)

      inside : (depth : ℕ) → 0 < depth → depth ≤ deepest (source s) (marks s)
          → (layout.gutter + 3 ≤ layout.gutter + 2 + depth) × (layout.gutter + 2 + depth + 1 < layout.code)
      inside depth some low = (omega (arith, some), omega (arith, some, low, wide (deepest (source s) (marks s)) (omega (arith, some, low)), room))
        where
          wide : (n : ℕ) → 0 < n → code_after layout.gutter n ≡ layout.gutter + 3 + n + 1
          wide n more =
              let other : (n == 0) ≡ false = grind (arith, nat_tests, more) in
              ap (λ b. cond b (layout.gutter + 3) (layout.gutter + 3 + n + 1)) other

      deep : (a : Annotation) → Contains (marks s) a → is_long (cow_str_bytes s.source.text) a ≡ true
          → layout.gutter + 2 + depth_of (source s) (marks s) a < layout.code
      deep a among long =
          let depth = depth-within (source s) (marks s) a among long in
          omega (arith, (inside (depth_of (source s) (marks s) a) depth.0 depth.1).1)
