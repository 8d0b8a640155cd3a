-- Laws of the bars of spans that begin or end on a line: they stand in its rows from their corner on, or down to it.
use Rattle.snippet_strokes.proofs.Common.{◌≡◌, ◌≢◌, ◌⊎◌, ℕ, zero, suc, ◌+◌, ◌<◌, Bool, true, false, Some, List, [], ◌∷◌, All}
use Rattle.snippet_strokes.proofs.Common.{Contains, map, length, get_or, take, refl, sym, ap, ◌∙◌, arith, inl, inr, list_any}
use Rattle.snippet_strokes.proofs.Common.{both_ways, cases_Bool, eq-eqb, eqb-true, false_from_ne_true, not-true, list_any_at, get_or-map, get_or-take}
use Rattle.snippet_strokes.proofs.Common.{length-map, All-contains, All-head, All-map, All-tail, All-weaker, filter_passes, list_any-IsPermutation, Cell}
use Rattle.snippet_strokes.proofs.Common.{SPACE, cell_at, row_at, is_primary, LineAnnotation, LineAnnotationType, Singleline, MultilineStart, MultilineEnd}
use Rattle.snippet_strokes.proofs.Common.{MultilineLine, Among, all_among, all_pass, among_filter_map, any_among, list_any-map, Layout, PlacedEntry}
use Rattle.snippet_strokes.proofs.Common.{shifted, painting_order, painted, entries_all, BarStroke, Dotted, Solid, Top, Bar, bar_at}
use Rattle.snippet_strokes.proofs.Common.{bars_apart, ends_of_bars, HasOwnDepth, bar_of, is_whole_line, bar_cell_part, row_count}
use Rattle.snippet_strokes.proofs.Common.{HasRows, BarEnds}
use Rattle.snippet_strokes.proofs.CellLemmas.{with_bar, with_parts, begun_rows, corner_by, drawn_strokes}
use Rattle.snippet_strokes.proofs.BarFacts.{BarBegins, BeginsBelow}
use Rattle.snippet_strokes.specs.Squeezed.{middles_replaced, squeezed}
use Rattle.snippet_strokes.proofs.SqueezedLemmas.{Line, any_squeezed, each_squeezed}
use Rattle.snippet_strokes.proofs.WriteLaws.{AreLineRows, StrokesPainted}
use Rattle.snippet_strokes.proofs.LineFromValue.{rows_cut}
use Rattle.snippet_strokes.proofs.AmongLaws.{all_from_among, among_contains, contains_among, filter_map_cases}
use Rattle.snippet_strokes.proofs.BarRows.{bar_stands, drawn_beside}
use Rattle.snippet_strokes.proofs.PieceWrites.{labels_some}
use Rattle.snippet_strokes.proofs.PositionLemmas.{HasRows-row_count}
use Rattle.snippet_strokes.proofs.EachStroke.{is_at}
use Rattle.snippet_strokes.proofs.Common.{common_steps}
use Rattle.snippet_strokes.proofs.EntryBarLaws.{end_drawn, last_passing, last_stands, start_drawn}

-- ---- the rows of a line

-- lists that begin alike hold the same there
left_same : (n c : ℕ) (a b : List Cell) → c < n → take n a ≡ take n b → get_or a c SPACE ≡ get_or b c SPACE
left_same n c a b within same =
    sym (get_or-take n a c SPACE within) ∙ ap (λ cells. get_or cells c SPACE) same ∙ get_or-take n b c SPACE within

-- in the rows of a line a cell left of the code is as the strokes leave it
pub strokes_left : (layout : Layout) (width : ℕ) (closes : Bool) (es : List LineAnnotation) (source : List Cell) (rows : List (List Cell))
    (drawn : StrokesPainted layout width closes es source rows) (r c : ℕ) → c < layout.code
    → cell_at rows r c ≡ cell_at (painted (drawn_strokes layout 0 (row_count drawn.placed + 1) drawn.placed (painting_order drawn.placed))
    (begun_rows layout closes (row_count drawn.placed) source)) r c
strokes_left layout width closes es source rows drawn r c left =
    let at : List (List Cell) → Cell = λ all. cell_at all r c in
    let cut = rows_cut layout width closes es source rows drawn in
    ap at cut.new_is ∙ uncut r drawn.top drawn.marks cut.source_now cut.marks_now drawn.lower cut.source_cut.left cut.marks_cut.left ∙ ap at drawn.painted_are
  where
    uncut : (i : ℕ) (top marks top_now marks_now : List Cell) (lower : List (List Cell)) → take layout.code top_now ≡ take layout.code top
        → take layout.code marks_now ≡ take layout.code marks → cell_at (top_now ∷ marks_now ∷ lower) i c ≡ cell_at (top ∷ marks ∷ lower) i c
    uncut zero top marks top_now marks_now lower first second = left_same layout.code c top_now top left first
    uncut (suc zero) top marks top_now marks_now lower first second = left_same layout.code c marks_now marks left second
    uncut (suc (suc i)) top marks top_now marks_now lower first second = refl

-- bars that are the same have one depth
same_depth : (b c : Bar) → Some b ≡ Some c → b.depth ≡ c.depth
same_depth b c same = cc

module _ (layout : Layout) (bar : Bar) (room : layout.gutter + 2 + bar.depth < layout.code) where
  -- each start or end of the bar's depth is this part of a span, of the bar's kind
  abbrev IsItsPart : LineAnnotationType → LineAnnotation → Type 0
  IsItsPart part e = is_at bar.depth e.annotation_type ≡ true → (e.annotation_type ≡ part) × (is_primary e.kind ≡ bar.primary)

  abbrev is_its : LineAnnotation → Bool
  is_its e = is_at bar.depth e.annotation_type

  -- the last of them that is placed, and what it leaves in the bar's cell
  record HasOwn (part : LineAnnotationType) (rows : List (List Cell)) : Type 0 where
    entry : PlacedEntry
    kind : is_primary entry.entry.kind ≡ bar.primary
    count : ℕ
    long : length rows ≡ count
    within : 1 + entry.position < count
    old : List (List Cell)
    stands : (r : ℕ)
        → cell_at rows r (layout.gutter + 2 + bar.depth) ≡ cell_at (painted (corner_by layout 0 count entry part) old) r (layout.gutter + 2 + bar.depth)

  own_of : (width : ℕ) (closes : Bool) (dropped : ℕ) (es : List LineAnnotation) (source : List Cell) (rows : List (List Cell)) (part : LineAnnotationType)
      → (let line = squeezed layout width (map (shifted dropped) es) in
      StrokesPainted layout width closes line.0 (middles_replaced layout width line.1 source) rows)
      → All (IsItsPart part) es → list_any is_its es ≡ true → HasOwn part rows
  own_of width closes dropped es source rows part drawn known some =
      let placed : List PlacedEntry = drawn.placed in
      let count : ℕ = row_count placed + 1 in
      let order : List PlacedEntry = painting_order placed in
      let whole : List LineAnnotation = map (shifted dropped) es in
      let line : Line = squeezed layout width whole in
      let now : List Cell = middles_replaced layout width line.1 source in
      let begun : List (List Cell) = begun_rows layout closes (row_count placed) now in
      let entry_of : PlacedEntry → LineAnnotation = λ f. f.entry in
      let moved : List LineAnnotation = line.0 in
      let there : list_any (λ (f : PlacedEntry). is_its f.entry) placed ≡ true =
      sym (list_any-map is_its entry_of placed) ∙ sym (list_any-IsPermutation is_its moved (map entry_of placed) drawn.are.same)
      ∙ any_squeezed layout width is_its (λ e f. refl) whole ∙ list_any-map is_its (shifted dropped) es ∙ some in
      let last = last_passing (λ (f : PlacedEntry). is_its f.entry) placed there in
      let kinds : All (λ (f : PlacedEntry). IsItsPart part f.entry) placed = entries_all (IsItsPart part) moved placed drawn.are.same
      (each_squeezed layout width (IsItsPart part) (λ e f own. own) whole (All-map (IsItsPart part) (shifted dropped) es known)) in
      let its = All-contains (λ (f : PlacedEntry). IsItsPart part f.entry) placed last.one kinds last.among last.passes in
      let lower = All-contains (HasRows 1 (1 + row_count placed)) placed last.one (HasRows-row_count 1 (1 + row_count placed) placed
      (labels_some layout moved placed drawn.are) refl) last.among in
      let left = last_stands layout bar room count placed order begun last.before last.one last.after last.split last.none in
      record {
        entry = last.one;
        kind = its.1;
        count = count;
        long = drawn.count;
        within = omega (arith, lower.mark);
        old = left.0;
        stands = λ r. strokes_left layout width closes moved now rows drawn r (layout.gutter + 2 + bar.depth) room ∙ left.1 r
            ∙ ap (λ t. cell_at (painted (corner_by layout 0 count last.one t) left.0) r (layout.gutter + 2 + bar.depth)) its.0;
      }

  own_begins : (rows : List (List Cell)) → HasOwn (MultilineStart bar.depth) rows → cell_at rows 0 (layout.gutter + 2 + bar.depth) ≡ SPACE
      → BeginsBelow layout bar rows
  own_begins rows own blank =
      let drawn = start_drawn layout bar room own.count [] [] [] own.entry own.old own.kind in
      record {
        corner = 1 + own.entry.position;
        below = omega arith;
        within = omega (arith, own.within, own.long);
        corner_is = own.stands (1 + own.entry.position) ∙ drawn.0;
        source = blank;
        beside = λ i lower within. own.stands i ∙ drawn.1 i lower (omega (arith, within, own.long));
      }

  own_ends : (rows : List (List Cell)) → HasOwn (MultilineEnd bar.depth) rows → BarEnds layout bar rows
  own_ends rows own =
      let drawn = end_drawn layout bar room own.count [] [] [] own.entry own.old own.kind in
      record {
        corner = 1 + own.entry.position;
        below = omega arith;
        within = omega (arith, own.within, own.long);
        corner_is = own.stands (1 + own.entry.position) ∙ drawn.0;
        beside = λ i higher. own.stands i ∙ drawn.1 i higher;
      }

  -- bars of other depths that run past leave the bar's cell
  pub passed_by : (stroke : BarStroke) (bars : List Bar) (row : List Cell) → All (λ b. b.depth ≢ bar.depth) bars
      → get_or (with_parts layout stroke bars row) (layout.gutter + 2 + bar.depth) SPACE ≡ get_or row (layout.gutter + 2 + bar.depth) SPACE
  passed_by stroke [] row others = refl
  passed_by stroke (b ∷ bars) row others =
      passed_by stroke bars (with_bar layout stroke row b) (All-tail (λ x. x.depth ≢ bar.depth) b bars others)
      ∙ drawn_beside layout stroke bar b row (All-head (λ x. x.depth ≢ bar.depth) b bars others)

  -- so it is in the rows of a line as the line's own entries leave it, where they have other depths
  module _ {width : ℕ} {closes : Bool} {text : List ℕ} {dropped : ℕ} {open_bars : List Bar} {es : List LineAnnotation} {source : List Cell}
      {rows : List (List Cell)} (drawn : AreLineRows layout width closes text dropped open_bars es source rows) where
    own_count : length rows ≡ length drawn.own
    own_count = ap length drawn.rows_are ∙ length-map drawn.own (with_parts layout Solid (bars_apart open_bars (ends_of_bars es)))

    pub own_cell : All (λ b. b.depth ≢ bar.depth) (bars_apart open_bars (ends_of_bars es)) → (i : ℕ) → i < length rows
        → cell_at rows i (layout.gutter + 2 + bar.depth) ≡ cell_at drawn.own i (layout.gutter + 2 + bar.depth)
    own_cell others i within =
        let past : List Bar = bars_apart open_bars (ends_of_bars es) in
        let rule : List Cell → List Cell = with_parts layout Solid past in
        let row : row_at rows i ≡ rule (row_at drawn.own i) = ap (λ rs. row_at rs i) drawn.rows_are
        ∙ get_or-map rule drawn.own i [] [] (omega (arith, within, own_count)) in
        ap (λ cells. get_or cells (layout.gutter + 2 + bar.depth) SPACE) row ∙ passed_by Solid past (row_at drawn.own i) others

  -- what is known of the entries of a line, one of which begins or ends the bar
  module _ (es : List LineAnnotation) (among : Contains (ends_of_bars es) bar) (alone : HasOwnDepth bar (ends_of_bars es)) where
    part_has : (t : LineAnnotationType) (primary : Bool) → bar_at t primary ≡ Some bar → is_at bar.depth t ≡ true
    unfolding is_at
    part_has Singleline primary is = absurd cc
    part_has (MultilineStart d) primary is = eq-eqb d bar.depth (same_depth (record { depth = d; primary = primary }) bar is)
    part_has (MultilineEnd d) primary is = eq-eqb d bar.depth (same_depth (record { depth = d; primary = primary }) bar is)
    part_has (MultilineLine d) primary is = absurd cc

    -- one of them has its depth
    one_has : (e : LineAnnotation) × Among es e × (is_at bar.depth e.annotation_type ≡ true)
    one_has =
        let found = filter_map_cases bar_of es bar (contains_among (ends_of_bars es) bar among) in
        (found.0, found.1, part_has found.0.annotation_type (is_primary found.0.kind) found.2)

    some_has : list_any is_its es ≡ true
    some_has = let found = one_has in any_among is_its es found.0 found.1 found.2

    -- the bars that run past have other depths
    pub past_apart : (open_bars : List Bar) → All (λ b. b.depth ≢ bar.depth) (bars_apart open_bars (ends_of_bars es))
    past_apart open_bars = grind (arith, common_steps, list_any_at, eq-eqb, All-weaker, both_ways, not-true, filter_passes)

    -- each that has its depth is of its kind
    kind_of : (e : LineAnnotation) → Among es e → (b : Bar) → bar_of e ≡ Some b → b.depth ≡ bar.depth → b ≡ bar
    kind_of e here b is same =
        all_among (λ (x : Bar). x.depth ≡ bar.depth → x ≡ bar) (ends_of_bars es) b alone (among_filter_map bar_of es e b here is) same

    its_part : (e : LineAnnotation) → Among es e → is_at bar.depth e.annotation_type ≡ true
        → ((e.annotation_type ≡ MultilineStart bar.depth) ⊎ (e.annotation_type ≡ MultilineEnd bar.depth)) × (is_primary e.kind ≡ bar.primary)
    unfolding is_at
    its_part e here at = by_type e.annotation_type (is_primary e.kind) (kind_of e here) at
      where
        by_type : (t : LineAnnotationType) (primary : Bool) → ((b : Bar) → bar_at t primary ≡ Some b → b.depth ≡ bar.depth → b ≡ bar)
            → is_at bar.depth t ≡ true → ((t ≡ MultilineStart bar.depth) ⊎ (t ≡ MultilineEnd bar.depth)) × (primary ≡ bar.primary)
        by_type Singleline primary own at = absurd cc
        by_type (MultilineStart d) primary own at =
            let same : d ≡ bar.depth = eqb-true d bar.depth at in
            (inl (ap MultilineStart same), ap (λ (b : Bar). b.primary) (own (record { depth = d; primary = primary }) refl same))
        by_type (MultilineEnd d) primary own at =
            let same : d ≡ bar.depth = eqb-true d bar.depth at in
            (inr (ap MultilineEnd same), ap (λ (b : Bar). b.primary) (own (record { depth = d; primary = primary }) refl same))
        by_type (MultilineLine d) primary own at = absurd cc

    all_starts : All (λ e. e.annotation_type ≡ MultilineEnd bar.depth → ⊥) es → All (IsItsPart (MultilineStart bar.depth)) es
    all_starts none =
        all_from_among (IsItsPart (MultilineStart bar.depth)) es (λ e here at. elim (its_part e here at).0 [
          | inl start ↦ (start, (its_part e here at).1)
          | inr end ↦ absurd (all_among (λ (x : LineAnnotation). x.annotation_type ≡ MultilineEnd bar.depth → ⊥) es e none here end)
        ])

    all_ends : All (λ e. e.annotation_type ≡ MultilineStart bar.depth → ⊥) es → All (IsItsPart (MultilineEnd bar.depth)) es
    all_ends none =
        all_from_among (IsItsPart (MultilineEnd bar.depth)) es (λ e here at. elim (its_part e here at).0 [
          | inl start ↦ absurd (all_among (λ (x : LineAnnotation). x.annotation_type ≡ MultilineStart bar.depth → ⊥) es e none here start)
          | inr end ↦ (end, (its_part e here at).1)
        ])

    module _ (width : ℕ) (closes : Bool) (text : List ℕ) (dropped : ℕ) (open_bars : List Bar) (source : List Cell) (rows : List (List Cell))
        (drawn : AreLineRows layout width closes text dropped open_bars es source rows) where
      as_many : length rows ≡ length drawn.own
      as_many = own_count drawn

      -- its cell is as the line's own entries leave it
      left_cell : (i : ℕ) → i < length rows → cell_at rows i (layout.gutter + 2 + bar.depth) ≡ cell_at drawn.own i (layout.gutter + 2 + bar.depth)
      left_cell i within = own_cell drawn (past_apart open_bars) i within

      -- the line has entries
      pub some_entries : 0 < length es
      some_entries = let found = among_contains es one_has.0 one_has.1 in omega (arith, found.1)

      -- the bar of a span that begins on a line begins in the line's rows, if nothing stands beside it in the source row
      pub bar_begins : All (λ e. e.annotation_type ≡ MultilineEnd bar.depth → ⊥) es
          → (is_whole_line text es ≡ false → cell_at drawn.own 0 (layout.gutter + 2 + bar.depth) ≡ SPACE) → BarBegins layout bar rows
      bar_begins none blank =
          elim (cases_Bool (is_whole_line text es)) [
            | inl whole ↦
                let one = drawn.are.whole whole in
                let alone_there : length rows ≡ 1 = as_many ∙ ap length one in
                inl (record {
                  alone = alone_there;
                  top = left_cell 0 (omega (arith, alone_there)) ∙ ap (λ rs. cell_at rs 0 (layout.gutter + 2 + bar.depth)) one
                      ∙ bar_stands layout Top bar (ends_of_bars es) source alone among;
                })
            | inr other ↦
                let has = own_of width closes dropped es source drawn.own (MultilineStart bar.depth) (drawn.are.strokes other some_entries)
                (all_starts none) some_has in
                let own : BeginsBelow layout bar drawn.own = own_begins drawn.own has (blank other) in
                inr (record {
                  corner = own.corner;
                  below = own.below;
                  within = omega (arith, own.within, as_many);
                  corner_is = left_cell own.corner (omega (arith, own.within, as_many)) ∙ own.corner_is;
                  source = left_cell 0 (omega (arith, as_many, has.long, has.within)) ∙ blank other;
                  beside = λ i lower within. left_cell i within ∙ own.beside i lower (omega (arith, within, as_many));
                })
          ]

      -- the bar of a span that ends on a line ends in the line's rows
      pub bar_ends : All (λ e. e.annotation_type ≡ MultilineStart bar.depth → ⊥) es → BarEnds layout bar rows
      bar_ends none =
          let known = all_ends none in
          let found = one_has in
          let part : found.0.annotation_type ≡ MultilineEnd bar.depth = (all_among (IsItsPart (MultilineEnd bar.depth)) es found.0 known found.1 found.2).0 in
          let other : is_whole_line text es ≡ false = false_from_ne_true (is_whole_line text es) (λ whole. not_whole found.0 part es found.1 whole) in
          let own : BarEnds layout bar drawn.own = own_ends drawn.own (own_of width closes dropped es source drawn.own (MultilineEnd bar.depth)
          (drawn.are.strokes other some_entries) known some_has) in
          record {
            corner = own.corner;
            below = own.below;
            within = omega (arith, own.within, as_many);
            corner_is = left_cell own.corner (omega (arith, own.within, as_many)) ∙ own.corner_is;
            beside = λ i higher. left_cell i (omega (arith, higher, own.within, as_many)) ∙ own.beside i higher;
          }
        where
          not_whole : (e : LineAnnotation) → e.annotation_type ≡ MultilineEnd bar.depth → (xs : List LineAnnotation) → Among xs e → is_whole_line text xs ≡ true
              → ⊥
          not_whole e part [] here whole = here
          not_whole e part (x ∷ xs) here whole = grind (arith, common_steps, all_pass, no_end)
            where
              no_end : false ≡ true → ⊥
              no_end wrong = cc wrong

-- in the row in place of lines that are left out each bar that is open there stands, where no other has its depth
pub elision_stands : (layout : Layout) (bar : Bar) (open_bars : List Bar) (row : List Cell) → HasOwnDepth bar open_bars → Contains open_bars bar
    → get_or (with_parts layout Dotted open_bars row) (layout.gutter + 2 + bar.depth) SPACE ≡ bar_cell_part layout Dotted bar
elision_stands layout bar open_bars row alone among = bar_stands layout Dotted bar open_bars row alone among
