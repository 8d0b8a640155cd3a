-- What drawing bars keeps.
use Rattle.snippet_strokes.proofs.Common.{◌≡◌, ℕ, ◌+◌, ◌-◌, ◌<◌, ◌≤◌, ◌==◌, ◌&&◌, max, true, false, Bool, None, List, [], ◌∷◌, length, map, take, drop}
use Rattle.snippet_strokes.proofs.Common.{get_or, refl, sym, ap, ◌∙◌, subst, arith, inl, inr, All, list_any, slice_index_or, cases_lt, get_or-map, length-map}
use Rattle.snippet_strokes.proofs.Common.{get_or_default, get_or_past, get_or-drop, get_or-take, length-drop, length-take, length-take-le, ext_get_or}
use Rattle.snippet_strokes.proofs.Common.{drop-drop, All-cons, All-from_get_or, All-get_or, All-head, All-nil, All-tail, LineAnnotation, AreReplaced}
use Rattle.snippet_strokes.proofs.Common.{DecorStyle, bar_glyphs, placeholder_of, row_at, cell_at, cells_written, WritesCells-cells_written}
use Rattle.snippet_strokes.proofs.Common.{row_at-cells_written_same, Cell, SPACE, row_text, is_listed, Layout, BarStroke, Top, Solid, Dotted, IsBarCell}
use Rattle.snippet_strokes.proofs.Common.{IsMarkCell, is_mark_role, IsFreeCell, bars_among, HasBarRoom, StandsBeside, bar_glyph, bar_cell_part, WritesCells}
use Rattle.snippet_strokes.proofs.Common.{OpenBar, unlinked_cell, LineNumber, ◌||◌, is_whitespace, list_all, false≢true, LineAnnotationType, Singleline}
use Rattle.snippet_strokes.proofs.Common.{MultilineStart, MultilineEnd, MultilineLine, is_bar, shifted, label_text, is_beside, is_whole_line, is_start_part}
use Rattle.snippet_strokes.proofs.Common.{rules}
use Rattle.snippet_strokes.proofs.SeenRows.{are_plain, wide_entries, AreSeen, AreStrokes, IsBeside, IsStrokeRow, ShowsMarks, HasNoBars}
use Rattle.snippet_strokes.proofs.CellLemmas.{with_parts, with_bar}
use Rattle.snippet_strokes.proofs.DrawnCells.{BarsDrawn}
use Rattle.snippet_strokes.proofs.LabelPlaces.{LabelsStand-kept, LabelsStand-none}
use Rattle.snippet_strokes.proofs.DrawLemmas.{free_bar, written_cell}
use Rattle.snippet_strokes.proofs.Common.{common_steps}
use Rattle.snippet_strokes.proofs.SeenLabels.{IsLabelledAtEnd}

-- each part of a bar is one of the glyphs that bars are drawn with, and not listed
pub bar_glyph_known : (stroke : BarStroke) (decor : DecorStyle) (primary : Bool) → list_any (λ g. bar_glyph stroke decor primary == g) (bar_glyphs decor) ≡ true
bar_glyph_known Top decor primary = (bars_among decor primary).whole_line
bar_glyph_known Solid decor primary = (bars_among decor primary).bar
bar_glyph_known Dotted decor primary = (bars_among decor primary).elided_bar

-- the glyph of a bar is no listed character
pub bar_glyph_free : (stroke : BarStroke) (decor : DecorStyle) (primary : Bool) → is_listed (bar_glyph stroke decor primary) ≡ false
bar_glyph_free stroke decor primary =
    (free_bar decor (unlinked_cell LineNumber (bar_glyph stroke decor primary)) (record { glyph = bar_glyph_known stroke decor primary; link = refl })).0

-- a space without a link is a cell that a bar may have
pub bar_space : (decor : DecorStyle) (cell : Cell) → cell.ch ≡ 32 → cell.link ≡ None → IsBarCell decor cell
bar_space decor cell blank unlinked = search rules

-- nothing is drawn yet
pub BarsDrawn-none : (layout : Layout) (row : List Cell) → BarsDrawn layout row row
BarsDrawn-none layout row = search rules

-- and then something more
pub BarsDrawn-more : (layout : Layout) (old mid new : List Cell) → BarsDrawn layout old mid → BarsDrawn layout mid new → BarsDrawn layout old new
BarsDrawn-more layout old mid new done more = search rules

-- what stands where a list has no bar
abbrev pub no_bar : OpenBar
no_bar = record { depth = 0; primary = false }

-- the first of some bars stands beside itself
pub beside_itself : (bars : List OpenBar) (from k : ℕ) (d : OpenBar) → k ≡ from → StandsBeside (get_or bars from d) (k - from) (get_or bars k d)
beside_itself bars from k d same = search rules

-- one more bar stands beside those before it
pub beside_next : (bars : List OpenBar) (from to k : ℕ) (d e : OpenBar) → from < to → k ≡ to → to < length bars
    → StandsBeside (get_or bars from d) (to - 1 - from) (get_or bars (to - 1) d) → StandsBeside (get_or bars (to - 1) e) 1 (get_or bars to e)
    → StandsBeside (get_or bars from d) (k - from) (get_or bars k d)
beside_next bars from to k d e ordered same within done next = grind (arith, get_or_default)

-- parts of bars are written into a row
BarsDrawn-write : (layout : Layout) (old new : List (List Cell)) (row at : ℕ) (cells : List Cell) → WritesCells old new row at cells
    → layout.gutter + 3 ≤ at → at + length cells ≤ layout.code → All (IsBarCell layout.decor) cells → All IsFreeCell cells
    → BarsDrawn layout (row_at old row) (row_at new row)
BarsDrawn-write layout old new row at cells writes right near bar_cell clean =
    let before = row_at old row in
    let later = row_at new row in
    let long : length later ≡ max (length before) (at + length cells) = writes.width in
    let P : Cell → Type 0 = IsFreeCell in
    let Q : Cell → Type 0 = IsBarCell layout.decor in
    record {
      left = λ c left. writes.before c (omega (arith, left, right));
      bar_cells = λ c is. written_cell Q old new row at c cells writes bar_cell is;
      code = ext_get_or SPACE (drop layout.code later) (drop layout.code before)
          (omega (arith, length-drop layout.code later, length-drop layout.code before, long, near))
          (λ k within. get_or-drop layout.code later k SPACE ∙ writes.after (layout.code + k) (omega (arith, near))
          ∙ sym (get_or-drop layout.code before k SPACE));
      longer = omega (arith, long);
      short = omega (arith, long, near);
      free = λ free. All-from_get_or P later SPACE (λ c within. written_cell P old new row at c cells writes clean (elim (cases_lt c (length before)) [
        | inl inside ↦ All-get_or P before c SPACE inside free
        | inr past ↦ subst P (sym (get_or_past before c SPACE past)) (refl, refl)
      ]));
    }

-- a row with parts of bars
BarsDrawn-with_bar : (layout : Layout) (stroke : BarStroke) (bar : OpenBar) (row : List Cell) → HasBarRoom layout bar
    → BarsDrawn layout row (with_bar layout stroke row bar)
BarsDrawn-with_bar layout stroke bar row room =
    let part : Cell = bar_cell_part layout stroke bar in
    let at : ℕ = layout.gutter + 2 + bar.depth in
    let is : IsBarCell layout.decor part = record { glyph = bar_glyph_known stroke layout.decor bar.primary; link = refl } in
    let free : IsFreeCell part = (bar_glyph_free stroke layout.decor bar.primary, refl) in
    let new : List (List Cell) = cells_written (row ∷ []) 0 at (part ∷ []) in
    subst (BarsDrawn layout row) (row_at-cells_written_same (row ∷ []) 0 at (part ∷ []))
    (BarsDrawn-write layout (row ∷ []) new 0 at (part ∷ []) (WritesCells-cells_written (row ∷ []) 0 at (part ∷ [])) (omega (arith, room.0))
    (omega (arith, room.1)) (All-cons (IsBarCell layout.decor) part [] is (All-nil (IsBarCell layout.decor)))
    (All-cons IsFreeCell part [] free (All-nil IsFreeCell)))

pub BarsDrawn-with_parts : (layout : Layout) (stroke : BarStroke) (bars : List OpenBar) (row : List Cell) → All (HasBarRoom layout) bars
    → BarsDrawn layout row (with_parts layout stroke bars row)
BarsDrawn-with_parts layout stroke [] row room = BarsDrawn-none layout row
BarsDrawn-with_parts layout stroke (bar ∷ bars) row room =
    let mid : List Cell = with_bar layout stroke row bar in
    BarsDrawn-more layout row mid (with_parts layout stroke bars mid)
    (BarsDrawn-with_bar layout stroke bar row (All-head (HasBarRoom layout) bar bars room))
    (BarsDrawn-with_parts layout stroke bars mid (All-tail (HasBarRoom layout) bar bars room))

-- the cells from the code on are as they were
drawn_right : (layout : Layout) (old new : List Cell) → BarsDrawn layout old new → (c : ℕ) → layout.code ≤ c
    → slice_index_or new c SPACE ≡ slice_index_or old c SPACE
drawn_right layout old new drawn c right =
    let k : ℕ = c - layout.code in
    let same : layout.code + k ≡ c = omega (arith, right) in
    subst (λ n. get_or new n SPACE ≡ get_or old n SPACE) same (sym (get_or-drop layout.code new k SPACE) ∙ ap (λ cells. get_or cells k SPACE) drawn.code
    ∙ get_or-drop layout.code old k SPACE)

-- and so are those of the front
drawn_front : (layout : Layout) (old new : List Cell) → BarsDrawn layout old new → layout.gutter + 2 ≤ length old
    → take (layout.gutter + 2) new ≡ take (layout.gutter + 2) old
drawn_front layout old new drawn long =
    let n : ℕ = layout.gutter + 2 in
    let here : length (take n new) ≡ n = length-take-le n new (omega (arith, drawn.longer, long)) in
    let there : length (take n old) ≡ n = length-take-le n old long in
    ext_get_or SPACE (take n new) (take n old) (here ∙ sym there) (λ k within.
    let left : k < n = omega (arith, here, within) in
    get_or-take n new k SPACE left ∙ drawn.left k (omega (arith, left)) ∙ sym (get_or-take n old k SPACE left))

-- a source row is as it was but for its bars
pub IsBeside-drawn : (layout : Layout) (wide : ℕ) (plain old new : List Cell) → layout.gutter + 2 ≤ length plain → IsBeside layout wide plain old
    → BarsDrawn layout old new → IsBeside layout wide plain new
IsBeside-drawn layout wide plain old new long is drawn =
    let n : ℕ = layout.gutter + 2 in
    let enough : n ≤ length old = omega (arith, long, ap length is.front, length-take n old, length-take n plain) in
    record {
      front = drawn_front layout old new drawn enough ∙ is.front;
      gap = drawn.left n (omega arith) ∙ is.gap;
      bar_cells = λ c from to. drawn.bar_cells c (is.bar_cells c from to);
      text = subst (λ cells. AreReplaced (placeholder_of layout.decor) wide (row_text (drop layout.code plain)) (row_text cells)) (sym drawn.code) is.text;
      uncut = λ none. drawn.code ∙ is.uncut none;
      free = λ free. drawn.free (is.free free);
    }

-- so is a row of strokes
IsStrokeRow-drawn : (layout : Layout) (plain : Bool) (es : List LineAnnotation) (closes : Bool) (old new : List Cell) → IsStrokeRow layout plain es closes old
    → BarsDrawn layout old new → IsStrokeRow layout plain es closes new
IsStrokeRow-drawn layout plain es closes old new is drawn = search (rules, drawn_right)

ShowsMarks-drawn : (layout : Layout) (es : List LineAnnotation) (old new : List Cell) → ShowsMarks layout layout.decor layout.code es old
    → BarsDrawn layout old new → ShowsMarks layout layout.decor layout.code es new
ShowsMarks-drawn layout es old new shows drawn =
    let same : (p : ℕ) → slice_index_or new (layout.code + p) SPACE ≡ slice_index_or old (layout.code + p) SPACE = λ p.
    drawn_right layout old new drawn (layout.code + p) (omega arith) in
    record {
      marks = λ p kind mark. subst (IsMarkCell layout.decor kind) (sym (same p)) (shows.marks p kind mark);
      unmarked = λ p none. ap (λ (c : Cell). is_mark_role c.role) (same p) ∙ shows.unmarked p none;
      spaces = λ bare p none. same p ∙ shows.spaces bare p none;
      lone = λ e alone wide label. sym (drop-drop e.end.display layout.code new) ∙ ap (drop e.end.display) drawn.code ∙ drop-drop e.end.display layout.code old
          ∙ shows.lone e alone wide label;
    }

AreStrokes-drawn : (layout : Layout) (room : ℕ) (es : List LineAnnotation) (closes : Bool) (old new : List (List Cell))
    → AreStrokes layout room es closes old → length new ≡ length old → ((k : ℕ) → k < length old → BarsDrawn layout (row_at old k) (row_at new k))
    → AreStrokes layout room es closes new
AreStrokes-drawn layout room es closes old new is count drawn =
    let plain : Bool = are_plain room layout.decor es in
    record {
      some = λ all more. omega (arith, count, is.some all more);
      marks = λ all. marks (is.marks all);
      labels = λ uncut ends. LabelsStand-kept layout es old new (is.labels uncut ends) kept short;
      are = λ k within.
          let inside : k < length old = omega (arith, within, count) in
          subst (λ n. IsStrokeRow layout plain es (closes && k + 1 == n) (row_at new k)) (sym count)
          (IsStrokeRow-drawn layout plain es (closes && k + 1 == length old) (row_at old k) (row_at new k) (is.are k inside) (drawn k inside));
    }
  where
    kept : (r c : ℕ) → layout.code ≤ c → cell_at new r c ≡ cell_at old r c
    kept r c right = grind (arith, common_steps, drawn_right, get_or_past)

    short : (r : ℕ) → length (row_at new r) ≤ max (length (row_at old r)) layout.code
    short r = grind (arith, common_steps, get_or_past)

    marks : ShowsMarks layout layout.decor layout.code es (row_at old 0)
        → ShowsMarks layout layout.decor layout.code es (row_at new 0)
    marks shows = grind (arith, common_steps, ShowsMarks-drawn, get_or_past)

-- so are all rows of a line, where bars are drawn in each
pub AreSeen-drawn : (layout : Layout) (room : ℕ) (es : List LineAnnotation) (closes : Bool) (plain : List Cell) (rows : List (List Cell))
    (rule : List Cell → List Cell) → layout.gutter + 2 ≤ length plain → ((cells : List Cell) → BarsDrawn layout cells (rule cells))
    → AreSeen layout room es closes plain rows → AreSeen layout room es closes plain (map rule rows)
AreSeen-drawn layout room es closes plain rows rule long drawn seen =
    record {
      source = rule seen.source;
      below = map rule seen.below;
      rows_are = ap (map rule) seen.rows_are;
      beside = IsBeside-drawn layout (wide_entries room layout.decor es) plain seen.source (rule seen.source) long seen.beside (drawn seen.source);
      strokes = AreStrokes-drawn layout room es closes seen.below (map rule seen.below) seen.strokes (length-map seen.below rule)
          (λ k within. subst (BarsDrawn layout (row_at seen.below k)) (sym (get_or-map rule seen.below k [] [] within)) (drawn (row_at seen.below k)));
    }

-- Lines that are marked as a whole.
first_true : (a b : Bool) → (a && b) ≡ true → a ≡ true
first_true true b is = refl
first_true false b is = absurd (false≢true is)

-- the marks of such a line aren't promised
whole_not_plain : (text : List ℕ) (room dropped : ℕ) (decor : DecorStyle) (es : List LineAnnotation) → is_whole_line text es ≡ true
    → are_plain room decor (map (shifted dropped) es) ≡ true → ⊥
whole_not_plain text room dropped decor [] whole plain = false≢true whole
whole_not_plain text room dropped decor (e ∷ es) whole plain = search rules

-- an entry that is drawn by bars alone is a start or a bar, and so it has no label
bar_or_start : (t : LineAnnotationType) (b : Bool) → (is_bar t || is_start_part t && b) ≡ true → (is_start_part t || is_bar t) ≡ true
bar_or_start Singleline b is = absurd (false≢true is)
bar_or_start (MultilineStart depth) b is = refl
bar_or_start (MultilineEnd depth) b is = absurd (false≢true is)
bar_or_start (MultilineLine depth) b is = refl

second_true : (a b : Bool) → (a && b) ≡ true → b ≡ true
second_true true b is = is
second_true false b is = absurd (false≢true is)

all_unlabelled : (text : List ℕ) (dropped : ℕ) (es : List LineAnnotation) → list_all (is_beside text) es ≡ true → All IsLabelledAtEnd (map (shifted dropped) es)
    → All (λ e. label_text e ≡ []) (map (shifted dropped) es)
all_unlabelled text dropped [] whole ends = All-nil (λ e. label_text e ≡ [])
all_unlabelled text dropped (e ∷ es) whole ends =
    let beside : is_beside text e ≡ true = first_true (is_beside text e) (list_all (is_beside text) es) whole in
    let rest : list_all (is_beside text) es ≡ true = second_true (is_beside text e) (list_all (is_beside text) es) whole in
    let first : LineAnnotation = shifted dropped e in
    let others : List LineAnnotation = map (shifted dropped) es in
    All-cons (λ x. label_text x ≡ []) first others (All-head IsLabelledAtEnd first others ends
    (bar_or_start e.annotation_type (list_all is_whitespace (take e.start.display text)) beside))
    (all_unlabelled text dropped es rest (All-tail IsLabelledAtEnd first others ends))

beside_unlabelled : (text : List ℕ) (dropped : ℕ) (es : List LineAnnotation) → is_whole_line text es ≡ true → All IsLabelledAtEnd (map (shifted dropped) es)
    → All (λ e. label_text e ≡ []) (map (shifted dropped) es)
beside_unlabelled text dropped [] whole ends = absurd (false≢true whole)
beside_unlabelled text dropped (e ∷ es) whole ends = all_unlabelled text dropped (e ∷ es) whole ends

-- no rows of strokes
AreStrokes-whole : (layout : Layout) (text : List ℕ) (room dropped : ℕ) (closes : Bool) (es : List LineAnnotation) → is_whole_line text es ≡ true
    → AreStrokes layout room (map (shifted dropped) es) closes []
AreStrokes-whole layout text room dropped closes es whole = record {
  some = λ plain _. absurd (whole_not_plain text room dropped layout.decor es whole plain);
  marks = λ plain. absurd (whole_not_plain text room dropped layout.decor es whole plain);
  labels = λ _ ends. LabelsStand-none layout (map (shifted dropped) es) [] (beside_unlabelled text dropped es whole ends) (λ r c right. refl)
      (λ r. omega arith);
  are = λ k within. absurd (omega (arith, within));
}

-- a source row beside which nothing is drawn
IsBeside-same : (layout : Layout) (wide : ℕ) (plain : List Cell) → HasNoBars layout plain → IsBeside layout wide plain plain
IsBeside-same layout wide plain bare = search rules

-- of such a line the source row alone is seen
pub whole_seen : (layout : Layout) (text : List ℕ) (room dropped : ℕ) (closes : Bool) (es : List LineAnnotation) (source : List Cell)
    → is_whole_line text es ≡ true → HasNoBars layout source → AreSeen layout room (map (shifted dropped) es) closes source (source ∷ [])
whole_seen layout text room dropped closes es source whole bare = grind (arith, IsBeside-same, AreStrokes-whole)
