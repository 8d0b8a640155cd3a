-- A mark that is drawn from its first glyph on is its underline, and over it the glyph of its own.
use Rattle.std.proofs.lemmas.Grind.{common_steps}
use Rattle.snippet_strokes.proofs.Common.{◌≡◌, ℕ, ◌+◌, ◌-◌, ◌<◌, ◌≤◌, ◌==◌, ◌&&◌, ◌||◌, nat_le, cond, Bool, true, false}
use Rattle.snippet_strokes.proofs.Common.{List, [], ◌∷◌, ◌++◌, replicate, inl, inr, refl, ap, ◌∙◌, arith, flat_map, cases_Bool, cases_lt}
use Rattle.snippet_strokes.proofs.Common.{nat_tests, places, same_lists, row_at-cells_written_same, cells_written, row_at, Layout, PlacedEntry, has_stem}
use Rattle.snippet_strokes.proofs.Common.{takes_space, is_primary, Cell, SPACE, text_cells, written, strokes_of, Strokes, ElementStyle, mark_of, stroke_role}
use Rattle.snippet_strokes.proofs.Common.{first_glyph, mark_end, Write, glyph_at, painted, stretch_of, line_strokes, strokes_under_marks, rules}
use Rattle.snippet_strokes.proofs.CellLemmas.{drawn_mark, drawn_strokes, drawn_under_marks}
use Rattle.snippet_strokes.proofs.EveryStem.{stems_painted}
use Rattle.snippet_strokes.proofs.SwapLemmas.{written-again}
use Rattle.snippet_strokes.proofs.WriteLaws.{drawn_mark-none, less, painted-append, stretch_of-none}

-- ---- cells of one row, written one after another

first_after : (row : List Cell) (at : ℕ) (x : Cell) (xs : List Cell)
    → written SPACE (written SPACE row at (x ∷ [])) (at + 1) xs ≡ written SPACE row at (x ∷ xs)
first_after row at x xs =
    same_lists _ _ (unfold written in grind (arith, places)) (λ i d h. unfold written in grind (arith, places))

first_over : (row : List Cell) (at : ℕ) (x y : Cell) (xs : List Cell)
    → written SPACE (written SPACE row at (x ∷ xs)) at (y ∷ []) ≡ written SPACE row at (y ∷ xs)
first_over row at x y xs =
    same_lists _ _ (unfold written in grind (arith, places)) (λ i d h. unfold written in grind (arith, places))

same_row : (rows : List (List Cell)) (r at from n : ℕ) (xs ys zs : List Cell)
    → written SPACE (written SPACE (row_at rows r) at xs) from ys ≡ written SPACE (row_at rows r) n zs
    → cells_written (cells_written rows r at xs) r from ys ≡ cells_written rows r n zs
same_row rows r at from n xs ys zs same = grind (arith, row_at-cells_written_same, written-again)

-- ---- a stretch, with another glyph first

-- a stretch is its first glyph and as many after it
stretch_whole : (row from to glyph : ℕ) (role : ElementStyle) (rows : List (List Cell)) → from < to
    → painted (stretch_of row from to glyph role) rows ≡ cells_written rows row from (text_cells role (glyph ∷ replicate (to - (from + 1)) glyph))
stretch_whole row from to glyph role rows some = search rules

-- a glyph, and a stretch after it
glyph_and_stretch : (row from to first glyph : ℕ) (role : ElementStyle) (rows : List (List Cell)) → from < to
    → painted (glyph_at row from first role ∷ stretch_of row (from + 1) to glyph role) rows
    ≡ cells_written rows row from (text_cells role (first ∷ replicate (to - (from + 1)) glyph))
glyph_and_stretch row from to first glyph role rows some = grind (arith, cases_lt, less, same_row, first_after, stretch_of-none)

-- a stretch, and a glyph over its first
stretch_and_glyph : (row from to first glyph : ℕ) (role : ElementStyle) (rows : List (List Cell)) → from < to
    → painted (stretch_of row from to glyph role ++ glyph_at row from first role ∷ []) rows
    ≡ cells_written rows row from (text_cells role (first ∷ replicate (to - (from + 1)) glyph))
stretch_and_glyph row from to first glyph role rows some = grind (arith, painted-append, stretch_whole, same_row, first_over)

-- so a mark whose first glyph is its underline is painted by one text
pub mark_whole : (layout : Layout) (row : ℕ) (e : PlacedEntry) (first underline : ℕ) (role : ElementStyle) (end : ℕ) (old new : List (List Cell))
    → e.entry.start.display < mark_end e → end ≡ mark_end e → first ≡ first_glyph layout.decor e
    → underline ≡ (strokes_of layout.decor (is_primary e.entry.kind)).underline → role ≡ stroke_role e → first ≡ underline
    → new ≡ painted (stretch_of row (layout.code + e.entry.start.display) (layout.code + end) first role) old
    → new ≡ painted (drawn_mark layout row e) old
mark_whole layout row e first underline role end old new some is_end is_first is_underline is_role same drawn =
    grind (arith, stretch_whole, glyph_and_stretch)

-- ---- the mark of an entry

module _ (layout : Layout) (row : ℕ) (e : PlacedEntry) (rows : List (List Cell)) where
  abbrev strokes : Strokes
  strokes = strokes_of layout.decor (is_primary e.entry.kind)

  abbrev start : ℕ
  start = e.entry.start.display

  abbrev end : ℕ
  end = e.entry.end.display

  abbrev from : ℕ
  from = layout.code + start

  abbrev has_own : Bool
  has_own = takes_space e || has_stem e

  abbrev own : ℕ
  own = cond (takes_space e) (cond (has_stem e) strokes.end_down strokes.end_flat) strokes.label_start

  abbrev line : List Write
  line = stretch_of row from (layout.code + end) strokes.underline (stroke_role e)

  -- where it has a glyph of its own that glyph is the first, and else the underline is
  first_own : has_own ≡ true → first_glyph layout.decor e ≡ own
  first_own some = search rules

  first_plain : has_own ≡ false → first_glyph layout.decor e ≡ strokes.underline
  first_plain none = search rules

  -- the end of the mark
  end_apart : (start == end) ≡ false → mark_end e ≡ end
  end_apart apart = ap (λ b. cond (b && has_own) (end + 1) end) apart

  end_plain : has_own ≡ false → mark_end e ≡ end
  end_plain none = search rules

  end_own : start ≡ end → has_own ≡ true → mark_end e ≡ end + 1
  end_own same some = search rules

  -- what is drawn, up to this column
  drawn : (to : ℕ) → mark_end e ≡ to → start < to → painted (drawn_mark layout row e) rows
      ≡ painted (glyph_at row from (first_glyph layout.decor e) (stroke_role e)
      ∷ stretch_of row (from + 1) (layout.code + to) strokes.underline (stroke_role e)) rows
  drawn to is some = search rules

  -- what the rule says, by its test
  ruled : (test : Bool) → (nat_le start end && has_own) ≡ test
      → painted (mark_of layout row e) rows ≡ painted (line ++ cond test (glyph_at row from own (stroke_role e) ∷ []) []) rows
  ruled test is = ap (λ b. painted (line ++ cond b (glyph_at row from own (stroke_role e) ∷ []) []) rows) is

  le_test : (b : Bool) → start ≤ end → (nat_le start end && b) ≡ b
  le_test b up = search rules

  no_line : end ≤ start → line ≡ []
  no_line past = stretch_of-none row from (layout.code + end) strokes.underline (stroke_role e) (omega (arith, past))

  nothing : (ws : List Write) → painted (ws ++ []) rows ≡ painted ws rows
  nothing ws = painted-append ws [] rows

  pub mark_same : painted (mark_of layout row e) rows ≡ painted (drawn_mark layout row e) rows
  mark_same =
      elim (cases_lt end start) [
        | inl turned ↦ grind (arith, common_steps, nat_le, nat_tests, ruled, drawn_mark-none, end_apart)
        | inr up ↦ elim (cases_Bool has_own) [
          | inr none ↦ ruled false (le_test has_own up ∙ none) ∙ nothing line ∙ elim (cases_lt start end) [
            | inl some ↦ grind (arith, common_steps, stretch_whole, end_plain, none, glyph_and_stretch, first_plain)
            | inr empty ↦ grind (arith, common_steps, drawn_mark-none, end_plain, none)
          ]
          | inl some_own ↦ ruled true (le_test has_own up ∙ some_own) ∙ elim (cases_lt start end) [
            | inl some ↦ grind (arith, common_steps, nat_tests, some, stretch_and_glyph, end_apart, glyph_and_stretch, first_own, some_own)
            | inr empty ↦ grind (arith, common_steps, up, empty, end_own, some_own, stretch_of-none, first_own)
          ]
        ]
      ]

-- so the marks of a line are drawn
pub every_mark : (layout : Layout) (row : ℕ) (es : List PlacedEntry) (rows : List (List Cell))
    → painted (flat_map (mark_of layout row) es) rows ≡ painted (flat_map (drawn_mark layout row) es) rows
every_mark layout row [] rows = refl
every_mark layout row (e ∷ es) rows = grind (arith, painted-append, mark_same, every_mark layout row es (painted (drawn_mark layout row e) rows))

-- The strokes of a line, as the rule names them, are those that the code draws.
pub strokes_painted : (layout : Layout) (row count : ℕ) (placed order : List PlacedEntry) (rows : List (List Cell))
    → painted (line_strokes layout row count placed order) rows ≡ painted (drawn_strokes layout row count placed order) rows
strokes_painted layout row count placed order rows = simp (drawn, painted-append, stems_painted, every_mark)

-- so are those but the marks
pub under_marks_painted : (layout : Layout) (row count : ℕ) (placed : List PlacedEntry) (rows : List (List Cell))
    → painted (strokes_under_marks layout row count placed) rows ≡ painted (drawn_under_marks layout row count placed) rows
under_marks_painted layout row count placed rows = simp (drawn, painted-append, stems_painted)
