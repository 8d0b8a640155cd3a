-- Drawing in rows from one on, and in cells from one on.
use Rattle.snippet_strokes.proofs.Common.{◌≡◌, ℕ, ◌+◌, ◌-◌, ◌<◌, ◌≤◌, ◌==◌, Bool, true, false, List, [], ◌∷◌, length, drop, get_or, refl, sym, ap, ◌∙◌, subst}
use Rattle.snippet_strokes.proofs.Common.{arith, inl, inr, All, cases_lt, cases_eq, cell_at, row_at, WritesCells, Cell, SPACE, unlinked_cell, bars_among}
use Rattle.snippet_strokes.proofs.Common.{bar_glyphs, strokes_of, DecorStyle, Ascii, Unicode, ElementStyle, list_any, length-drop, get_or-drop, ext_get_or}
use Rattle.snippet_strokes.proofs.Common.{All-cons, All-nil, is_listed, Layout, IsBarCell, IsFreeCell, each_fails, rules}
use Rattle.snippet_strokes.proofs.DrawnCells.{DrawsFrom, KeepsBarCells, DrawsBarCells}
use Rattle.snippet_strokes.proofs.StrokeGlyphs.{of_glyph}

-- what is drawn one after another
pub DrawsFrom-more : (row from : ℕ) (old mid new : List (List Cell)) → DrawsFrom row from old mid → DrawsFrom row from mid new → DrawsFrom row from old new
DrawsFrom-more row from old mid new done more =
    record {
      above = λ r high. more.above r high ∙ done.above r high;
      left = λ r c before. more.left r c before ∙ done.left r c before;
      free = λ r free. more.free r (done.free r free);
      count = more.count ∙ done.count;
    }

-- a cell of the written row
pub written_cell : (P : Cell → Type 0) (old new : List (List Cell)) (row at c : ℕ) (cells : List Cell) → WritesCells old new row at cells → All P cells
    → P (cell_at old row c) → P (cell_at new row c)
written_cell P old new row at c cells writes all before =
    elim (cases_lt c at) [
      | inl left ↦ subst P (sym (writes.before c left)) before
      | inr after ↦
          elim (cases_lt c (at + length cells)) [
            | inl inside ↦
                let k : ℕ = c - at in
                let within : k < length cells = omega arith in
                let same : at + k ≡ c = omega arith in
                subst (λ n. P (cell_at new row n)) same (subst P (sym (writes.inside k within)) (all k SPACE within))
            | inr right ↦ subst P (sym (writes.after c right)) before
          ]
    ]

-- a write of cells that aren't listed draws
pub DrawsFrom-writes : (row r from at : ℕ) (old new : List (List Cell)) (cells : List Cell) → WritesCells old new r at cells → row ≤ r → r < length old
    → from ≤ at → All IsFreeCell cells → DrawsFrom row from old new
DrawsFrom-writes row r from at old new cells writes lower within right all =
    let P : Cell → Type 0 = IsFreeCell in
    record {
      above = λ k high. writes.others k (λ same. omega (arith, same));
      left = λ k c before. elim (cases_eq k r) [
        | inl here ↦ subst (λ n. cell_at new n c ≡ cell_at old n c) (sym here) (writes.before c (omega arith))
        | inr other ↦ subst (λ cells. get_or cells c SPACE ≡ cell_at old k c) (sym (writes.others k other)) refl
      ];
      free = λ k free c. elim (cases_eq k r) [
        | inl here ↦ subst (λ n. P (cell_at new n c)) (sym here) (written_cell P old new r at c cells writes all
            (subst (λ n. P (cell_at old n c)) here (free c)))
        | inr other ↦ subst (λ cells. P (get_or cells c SPACE)) (sym (writes.others k other)) (free c)
      ];
      count = omega (arith, writes.count, within);
    }

-- what is drawn in cells from the code on is no part of a bar
pub KeepsBarCells-more : (layout : Layout) (old mid new : List (List Cell)) → KeepsBarCells layout old mid → KeepsBarCells layout mid new
    → KeepsBarCells layout old new
KeepsBarCells-more layout old mid new done more = λ r c left is. more r c left (done r c left is)

pub KeepsBarCells-writes : (layout : Layout) (old new : List (List Cell)) (row at : ℕ) (cells : List Cell) → WritesCells old new row at cells
    → All (IsBarCell layout.decor) cells → KeepsBarCells layout old new
KeepsBarCells-writes layout old new row at cells writes all r c left is =
    let P : Cell → Type 0 = IsBarCell layout.decor in
    elim (cases_eq r row) [
      | inl here ↦
          subst (λ n. P (cell_at new n c)) (sym here) (written_cell P old new row at c cells writes all (subst (λ n. P (cell_at old n c)) here is))
      | inr other ↦ subst (λ cs. P (get_or cs c SPACE)) (sym (writes.others r other)) is
    ]

-- no part of a bar is a listed character
free_bar_glyphs : (decor : DecorStyle) → list_any is_listed (bar_glyphs decor) ≡ false
free_bar_glyphs Ascii = refl
free_bar_glyphs Unicode = refl

-- a cell that a bar may have is free
pub free_bar : (decor : DecorStyle) (cell : Cell) → IsBarCell decor cell → IsFreeCell cell
free_bar decor cell is =
    (of_glyph (λ ch. is_listed ch ≡ false) cell.ch (bar_glyphs decor) (each_fails is_listed (bar_glyphs decor) (free_bar_glyphs decor)) is.glyph, is.link)

-- the space is one, and so are the glyphs that bars are drawn with
pub bar_space : (decor : DecorStyle) → IsBarCell decor SPACE
bar_space Ascii = record { glyph = refl; link = refl }
bar_space Unicode = record { glyph = refl; link = refl }

-- the horizontal stroke of a bar is a cell that a bar may have
pub bar_horizontal : (decor : DecorStyle) (primary : Bool) (role : ElementStyle) (ch : ℕ) → ch ≡ (strokes_of decor primary).connector
    → IsBarCell decor (unlinked_cell role ch)
bar_horizontal decor primary role ch is =
    record { glyph = subst (λ x. list_any (λ g. x == g) (bar_glyphs decor) ≡ true) (sym is) (bars_among decor primary).connector; link = refl }

-- bars beside rows: none yet, some more, and one cell
pub DrawsBarCells-none : (layout : Layout) (row : ℕ) (rows : List (List Cell)) → DrawsBarCells layout row rows rows
DrawsBarCells-none layout row rows = search rules

-- cells of bars drawn and further ones drawn are cells of bars drawn
pub DrawsBarCells-more : (layout : Layout) (row : ℕ) (old mid new : List (List Cell)) → DrawsBarCells layout row old mid → DrawsBarCells layout row mid new
    → DrawsBarCells layout row old new
DrawsBarCells-more layout row old mid new done more =
    record {
      draws = DrawsFrom-more row (layout.gutter + 3) old mid new done.draws more.draws;
      bar_cells = KeepsBarCells-more layout old mid new done.bar_cells more.bar_cells;
      code = λ r. more.code r ∙ done.code r;
      longer = λ r. omega (arith, done.longer r, more.longer r);
    }

-- a cell of a bar that is written between the gutter and the code is one drawn
pub DrawsBarCells-writes : (layout : Layout) (row r at : ℕ) (old new : List (List Cell)) (cell : Cell) → WritesCells old new r at (cell ∷ []) → row ≤ r
    → r < length old → layout.gutter + 3 ≤ at → at < layout.code → IsBarCell layout.decor cell → DrawsBarCells layout row old new
DrawsBarCells-writes layout row r at old new cell writes lower within right left is =
    let P : Cell → Type 0 = IsFreeCell in
    let R : Cell → Type 0 = IsBarCell layout.decor in
    record {
      draws = DrawsFrom-writes row r (layout.gutter + 3) at old new (cell ∷ []) writes lower within right
          (All-cons P cell [] (free_bar layout.decor cell is) (All-nil P));
      bar_cells = KeepsBarCells-writes layout old new r at (cell ∷ []) writes (All-cons R cell [] is (All-nil R));
      code = λ k. elim (cases_eq k r) [
        | inl here ↦ subst (λ n. drop layout.code (row_at new n) ≡ drop layout.code (row_at old n)) (sym here) after_code
        | inr other ↦ ap (drop layout.code) (writes.others k other)
      ];
      longer = λ k. elim (cases_eq k r) [
        | inl here ↦ subst (λ n. length (row_at old n) ≤ length (row_at new n)) (sym here) (omega (arith, writes.width))
        | inr other ↦ omega (arith, ap length (writes.others k other))
      ];
    }
  where
    after_code : drop layout.code (row_at new r) ≡ drop layout.code (row_at old r)
    after_code =
        let long : length (drop layout.code (row_at new r)) ≡ length (drop layout.code (row_at old r)) = omega
        (arith, writes.width, left, length-drop layout.code (row_at new r), length-drop layout.code (row_at old r)) in
        ext_get_or SPACE (drop layout.code (row_at new r)) (drop layout.code (row_at old r)) long (λ k within.
        get_or-drop layout.code (row_at new r) k SPACE ∙ writes.after (layout.code + k) (omega (arith, left))
        ∙ sym (get_or-drop layout.code (row_at old r) k SPACE))
