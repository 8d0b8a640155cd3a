-- Painting marks into a row: one cell after another, and one entry over another.
use Rattle.std.proofs.lemmas.Grind.{common_steps}
use Rattle.snippet_strokes.proofs.Common.{◌≡◌, ◌⊎◌, ℕ, ◌+◌, ◌-◌, ◌<◌, ◌≤◌, max, Bool, List, [], ◌∷◌, ◌++◌, length}
use Rattle.snippet_strokes.proofs.Common.{replicate, take, get_or, refl, sym, ap, ◌∙◌, subst, arith, inl, inr, All, cases_lt, length-replicate}
use Rattle.snippet_strokes.proofs.Common.{get_or-replicate, length_push, get_or_append_left, get_or_push, take_more, PlacedEntry, ElementStyle, strokes_of}
use Rattle.snippet_strokes.proofs.Common.{underline_role, cell_at, row_at, Cell, SPACE, unlinked_cell, Layout, is_primary, IsFreeCell, first_glyph, mark_end}
use Rattle.snippet_strokes.proofs.Common.{WritesCells, rules}
use Rattle.snippet_strokes.proofs.PaintedMarks.{IsPaintedAt, Paints, Painted, ShowsFrom, mark_cell}

-- no cell is painted yet
pub Paints-none : (rows : List (List Cell)) (row from : ℕ) (cell : ℕ → Cell) → Paints rows rows row from from cell
Paints-none rows row from cell = search rules

-- one more cell is painted
pub Paints-more : (old mid new : List (List Cell)) (row from to next : ℕ) (cell : ℕ → Cell) → Paints old mid row from to cell
    → WritesCells mid new row to (cell to ∷ []) → from ≤ to → next ≡ to + 1 → Paints old new row from next cell
Paints-more old mid new row from to next cell done writes ordered one = search rules

-- an entry that ends before it starts has no cells
pub Paints-past : (rows : List (List Cell)) (row from to : ℕ) (cell : ℕ → Cell) → to ≤ from → Paints rows rows row from to cell
Paints-past rows row from to cell past = search rules

-- after the first cell come those that are all one
pub Paints-rest : (old mid new : List (List Cell)) (row from to : ℕ) (line : Cell) (cell : ℕ → Cell) → Paints old mid row from (from + 1) cell
    → ((c : ℕ) → from < c → line ≡ cell c) → from + 1 < to → WritesCells mid new row (from + 1) (replicate (to - (from + 1)) line)
    → Paints old new row from to cell
Paints-rest old mid new row from to line cell done is more writes =
    let n = to - (from + 1) in
    let long : length (replicate n line) ≡ n = length-replicate n line in
    record {
      inside = λ c later before. elim (cases_lt c (from + 1)) [
        | inl first ↦ writes.before c first ∙ done.inside c later first
        | inr late ↦
            let k : ℕ = c - (from + 1) in
            let here : from + 1 + k ≡ c = omega (arith, late) in
            let within : k < n = omega (arith, late, before) in
            ap (cell_at new row) (sym here) ∙ writes.inside k (omega (arith, within, long)) ∙ get_or-replicate n k line SPACE within
            ∙ is c (omega (arith, late))
      ];
      before = λ c left. writes.before c (omega (arith, left)) ∙ done.before c left;
      after = λ c right. writes.after c (omega (arith, right, long, more)) ∙ done.after c (omega (arith, right, more));
      others = λ r other. writes.others r other ∙ done.others r other;
      count = λ within. omega (arith, writes.count, done.count within, within);
      width = λ some. omega (arith, writes.width, done.width (omega arith), long, more);
      kept = λ none. absurd (omega (arith, none, more));
    }

-- the first cell of an entry's mark, and any later one
pub first_cell_is : (layout : Layout) (e : PlacedEntry) (first : ℕ) (primary : Bool) (role : ElementStyle) → primary ≡ is_primary e.entry.kind
    → first ≡ first_glyph layout.decor e → role ≡ underline_role primary → unlinked_cell role first ≡ mark_cell layout e (layout.code + e.entry.start.display)
first_cell_is layout e first primary role is_kind is_first is_role = search rules

-- the glyph of an underline is the cell of a mark at each column after the first
pub other_cell_is : (layout : Layout) (e : PlacedEntry) (glyph : ℕ) (primary : Bool) (role : ElementStyle) → primary ≡ is_primary e.entry.kind
    → glyph ≡ (strokes_of layout.decor primary).underline → role ≡ underline_role primary → (c : ℕ) → layout.code + e.entry.start.display < c
    → unlinked_cell role glyph ≡ mark_cell layout e c
other_cell_is layout e glyph primary role is_kind is_glyph is_role c past = search rules

-- no cell of a mark holds a listed character
free_mark_cell : (layout : Layout) (e : PlacedEntry) (c : ℕ) → IsFreeCell (mark_cell layout e c)
free_mark_cell layout e c = search rules

-- no entry is painted yet
pub Painted-none : (layout : Layout) (row : ℕ) (rows : List (List Cell)) → Painted layout [] row rows rows
Painted-none layout row rows = search rules

-- a column that an entry covers, or not
covers_or_not : (e : PlacedEntry) (p : ℕ) → IsPaintedAt e p ⊎ (IsPaintedAt e p → ⊥)
covers_or_not e p = search rules

-- what stands at the places of a list with one more entry
old_place : (es : List PlacedEntry) (e d : PlacedEntry) (k : ℕ) → k < length es → get_or (es ++ e ∷ []) k d ≡ get_or es k d
old_place es e d k within = get_or_append_left es (e ∷ []) d k within

new_place : (es : List PlacedEntry) (e d : PlacedEntry) → get_or (es ++ e ∷ []) (length es) d ≡ e
new_place es e d = get_or_push es e d (length es) refl

-- the painted cell is outside the columns that an entry doesn't cover
untouched : (layout : Layout) (mid new : List (List Cell)) (row p : ℕ) (e : PlacedEntry)
    → Paints mid new row (layout.code + e.entry.start.display) (layout.code + mark_end e) (mark_cell layout e) → (IsPaintedAt e p → ⊥)
    → cell_at new row (layout.code + p) ≡ cell_at mid row (layout.code + p)
untouched layout mid new row p e paints not_covered = search rules

-- what an entry shows that was painted last
shows_new : (layout : Layout) (es : List PlacedEntry) (e d : PlacedEntry) (k p : ℕ) (mid new : List (List Cell)) (row : ℕ)
    → Paints mid new row (layout.code + e.entry.start.display) (layout.code + mark_end e) (mark_cell layout e) → k < length (es ++ e ∷ [])
    → IsPaintedAt e p → ShowsFrom layout (es ++ e ∷ []) k p d (cell_at new row (layout.code + p))
shows_new layout es e d k p mid new row paints within covers =
    let here = new_place es e d in
    record {
      at = length es;
      later = omega (arith, length_push es e);
      within = omega (arith, length_push es e);
      covers = subst (λ x. IsPaintedAt x p) (sym here) covers;
      holds = grind (arith, common_steps, here, paints.inside, layout.code, covers.0, covers.1);
    }

-- what an earlier entry shows where the last one doesn't cover the column
shows_old : (layout : Layout) (es : List PlacedEntry) (e d : PlacedEntry) (k p : ℕ) (cell same : Cell) → same ≡ cell → ShowsFrom layout es k p d cell
    → ShowsFrom layout (es ++ e ∷ []) k p d same
shows_old layout es e d k p cell same is shows = grind (arith, old_place, length_push)

-- where one entry is painted the row ends where the entry does, or where it did
sole_width : (layout : Layout) (es : List PlacedEntry) (e f : PlacedEntry) (row : ℕ) (old mid new : List (List Cell)) → Painted layout es row old mid
    → Paints mid new row (layout.code + e.entry.start.display) (layout.code + mark_end e) (mark_cell layout e) → es ++ e ∷ [] ≡ f ∷ []
    → f.entry.start.display < mark_end f → length (row_at new row) ≡ max (length (row_at old row)) (layout.code + mark_end f)
sole_width layout [] e f row old mid new done paints one some = search rules
sole_width layout (d ∷ es) e f row old mid new done paints one some =
    absurd (omega (arith, length_push es e, ap length one))

-- one more entry is painted over those before
pub Painted-more : (layout : Layout) (es : List PlacedEntry) (e : PlacedEntry) (row : ℕ) (old mid new : List (List Cell))
    → Painted layout es row old mid → Paints mid new row (layout.code + e.entry.start.display) (layout.code + mark_end e) (mark_cell layout e)
    → Painted layout (es ++ e ∷ []) row old new
Painted-more layout es e row old mid new done paints =
    record {
      marked = λ k p d within covers. elim (covers_or_not e p) [
        | inl last ↦ shows_new layout es e d k p mid new row paints within last
        | inr not_last ↦
            let old_one : k < length es = grind (arith, common_steps, cases_lt, length_push, not_last, new_place) in
            shows_old layout es e d k p (cell_at mid row (layout.code + p)) (cell_at new row (layout.code + p))
            (untouched layout mid new row p e paints not_last) (done.marked k p d old_one
            (subst (λ x. IsPaintedAt x p) (old_place es e d k old_one) covers))
      ];
      unmarked = λ p none.
          let N : PlacedEntry → Type 0 = λ x. IsPaintedAt x p → ⊥ in
          let last : IsPaintedAt e p → ⊥ = subst N (new_place es e e) (none (length es) e (omega (arith, length_push es e))) in
          let first : All N es = λ k d within. subst N (old_place es e d k within) (none k d (omega (arith, length_push es e))) in
          untouched layout mid new row p e paints last ∙ done.unmarked p first;
      left = λ c all.
          let L : PlacedEntry → Type 0 = λ x. c < layout.code + x.entry.start.display in
          let last : L e = subst L (new_place es e e) (all (length es) e (omega (arith, length_push es e))) in
          let first : All L es = λ k d within. subst L (old_place es e d k within) (all k d (omega (arith, length_push es e))) in
          paints.before c last ∙ done.left c first;
      free = λ c is. elim (cases_lt c (layout.code + e.entry.start.display)) [
        | inl left ↦ subst IsFreeCell (sym (paints.before c left)) (done.free c is)
        | inr later ↦
            elim (cases_lt c (layout.code + mark_end e)) [
              | inl inside ↦ subst IsFreeCell (sym (paints.inside c later inside)) (free_mark_cell layout e c)
              | inr right ↦ subst IsFreeCell (sym (paints.after c right)) (done.free c is)
            ]
      ];
      others = λ r other. paints.others r other ∙ done.others r other;
      count = λ within. paints.count (omega (arith, done.count within)) ∙ done.count within;
      width = λ f one some. sole_width layout es e f row old mid new done paints one some;
      kept = λ none. absurd (omega (arith, length_push es e, ap length none));
    }

-- the entry that stands next is painted
pub Painted-next : (layout : Layout) (es : List PlacedEntry) (i : ℕ) (d : PlacedEntry) (row : ℕ) (old mid new : List (List Cell)) → i < length es
    → Painted layout (take i es) row old mid
    → Paints mid new row (layout.code + (get_or es i d).entry.start.display) (layout.code + mark_end (get_or es i d))
    (mark_cell layout (get_or es i d)) → Painted layout (take (i + 1) es) row old new
Painted-next layout es i d row old mid new within done paints =
    subst (λ xs. Painted layout xs row old new) (sym (take_more es i d within)) (Painted-more layout (take i es) (get_or es i d) row old mid new done paints)
