-- Rows of which one is highlighted, entry by entry.
use Rattle.snippet_strokes.proofs.Common.{◌≡◌, ℕ, ◌+◌, ◌-◌, ◌<◌, ◌≤◌, ◌&&◌, ◌||◌, cond, Bool, true, false, List, []}
use Rattle.snippet_strokes.proofs.Common.{◌∷◌, ◌++◌, filter, get_or, length, max, nat_le, nat_lt, not, take, refl, sym, ap, ◌∙◌, arith, inl}
use Rattle.snippet_strokes.proofs.Common.{inr, and_from, and_left, and_right, cases_Bool, cases_eq, cases_lt, cond-false, cond-true, le-leb, le-ltb, lt-leb}
use Rattle.snippet_strokes.proofs.Common.{lt-ltb, nat_tests, append-nil, ext_get_or, get_or_append_left, get_or_past, get_or_push, length_push, take_more}
use Rattle.snippet_strokes.proofs.Common.{filter-append, list_any-append, changed_within, restyled, row_at, cells_changed, cells_restyled}
use Rattle.snippet_strokes.proofs.Common.{length-changed_within, slice_index_or-changed_within_after, slice_index_or-changed_within_before}
use Rattle.snippet_strokes.proofs.Common.{slice_index_or-changed_within_inside, is_end_part, is_primary, LineAnnotation, Cell, SPACE, gives_way, underline_role}
use Rattle.snippet_strokes.proofs.Common.{UnderlinePrimary, UnderlineSecondary, highlighted_row, highlights, common_steps}
use Rattle.snippet_strokes.proofs.CellLemmas.{role_in_source}
use Rattle.snippet_strokes.proofs.LineFromValue.{highlighted_row_is}

-- ---- lists of which a stretch is changed

-- an element, which is changed where it stands in the stretch
changed_at : {X : Type 0} (f : X → X) (from to : ℕ) (xs : List X) (k : ℕ) (d : X) → k < length xs
    → get_or (changed_within f from to xs) k d ≡ cond (nat_le from k && nat_lt k to) (f (get_or xs k d)) (get_or xs k d)
changed_at f from to xs k d there =
    grind (
      arith,
      cases_lt,
      slice_index_or-changed_within_before,
      cond-false,
      and_left,
      lt-leb,
      slice_index_or-changed_within_inside,
      cond-true,
      and_from,
      le-leb,
      lt-ltb,
      slice_index_or-changed_within_after,
      and_right,
      le-ltb,
    )

-- so a list is known by what becomes of each element in the stretch, and of each beside it
changed_is : {X : Type 0} (f : X → X) (from to : ℕ) (xs ys : List X) (d : X) → length ys ≡ length xs
    → ((k : ℕ) → k < length xs → get_or ys k d ≡ cond (nat_le from k && nat_lt k to) (f (get_or xs k d)) (get_or xs k d))
    → changed_within f from to xs ≡ ys
changed_is f from to xs ys d long each =
    let count = length-changed_within f from to xs in
    ext_get_or d (changed_within f from to xs) ys (count ∙ sym long) (λ k within.
    let there : k < length xs = omega (arith, within, count) in changed_at f from to xs k d there ∙ sym (each k there))

module _ (row : ℕ) (rows : List (List Cell)) where
  abbrev here : ℕ → Bool
  here r = nat_le row r && nat_lt r (row + 1)

  -- a row that is changed a second time
  changed_again : (f g h : List Cell → List Cell) → ((cells : List Cell) → g (f cells) ≡ h cells)
      → changed_within g row (row + 1) (changed_within f row (row + 1) rows) ≡ changed_within h row (row + 1) rows
  changed_again f g h same =
      let first : List (List Cell) = changed_within f row (row + 1) rows in
      changed_is g row (row + 1) first (changed_within h row (row + 1) rows) []
      (length-changed_within h row (row + 1) rows ∙ sym (length-changed_within f row (row + 1) rows)) (λ r within.
      let there : r < length rows = omega (arith, within, length-changed_within f row (row + 1) rows) in
      changed_at h row (row + 1) rows r [] there
      ∙ sym (ap (λ x. cond (here r) (g x) x) (changed_at f row (row + 1) rows r [] there) ∙ either (here r) (row_at rows r)))
    where
      either : (b : Bool) (x : List Cell) → cond b (g (cond b (f x) x)) (cond b (f x) x) ≡ cond b (h x) x
      either true x = same x
      either false x = refl

  -- a row that is changed alike
  changed_alike : (f g : List Cell → List Cell) → f (row_at rows row) ≡ g (row_at rows row)
      → changed_within f row (row + 1) rows ≡ changed_within g row (row + 1) rows
  changed_alike f g same =
      changed_is f row (row + 1) rows (changed_within g row (row + 1) rows) [] (length-changed_within g row (row + 1) rows) (λ r within.
      changed_at g row (row + 1) rows r [] within ∙ elim (cases_eq r row) [
        | inl own ↦ ap (λ x. cond (here r) x (row_at rows r)) (ap (λ n. g (row_at rows n)) own ∙ sym same ∙ sym (ap (λ n. f (row_at rows n)) own))
        | inr other ↦ away (here r) (grind (arith, nat_tests, other)) (g (row_at rows r)) (f (row_at rows r)) (row_at rows r)
      ])
    where
      away : (b : Bool) → b ≡ false → (x y z : List Cell) → cond b x z ≡ cond b y z
      away b is x y z = cond-false b x z is ∙ sym (cond-false b y z is)

  -- a row that isn't changed
  changed_none : (f : List Cell → List Cell) → ((cells : List Cell) → f cells ≡ cells) → changed_within f row (row + 1) rows ≡ rows
  changed_none f same = changed_is f row (row + 1) rows rows [] refl (λ r within. sym (either (here r) (row_at rows r)))
    where
      either : (b : Bool) (x : List Cell) → cond b (f x) x ≡ x
      either true x = same x
      either false x = refl

-- the last row
pub changed_last : (f : List Cell → List Cell) (above : List (List Cell)) (x : List Cell)
    → changed_within f (length above) (length above + 1) (above ++ x ∷ []) ≡ above ++ f x ∷ []
changed_last f above x =
    let row : ℕ = length above in
    let rows : List (List Cell) = above ++ x ∷ [] in
    changed_is f row (row + 1) rows (above ++ f x ∷ []) [] (length_push above (f x) ∙ sym (length_push above x)) (λ r within. elim (cases_eq r row) [
      | inl own ↦ grind (arith, common_steps, get_or_push, cond-true, row, rows, nat_tests)
      | inr other ↦ grind (arith, common_steps, length_push, get_or_append_left, cond-false, row, rows, nat_tests)
    ])

-- two stretches of a row that begin at one cell of it, and end at one, are the same cells
pub stretch_alike : (f : Cell → Cell) (row a b from to : ℕ) (old : List (List Cell)) → a ≤ from → b ≤ to
    → ((k : ℕ) → k < length (row_at old row) → a ≤ k → from ≤ k) → ((k : ℕ) → k < length (row_at old row) → k < to → k < b)
    → cells_changed f old row a b ≡ cells_changed f old row from to
stretch_alike f row a b from to old begins ends first last =
    let cells : List Cell = row_at old row in
    changed_alike row old (changed_within f a b) (changed_within f from to)
    (changed_is f a b cells (changed_within f from to cells) SPACE (length-changed_within f from to cells) (λ k there.
    changed_at f from to cells k SPACE there
    ∙ ap (λ h. cond h (f (get_or cells k SPACE)) (get_or cells k SPACE))
    (told k a b from to begins ends (first k there) (last k there))))
  where
    told : (k a b from to : ℕ) → a ≤ from → b ≤ to → (a ≤ k → from ≤ k) → (k < to → k < b) → (nat_le from k && nat_lt k to) ≡ (nat_le a k && nat_lt k b)
    told k a b from to begins ends first last = grind (arith, nat_tests, begins, ends, first, last)

-- ---- one more entry

-- a cell, once one more entry, which may be primary, asks for it or doesn't; the roles of marks don't give way
cell_told : (h a b p g : Bool) (cell : Cell) → gives_way cell.role ≡ g
    → (let before = record cell { role = cond a UnderlinePrimary (cond (b && g) UnderlineSecondary cell.role) } in
    cond h (restyled (underline_role p) p before) before)
    ≡ record cell { role = cond (a || (p && h || false)) UnderlinePrimary (cond ((b || (h || false)) && g) UnderlineSecondary cell.role) }
cell_told true true b true g cell way = refl
cell_told true true b false g cell way = refl
cell_told true false b true g cell way = refl
cell_told true false true false true cell way = refl
cell_told true false true false false cell way = rw way refl
cell_told true false false false true cell way = rw way refl
cell_told true false false false false cell way = rw way refl
cell_told false true b p g cell way = refl
cell_told false false true true g cell way = refl
cell_told false false true false g cell way = refl
cell_told false false false true g cell way = refl
cell_told false false false false g cell way = refl

module _ (code dropped : ℕ) (es : List LineAnnotation) (e : LineAnnotation) where
  abbrev restyle_cell : Cell → Cell
  restyle_cell = restyled (underline_role (is_primary e.kind)) (is_primary e.kind)

  abbrev restyle : List Cell → List Cell
  restyle cells = changed_within restyle_cell (max code (code + e.start.char - dropped)) (code + e.end.char - dropped) cells

  -- a cell with one more entry
  cell_next : (c : ℕ) (cell : Cell) → (let before = record cell { role = role_in_source code dropped es c cell.role } in
      cond (highlights code dropped c e) (restyle_cell before) before) ≡ record cell { role = role_in_source code dropped (es ++ e ∷ []) c cell.role }
  cell_next c cell = simp (cell_told, list_any-append)

  -- a row whose cells of one more entry are restyled, if it asks
  row_next : (cells new : List Cell) → length new ≡ length cells → ((c : ℕ) → c < length cells → get_or new c SPACE
      ≡ (let before = record (get_or cells c SPACE) { role = role_in_source code dropped es c (get_or cells c SPACE).role } in
      cond (highlights code dropped c e) (restyle_cell before) before)) → new ≡ highlighted_row code dropped (es ++ e ∷ []) cells
  row_next cells new long each =
      let is = highlighted_row_is code dropped (es ++ e ∷ []) cells in
      ext_get_or SPACE new (highlighted_row code dropped (es ++ e ∷ []) cells) (long ∙ sym is.width) (λ c within.
      let there : c < length cells = omega (arith, within, long) in
      each c there ∙ cell_next c (get_or cells c SPACE) ∙ sym (is.cells c there))

  restyled_next : e.highlight_source ≡ true → (cells : List Cell)
      → restyle (highlighted_row code dropped es cells) ≡ highlighted_row code dropped (es ++ e ∷ []) cells
  restyled_next asks cells =
      let lit : List Cell = highlighted_row code dropped es cells in
      let was = highlighted_row_is code dropped es cells in
      let from : ℕ = max code (code + e.start.char - dropped) in
      let to : ℕ = code + e.end.char - dropped in
      row_next cells (restyle lit) (length-changed_within restyle_cell from to lit ∙ was.width) (λ c there.
      changed_at restyle_cell from to lit c SPACE (omega (arith, there, was.width))
      ∙ ap (λ x. cond (nat_le from c && nat_lt c to) (restyle_cell x) x) (was.cells c there)
      ∙ ap (λ b. let before = record (get_or cells c SPACE) { role = role_in_source code dropped es c (get_or cells c SPACE).role } in
      cond (b && (nat_le from c && nat_lt c to)) (restyle_cell before) before) (sym asks))

  unlit_next : e.highlight_source ≡ false → (cells : List Cell) → highlighted_row code dropped es cells ≡ highlighted_row code dropped (es ++ e ∷ []) cells
  unlit_next none cells =
      let was = highlighted_row_is code dropped es cells in
      row_next cells (highlighted_row code dropped es cells) was.width (λ c there.
      was.cells c there ∙ sym (cond-false (highlights code dropped c e) _ _ (and_left e.highlight_source _ none)))

-- ---- all entries

-- the entries that can ask for anything
abbrev pub asking : List LineAnnotation → List LineAnnotation
asking es = filter (λ (e : LineAnnotation). not (is_end_part e.annotation_type)) es

module _ (code dropped row : ℕ) (old : List (List Cell)) (es : List LineAnnotation) where
  -- the rows of which one is highlighted as so many of the entries ask
  abbrev pub lit_by : ℕ → List (List Cell)
  lit_by i = changed_within (highlighted_row code dropped (asking (take i es))) row (row + 1) old

  pub lit_by-none : old ≡ lit_by 0
  lit_by-none =
      sym (changed_none row old (highlighted_row code dropped []) (λ cells.
      let is = highlighted_row_is code dropped [] cells in
      ext_get_or SPACE (highlighted_row code dropped [] cells) cells is.width (λ c within. is.cells c (omega (arith, within, is.width)))))

  asking_more : (i : ℕ) (e : LineAnnotation) → e ≡ get_or es i e → i < length es → asking (take (i + 1) es) ≡ asking (take i es) ++ asking (e ∷ [])
  asking_more i e is within = grind (arith, common_steps, nat_tests, take_more, filter-append)

  abbrev ends_part : LineAnnotation → Bool
  ends_part e = is_end_part e.annotation_type

  -- one more asks
  pub lit_by-asked : (i : ℕ) (e : LineAnnotation) → e ≡ get_or es i e → i < length es → is_end_part e.annotation_type ≡ false
      → e.highlight_source ≡ true → cells_restyled (lit_by i) row (max code (code + e.start.char - dropped))
      (code + e.end.char - dropped) (underline_role (is_primary e.kind)) (is_primary e.kind) ≡ lit_by (i + 1)
  lit_by-asked i e is within other asks = grind (arith, cond-true, changed_again, restyled_next, asking_more)

  -- or doesn't
  pub lit_by-end : (i : ℕ) (e : LineAnnotation) → e ≡ get_or es i e → i < length es → is_end_part e.annotation_type ≡ true → lit_by i ≡ lit_by (i + 1)
  lit_by-end i e is within end = grind (arith, common_steps, nat_tests, cond-false, asking_more, append-nil)

  pub lit_by-unasked : (i : ℕ) (e : LineAnnotation) → e ≡ get_or es i e → i < length es → e.highlight_source ≡ false → lit_by i ≡ lit_by (i + 1)
  lit_by-unasked i e is within none =
      let so_far : List LineAnnotation = asking (take i es) in
      elim (cases_Bool (ends_part e)) [
        | inl end ↦ lit_by-end i e is within end
        | inr other ↦
            let one : asking (e ∷ []) ≡ e ∷ [] = cond-true (not (ends_part e)) (e ∷ []) [] (ap not other) in
            changed_alike row old (highlighted_row code dropped so_far) (highlighted_row code dropped (so_far ++ e ∷ []))
            (unlit_next code dropped so_far e none (row_at old row))
            ∙ ap (λ xs. changed_within (highlighted_row code dropped xs) row (row + 1) old) (sym (asking_more i e is within ∙ ap (λ xs. so_far ++ xs) one))
      ]

  -- the row stays as long
  pub lit_by-width : (i : ℕ) → length (row_at (lit_by i) row) ≡ length (row_at old row)
  lit_by-width i = grind (arith, cases_lt, slice_index_or-changed_within_inside, highlighted_row_is, get_or_past, length-changed_within)
