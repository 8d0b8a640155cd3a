-- Lemmas on grids in which a stretch of a row gave its place to other cells.
use Rattle.snippet_grid.proofs.Common.{common_steps, cells_alike, ◌≡◌, ◌≢◌, ℕ, ◌+◌, ◌-◌, ◌<◌, ◌≤◌, max, min, List, [], ◌++◌, length, map, take, drop, set}
use Rattle.snippet_grid.proofs.Common.{get_or, sym, ap, ◌∙◌, arith, inl, inr, subst, places, same_lists, get_or-map, get_or_past, get_or-set_same}
use Rattle.snippet_grid.proofs.Common.{get_or-set_other, set-get_or, length-map, length-set, cases_lt, cases_eq, row_at, changed_within, cells_changed}
use Rattle.snippet_grid.proofs.Common.{ChangesCells, Cell, SPACE, replaced_within, cells_replaced, ReplacesCells, ◌∷◌, replicate, refl, DecorStyle}
use Rattle.snippet_grid.proofs.Common.{ElementStyle, LineNumber, text_cells, written, separator_of, separator_row, length-chars_le, written-nil, cells_written}
use Rattle.snippet_grid.proofs.Common.{row_text, zero, suc, Option, Some, encode_utf8, encode_utf8_all, append_assoc, replicate-append-replicate, flat_map}
use Rattle.snippet_grid.proofs.Common.{opening, reset, PrintsStretch, Opening, Reset, piece_text, style_of, LevelInner, Style, Stylesheet}
use Rattle.std.specs.List.{slice_index_or}
use Rattle.std.proofs.Common.{chars}
use Rattle.snippet_grid.proofs.GridShown.{cells_written_below, cells_written_last}
use Rattle.snippet_grid.proofs.WeaveLemmas.{Url, Goes, cell_printed}

-- Lemmas on lists and grids in which some elements were changed.
-- a list keeps its length
pub length-changed_within : {X : Type 0} (f : X → X) (start end : ℕ) (xs : List X) → length (changed_within f start end xs) ≡ length xs
unfolding changed_within
length-changed_within f start end xs = grind (arith, places, length-map)

-- what stands in, before and after the change
pub slice_index_or-changed_within_inside : {X : Type 0} (f : X → X) (start end : ℕ) (xs : List X) (k : ℕ) (d : X) → start ≤ k → k < end → k < length xs
    → slice_index_or (changed_within f start end xs) k d ≡ f (slice_index_or xs k d)
unfolding changed_within
slice_index_or-changed_within_inside f start end xs k d from before within =
    let mid = take (end - start) (drop start xs) in
    let inside : k - start < length mid = grind (arith, places) in
    let read : slice_index_or (take start xs ++ map f mid ++ drop (max start end) xs) k d
    ≡ get_or (map f mid) (k - start) d = grind (arith, places, length-map) in
    let same : get_or mid (k - start) d ≡ get_or xs k d = grind (arith, places) in
    read ∙ get_or-map f mid (k - start) d d inside ∙ ap f same

-- an element left of the stretch that is changed stays
pub slice_index_or-changed_within_before : {X : Type 0} (f : X → X) (start end : ℕ) (xs : List X) (k : ℕ) (d : X) → k < start
    → slice_index_or (changed_within f start end xs) k d ≡ slice_index_or xs k d
unfolding changed_within
slice_index_or-changed_within_before f start end xs k d before = grind (arith, places, length-map, get_or_past)

-- an element right of the stretch that is changed stays
pub slice_index_or-changed_within_after : {X : Type 0} (f : X → X) (start end : ℕ) (xs : List X) (k : ℕ) (d : X) → end ≤ k
    → slice_index_or (changed_within f start end xs) k d ≡ slice_index_or xs k d
unfolding changed_within
slice_index_or-changed_within_after f start end xs k d after = grind (arith, places, length-map, get_or_past, cases_lt k start)

-- nothing is changed where the list has no element
pub changed_within_none : {X : Type 0} (f : X → X) (start end : ℕ) (xs : List X) → min end (length xs) ≤ start → changed_within f start end xs ≡ xs
changed_within_none f start end xs none =
    grind (arith, common_steps, same_lists, length-changed_within, slice_index_or-changed_within_before, slice_index_or-changed_within_after)

-- one element is changed
pub changed_within_one : {X : Type 0} (f : X → X) (i : ℕ) (xs : List X) (d : X) → i < length xs
    → changed_within f i (i + 1) xs ≡ set xs i (f (slice_index_or xs i d))
changed_within_one f i xs d within =
    same_lists _ _ (length-changed_within f i (i + 1) xs ∙ sym (length-set xs i _)) (λ k e h. elim (cases_eq k i) [
      | inl here ↦ grind (arith, places, slice_index_or-changed_within_inside, get_or-set_same)
      | inr other ↦ grind (arith, places, slice_index_or-changed_within_before, slice_index_or-changed_within_after, get_or-set_other, cases_lt k i)
    ])

-- the row that was changed
pub row_at-cells_changed_same : (f : Cell → Cell) (rows : List (List Cell)) (row start end : ℕ)
    → row_at (cells_changed f rows row start end) row ≡ changed_within f start end (row_at rows row)
row_at-cells_changed_same f rows row start end = grind (arith, common_steps, slice_index_or-changed_within_inside, get_or_past, changed_within_none)

-- the other rows
pub row_at-cells_changed_other : (f : Cell → Cell) (rows : List (List Cell)) (row start end : ℕ) (r : ℕ) → r ≢ row
    → row_at (cells_changed f rows row start end) r ≡ row_at rows r
row_at-cells_changed_other f rows row start end r other = grind (arith, common_steps, slice_index_or-changed_within_before, slice_index_or-changed_within_after)

-- a grid with no cell there stays as it was
pub cells_changed_none : (f : Cell → Cell) (rows : List (List Cell)) (row start end : ℕ) → min end (length (row_at rows row)) ≤ start
    → cells_changed f rows row start end ≡ rows
cells_changed_none f rows row start end none =
    let change = changed_within f start end in
    let kept : change (row_at rows row) ≡ row_at rows row = changed_within_none f start end (row_at rows row) none in
    elim (cases_lt row (length rows)) [
      | inl there ↦ changed_within_one change row rows [] there ∙ ap (set rows row) kept ∙ set-get_or rows row []
      | inr past ↦ changed_within_none change row (row + 1) rows (omega arith)
    ]

-- the change, read cell by cell
pub ChangesCells-cells_changed : (f : Cell → Cell) (rows : List (List Cell)) (row start end : ℕ)
    → ChangesCells f rows (cells_changed f rows row start end) row start end
ChangesCells-cells_changed f rows row start end =
    grind (
      arith,
      common_steps,
      row_at-cells_changed_same,
      slice_index_or-changed_within_inside,
      slice_index_or-changed_within_before,
      slice_index_or-changed_within_after,
      row_at-cells_changed_other,
      length-changed_within,
    )

-- the same of a grid that is known to be the one after the change
pub ChangesCells-from_equal : (f : Cell → Cell) (old new : List (List Cell)) (row start end : ℕ) → new ≡ cells_changed f old row start end
    → ChangesCells f old new row start end
ChangesCells-from_equal f old new row start end is =
    subst (λ rows. ChangesCells f old rows row start end) (sym is) (ChangesCells-cells_changed f old row start end)

-- a stretch that is there is replaced
pub replaced_there : {X : Type 0} (start end : ℕ) (new xs : List X) → start < end → end ≤ length xs
    → replaced_within start end new xs ≡ take start xs ++ new ++ drop end xs
unfolding replaced_within
replaced_there start end new xs some within = grind arith

-- a list without the stretch stays
pub replaced_empty : {X : Type 0} (start end : ℕ) (new xs : List X) → end ≤ start → replaced_within start end new xs ≡ xs
unfolding replaced_within
replaced_empty start end new xs none = grind arith

-- a replacement that would end right of the list changes nothing
pub replaced_past : {X : Type 0} (start end : ℕ) (new xs : List X) → length xs < end → replaced_within start end new xs ≡ xs
unfolding replaced_within
replaced_past start end new xs past = grind arith

-- the row
pub row_at-cells_replaced_same : (rows : List (List Cell)) (row start end : ℕ) (cells : List Cell)
    → row_at (cells_replaced rows row start end cells) row ≡ replaced_within start end cells (row_at rows row)
row_at-cells_replaced_same rows row start end cells =
    grind (arith, common_steps, slice_index_or-changed_within_inside, get_or_past, replaced_past, replaced_empty, changed_within_none)

-- the other rows
pub row_at-cells_replaced_other : (rows : List (List Cell)) (row start end : ℕ) (cells : List Cell) (r : ℕ) → r ≢ row
    → row_at (cells_replaced rows row start end cells) r ≡ row_at rows r
row_at-cells_replaced_other rows row start end cells r other =
    grind (arith, common_steps, slice_index_or-changed_within_before, slice_index_or-changed_within_after)

-- a grid whose row keeps its cells stays as it was
cells_replaced_kept : (rows : List (List Cell)) (row start end : ℕ) (cells : List Cell) → replaced_within start end cells (row_at rows row) ≡ row_at rows row
    → cells_replaced rows row start end cells ≡ rows
cells_replaced_kept rows row start end cells kept =
    let change = replaced_within start end cells in
    elim (cases_lt row (length rows)) [
      | inl there ↦ changed_within_one change row rows [] there ∙ ap (set rows row) kept ∙ set-get_or rows row []
      | inr past ↦ changed_within_none change row (row + 1) rows (omega arith)
    ]

-- replacing an empty stretch that ends where it starts or earlier changes nothing
pub cells_replaced_empty : (rows : List (List Cell)) (row start end : ℕ) (cells : List Cell) → end ≤ start → cells_replaced rows row start end cells ≡ rows
cells_replaced_empty rows row start end cells none =
    cells_replaced_kept rows row start end cells (replaced_empty start end cells (row_at rows row) none)

-- replacing a stretch that ends right of the row changes nothing
pub cells_replaced_past : (rows : List (List Cell)) (row start end : ℕ) (cells : List Cell) → length (row_at rows row) < end
    → cells_replaced rows row start end cells ≡ rows
cells_replaced_past rows row start end cells past =
    cells_replaced_kept rows row start end cells (replaced_past start end cells (row_at rows row) past)

-- the cells before the stretch
replaced_before : (start end : ℕ) (new xs : List Cell) (c : ℕ) → c < start
    → slice_index_or (replaced_within start end new xs) c SPACE ≡ slice_index_or xs c SPACE
replaced_before start end new xs c before = grind (arith, common_steps, replaced_past, replaced_there, replaced_empty)

-- the cells in the place of the stretch, and those after them
put_inside : (start end : ℕ) (new xs : List Cell) (k : ℕ) → start < end → end ≤ length xs → k < length new
    → slice_index_or (take start xs ++ new ++ drop end xs) (start + k) SPACE ≡ slice_index_or new k SPACE
put_inside start end new xs k some within inside = grind (arith, places)

put_after : (start end : ℕ) (new xs : List Cell) (k : ℕ) → start < end → end ≤ length xs
    → slice_index_or (take start xs ++ new ++ drop end xs) (start + length new + k) SPACE ≡ slice_index_or xs (end + k) SPACE
put_after start end new xs k some within = grind (arith, places)

put_length : (start end : ℕ) (new xs : List Cell) → start < end → end ≤ length xs
    → length (take start xs ++ new ++ drop end xs) + (end - start) ≡ length xs + length new
put_length start end new xs some within = grind (arith, places)

-- the change, read cell by cell
pub ReplacesCells-cells_replaced : (rows : List (List Cell)) (row start end : ℕ) (cells : List Cell)
    → ReplacesCells rows (cells_replaced rows row start end cells) row start end cells
ReplacesCells-cells_replaced rows row start end cells =
    grind (
      arith,
      common_steps,
      row_at-cells_replaced_same,
      replaced_there,
      put_inside,
      put_after,
      put_length,
      replaced_before,
      row_at-cells_replaced_other,
      length-changed_within,
      cells_replaced_empty,
      cells_replaced_past,
    )

-- the same of a grid that is known to be the one after the change
pub ReplacesCells-from_equal : (old new : List (List Cell)) (row start end : ℕ) (cells : List Cell) → new ≡ cells_replaced old row start end cells
    → ReplacesCells old new row start end cells
ReplacesCells-from_equal old new row start end cells is =
    subst (λ rows. ReplacesCells old rows row start end cells) (sym is) (ReplacesCells-cells_replaced old row start end cells)

-- What writes make of the rows of a grid: a row that is begun, and the last row written into.
-- a row that is begun by some cells alone
pub begun_by : (old new : List (List Cell)) (row at : ℕ) (cells : List Cell) → row ≡ length old → new ≡ cells_written old row at cells
    → new ≡ old ++ (replicate at SPACE ++ cells) ∷ []
begun_by old new row at cells below writes =
    writes ∙ ap (λ r. cells_written old r at cells) below ∙ cells_written_below old at cells ∙ ap (λ r. old ++ r ∷ []) (written-nil at cells)

-- a row that is begun by a text
pub begun_by_text : (old new : List (List Cell)) (row at : ℕ) (text chs : List ℕ) → row ≡ length old → chars text ≡ chs → 0 < length chs
    → (0 < length text → new ≡ cells_written old row at (text_cells LineNumber (chars text)))
    → new ≡ old ++ (replicate at SPACE ++ text_cells LineNumber chs) ∷ []
begun_by_text old new row at text chs below is some writes = grind (arith, common_steps, begun_by, length-chars_le)

-- a row that is begun by the separator alone
pub separator_row-begun : (old new : List (List Cell)) (row gutter stroke : ℕ) (decor : DecorStyle) → row ≡ length old → stroke ≡ separator_of decor
    → new ≡ cells_written old row (gutter + 1) (text_cells LineNumber (stroke ∷ [])) → new ≡ old ++ separator_row decor gutter ∷ []
separator_row-begun old new row gutter stroke decor below is writes = grind (arith, common_steps, begun_by)

-- a row after a text was put into it: one with no bytes leaves it as it was
abbrev pub texted : List ℕ → List Cell → ℕ → List Cell → List Cell
texted [] row at cells = row
texted (b ∷ bs) row at cells = written SPACE row at cells

-- a text that was put into the last row
pub text_put : (above mid new : List (List Cell)) (row : List Cell) (r at : ℕ) (bytes : List ℕ) (cells : List Cell) → mid ≡ above ++ row ∷ [] → r ≡ length above
    → (0 < length bytes → new ≡ cells_written mid r at cells) → (bytes ≡ [] → new ≡ mid) → new ≡ above ++ texted bytes row at cells ∷ []
text_put above mid new row r at [] cells before last writes stays = stays refl ∙ before
text_put above mid new row r at (b ∷ bs) cells before last writes stays = grind (arith, common_steps, cells_written_last)

-- the characters of cells that are drawn
pub row_text-text_cells : (role : ElementStyle) (cs : List ℕ) → row_text (text_cells role cs) ≡ cs
row_text-text_cells role [] = refl
row_text-text_cells role (c ∷ cs) = ap (λ t. c ∷ t) (row_text-text_cells role cs)

-- Cells of one role and one link are printed by their text alone.
-- the codes between two styles
pub codes_added : (last next : Style) (old mid new code : List ℕ) → code ≡ encode_utf8_all (reset last) → mid ≡ old ++ code
    → new ≡ mid ++ encode_utf8_all (opening next) → new ≡ old ++ flat_map piece_text (Reset last ∷ Opening next ∷ [])
codes_added last next old mid new code is reset_added opened = grind (arith, common_steps)

-- spaces after spaces
pub more_spaces : (old mid new : List ℕ) (a b n : ℕ) → a + b ≡ n → mid ≡ old ++ replicate a 32 → new ≡ mid ++ replicate b 32 → new ≡ old ++ replicate n 32
more_spaces old mid new a b n sum first second =
    second ∙ ap (λ (t : List ℕ). t ++ replicate b 32) first ∙ append_assoc old (replicate a 32) (replicate b 32)
    ∙ ap (λ (t : List ℕ). old ++ t) (replicate-append-replicate a b 32 ∙ ap (λ k. replicate k 32) sum)

-- after a cell of the same style and link the text is enough
pub more_printed : (sheet : Stylesheet) (level : LevelInner) (style : Style) (role : ElementStyle) (link : Option Url) (word : List ℕ)
    (done : List Cell) (old now : List ℕ) → style ≡ style_of sheet level role → Goes sheet level (Some style) link done old now
    → Goes sheet level (Some style) link (done ++ cells_alike role link word) old (now ++ encode_utf8_all word)
more_printed sheet level style role link [] done old now is goes = grind (arith, common_steps)
more_printed sheet level style role link (ch ∷ word) done old now is goes =
    let cell : Cell = record { ch = ch; role = role; link = link } in
    let one : Goes sheet level (Some style) link (done ++ cell ∷ []) old (now ++ encode_utf8 ch) =
    cell_printed sheet level style style link done old now now now now (now ++ encode_utf8 ch) cell is (λ h. refl) (λ h. refl)
    (λ there differs. absurd (differs refl)) (λ h. refl) (λ differs. absurd (differs refl)) (λ h. refl) (λ h. refl)
    (λ url is_url differs. absurd (differs is_url)) refl goes in
    let rest = more_printed sheet level style role link word (done ++ cell ∷ []) old (now ++ encode_utf8 ch) is one in
    subst (λ (cells : List Cell). Goes sheet level (Some style) link cells old (now ++ encode_utf8_all (ch ∷ word)))
    (append_assoc done (cell ∷ []) (cells_alike role link word))
    (subst (λ (t : List ℕ). Goes sheet level (Some style) link ((done ++ cell ∷ []) ++ cells_alike role link word)
    old t) (append_assoc now (encode_utf8 ch) (encode_utf8_all word)) rest)

-- a stretch after cells of another style or link
pub stretch_printed : (sheet : Stylesheet) (level : LevelInner) (last next : Style) (role : ElementStyle) (last_link next_link : Option Url)
    (word : List ℕ) (done : List Cell) (old now new : List ℕ) → 0 < length word → next ≡ style_of sheet level role
    → PrintsStretch word last next last_link next_link now new → Goes sheet level (Some last) last_link done old now
    → Goes sheet level (Some next) next_link (done ++ cells_alike role next_link word) old new
stretch_printed sheet level last next role last_link next_link [] done old now new some is prints goes = absurd (omega arith)
stretch_printed sheet level last next role last_link next_link (ch ∷ word) done old now new some is prints goes =
    let cell : Cell = record { ch = ch; role = role; link = next_link } in
    let first : List ℕ = prints.begun ++ encode_utf8 ch in
    let one : Goes sheet level (Some next) next_link (done ++ cell ∷ []) old first =
    cell_printed sheet level last next last_link done old now prints.ended prints.changed prints.begun first cell is prints.link_continues
    prints.link_absent prints.link_ends prints.style_continues prints.style_changes prints.same_link prints.no_link prints.link_begins refl
    goes in
    let rest = more_printed sheet level next role next_link word (done ++ cell ∷ []) old first is one in
    let bytes : first ++ encode_utf8_all word ≡ new = append_assoc prints.begun (encode_utf8 ch) (encode_utf8_all word) ∙ sym prints.text_is in
    subst (λ (cells : List Cell). Goes sheet level (Some next) next_link cells old new) (append_assoc done (cell ∷ []) (cells_alike role next_link word))
    (subst (λ (t : List ℕ). Goes sheet level (Some next) next_link ((done ++ cell ∷ []) ++ cells_alike role next_link word) old t) bytes rest)

-- the bytes of spaces
pub space_bytes : (n : ℕ) → encode_utf8_all (replicate n 32) ≡ replicate n 32
unfolding lib.Utf8.encode
space_bytes zero = refl
space_bytes (suc n) = ap (λ (t : List ℕ). 32 ∷ t) (space_bytes n)
