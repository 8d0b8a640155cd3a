-- Rows in which stretches gave their place to the placeholder.
use Rattle.snippet_strokes.proofs.Common.{◌≡◌, ◌∙◌, true, false, ℕ, zero, suc, ◌+◌, ◌-◌, ◌<◌, ◌≤◌, Bool, List, [], ◌∷◌}
use Rattle.snippet_strokes.proofs.Common.{◌++◌, length, map, take, drop, set, get_or, cond, refl, sym, ap, subst, arith, inl, inr, fold, and_parts}
use Rattle.snippet_strokes.proofs.Common.{cases_lt, or_parts, places, same_lists, map-append, append_assoc, length-append, drop_more, drop_all, sum_by-cons}
use Rattle.snippet_strokes.proofs.Common.{All-append, All-take, All-drop, set-append_seam, ◌/◌, list_all, list_any, slice_index_or, flat_map}
use Rattle.snippet_strokes.proofs.Common.{LineAnnotation, is_wide_entry, AreReplaced, DecorStyle, LineNumber, placeholder_of, replaced_within, cells_replaced}
use Rattle.snippet_strokes.proofs.Common.{Cell, text_cells, row_text, changed_within_one, replaced_there, replaced_empty, replaced_past, Layout, code_cell}
use Rattle.snippet_strokes.proofs.Common.{PlacedEntry, IsFreeCell, is_wide_at, row_text-text_cells, cut_middle, is_cut, overlapped, row_count, painting_order}
use Rattle.snippet_strokes.proofs.Common.{with_blocks}
use Rattle.snippet_strokes.proofs.Common.{placed_of, stroke_rows, painted, rules}
use Rattle.std.specs.Prelude.{◌&&◌, max, not}
use Rattle.snippet_strokes.proofs.CutWords.{Stretch, cut_of, cut_rows, cuts_of}
use Rattle.snippet_strokes.proofs.CellLemmas.{cut_row, free_placeholder, drawn_strokes, begun_rows}
use Rattle.snippet_strokes.proofs.SeenRows.{wide_entries, IsCut}
use Rattle.snippet_strokes.proofs.EveryMark.{strokes_painted}

-- the cells of the middle of an entry
abbrev pub middle_of : Layout → ℕ → LineAnnotation → Stretch
middle_of layout room e =
    let kept = max 5 (room / 3) in
    record { from = code_cell layout e.start.display + kept; to = code_cell layout e.end.display - kept }

-- nothing was replaced, or fewer stretches than so many
AreReplaced-none : (placeholder : List ℕ) (n : ℕ) (text : List ℕ) → AreReplaced placeholder n text text
AreReplaced-none placeholder zero text = refl
AreReplaced-none placeholder (suc n) text = inl refl

pub AreReplaced-weaker : (placeholder : List ℕ) (m n : ℕ) (before after : List ℕ) → m ≤ n → AreReplaced placeholder m before after
    → AreReplaced placeholder n before after
AreReplaced-weaker placeholder zero n before after few same =
    subst (AreReplaced placeholder n before) (sym same) (AreReplaced-none placeholder n before)
AreReplaced-weaker placeholder (suc m) zero before after few are = absurd (omega arith)
AreReplaced-weaker placeholder (suc m) (suc n) before after few (inl same) = inl same
AreReplaced-weaker placeholder (suc m) (suc n) before after few (inr more) =
    inr (more.0, more.1, more.2, more.3, AreReplaced-weaker placeholder m n (more.0 ++ placeholder ++ more.2) after (omega arith) more.4)

-- some stretches, and then some more
pub AreReplaced-more : (placeholder : List ℕ) (m n : ℕ) (before now after : List ℕ) → AreReplaced placeholder m before now → AreReplaced placeholder n now after
    → AreReplaced placeholder (m + n) before after
AreReplaced-more placeholder zero n before now after same are =
    AreReplaced-weaker placeholder n (0 + n) before after (omega arith) (subst (λ text. AreReplaced placeholder n text after) same are)
AreReplaced-more placeholder (suc m) n before now after (inl same) are =
    AreReplaced-weaker placeholder n (suc m + n) before after (omega arith) (subst (λ text. AreReplaced placeholder n text after) same are)
AreReplaced-more placeholder (suc m) n before now after (inr first) are =
    let rest = AreReplaced-more placeholder m n (first.0 ++ placeholder ++ first.2) now after first.4 are in
    let count : suc m + n ≡ suc (m + n) = omega arith in
    subst (λ k. AreReplaced placeholder k before after) (sym count) (inr (first.0, first.1, first.2, first.3, rest))

-- a row that stays is cut nowhere
pub IsCut-none : (layout : Layout) (n : ℕ) (row : List Cell) → IsCut layout n row row
IsCut-none layout n row = search rules

-- a row that was cut, and then once more
pub IsCut-more : (layout : Layout) (m n : ℕ) (whole now row : List Cell) → IsCut layout m whole now → IsCut layout n now row → IsCut layout (m + n) whole row
IsCut-more layout m n whole now row first then = grind (arith, AreReplaced-more)

-- the parts of a list from an element on
three_parts : {X : Type 0} (xs : List X) (code start end : ℕ) → code ≤ start → start < end → end ≤ length xs
    → drop code xs ≡ take (start - code) (drop code xs) ++ take (end - start) (drop start xs) ++ drop end xs
three_parts xs code start end from some within =
    same_lists _ _ (grind (arith, places)) (λ i d h. grind (arith, places))

three_parts_now : {X : Type 0} (xs new : List X) (code start end : ℕ) → code ≤ start → start < end → end ≤ length xs
    → drop code (take start xs ++ new ++ drop end xs) ≡ take (start - code) (drop code xs) ++ new ++ drop end xs
three_parts_now xs new code start end from some within =
    same_lists _ _ (grind (arith, places)) (λ i d h. grind (arith, places))

front_stays : {X : Type 0} (xs new : List X) (code start end : ℕ) → code ≤ start → start < end → end ≤ length xs
    → take code (take start xs ++ new ++ drop end xs) ≡ take code xs
front_stays xs new code start end from some within =
    same_lists _ _ (grind (arith, places)) (λ i d h. grind (arith, places))

row_text-parts : (xs ys zs : List Cell) → row_text (xs ++ ys ++ zs) ≡ row_text xs ++ row_text ys ++ row_text zs
row_text-parts xs ys zs = simp (map-append)

-- a row of which a stretch gave its place to the placeholder, right of the code's first cell
IsCut-there : (layout : Layout) (start end : ℕ) (row : List Cell) → layout.code ≤ start → start < end → end ≤ length row
    → IsCut layout 1 row (take start row ++ text_cells LineNumber (placeholder_of layout.decor) ++ drop end row)
IsCut-there layout start end row from some within =
    let placeholder = text_cells LineNumber (placeholder_of layout.decor) in
    let front = take (start - layout.code) (drop layout.code row) in
    let stretch = take (end - start) (drop start row) in
    let back = drop end row in
    let before : row_text (drop layout.code row) ≡ row_text front ++ row_text stretch ++ row_text back
    = ap row_text (three_parts row layout.code start end from some within) ∙ row_text-parts front stretch back in
    let after : row_text (drop layout.code (take start row ++ placeholder ++ drop end row)) ≡ row_text front ++ placeholder_of layout.decor ++ row_text back
    = ap row_text (three_parts_now row placeholder layout.code start end from some within) ∙ row_text-parts front placeholder back
    ∙ ap (λ t. row_text front ++ t ++ row_text back) (row_text-text_cells LineNumber (placeholder_of layout.decor)) in
    record {
      left = front_stays row placeholder layout.code start end from some within;
      text = inr (row_text front, row_text stretch, row_text back, before, after);
      uncut = λ none. absurd (omega (arith, none));
      free = λ free. All-append IsFreeCell (take start row ++ placeholder) (drop end row)
          (All-append IsFreeCell (take start row) placeholder (All-take IsFreeCell start row free) (free_placeholder layout.decor))
          (All-drop IsFreeCell end row free);
    }

pub IsCut-replaced : (layout : Layout) (start end : ℕ) (row : List Cell) → layout.code ≤ start
    → IsCut layout 1 row (replaced_within start end (text_cells LineNumber (placeholder_of layout.decor)) row)
IsCut-replaced layout start end row from =
    let placeholder = text_cells LineNumber (placeholder_of layout.decor) in
    elim (cases_lt start end) [
      | inl some ↦ elim (cases_lt (length row) end) [
        | inl past ↦ subst (IsCut layout 1 row) (sym (replaced_past start end placeholder row past)) (IsCut-none layout 1 row)
        | inr within ↦ subst (IsCut layout 1 row) (sym (replaced_there start end placeholder row some within))
            (IsCut-there layout start end row from some within)
      ]
      | inr none ↦ subst (IsCut layout 1 row) (sym (replaced_empty start end placeholder row none)) (IsCut-none layout 1 row)
    ]

-- a change in one row of a grid
pub cells_replaced_here : (above below : List (List Cell)) (source cells : List Cell) (row start end : ℕ) → length above ≡ row
    → cells_replaced (above ++ source ∷ below) row start end cells ≡ above ++ replaced_within start end cells source ∷ below
cells_replaced_here above below source cells row start end here =
    let change = replaced_within start end cells in
    let rows = above ++ source ∷ below in
    let there : row < length rows = omega (arith, here, length-append above (source ∷ below)) in
    let read : slice_index_or rows row [] ≡ source = grind (arith, places) in
    changed_within_one change row rows [] there ∙ ap (λ r. set rows row (change r)) read ∙ ap (λ n. set rows n (change source)) (sym here)
    ∙ set-append_seam above source below (change source)

-- rows that are cut at some stretches, and then at some more
pub cut_rows-append : (decor : DecorStyle) (row : ℕ) (cuts more : List Stretch) (rows : List (List Cell))
    → cut_rows decor row (cuts ++ more) rows ≡ cut_rows decor row more (cut_rows decor row cuts rows)
cut_rows-append decor row [] more rows = refl
cut_rows-append decor row (cut ∷ cuts) more rows =
    let placeholder = text_cells LineNumber (placeholder_of decor) in
    cut_rows-append decor row cuts more (cells_replaced (cells_replaced rows row cut.from cut.to placeholder) (row + 1) cut.from cut.to placeholder)

-- what is cut from one entry on is what is cut for it, and from the next one on
pub cuts_of-more : (layout : Layout) (room : ℕ) (placed : List PlacedEntry) (flags : List Bool) (k : ℕ) (e : PlacedEntry) (flag : Bool)
    → k < length placed → k < length flags
    → cuts_of layout room (drop k placed) (drop k flags) ≡ cut_of layout room (get_or placed k e, get_or flags k flag)
    ++ cuts_of layout room (drop (k + 1) placed) (drop (k + 1) flags)
cuts_of-more layout room placed flags k e flag within there = grind (arith, drop_more)

-- no flag is left, so no cut
cuts_of-nil : (layout : Layout) (room : ℕ) (placed : List PlacedEntry) → cuts_of layout room placed [] ≡ []
cuts_of-nil layout room [] = refl
cuts_of-nil layout room (e ∷ es) = refl

-- nothing is cut after the last flag
pub cuts_of-none : (layout : Layout) (room k : ℕ) (placed : List PlacedEntry) (flags : List Bool) → length flags ≤ k
    → cuts_of layout room (drop k placed) (drop k flags) ≡ []
cuts_of-none layout room k placed flags past =
    ap (cuts_of layout room (drop k placed)) (drop_all k flags past) ∙ cuts_of-nil layout room (drop k placed)

-- the same stretch of two rows gave its place to the placeholder
replaced_here : (layout : Layout) (row start end : ℕ) (above : List (List Cell)) (source marks : List Cell) (below : List (List Cell)) → length above ≡ row
    → let placeholder = text_cells LineNumber (placeholder_of layout.decor) in
    cells_replaced (cells_replaced (above ++ source ∷ marks ∷ below) row start end placeholder) (row + 1) start end placeholder
    ≡ above ++ replaced_within start end placeholder source ∷ replaced_within start end placeholder marks ∷ below
replaced_here layout row start end above source marks below here =
    let placeholder = text_cells LineNumber (placeholder_of layout.decor) in
    let change = replaced_within start end placeholder in
    let first = cells_replaced_here above (marks ∷ below) source placeholder row start end here in
    let apart : above ++ change source ∷ marks ∷ below ≡ (above ++ change source ∷ [])
    ++ marks ∷ below = sym (append_assoc above (change source ∷ []) (marks ∷ below)) in
    let next : length (above ++ change source ∷ []) ≡ row + 1 = omega (arith, here, length-append above (change source ∷ [])) in
    let second = cells_replaced_here (above ++ change source ∷ []) below marks placeholder (row + 1) start end next in
    ap (λ rows. cells_replaced rows (row + 1) start end placeholder) (first ∙ apart) ∙ second ∙ append_assoc above (change source ∷ []) (change marks ∷ below)

-- rows that are cut are the two of them, each cut
pub cut_rows-here : (layout : Layout) (row : ℕ) (cuts : List Stretch) (above : List (List Cell)) (source marks : List Cell) (below : List (List Cell))
    → length above ≡ row
    → cut_rows layout.decor row cuts (above ++ source ∷ marks ∷ below) ≡ above ++ cut_row layout.decor cuts source ∷ cut_row layout.decor cuts marks ∷ below
cut_rows-here layout row [] above source marks below here = refl
cut_rows-here layout row (cut ∷ cuts) above source marks below here =
    let placeholder = text_cells LineNumber (placeholder_of layout.decor) in
    let change = replaced_within cut.from cut.to placeholder in
    ap (cut_rows layout.decor row cuts) (replaced_here layout row cut.from cut.to above source marks below here)
    ∙ cut_rows-here layout row cuts above (change source) (change marks) below here

-- nothing is cut where no entry is wide
pub cuts_of-narrow : (layout : Layout) (room : ℕ) (placed : List PlacedEntry) (flags : List Bool) → list_any (is_wide_at room layout.decor) placed ≡ false
    → cuts_of layout room placed flags ≡ []
cuts_of-narrow layout room [] flags narrow = refl
cuts_of-narrow layout room (e ∷ es) [] narrow = refl
cuts_of-narrow layout room (e ∷ es) (flag ∷ flags) narrow =
    let parts = or_parts (is_wide_at room layout.decor e) (list_any (is_wide_at room layout.decor) es) narrow in
    ap (λ wide. cond (wide && not flag) (middle_of layout room e.entry ∷ []) [] ++ cuts_of layout room es flags) parts.0
    ∙ cuts_of-narrow layout room es flags parts.1

-- a row that is cut at some stretches, and then at some more
cut_row-append : (decor : DecorStyle) (cuts more : List Stretch) (row : List Cell)
    → cut_row decor (cuts ++ more) row ≡ cut_row decor more (cut_row decor cuts row)
cut_row-append decor [] more row = refl
cut_row-append decor (cut ∷ cuts) more row =
    cut_row-append decor cuts more (replaced_within cut.from cut.to (text_cells LineNumber (placeholder_of decor)) row)

-- a row is cut once at most for each wide entry
pub IsCut-cuts : (layout : Layout) (room : ℕ) (placed : List PlacedEntry) (flags : List Bool) (row : List Cell)
    → IsCut layout (wide_entries room layout.decor (map (λ (e : PlacedEntry). e.entry) placed)) row
    (cut_row layout.decor (cuts_of layout room placed flags) row)
IsCut-cuts layout room [] flags row = IsCut-none layout (wide_entries room layout.decor []) row
IsCut-cuts layout room (e ∷ es) [] row =
    IsCut-none layout (wide_entries room layout.decor (map (λ (x : PlacedEntry). x.entry) (e ∷ es))) row
IsCut-cuts layout room (e ∷ es) (flag ∷ flags) row =
    let wide : LineAnnotation → Bool = is_wide_entry room (length (placeholder_of layout.decor)) in
    let entries = map (λ (x : PlacedEntry). x.entry) es in
    let rest : List Stretch = cuts_of layout room es flags in
    let own : List Stretch = cut_of layout room (e, flag) in
    let mid : List Cell = cut_row layout.decor own row in
    let m : ℕ = cond (wide e.entry) 1 0 in
    let n : ℕ = wide_entries room layout.decor entries in
    subst (λ cells. IsCut layout (wide_entries room layout.decor (e.entry ∷ entries)) row cells) (sym (cut_row-append layout.decor own rest row))
    (subst (λ k. IsCut layout k row (cut_row layout.decor rest mid)) (sym (sum_by-cons (λ x. cond (wide x) 1 0) e.entry entries))
    (IsCut-more layout m n row mid (cut_row layout.decor rest mid) (one (wide e.entry) flag) (IsCut-cuts layout room es flags mid)))
  where
    one : (wide flag : Bool) → IsCut layout (cond wide 1 0) row (cut_row layout.decor (cond (wide && not flag) (middle_of layout room e.entry ∷ []) []) row)
    one true false =
        let cut = middle_of layout room e.entry in
        IsCut-replaced layout cut.from cut.to row (omega arith)
    one true true = IsCut-none layout 1 row
    one false flag = IsCut-none layout 0 row

-- ---- entry by entry

-- what is cut for one entry
pub cut_one : (layout : Layout) (room : ℕ) (pair : PlacedEntry × Bool) (row : List Cell)
    → cut_row layout.decor (cut_of layout room pair) row ≡ cut_middle layout room row pair
cut_one layout room pair row = search rules

-- a row that is cut for one entry after another is cut at the stretches of all
pub cut_each : (layout : Layout) (room : ℕ) (pairs : List (PlacedEntry × Bool)) (row : List Cell)
    → fold (cut_middle layout room) row pairs ≡ cut_row layout.decor (flat_map (cut_of layout room) pairs) row
cut_each layout room [] row = refl
cut_each layout room (pair ∷ pairs) row = simp (cut_one, cut_row-append, cut_each layout room pairs (cut_middle layout room row pair))

-- a row stays where no entry is cut
pub uncut_row : (layout : Layout) (room : ℕ) (pairs : List (PlacedEntry × Bool)) (row : List Cell)
    → list_all (λ pair. not (is_cut room layout.decor pair)) pairs ≡ true → cut_row layout.decor (flat_map (cut_of layout room) pairs) row ≡ row
uncut_row layout room [] row all = refl
uncut_row layout room (pair ∷ pairs) row all =
    let parts = and_parts (not (is_cut room layout.decor pair)) (list_all (λ p. not (is_cut room layout.decor p)) pairs) all in
    ap (λ b. cut_row layout.decor (cond b (middle_of layout room pair.0.entry ∷ []) [] ++ flat_map (cut_of layout room) pairs) row)
    (negated (is_cut room layout.decor pair) parts.0)
    ∙ uncut_row layout room pairs row parts.1
  where
    negated : (b : Bool) → not b ≡ true → b ≡ false
    negated true is = cc
    negated false is = refl

map_alike : {X Y : Type 0} (f g : X → Y) (xs : List X) → ((x : X) → f x ≡ g x) → map f xs ≡ map g xs
map_alike f g [] same = refl
map_alike f g (x ∷ xs) same = ap (λ y. y ∷ map f xs) (same x) ∙ ap (λ ys. g x ∷ ys) (map_alike f g xs same)

-- the rows of the strokes of a line, of which stretches are cut
abbrev pub rows_of_strokes : Layout → ℕ → Bool → List LineAnnotation → List Cell → List (List Cell)
rows_of_strokes layout room closes es source =
    let placed = placed_of layout es in
    let order = painting_order placed in
    let whole = painted (drawn_strokes layout 0 (row_count placed + 1) placed order) (begun_rows layout closes (row_count placed) source) in
    map (cut_row layout.decor (cuts_of layout room order (with_blocks layout order (overlapped placed)))) (take 2 whole) ++ drop 2 whole

pub stroke_rows-cut : (layout : Layout) (room : ℕ) (closes : Bool) (es : List LineAnnotation) (source : List Cell)
    → stroke_rows layout room closes es source ≡ rows_of_strokes layout room closes es source
stroke_rows-cut layout room closes es source = simp (strokes_painted, map_alike, cut_each)
