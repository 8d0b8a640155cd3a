-- The rows that strokes are drawn into: as they are begun, read from the left or the right, and cut where entries are wide.
use Rattle.std.proofs.lemmas.Grind.{common_steps}
use Rattle.snippet_strokes.proofs.Common.{◌≡◌, ℕ, ◌+◌, ◌-◌, ◌<◌, ◌≤◌, ◌==◌, ◌&&◌, cond, Bool, true, false, List, []}
use Rattle.snippet_strokes.proofs.Common.{◌∷◌, ◌++◌, length, take, drop, replicate, get_or, refl, sym, ap, ◌∙◌, subst, arith, All}
use Rattle.snippet_strokes.proofs.Common.{Contains, zero, suc, map, slice_index_or, IsPermutation, and_parts, cases_lt, nat_tests, places}
use Rattle.snippet_strokes.proofs.Common.{length-append, length-replicate, get_or_append_left, get_or_push, length_push, get_or-drop, get_or_past}
use Rattle.snippet_strokes.proofs.Common.{get_or-replicate, ext_get_or, append-nil, append_assoc, take-append-drop, drop_all, get_or-take, replicate_more}
use Rattle.snippet_strokes.proofs.Common.{and-false, and-true, drop-append_seam, Contains-permutation, IsPermutation-map, IsPermutation-trans}
use Rattle.snippet_strokes.proofs.Common.{sum_by-IsPermutation, AllPass-from_list_all, LineAnnotation, is_wide_entry, placeholder_of, DecorStyle, row_at, Cell}
use Rattle.snippet_strokes.proofs.Common.{SPACE, written, take-written_past, drop-written, Layout, PlacedEntry, IsBarCell, IsFreeCell, IsFree, row_count}
use Rattle.snippet_strokes.proofs.Common.{HasRows, bare_row, separator_row, painting_order, ArePlaced, get_or-map, length-map, Contains-get_or}
use Rattle.snippet_strokes.proofs.Common.{IsPermutation-sym, AnnotationKind, IsMarkGlyph, underline_role, cell_at, IsMarkCell, takes_space, mark_end}
use Rattle.snippet_strokes.proofs.Common.{All-nil, All-cons, length_permutation, label_pieces, label_text, shows_any, has_label, positions, line_positions}
use Rattle.snippet_strokes.proofs.Common.{entries_all, rules}
use Rattle.snippet_strokes.proofs.Common.{is_primary}
use Rattle.snippet_strokes.proofs.SeenRows.{are_plain, is_single, wide_entries, IsCut, IsStrokeRow, EntryCovers, IsEntryMark}
use Rattle.snippet_labels.proofs.PlacedLemmas.{line_positions_low}
use Rattle.snippet_strokes.proofs.PositionLemmas.{HasRows-row_count, row_count_some, of_positions, positions_sole}
use Rattle.snippet_strokes.proofs.PaintOrder.{IsPermutation-painting_order}
use Rattle.snippet_strokes.proofs.PaintedMarks.{CoversOver, AreMarked, IsPaintedAt, mark_cell}
use Rattle.snippet_labels.proofs.PieceLemmas.{label_pieces-nil}
use Rattle.snippet_strokes.proofs.Common.{LabelPieces, beside_column, code_cell}
use Rattle.snippet_labels.specs.Positions.{pieces_of}
use Rattle.snippet_strokes.proofs.Common.{◌||◌}

-- The marks of entries that stand for whole spans.
-- the cell of a mark is one that a mark of that kind may have
pub IsMarkCell-mark_cell : (layout : Layout) (e : PlacedEntry) (c : ℕ) → takes_space e ≡ false → IsMarkCell layout.decor e.entry.kind (mark_cell layout e c)
IsMarkCell-mark_cell layout e c flat = search rules

-- an entry that stands for a whole span takes no space, and one that covers a column is painted at its columns alone
abbrev pub IsPlainEntry : LineAnnotation → Type 0
IsPlainEntry e = (is_single e ≡ true) × (e.start.display < e.end.display)

-- a plain entry takes no space
pub spaceless : (e : PlacedEntry) → IsPlainEntry e.entry → takes_space e ≡ false
spaceless e plain = search rules

-- the mark of a plain entry ends where the entry does
pub mark_end_plain : (e : PlacedEntry) → IsPlainEntry e.entry → mark_end e ≡ e.entry.end.display
mark_end_plain e plain = search rules

-- a column that an entry covers is painted for it
pub painted_covered : (e : PlacedEntry) (p : ℕ) → EntryCovers e.entry p → IsPaintedAt e p
painted_covered e p covers = search rules

-- a column that is painted for a plain entry is covered by it
pub covered_painted : (e : PlacedEntry) (p : ℕ) → IsPlainEntry e.entry → IsPaintedAt e p → EntryCovers e.entry p
covered_painted e p plain painted = (painted.0, omega (arith, painted.1, mark_end_plain e plain))

-- a row that was begun
pub begun_row : (layout : Layout) (closes : Bool) (old begun : List (List Cell)) (count k : ℕ)
    → begun ≡ old ++ replicate (count - 1) (separator_row layout.decor layout.gutter) ++ bare_row layout.decor layout.gutter closes ∷ [] → k < count
    → row_at begun (length old + k) ≡ bare_row layout.decor layout.gutter (closes && k + 1 == count)
begun_row layout closes old begun count k begins within = grind (arith, common_steps, last, and-true, after, not_last, and-false)
  where
    last : (end sep : List Cell) → k + 1 ≡ count → row_at (old ++ replicate (count - 1) sep ++ end ∷ []) (length old + k) ≡ end
    last end sep here = grind (arith, common_steps, get_or_push, length-append, length-replicate)

    after : (end sep : List Cell) → k < count - 1 → row_at (old ++ replicate (count - 1) sep ++ end ∷ []) (length old + k) ≡ sep
    after end sep before = grind (arith, common_steps, get_or-replicate, get_or_append_left, length-append, length-replicate)

    not_last : (k + 1 ≡ count → ⊥) → (k + 1 == count) ≡ false
    not_last other = grind (arith, nat_tests, other)

-- after a short row, the cells that are written and the space before them
pub written_far : (row cells : List Cell) (at : ℕ) → length row ≤ at → drop at (written SPACE row (at + 1) cells) ≡ SPACE ∷ cells
written_far row cells at short =
    let whole : List Cell = written SPACE row (at + 1) cells in
    let pad : List Cell = row ++ replicate (at - length row) SPACE in
    let one : (at + 1) - length row ≡ (at - length row) + 1 = omega arith in
    let front : take (at + 1) whole ≡ pad ++ SPACE ∷ [] =
    take-written_past SPACE row (at + 1) cells (omega arith) ∙ ap (λ n. row ++ replicate n SPACE) one
    ∙ ap (λ xs. row ++ xs) (sym (replicate_more (at - length row) SPACE))
    ∙ sym (append_assoc row (replicate (at - length row) SPACE) (SPACE ∷ [])) in
    let back : drop (at + 1) whole ≡ cells = grind (arith, common_steps, drop-written, drop_all, append-nil) in
    let all : whole ≡ pad ++ SPACE ∷ cells = sym (take-append-drop (at + 1) whole) ∙ ap (λ xs. xs ++ drop (at + 1) whole) front
    ∙ ap (λ xs. (pad ++ SPACE ∷ []) ++ xs) back ∙ append_assoc pad (SPACE ∷ []) cells in
    let long : length pad ≡ at = grind (arith, common_steps, length-append, length-replicate) in
    ap (λ n. drop n whole) (sym long) ∙ ap (drop (length pad)) all ∙ drop-append_seam pad (SPACE ∷ cells)

-- two rows that are as long and agree from a cell on
pub same_after : (xs ys : List Cell) (at : ℕ) → length xs ≡ length ys → ((c : ℕ) → at ≤ c → slice_index_or xs c SPACE ≡ slice_index_or ys c SPACE)
    → drop at xs ≡ drop at ys
same_after xs ys at long same =
    ext_get_or SPACE (drop at xs) (drop at ys) (grind (arith, places)) (λ k within.
    get_or-drop at xs k SPACE ∙ same (at + k) (omega arith) ∙ sym (get_or-drop at ys k SPACE))

-- a cell of a row that is free, and the space after it
pub free_cell : (row : List Cell) → IsFree row → (c : ℕ) → IsFreeCell (slice_index_or row c SPACE)
free_cell row free c = grind (arith, cases_lt, get_or_past)

-- the sole element of a list
pub sole : {X : Type 0} (xs : List X) → length xs ≡ 1 → (x : X) × (xs ≡ x ∷ [])
sole [] one = absurd (omega (arith, one))
sole (x ∷ []) one = (x, refl)
sole (x ∷ y ∷ xs) one = absurd (omega (arith, one))

-- and has but one order
pub sole_same : {X : Type 0} (x y : X) → IsPermutation (x ∷ []) (y ∷ []) → y ≡ x
sole_same x y same = in_one (Contains-permutation (x ∷ []) (y ∷ []) x same (0, omega arith, refl))
  where
    in_one : Contains (y ∷ []) x → y ≡ x
    in_one (zero, within, here) = here
    in_one (suc k, within, here) = absurd (omega arith)

-- a plain line: each entry stands for a whole span and covers a column, and none is wide
pub plain_entries : (room : ℕ) (decor : DecorStyle) (es : List LineAnnotation) → are_plain room decor es ≡ true → All IsPlainEntry es
plain_entries room decor es plain = grind (arith, and_parts, AllPass-from_list_all)

-- plain entries have no wide one among them
pub plain_narrow : (room : ℕ) (decor : DecorStyle) (es : List LineAnnotation) → are_plain room decor es ≡ true → wide_entries room decor es ≡ 0
plain_narrow room decor es plain = search rules

-- as many entries are wide in any order
pub wide_entries-permutation : (room : ℕ) (decor : DecorStyle) (es fs : List LineAnnotation) → IsPermutation es fs
    → wide_entries room decor fs ≡ wide_entries room decor es
wide_entries-permutation room decor es fs same =
    sum_by-IsPermutation (λ e. cond (is_wide_entry room (length (placeholder_of decor)) e) 1 0) es fs same

-- and in the order of painting
pub wide_entries-order : (layout : Layout) (room : ℕ) (decor : DecorStyle) (es : List LineAnnotation) (placed : List PlacedEntry) → ArePlaced layout es placed
    → wide_entries room decor (map (λ (e : PlacedEntry). e.entry) (painting_order placed)) ≡ wide_entries room decor es
wide_entries-order layout room decor es placed are =
    search (rules, wide_entries-permutation, IsPermutation-trans, IsPermutation-map, IsPermutation-painting_order)

-- a row of which stretches gave their place to the placeholder: left of the code it stays
pub cut_left : (layout : Layout) (wide : ℕ) (whole row : List Cell) → IsCut layout wide whole row → (c : ℕ) → c < layout.code
    → slice_index_or row c SPACE ≡ slice_index_or whole c SPACE
cut_left layout wide whole row cut c left =
    sym (get_or-take layout.code row c SPACE left) ∙ ap (λ cells. slice_index_or cells c SPACE) cut.left ∙ get_or-take layout.code whole c SPACE left

-- a row of strokes that is cut is one still
pub IsStrokeRow-cut : (layout : Layout) (wide : ℕ) (plain : Bool) (es : List LineAnnotation) (closes : Bool) (whole row : List Cell)
    → layout.gutter + 3 ≤ layout.code → (plain ≡ true → wide ≡ 0) → IsStrokeRow layout plain es closes whole → IsCut layout wide whole row
    → IsStrokeRow layout plain es closes row
IsStrokeRow-cut layout wide plain es closes whole row place narrow is cut =
    record {
      left = λ c before. cut_left layout wide whole row cut c (omega (arith, before, place)) ∙ is.left c before;
      bar_cells = λ c right before. subst (IsBarCell layout.decor) (sym (cut_left layout wide whole row cut c before)) (is.bar_cells c right before);
      before = λ flat c from right before all. ap (λ cells. slice_index_or cells c SPACE) (cut.uncut (narrow flat)) ∙ is.before flat c from right before all;
      free = cut.free is.free;
    }

-- cells that agree up to a place, in rows that reach as far
pub same_front : (xs ys : List Cell) (n : ℕ) → n ≤ length xs → n ≤ length ys → ((c : ℕ) → c < n → slice_index_or xs c SPACE ≡ slice_index_or ys c SPACE)
    → take n xs ≡ take n ys
same_front xs ys n long long_too same =
    ext_get_or SPACE (take n xs) (take n ys) (grind (arith, places)) (λ k within. first k (omega (arith, within, length-take_least n xs)))
  where
    length-take_least : (n : ℕ) (zs : List Cell) → length (take n zs) ≤ n
    length-take_least n zs = grind (arith, places)

    first : (k : ℕ) → k < n → get_or (take n xs) k SPACE ≡ get_or (take n ys) k SPACE
    first k within = get_or-take n xs k SPACE within ∙ same k within ∙ sym (get_or-take n ys k SPACE within)

-- the rows are begun
pub rows_begun : (old begun : List (List Cell)) (sep end : List Cell) (count : ℕ) → 0 < count → begun ≡ old ++ replicate (count - 1) sep ++ end ∷ []
    → length begun ≡ length old + count
rows_begun old begun sep end count some begins = grind (arith, length_push, length-append, length-replicate)

-- and each entry has the rows that it needs, as long as no row is added or taken
pub rows_ready : (placed : List PlacedEntry) (old begun : List (List Cell)) (sep end : List Cell) (count row long : ℕ)
    → All (λ e. 0 < length (pieces_of e)) placed → count ≡ row_count placed → row ≡ length old
    → begun ≡ old ++ replicate (count - 1) sep ++ end ∷ [] → long ≡ length begun → All (HasRows row long) placed
rows_ready placed old begun sep end count row long some is last begins same =
    HasRows-row_count row long placed some (omega (arith, same, rows_begun old begun sep end count (omega (arith, is, row_count_some placed)) begins, last, is))

-- What entries that were painted in order show below each column.
-- two kinds that are drawn alike have the same mark cells
same_mark : (decor : DecorStyle) (kind other : AnnotationKind) (cell : Cell) → is_primary other ≡ is_primary kind → IsMarkCell decor other cell
    → IsMarkCell decor kind cell
same_mark decor kind other cell alike is =
    subst (λ (primary : Bool). IsMarkGlyph decor primary cell.ch × (cell.role ≡ underline_role primary)) alike is

-- an entry that stands in front of the mark's entry, and covers the column too, is drawn as the mark is
drawn_alike : (es : List LineAnnotation) (p : ℕ) (kind : AnnotationKind) (mark : IsEntryMark es p kind) (top : LineAnnotation) → Contains es top
    → EntryCovers top p → CoversOver mark.entry top → is_primary top.kind ≡ is_primary kind
drawn_alike es p kind mark top among covers over = search rules

-- what a mapped list contains comes from an element
pub from_map : {X Y : Type 0} (f : X → Y) (xs : List X) (y : Y) → Contains (map f xs) y → (x : X) × Contains xs x × (f x ≡ y)
from_map f [] y (k, within, same) = absurd (omega arith)
from_map f (x ∷ xs) y (k, within, same) =
    let at : ℕ = k in
    let inside : at < length (x ∷ xs) = omega (arith, within, length-map (x ∷ xs) f) in
    (get_or (x ∷ xs) at x, Contains-get_or (x ∷ xs) at x inside, sym (get_or-map f (x ∷ xs) at x y inside) ∙ same)

-- the cell below a column with a mark holds it
pub mark_shown : (layout : Layout) (es : List LineAnnotation) (placed : List PlacedEntry) (row : ℕ) (old new : List (List Cell)) → All IsPlainEntry es
    → IsPermutation es (map (λ (e : PlacedEntry). e.entry) placed) → AreMarked layout placed row old new → (p : ℕ) (kind : AnnotationKind)
    → IsEntryMark es p kind → IsMarkCell layout.decor kind (cell_at new row (layout.code + p))
mark_shown layout es placed row old new plain same marked p kind mark =
    let f : PlacedEntry → LineAnnotation = λ e. e.entry in
    let order : List PlacedEntry = marked.order in
    let sorted : List LineAnnotation = map f order in
    let all : IsPermutation es sorted = IsPermutation-trans es (map f placed) sorted same (IsPermutation-map f placed order marked.same) in
    let found = from_map f order mark.entry (Contains-permutation es sorted mark.entry all mark.among) in
    let x : PlacedEntry = found.0 in
    let k : ℕ = found.1.0 in
    let here : get_or order k x ≡ x = found.1.2 in
    let is : (get_or order k x).entry ≡ mark.entry = ap f here ∙ found.2 in
    let shows = marked.painted.marked k p x found.1.1 (painted_covered (get_or order k x) p (subst (λ e. EntryCovers e p) (sym is) mark.covers)) in
    let top : PlacedEntry = get_or order shows.at x in
    let read : (j : ℕ) → j < length order → get_or sorted j mark.entry ≡ (get_or order j x).entry = λ j within. get_or-map f order j x mark.entry within in
    let inside : shows.at < length sorted = omega (arith, shows.within, length-map order f) in
    let among : Contains es top.entry = Contains-permutation sorted es top.entry (IsPermutation-sym es sorted all)
    (subst (Contains sorted) (read shows.at shows.within) (Contains-get_or sorted shows.at mark.entry inside)) in
    let over : CoversOver mark.entry top.entry = subst (λ e. CoversOver e top.entry) (read k found.1.1 ∙ is)
    (subst (CoversOver (get_or sorted k mark.entry)) (read shows.at shows.within) (marked.ordered k shows.at mark.entry shows.later inside)) in
    let top_plain : IsPlainEntry top.entry = subst IsPlainEntry among.2 (plain among.0 top.entry among.1) in
    let alike = drawn_alike es p kind mark top.entry among (covered_painted top p top_plain shows.covers) over in
    same_mark layout.decor kind top.entry.kind (cell_at new row (layout.code + p)) alike
    (subst (IsMarkCell layout.decor top.entry.kind) (sym shows.holds) (IsMarkCell-mark_cell layout top (layout.code + p) (spaceless top top_plain)))

-- The entries of a line as they are placed: the one entry of a line, and lines that take one row.
module _ (layout : Layout) (es : List LineAnnotation) (placed : List PlacedEntry) (is : ArePlaced layout es placed) where
  abbrev f : PlacedEntry → LineAnnotation
  f e = e.entry

  -- where no entry has a label to show, none has one placed
  pub unlabelled : All (λ e. label_text e ≡ []) es → All (λ e. has_label e ≡ false) placed
  unlabelled none =
      λ k d within.
      let own : label_text (get_or placed k d).entry ≡ [] = entries_all (λ e. label_text e ≡ []) es placed is.same none k d within in
      let e : LineAnnotation = (get_or placed k d).entry in
      let nothing : (cell : ℕ) → shows_any (label_pieces layout cell (label_text e)) ≡ false = λ cell.
      ap (λ text. shows_any (label_pieces layout cell text)) own ∙ ap shows_any (label_pieces-nil layout cell) in
      ap (λ (l : LabelPieces). shows_any l.beside || shows_any l.below) (is.labels k d within)
      ∙ ap (λ b. b || shows_any (label_pieces layout (code_cell layout e.start.display) (label_text e))) (nothing (code_cell layout (beside_column e)))
      ∙ nothing (code_cell layout e.start.display)

  -- where positions are 0 in their order, so are those of the line
  highest : All (λ q. q ≤ 0) (positions 0 placed) → All (λ (x : PlacedEntry). x.position ≤ 0) placed
  highest all = of_positions (λ q. q ≤ 0) placed (line_positions placed) is.positions_are (line_positions_low 0 placed all)

  -- the one entry of a line, as it is placed
  pub lone_placed : (e : LineAnnotation) → es ≡ e ∷ [] → (q : PlacedEntry) × (placed ≡ q ∷ []) × (q.entry ≡ e) × (q.position ≡ 0)
  lone_placed e one = grind (arith, length-map, length_permutation, sole, sole_same, highest, positions_sole, All-cons, All-nil)
