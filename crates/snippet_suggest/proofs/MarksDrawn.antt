-- Marks as values: what the patches before one move, and the cells that the marks take.
use Rattle.snippet_suggest.proofs.Common.{◌≡◌, ℕ, suc, ◌+◌, ◌-◌, ◌^◌, ◌<◌, ◌≤◌, All, List, [], ◌∷◌, ◌++◌, length, min}
use Rattle.snippet_suggest.proofs.Common.{replicate, take, get_or, refl, sym, ap, ◌∙◌, arith, nat_tests, sum_by-append, ElementStyle, Addition, Cell}
use Rattle.snippet_suggest.proofs.Common.{SPACE, text_cells, unlinked_cell, written, length-text_cells, cells_written, cells_written_last, Source, Edit, capped}
use Rattle.snippet_suggest.proofs.Common.{SuggestionLayout, PatchColumns, put, length-replicate, map-append, places, same_lists, take_more, edit_columns}
use Rattle.snippet_suggest.proofs.Common.{left_of, patch_mark_end, mark_glyph_of, mark_start, with_mark, with_marks, common_steps, rules}
use Rattle.std.proofs.Common.{sum_by}
use Rattle.snippet_suggest.proofs.PutLemmas.{put_none}

-- ---- what patches move

left_more : (cs : List PatchColumns) (c : PatchColumns) → capped (sum_by (λ c. c.end) (cs ++ c ∷ [])) ≡ capped (capped (sum_by (λ c. c.end) cs) + c.end)
left_more cs c = grind (arith, sum_by-append)

-- those that end at a column or left of it, one more
pub left_yes : (start : ℕ) (cs : List PatchColumns) (c : PatchColumns) → c.end ≤ start → left_of start (cs ++ c ∷ []) ≡ left_of start cs ++ c ∷ []
left_yes start [] c low = grind (arith, nat_tests)
left_yes start (d ∷ cs) c low = grind (arith, common_steps, left_yes start cs c low)

pub left_no : (start : ℕ) (cs : List PatchColumns) (c : PatchColumns) → start < c.end → left_of start (cs ++ c ∷ []) ≡ left_of start cs
left_no start [] c high = grind (arith, nat_tests)
left_no start (d ∷ cs) c high = grind (arith, common_steps, left_no start cs c high)

-- one more text that ends at the start or left of it is one more of those left of it
pub left_next : (start : ℕ) (cs : List PatchColumns) (i : ℕ) (d : PatchColumns) → i < length cs → (get_or cs i d).end ≤ start
    → left_of start (take (i + 1) cs) ≡ left_of start (take i cs) ++ get_or cs i d ∷ []
left_next start cs i d within low =
    ap (left_of start) (take_more cs i d within) ∙ left_yes start (take i cs) (get_or cs i d) low

-- a text that ends right of the start adds none to those left of it
pub left_passed : (start : ℕ) (cs : List PatchColumns) (i : ℕ) (d : PatchColumns) → i < length cs → start < (get_or cs i d).end
    → left_of start (take (i + 1) cs) ≡ left_of start (take i cs)
left_passed start cs i d within high =
    ap (left_of start) (take_more cs i d within) ∙ left_no start (take i cs) (get_or cs i d) high

-- all, where none ends after it
pub left_all : (start : ℕ) (cs : List PatchColumns) → All (λ c. c.end ≤ start) cs → left_of start cs ≡ cs
left_all start [] all = refl
left_all start (c ∷ cs) all =
    let low : c.end ≤ start = all 0 c (omega arith) in
    let rest = left_all start cs (λ k d within. all (suc k) d (omega (arith, within))) in
    grind (arith, nat_tests)

-- ---- cells

written_twice : (row : List Cell) (at : ℕ) (xs : List Cell) (y : Cell)
    → written SPACE (written SPACE row at xs) (at + length xs) (y ∷ []) ≡ written SPACE row at (xs ++ y ∷ [])
written_twice row at xs y =
    same_lists _ _ (unfold written in grind (arith, places)) (λ k d h. unfold written in grind (arith, places))

put_push : (role : ElementStyle) (cs : List ℕ) (c at : ℕ) (row : List Cell)
    → written SPACE (put role cs at row) (at + length cs) (text_cells role (c ∷ [])) ≡ put role (cs ++ c ∷ []) at row
unfolding put
put_push role [] c at row = search rules
put_push role (d ∷ cs) c at row =
    let xs : List Cell = text_cells role (d ∷ cs) in
    let long : length (d ∷ cs) ≡ length xs = sym (length-text_cells role (d ∷ cs)) in
    let whole : xs ++ text_cells role (c ∷ []) ≡ text_cells role (d ∷ cs ++ c ∷ []) = sym (map-append (λ ch. unlinked_cell role ch) (d ∷ cs) (c ∷ [])) in
    cc (long, written_twice row at xs (unlinked_cell role c), whole)

replicate_push : (n c : ℕ) → replicate n c ++ c ∷ [] ≡ replicate (n + 1) c
replicate_push n c = same_lists _ _ (grind (arith, places)) (λ k d h. grind (arith, places))

-- so many marks are there
pub marks_begun : (mark at n : ℕ) (above : List (List Cell)) (last : List Cell) (now : List (List Cell)) → n ≡ 0 → now ≡ above ++ last ∷ []
    → now ≡ above ++ put Addition (replicate n mark) at last ∷ []
marks_begun mark at n above last now none is = grind (arith, put_none)

-- with one more cell written the marks are one more
pub marks_next : (mark at cell n m r : ℕ) (above : List (List Cell)) (last : List Cell) (now new : List (List Cell)) → r ≡ length above
    → cell ≡ at + n → m ≡ n + 1 → now ≡ above ++ put Addition (replicate n mark) at last ∷ []
    → new ≡ cells_written now r cell (text_cells Addition (mark ∷ [])) → new ≡ above ++ put Addition (replicate m mark) at last ∷ []
marks_next mark at cell n m r above last now new here cell_is m_is is writes =
    grind (arith, common_steps, length-replicate, cells_written_last, put_push, replicate_push)

-- once as many marks stand as the text has columns, the row has its marks
pub marks_done : (layout : SuggestionLayout) (mark start end n : ℕ) (above : List (List Cell)) (last : List Cell) (now : List (List Cell))
    → n ≡ min end (2 ^ 60) - start → now ≡ above ++ put Addition (replicate n mark) (layout.base.gutter + 3 + start) last ∷ []
    → now ≡ above ++ with_mark layout mark start end last ∷ []
unfolding with_mark
marks_done layout mark start end n above last now n_is is = grind arith

-- ---- the marks of some edits

-- so many are drawn: what the last row holds, and what those that are left make of it
pub record Marked (layout : SuggestionLayout) (s : Source) (earlier : List PatchColumns) (left : List Edit) (all : List Cell)
    (above now : List (List Cell)) : Type 0 where
  pub row : List Cell
  pub is : now ≡ above ++ row ∷ []
  pub whole : with_marks layout s earlier left row ≡ all

marks-cons : (layout : SuggestionLayout) (s : Source) (earlier : List PatchColumns) (e : Edit) (es : List Edit) (row : List Cell) → let c =
    edit_columns s e in with_marks layout s earlier (e ∷ es) row ≡ with_marks layout s (earlier ++ c ∷ [])
    es (with_mark layout (mark_glyph_of layout.base.decor s.text e) (mark_start earlier c e.text) (patch_mark_end earlier c e.text) row)
unfolding with_marks
marks-cons layout s earlier e es row = refl

marks-nil : (layout : SuggestionLayout) (s : Source) (earlier : List PatchColumns) (row : List Cell) → with_marks layout s earlier [] row ≡ row
unfolding with_marks
marks-nil layout s earlier row = refl

-- with one more edit marked the edits so far are marked
pub marked_next : (layout : SuggestionLayout) (s : Source) (earlier later : List PatchColumns) (e : Edit) (left es : List Edit) (all : List Cell)
    (above now new : List (List Cell)) (mark start end : ℕ) (so_far : Marked layout s earlier left all above now) → left ≡ e ∷ es
    → later ≡ earlier ++ edit_columns s e ∷ [] → mark ≡ mark_glyph_of layout.base.decor s.text e → start ≡ mark_start earlier (edit_columns s e) e.text
    → end ≡ patch_mark_end earlier (edit_columns s e) e.text → new ≡ above ++ with_mark layout mark start end so_far.row ∷ []
    → Marked layout s later es all above new
marked_next layout s earlier later e left es all above now new mark start end so_far first more mark_is start_is end_is adds =
    grind (arith, common_steps, marks-cons)

-- once no edit is left the row has all marks
pub marked_done : (layout : SuggestionLayout) (s : Source) (earlier : List PatchColumns) (left : List Edit) (all : List Cell) (above now : List (List Cell))
    → left ≡ [] → Marked layout s earlier left all above now → now ≡ above ++ all ∷ []
marked_done layout s earlier left all above now none drawn = grind (arith, marks-nil)
