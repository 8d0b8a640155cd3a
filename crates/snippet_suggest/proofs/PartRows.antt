-- A line that is put into a row part by part, where some of it has a role.
use Rattle.snippet_suggest.proofs.Common.{◌≡◌, ℕ, zero, suc, ◌+◌, ◌-◌, ◌≤◌, ◌<◌, ◌==◌, true, List, [], ◌∷◌, ◌++◌}
use Rattle.snippet_suggest.proofs.Common.{length, map, take, drop, get_or, refl, sym, All, ap, ◌∙◌, arith, count_by, nat_tests, append-nil, get_or-drop}
use Rattle.snippet_suggest.proofs.Common.{get_or-take, length-append, length-drop, length-map, length-take, places, same_lists, take_all, drop_more, take_more}
use Rattle.snippet_suggest.proofs.Common.{IsCharBoundary, max_usize, ElementStyle, NoStyle, Cell, SPACE, text_cells, unlinked_cell, written, length-text_cells}
use Rattle.snippet_suggest.proofs.Common.{length-written, text_cells-append, norm, IsPlain, norm-unlisted, chars-plain, list_any-plain, changed_within}
use Rattle.snippet_suggest.proofs.Common.{restyled, SubstitutionHighlight, put, stretch_cell, with_stretches, AreInOrder, common_steps}
use Rattle.std.proofs.Common.{chars}
use Rattle.snippet_suggest.proofs.StretchRows.{empty_stretch, with_append, with_none}

-- ---- lists

-- a list that is written in two parts
written_append : (row xs ys : List Cell) (at : ℕ) → written SPACE row at (xs ++ ys) ≡ written SPACE (written SPACE row at xs) (at + length xs) ys
written_append row xs ys at =
    same_lists _ _ (unfold written in grind (arith, places)) (λ k d h. unfold written in grind (arith, places))

front_of : (xs ys zs : List Cell) (n : ℕ) → n ≡ length xs → take n (xs ++ ys ++ zs) ≡ xs
front_of xs ys zs n is = same_lists _ _ (grind (arith, places)) (λ k d h. grind (arith, places))

middle_of : (xs ys zs : List Cell) (n m : ℕ) → n ≡ length xs → m ≡ length ys → take m (drop n (xs ++ ys ++ zs)) ≡ ys
middle_of xs ys zs n m is count = same_lists _ _ (grind (arith, places)) (λ k d h. grind (arith, places))

back_of : (xs ys zs : List Cell) (n : ℕ) → n ≡ length xs + length ys → drop n (xs ++ ys ++ zs) ≡ zs
back_of xs ys zs n is = same_lists _ _ (grind (arith, places)) (λ k d h. grind (arith, places))

-- the middle part of a list is changed
changed_middle : (f : Cell → Cell) (xs ys zs : List Cell) (n m : ℕ) → n ≡ length xs → m ≡ length xs + length ys
    → changed_within f n m (xs ++ ys ++ zs) ≡ xs ++ map f ys ++ zs
unfolding changed_within
changed_middle f xs ys zs n m from to = grind (arith, common_steps, front_of, back_of)

-- what is written is changed
changed_written : (f : Cell → Cell) (row cells : List Cell) (at : ℕ)
    → changed_within f at (at + length cells) (written SPACE row at cells) ≡ written SPACE row at (map f cells)
unfolding written
changed_written f row cells at = grind (arith, common_steps, changed_middle, length-map)

-- a change before what is written
changed_before : (f : Cell → Cell) (front middle back cells : List Cell) (n m : ℕ) → n ≡ length front → m ≡ length front + length middle
    → changed_within f n m (written SPACE (front ++ middle ++ back) m cells) ≡ written SPACE (front ++ map f middle ++ back) m cells
changed_before f front middle back cells n m from to =
    let after = drop (length cells) back in
    let was : written SPACE (front ++ middle ++ back) m cells ≡ front ++ middle ++ (cells ++ after) =
    same_lists _ _ (unfold written in grind (arith, places)) (λ k d h. unfold written in grind (arith, places)) in
    let now : (mid : List Cell) → length mid ≡ length middle → written SPACE (front ++ mid ++ back) m cells ≡ front ++ mid ++ (cells ++ after) = λ mid same.
    same_lists _ _ (unfold written in grind (arith, places)) (λ k d h. unfold written in grind (arith, places)) in
    ap (changed_within f n m) was ∙ changed_middle f front middle (cells ++ after) n m from to ∙ sym (now (map f middle) (length-map middle f))

-- ---- texts

-- unstyled cells take a role
restyled_text : (role : ElementStyle) (cs : List ℕ) → map (restyled role true) (text_cells NoStyle cs) ≡ text_cells role cs
restyled_text role [] = refl
restyled_text role (c ∷ cs) = ap (λ (t : List Cell). unlinked_cell role c ∷ t) (restyled_text role cs)

-- a text that is put in two parts
put_append : (role : ElementStyle) (xs ys : List ℕ) (at : ℕ) (row : List Cell) → put role (xs ++ ys) at row ≡ put role ys (at + length xs) (put role xs at row)
unfolding put
put_append role [] ys at row = let same : at ≡ at + 0 = omega arith in ap (λ n. put role ys n row) same
put_append role (x ∷ xs) [] at row = ap (λ t. put role t at row) (append-nil (x ∷ xs))
put_append role (x ∷ xs) (y ∷ ys) at row =
    let front = text_cells role (x ∷ xs) in
    let back = text_cells role (y ∷ ys) in cc (text_cells-append role (x ∷ xs) (y ∷ ys), written_append row front back at, length-text_cells role (x ∷ xs))

-- a text that takes a role was put in that role
put_restyled : (role : ElementStyle) (cs : List ℕ) (at : ℕ) (row : List Cell)
    → changed_within (restyled role true) at (at + length cs) (put NoStyle cs at row) ≡ put role cs at row
unfolding put
put_restyled role [] at row = grind (arith, empty_stretch)
put_restyled role (c ∷ cs) at row =
    let f = restyled role true in
    let cells = text_cells NoStyle (c ∷ cs) in cc (length-text_cells NoStyle (c ∷ cs), changed_written f row cells at, restyled_text role (c ∷ cs))

-- what stands before a text takes a role before that is put or after
put_after : (f : Cell → Cell) (role : ElementStyle) (cs : List ℕ) (n m : ℕ) (row : List Cell) → n ≤ m → m ≤ length row
    → changed_within f n m (put role cs m row) ≡ put role cs m (changed_within f n m row)
unfolding put
put_after f role [] n m row low within = refl
put_after f role (c ∷ cs) n m row low within =
    let cells = text_cells role (c ∷ cs) in
    let front = take n row in
    let middle = take (m - n) (drop n row) in
    let back = drop m row in
    let is : row ≡ front ++ middle ++ back = same_lists _ _ (grind (arith, places)) (λ k d h. grind (arith, places)) in
    let from : n ≡ length front = omega (arith, length-take n row) in
    let to : m ≡ length front + length middle = omega (arith, from, length-take (m - n) (drop n row), length-drop n row) in
    cc (is, changed_before f front middle back cells n m from to, changed_middle f front middle back n m from to)

put_long : (role : ElementStyle) (c : ℕ) (cs : List ℕ) (at : ℕ) (row : List Cell) → at + length (c ∷ cs) ≤ length (put role (c ∷ cs) at row)
unfolding put
put_long role c cs at row = omega (arith, length-written SPACE row at (text_cells role (c ∷ cs)), length-text_cells role (c ∷ cs))

put_nothing : (role : ElementStyle) (at : ℕ) (row : List Cell) → put role [] at row ≡ row
unfolding put
put_nothing role at row = refl

-- three texts that are put one after another, the middle one in a role: as they are put at once, and then it takes the role
parts_put : (role : ElementStyle) (pre mid post : List ℕ) (at s e : ℕ) (row : List Cell) → s ≡ at + length pre → e ≡ s + length mid
    → changed_within (restyled role true) s e (put NoStyle (pre ++ mid ++ post) at row) ≡ put NoStyle post e (put role mid s (put NoStyle pre at row))
parts_put role pre mid post at s e row from to = grind (arith, common_steps, length-append, put_append, by_middle)
  where
    by_middle : (mid : List ℕ) (start : List Cell) → e ≡ s + length mid
        → changed_within (restyled role true) s e (put NoStyle post e (put NoStyle mid s start)) ≡ put NoStyle post e (put role mid s start)
    by_middle [] start to = grind (arith, common_steps, empty_stretch, put_nothing)
    by_middle (c ∷ cs) start to = grind (arith, common_steps, put_after, put_long, put_restyled)

-- ---- printable ASCII

-- it holds no tab
no_tabs : (cs : List ℕ) → All IsPlain cs → (k : ℕ) → count_by (λ c. c == 9) (take k cs) ≡ 0
no_tabs [] all zero = refl
no_tabs [] all (suc k) = refl
no_tabs (c ∷ cs) all zero = refl
no_tabs (c ∷ cs) all (suc k) =
    let low : 32 ≤ c = (all 0 c (omega arith)).0 in
    let rest : count_by (λ c. c == 9) (take k cs) ≡ 0 = no_tabs cs (λ j d h. all (suc j) d (omega (arith, h))) k in
    grind (arith, nat_tests, low, rest)

-- so that each character before a cell takes one
plain_cell : (g : ℕ) (line : List ℕ) (k : ℕ) → All IsPlain line → g + 3 + k ≤ max_usize → stretch_cell g line k ≡ g + 3 + k
plain_cell g line k all few = omega (arith, few, no_tabs line all k)

-- each of its bytes is a character
pub plain_border : (line : List ℕ) (k : ℕ) → All IsPlain line → k ≤ length line → IsCharBoundary line k
plain_border line k all within = (within, λ inside high. let low : get_or line k 0 < 127 = (all k 0 inside).1 in absurd (omega (arith, low, high)))

pub plain_part : (line : List ℕ) (from count : ℕ) → All IsPlain line → chars (take count (drop from line)) ≡ take count (drop from line)
plain_part line from count all = grind (arith, common_steps, chars-plain, length-take, length-drop, get_or-take, get_or-drop)

pub plain_rest : (line : List ℕ) (from : ℕ) → All IsPlain line → chars (drop from line) ≡ drop from line
plain_rest line from all = grind (arith, chars-plain, get_or-drop, length-drop)

norm-plain_line : (line : List ℕ) → All IsPlain line → norm (chars line) ≡ line
norm-plain_line line all = norm-unlisted (chars line) (list_any-plain line all) ∙ chars-plain line all

-- ---- stretches in order

-- they end in the line
in_order_within : (end at : ℕ) (ss : List SubstitutionHighlight) → AreInOrder end at ss → at ≤ end
in_order_within end at [] order = order
in_order_within end at (s ∷ ss) order = omega (arith, order.0, order.1, in_order_within end s.end ss order.2)

-- the next of some, and those after it
pub record NextInOrder (end at : ℕ) (s : SubstitutionHighlight) (ss : List SubstitutionHighlight) : Type 0 where
  pub low : at ≤ s.start
  pub high : s.start ≤ s.end
  pub inside : s.end ≤ end
  pub rest : AreInOrder end s.end ss

pub next_in_order : (end at : ℕ) (ss : List SubstitutionHighlight) (i : ℕ) (d : SubstitutionHighlight) → i < length ss → AreInOrder end at (drop i ss)
    → NextInOrder end at (get_or ss i d) (drop (i + 1) ss)
next_in_order end at ss i d within order = grind (arith, drop_more, in_order_within)

-- ---- the line

-- some of a line's stretches were put into its row, up to a character: with the rest of the line after them the row is that of the
-- line, with these stretches of it in their role
pub record ArePut (role : ElementStyle) (g : ℕ) (line : List ℕ) (ss : List SubstitutionHighlight) (at : ℕ) (above : List (List Cell)) (last : List Cell)
    (rows : List (List Cell)) : Type 0 where
  pub row : List Cell
  pub is : rows ≡ above ++ row ∷ []
  pub left : put NoStyle (drop at line) (g + 3 + at) row ≡ with_stretches role g line ss (put NoStyle line (g + 3) last)

-- none were
pub put_none_yet : (role : ElementStyle) (g : ℕ) (line : List ℕ) (ss : List SubstitutionHighlight) (above : List (List Cell)) (last : List Cell)
    (rows : List (List Cell)) → rows ≡ above ++ last ∷ [] → ArePut role g line (take 0 ss) 0 above last rows
put_none_yet role g line ss above last rows is = grind (arith, common_steps, with_none)

-- one more was
pub put_one_more : (role : ElementStyle) (g : ℕ) (line : List ℕ) (ss : List SubstitutionHighlight) (i : ℕ) (d : SubstitutionHighlight) (at : ℕ)
    (above : List (List Cell)) (last : List Cell) (old rows : List (List Cell)) (p : ArePut role g line (take i ss) at above last old) → i < length ss
    → All IsPlain line → g + 3 + length line ≤ max_usize → at ≤ (get_or ss i d).start → (get_or ss i d).start ≤ (get_or ss i d).end
    → (get_or ss i d).end ≤ length line
    → rows ≡ above ++ put role (take ((get_or ss i d).end - (get_or ss i d).start) (drop (get_or ss i d).start line)) (g + 3 + (get_or ss i d).start)
    (put NoStyle (take ((get_or ss i d).start - at) (drop at line)) (g + 3 + at) p.row) ∷ []
    → ArePut role g line (take (i + 1) ss) (get_or ss i d).end above last rows
put_one_more role g line ss i d at above last old rows p within all few low high inside is =
    let s : SubstitutionHighlight = get_or ss i d in
    let pre = take (s.start - at) (drop at line) in
    let mid = take (s.end - s.start) (drop s.start line) in
    let post = drop s.end line in
    let f = restyled role true in
    let from : ℕ = g + 3 + s.start in
    let to : ℕ = g + 3 + s.end in
    let first : from ≡ g + 3 + at + length pre = omega (arith, length-take (s.start - at) (drop at line), length-drop at line, low, high, inside) in
    let second : to ≡ from + length mid = omega (arith, length-take (s.end - s.start) (drop s.start line), length-drop s.start line, high, inside) in
    let whole : pre ++ mid ++ post ≡ drop at line = same_lists _ _ (grind (arith, places)) (λ k d h. grind (arith, places)) in
    let so_far = with_stretches role g line (take i ss) (put NoStyle line (g + 3) last) in
    record {
      row = put role mid from (put NoStyle pre (g + 3 + at) p.row);
      is = is;
      left = sym (parts_put role pre mid post (g + 3 + at) from to p.row first second)
          ∙ ap (λ t. changed_within f from to (put NoStyle t (g + 3 + at) p.row)) whole ∙ ap (changed_within f from to) p.left
          ∙ ap (λ n. changed_within f n to so_far) (sym (plain_cell g line s.start all (omega (arith, few, high, inside))))
          ∙ ap (λ n. changed_within f (stretch_cell g line s.start) n so_far) (sym (plain_cell g line s.end all (omega (arith, few, inside))))
          ∙ sym (with_append role g line (take i ss) s (put NoStyle line (g + 3) last))
          ∙ ap (λ t. with_stretches role g line t (put NoStyle line (g + 3) last)) (sym (take_more ss i d within));
    }

-- all were, and the rest after them
pub put_all : (role : ElementStyle) (g : ℕ) (line : List ℕ) (ss : List SubstitutionHighlight) (i at : ℕ) (above : List (List Cell)) (last : List Cell)
    (old rows : List (List Cell)) (p : ArePut role g line (take i ss) at above last old) → length ss ≤ i → All IsPlain line
    → rows ≡ above ++ put NoStyle (drop at line) (g + 3 + at) p.row ∷ []
    → rows ≡ above ++ with_stretches role g (chars line) ss (put NoStyle (norm (chars line)) (g + 3) last) ∷ []
put_all role g line ss i at above last old rows p done all is = grind (arith, take_all, norm-plain_line, chars-plain)
