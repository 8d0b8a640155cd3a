-- A row whose cells get other roles shows what it showed.
use Rattle.std.proofs.Common.{chars}
use Rattle.snippet_suggest.proofs.Common.{norm, shown_number, capped_sum, ◌≡◌, ℕ, ◌+◌, ◌<◌, true, false, Option, None, List, ◌∷◌, [], length, take, drop, map}
use Rattle.snippet_suggest.proofs.Common.{get_or, refl, sym, ap, ◌∙◌, arith, subst, ◌++◌, ◌-◌, max, drop-map, length-map, map-append, places, same_lists}
use Rattle.snippet_suggest.proofs.Common.{take-map, is_listed, DecorStyle, is_ascii_alphanumeric, Cell, SPACE, ElementStyle, changed_within, restyled, row_text}
use Rattle.snippet_suggest.proofs.Common.{IsFree, LineNumbers, SuggestionLayout, Begins, Empty, Ends, Offers, Removes, Skips, SuggestionRow, IsBareRow}
use Rattle.snippet_suggest.proofs.Common.{IsRemovedRow, char_of, removed_sign_of, IsMarkOrSpace, IsSign, begin_glyph, beside_gutter, end_glyph, gap_left}
use Rattle.snippet_suggest.proofs.Common.{is_stroke, IsLineRow, IsEdgeRow, Shows}
use Rattle.std.proofs.Math.ListN.{get_or-map}
use Rattle.snippet_suggest.proofs.LeftOver.{IsBeforeSign, IsLeftOver}

-- the character and the link of a cell, whatever its role
abbrev pub without_role : Cell → ℕ × Option (List ℕ)
without_role cell = (cell.ch, cell.link)

-- a cell in another role
restyled_same : (role : ElementStyle) (cells : List Cell) → map without_role (map (restyled role true) cells) ≡ map without_role cells
restyled_same role [] = refl
restyled_same role (cell ∷ cells) = ap (λ (t : List (ℕ × Option (List ℕ))). without_role cell ∷ t) (restyled_same role cells)

-- the parts of a list
parts_whole : (xs : List Cell) (start end : ℕ) → take start xs ++ take (end - start) (drop start xs) ++ drop (max start end) xs ≡ xs
parts_whole xs start end = same_lists _ _ (grind (arith, places)) (λ k d h. grind (arith, places))

-- restyled cells are the same but for their role
pub changed_same : (role : ElementStyle) (xs : List Cell) (start end : ℕ)
    → map without_role (changed_within (restyled role true) start end xs) ≡ map without_role xs
unfolding changed_within
changed_same role xs start end =
    let a = take start xs in
    let b = take (end - start) (drop start xs) in
    let c = drop (max start end) xs in
    let w = without_role in
    map-append w (a ++ map (restyled role true) b) c ∙ ap (λ t. t ++ map w c)
    (map-append w a (map (restyled role true) b) ∙ ap (λ t. map w a ++ t) (restyled_same role b) ∙ sym (map-append w a b)) ∙ sym (map-append w (a ++ b) c)
    ∙ ap (map w) (parts_whole xs start end)

-- two rows hold the same characters and links
abbrev pub AreSame : List Cell → List Cell → Type 0
AreSame xs ys = map without_role xs ≡ map without_role ys

-- so does each cell
same_cell : (xs ys : List Cell) (c : ℕ) → AreSame xs ys → without_role (get_or xs c SPACE) ≡ without_role (get_or ys c SPACE)
same_cell xs ys c same =
    sym (get_or-map without_role xs c SPACE) ∙ ap (λ zs. get_or zs c (without_role SPACE)) same ∙ get_or-map without_role ys c SPACE

-- and each character is the other's
pub same_ch : (c : ℕ) (xs ys : List Cell) → AreSame xs ys → (get_or xs c SPACE).ch ≡ (get_or ys c SPACE).ch
same_ch c xs ys same = ap (λ (p : ℕ × Option (List ℕ)). p.0) (same_cell xs ys c same)

-- what holds of a cell's character holds of the other's
pub same_char : (P : ℕ → Type 0) (xs ys : List Cell) (c : ℕ) → AreSame xs ys → P (get_or ys c SPACE).ch → P (get_or xs c SPACE).ch
same_char P xs ys c same = grind (arith, same_cell)

same_length : (xs ys : List Cell) → AreSame xs ys → length xs ≡ length ys
same_length xs ys same = sym (length-map xs without_role) ∙ ap length same ∙ length-map ys without_role

-- the texts of both are one
same_text : (xs ys : List Cell) → AreSame xs ys → row_text xs ≡ row_text ys
same_text xs ys same = sym (fronts xs) ∙ ap (map front) same ∙ fronts ys
  where
    front : ℕ × Option (List ℕ) → ℕ
    front p = p.0

    fronts : (zs : List Cell) → map front (map without_role zs) ≡ row_text zs
    fronts [] = refl
    fronts (z ∷ zs) = ap (λ t. z.ch ∷ t) (fronts zs)

same_drop : (n : ℕ) (xs ys : List Cell) → AreSame xs ys → AreSame (drop n xs) (drop n ys)
same_drop n xs ys same = sym (drop-map without_role n xs) ∙ ap (drop n) same ∙ drop-map without_role n ys

same_take : (n : ℕ) (xs ys : List Cell) → AreSame xs ys → AreSame (take n xs) (take n ys)
same_take n xs ys same = sym (take-map without_role n xs) ∙ ap (take n) same ∙ take-map without_role n ys

same_free : (xs ys : List Cell) → AreSame xs ys → IsFree ys → IsFree xs
same_free xs ys same free k d within =
    let P : ℕ × Option (List ℕ) → Type 0 = λ p. (is_listed p.0 ≡ false) × (p.1 ≡ None) in
    let there : k < length ys = omega (arith, same_length xs ys same, within) in
    let seen : without_role (get_or ys k d) ≡ without_role (get_or xs k d) = sym (get_or-map without_role ys k d)
    ∙ ap (λ zs. get_or zs k (without_role d)) (sym same) ∙ get_or-map without_role xs k d in
    subst P seen (free k d there)

-- each kind of row stays what it is
same_bare : (decor : DecorStyle) (gutter : ℕ) (now last : List Cell) → AreSame now last → IsBareRow decor gutter last → IsBareRow decor gutter now
same_bare decor gutter now last same is =
    record {
      strokes = λ c left. same_char (λ ch. is_stroke decor ch ≡ true) now last c same (is.strokes c left);
      marks = λ c right. same_char (IsMarkOrSpace decor) now last c same (is.marks c right);
      free = same_free now last same is.free;
    }

same_stroke : (decor : DecorStyle) (gutter : ℕ) (left : List ℕ) (now last : List Cell) → AreSame now last → IsEdgeRow decor gutter left last
    → IsEdgeRow decor gutter left now
same_stroke decor gutter left now last same is =
    record {
      bare = same_bare decor gutter now last same is.bare;
      left_is = λ c inside. same_char (λ ch. ch ≡ get_or left c 32) now last c same (is.left_is c inside);
    }

pub same_removed : (numbers : LineNumbers) (decor : DecorStyle) (gutter : ℕ) (number text : List ℕ) (now last : List Cell) → AreSame now last
    → IsRemovedRow numbers decor gutter number text last → IsRemovedRow numbers decor gutter number text now
same_removed numbers decor gutter number text now last same is =
    let n : ℕ = length text in
    record {
      numbered = λ short. same_text (take (length number) now) (take (length number) last) (same_take (length number) now last same) ∙ is.numbered short;
      before = λ c left. same_char (IsBeforeSign numbers decor) now last c same (is.before c left);
      minus = same_char (λ ch. ch ≡ char_of (removed_sign_of decor)) now last (gutter + 1) same is.minus;
      space = same_char (λ ch. ch ≡ 32) now last (gutter + 2) same is.space;
      begins = same_text (take n (drop (gutter + 3) now)) (take n (drop (gutter + 3) last))
          (same_take n (drop (gutter + 3) now) (drop (gutter + 3) last) (same_drop (gutter + 3) now last same)) ∙ is.begins;
      after = λ c right. same_char (IsLeftOver decor) now last c same (is.after c right);
      free = same_free now last same is.free;
    }

pub same_line : (decor : DecorStyle) (gutter : ℕ) (number text : List ℕ) (now last : List Cell) → AreSame now last → IsLineRow decor gutter number text last
    → IsLineRow decor gutter number text now
same_line decor gutter number text now last same is =
    record {
      numbered = same_text (take (length number) now) (take (length number) last) (same_take (length number) now last same) ∙ is.numbered;
      beside = λ c from to. same_char (λ ch. is_ascii_alphanumeric ch ≡ false) now last c same (is.beside c from to);
      sign = same_char (IsSign decor) now last (gutter + 1) same is.sign;
      space = same_char (λ ch. ch ≡ 32) now last (gutter + 2) same is.space;
      holds = same_text (drop (gutter + 3) now) (drop (gutter + 3) last) (same_drop (gutter + 3) now last same) ∙ is.holds;
      free = same_free now last same is.free;
    }

pub same_shows : (layout : SuggestionLayout) (first : ℕ) (lines : List (List ℕ)) (shown : SuggestionRow) (now last : List Cell) → AreSame now last
    → Shows layout first lines shown last → Shows layout first lines shown now
same_shows layout first lines (Begins start) now last same is =
    same_stroke layout.base.decor layout.base.gutter (beside_gutter layout.base.gutter (begin_glyph layout.base.decor start)) now last same is
same_shows layout first lines (Offers k) now last same is =
    same_line layout.base.decor layout.base.gutter (shown_number layout.numbers layout.base.gutter (capped_sum first k))
    (norm (chars (get_or lines k []))) now last same is
same_shows layout first lines Skips now last same is =
    same_stroke layout.base.decor layout.base.gutter (gap_left layout.base.decor layout.base.gutter) now last same is
same_shows layout first lines (Removes i number text) now last same is =
    same_removed layout.numbers layout.base.decor layout.base.gutter (shown_number layout.numbers layout.base.gutter number)
    (norm (chars text)) now last same is
same_shows layout first lines Empty now last same is = same_stroke layout.base.decor layout.base.gutter [] now last same is
same_shows layout first lines (Ends follows) now last same is =
    same_stroke layout.base.decor layout.base.gutter (beside_gutter layout.base.gutter (end_glyph layout.base.decor follows)) now last same is
