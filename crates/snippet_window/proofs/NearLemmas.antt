-- The window of a line is found in a part of the line that is sure to hold it.
use Rattle.snippet_window.proofs.Common.{common_steps, ◌≡◌, ℕ, ◌+◌, ◌-◌, ◌<◌, ◌≤◌, inl, inr, Option, Some, None, unwrap_or, cond, nat_le, min, List, [], ◌∷◌}
use Rattle.snippet_window.proofs.Common.{◌++◌, length, take, drop, sym, ap, ◌∙◌, arith, take-append-add, drop-append-add, take-append-drop, take-append-le}
use Rattle.snippet_window.proofs.Common.{drop-append-le, append-nil, sum_by-append, cases_lt, flat_map-append, norm, shown, char_width, width_of, width_of-norm}
use Rattle.snippet_window.proofs.Common.{nat_tests, reaching, fitting, window_left, window_right, dropped_part, inner_part, covered_columns, uncovered_part}
use Rattle.snippet_window.proofs.Common.{covered_end, Margin, HoldsWindow, IsPartOf, falling_short, window_columns, reaching_last}
use Rattle.snippet_window.proofs.LineWindowLemmas.{width-cons, reaching-cons, reaching-none, fitting-cons, fitting-stop, reaching_last-reverse}

take-cons : (n c : ℕ) (cs : List ℕ) → take (n + 1) (c ∷ cs) ≡ c ∷ take n cs
take-cons n c cs = grind (arith, common_steps)

drop-cons : (n c : ℕ) (cs : List ℕ) → drop (n + 1) (c ∷ cs) ≡ drop n cs
drop-cons n c cs = grind (arith, common_steps)

reaching-zero : (n : ℕ) (cs : List ℕ) → n ≡ 0 → reaching n cs ≡ 0
reaching-zero n cs none = ap (λ k. reaching k cs) none ∙ reaching-none cs

-- characters that don't reach so many columns are among those that do
reaching_after : (n : ℕ) (a b : List ℕ) → (0 < length a → width_of a < n) → reaching n (a ++ b) ≡ length a + reaching (n - width_of a) b
reaching_after n [] b few = grind (arith, common_steps)
reaching_after n (c ∷ a) b few =
    let wide = width-cons c a in
    let less : width_of (c ∷ a) < n = few (omega arith) in
    let rest = reaching_after (n - char_width c) a b (λ _. omega (arith, less, wide)) in
    let same : (n - char_width c) - width_of a ≡ n - width_of (c ∷ a) = omega (arith, wide) in
    omega (arith, reaching-cons n c (a ++ b) (omega (arith, less)), rest, ap (λ k. reaching k b) same)

-- those that do are found without what stands after them
reaching_within : (n : ℕ) (a b : List ℕ) → n ≤ width_of a → reaching n (a ++ b) ≡ reaching n a
reaching_within n [] b enough = reaching-zero n b (omega (arith, enough))
reaching_within n (c ∷ a) b enough =
    elim (cases_lt 0 n) [
      | inl some ↦
          let rest = reaching_within (n - char_width c) a b (omega (arith, enough, width-cons c a)) in
          omega (arith, reaching-cons n c (a ++ b) some, reaching-cons n c a some, rest)
      | inr none ↦ reaching-zero n (c ∷ (a ++ b)) (omega arith) ∙ sym (reaching-zero n (c ∷ a) (omega arith))
    ]

reaching_length : (n : ℕ) (cs : List ℕ) → reaching n cs ≤ length cs
reaching_length n [] = omega arith
reaching_length n (c ∷ cs) =
    elim (cases_lt 0 n) [
      | inl some ↦ omega (arith, reaching-cons n c cs some, reaching_length (n - char_width c) cs)
      | inr none ↦ omega (arith, reaching-zero n (c ∷ cs) (omega arith))
    ]

-- unless they are all, their columns are enough
reaching_width : (n : ℕ) (cs : List ℕ) → 0 < length (drop (reaching n cs) cs) → n ≤ width_of (take (reaching n cs) cs)
reaching_width n [] more = absurd (omega (arith, more))
reaching_width n (c ∷ cs) more =
    elim (cases_lt 0 n) [
      | inl some ↦
          let is = reaching-cons n c cs some in
          let more_after : 0 < length (drop (reaching (n - char_width c) cs) cs) = omega
          (arith, more, ap (λ k. length (drop k (c ∷ cs))) is, ap length (drop-cons (reaching (n - char_width c) cs) c cs)) in
          let rest = reaching_width (n - char_width c) cs more_after in
          omega (
            arith,
            ap (λ k. width_of (take k (c ∷ cs))) is,
            ap width_of (take-cons (reaching (n - char_width c) cs) c cs),
            width-cons c
                (take (reaching (n - char_width c) cs) cs),
            rest,
          )
      | inr none ↦ omega arith
    ]

-- so are the characters that fit
fitting_within : (n : ℕ) (a b : List ℕ) → n < width_of a → fitting n (a ++ b) ≡ fitting n a
fitting_within n [] b enough = absurd (omega (arith, enough))
fitting_within n (c ∷ a) b enough =
    elim (cases_lt n (char_width c)) [
      | inl wide ↦ fitting-stop n c (a ++ b) wide ∙ sym (fitting-stop n c a wide)
      | inr fits ↦
          let rest = fitting_within (n - char_width c) a b (omega (arith, enough, width-cons c a)) in
          omega (arith, fitting-cons n c (a ++ b) fits, fitting-cons n c a fits, rest)
    ]

fitting_length : (n : ℕ) (cs : List ℕ) → fitting n cs ≤ length cs
fitting_length n [] = omega arith
fitting_length n (c ∷ cs) =
    elim (cases_lt n (char_width c)) [
      | inl wide ↦ omega (arith, fitting-stop n c cs wide)
      | inr fits ↦ omega (arith, fitting-cons n c cs fits, fitting_length (n - char_width c) cs)
    ]

-- the characters that fit are no wider than the columns
pub fitting_width : (n : ℕ) (cs : List ℕ) → width_of (take (fitting n cs) cs) ≤ n
fitting_width n [] = omega arith
fitting_width n (c ∷ cs) =
    elim (cases_lt n (char_width c)) [
      | inl wide ↦ omega (arith, ap (λ k. width_of (take k (c ∷ cs))) (fitting-stop n c cs wide))
      | inr fits ↦ omega (
        arith,
        ap (λ k. width_of (take k (c ∷ cs))) (fitting-cons n c cs fits),
        ap width_of
            (take-cons (fitting (n - char_width c) cs) c cs),
        width-cons c (take (fitting (n - char_width c) cs) cs),
        fitting_width (n - char_width c) cs,
      )
    ]

-- what falls short of some columns fits one column less
pub falling_short-some : (n : ℕ) (cs : List ℕ) → 0 < n → falling_short n cs ≡ fitting (n - 1) cs
falling_short-some n cs some = grind (arith, nat_tests, some)

falls_short : (n : ℕ) (cs : List ℕ) → 0 < length (take (falling_short n cs) cs) → width_of (take (falling_short n cs) cs) < n
falls_short n cs some =
    elim (cases_lt 0 n) [
      | inl more ↦
          omega (arith, ap (λ k. width_of (take k cs)) (falling_short-some n cs more), fitting_width (n - 1) cs, more)
      | inr none ↦
          let is : falling_short n cs ≡ 0 = grind (arith, nat_tests, none) in
          absurd (omega (arith, some, ap (λ k. length (take k cs)) is))
    ]

-- a list has an element, or is empty
by_after : (P : List ℕ → Type 0) (after : List ℕ) → P [] → (0 < length after → P after) → P after
by_after P [] none some = none
by_after P (c ∷ cs) none some = some (omega arith)

-- what stands before a part ends left of this column, and the part reaches it
pub near_reaching : (left skipped : ℕ) (before part after : List ℕ) → skipped ≡ width_of before → (0 < length before → skipped < left)
    → (0 < length after → left - skipped ≤ width_of part) → reaching left (before ++ (part ++ after)) ≡ length before + reaching (left - skipped) part
near_reaching left skipped before part after is starts reaches = grind (arith, common_steps, reaching_within, reaching_after)

pub near_dropped : (left skipped : ℕ) (before part after : List ℕ) → skipped ≡ width_of before → (0 < length before → skipped < left)
    → (0 < length after → left - skipped ≤ width_of part)
    → width_of (take (reaching left (before ++ (part ++ after))) (before ++ (part ++ after)))
    ≡ skipped + width_of (take (reaching (left - skipped) part) part)
near_dropped left skipped before part after is starts reaches =
    let all = before ++ (part ++ after) in
    let n = reaching (left - skipped) part in
    let front : take (reaching left all) all ≡ before ++ take n part = ap (λ k. take k all) (near_reaching left skipped before part after is starts reaches)
    ∙ take-append-add before (part ++ after) n ∙ ap (λ cs. before ++ cs) (take-append-le n part after (reaching_length (left - skipped) part)) in
    omega (arith, ap width_of front, sum_by-append char_width before (take n part), is)

pub near_rest : (left skipped : ℕ) (before part after : List ℕ) → skipped ≡ width_of before → (0 < length before → skipped < left)
    → (0 < length after → left - skipped ≤ width_of part)
    → drop (reaching left (before ++ (part ++ after))) (before ++ (part ++ after)) ≡ drop (reaching (left - skipped) part) part ++ after
near_rest left skipped before part after is starts reaches =
    let all = before ++ (part ++ after) in
    let n = reaching (left - skipped) part in
    ap (λ k. drop k all) (near_reaching left skipped before part after is starts reaches) ∙ drop-append-add before (part ++ after) n
    ∙ drop-append-le n part after (reaching_length (left - skipped) part)

-- the characters that fit after it are found in the part, if it is wider than they are
pub near_inner : (columns reached : ℕ) (part after rest : List ℕ) → rest ≡ drop reached part ++ after
    → (0 < length after → columns + width_of (take reached part) < width_of part)
    → take (fitting columns rest) rest ≡ take (fitting columns (drop reached part)) (drop reached part)
near_inner columns reached part after rest is enough =
    let near = drop reached part in
    let wide : width_of part ≡ width_of (take reached part) + width_of near = ap width_of (sym (take-append-drop reached part))
    ∙ sum_by-append char_width (take reached part) near in
    let found : take (fitting columns (near ++ after)) (near ++ after) ≡ take (fitting columns near) near =
    by_after (λ b. take (fitting columns (near ++ b)) (near ++ b) ≡ take (fitting columns near) near)
    after (ap (λ cs. take (fitting columns cs) cs) (append-nil near))
    (λ some. ap (λ k. take k (near ++ after)) (fitting_within columns near after (omega (arith, wide, enough some)))
    ∙ take-append-le (fitting columns near) near after (fitting_length columns near)) in
    ap (λ cs. take (fitting columns cs) cs) is ∙ found

-- the columns of the characters after some
pub width_left : (n skipped width : ℕ) (cs rest : List ℕ) → width ≡ width_of cs → skipped ≡ width_of (take n cs) → rest ≡ drop n cs
    → width - skipped ≡ width_of rest
width_left n skipped width cs rest is is_skipped is_rest =
    grind (arith, common_steps, sum_by-append char_width (take n cs) (drop n cs), is, is_skipped, is_rest)

-- the part that is made so
pub near_holds : (room left right skipped columns : ℕ) (cs rest part : List ℕ) → skipped ≡ width_of (take (falling_short (window_left left cs) cs) cs)
    → rest ≡ drop (falling_short (window_left left cs) cs) cs → columns ≡ (window_left left cs - skipped) + window_columns room left right cs + 4
    → part ≡ take (reaching columns rest) rest → HoldsWindow room left right cs skipped part
near_holds room left right skipped columns cs rest part is_skipped is_rest is_columns is_part =
    let n = falling_short (window_left left cs) cs in
    let m = reaching columns rest in
    let whole : take m rest ++ drop m rest ≡ rest = take-append-drop m rest in
    record {
      before = take n cs;
      after = drop m rest;
      text_is = sym (ap (λ xs. take n cs ++ (xs ++ drop m rest)) is_part ∙ ap (λ xs. take n cs ++ xs) (whole ∙ is_rest) ∙ take-append-drop n cs);
      skipped_is = is_skipped;
      starts = λ some. omega (arith, is_skipped, falls_short (window_left left cs) cs some);
      reaches = λ some. omega (arith, is_columns, ap width_of is_part, reaching_width columns rest some);
    }

-- the columns at which a line's window begins and ends, as a margin gives them
pub right_is : (room left right width result : ℕ) (line : List ℕ) → width ≡ width_of line → result ≡ cond (nat_le (width - left) room) width (min width right)
    → result ≡ window_right room left right line
right_is room left right width result line is value = grind (arith, common_steps)

-- what is dropped left of the window, and what stands in it
pub window_dropped : (room left right skipped l : ℕ) (line part : List ℕ) → HoldsWindow room left right line skipped part → l ≡ window_left left line
    → skipped + width_of (take (reaching (l - skipped) part) part) ≡ width_of (dropped_part left line)
window_dropped room left right skipped l line part holds is =
    grind (arith, common_steps, holds.text_is, near_dropped, holds.before, holds.after, holds.skipped_is, holds.starts, holds.reaches)

-- the inner part of the near text is that of the line
pub window_inner : (room left right skipped l n : ℕ) (line part rest inner : List ℕ) → HoldsWindow room left right line skipped part
    → l ≡ window_left left line → n ≡ window_columns room left right line → width_of (take (reaching (l - skipped) part) part) < (l - skipped) + 4
    → rest ≡ drop (reaching (l - skipped) part) part → inner ≡ take (fitting n rest) rest → inner ≡ inner_part room left right line
window_inner room left right skipped l n line part rest inner holds is_left is_columns near is_rest is_inner =
    let from = window_left left line in
    let columns = window_columns room left right line in
    let reached = reaching (from - skipped) part in
    let few : width_of (take reached part) < (from - skipped) + 4 = omega
    (arith, near, ap (λ k. width_of (take (reaching (k - skipped) part) part)) is_left, is_left) in
    let after = ap (λ xs. drop (reaching from xs) xs) holds.text_is
    ∙ near_rest from skipped holds.before part holds.after holds.skipped_is holds.starts (λ some. omega (arith, holds.reaches some)) in
    let found = near_inner columns reached part holds.after (drop (reaching from line) line) after (λ some. omega (arith, holds.reaches some, few)) in
    let here = is_rest ∙ ap (λ k. drop (reaching (k - skipped) part) part) is_left in
    is_inner ∙ ap (λ k. take (fitting k rest) rest) is_columns ∙ ap (λ xs. take (fitting columns xs) xs) here ∙ sym found

-- so what is found between the bounds of a margin is the inner part of a line
pub inner_found : (margin : Margin) (skipped width l r n : ℕ) (line part rest inner : List ℕ) → IsPartOf margin line width skipped part
    → l ≡ min margin.computed_left width
    → r ≡ cond (nat_le (width - margin.computed_left) margin.term_width) width (min width margin.computed_right) → n ≡ r - l
    → width_of (take (reaching (l - skipped) part) part) < (l - skipped) + 4 → rest ≡ drop (reaching (l - skipped) part) part
    → inner ≡ take (fitting n rest) rest → inner ≡ inner_part margin.term_width margin.computed_left margin.computed_right line
inner_found margin skipped width l r n line part rest inner is is_left is_right is_columns near is_rest is_inner =
    let room = margin.term_width in
    let left : l ≡ window_left margin.computed_left line = is_left ∙ ap (min margin.computed_left) is.0 in
    let right = right_is room margin.computed_left margin.computed_right width r line is.0 is_right in
    window_inner room margin.computed_left margin.computed_right skipped l n line part rest inner is.1 left (omega (arith, is_columns, left, right))
    near is_rest is_inner

-- the cell of the placeholder on the right
pub end_some : (room left right end : ℕ) (start : Option ℕ) (placeholder line inner shown : List ℕ) → inner ≡ inner_part room left right line
    → window_right room left right line < width_of line → start ≡ covered_columns left placeholder inner
    → shown ≡ uncovered_part left placeholder inner → end ≡ (unwrap_or start 0 + length shown) - reaching_last (width_of placeholder) inner
    → Some end ≡ covered_end room left right placeholder line
end_some room left right end start placeholder line inner shown is_inner cut is_start is_shown is_end =
    grind (arith, common_steps, nat_tests, reaching_last-reverse)

-- a line that ends within the window isn't covered at its end
pub end_none : (room left right : ℕ) (placeholder line : List ℕ) → width_of line ≤ window_right room left right line
    → None ≡ covered_end room left right placeholder line
end_none room left right placeholder line uncut = grind (arith, common_steps, nat_tests)

-- normalising a line normalises the part of it that holds the window
norm-append : (a b : List ℕ) → norm (a ++ b) ≡ norm a ++ norm b
unfolding norm
norm-append a b = flat_map-append shown a b

norm_some : (cs : List ℕ) → 0 < length (norm cs) → 0 < length cs
unfolding norm
norm_some [] some = absurd (omega (arith, some))
norm_some (c ∷ cs) some = omega arith

same_columns : (room left right : ℕ) (line : List ℕ) → window_columns room left right (norm line) ≡ window_columns room left right line
same_columns room left right line =
    ap (λ w. cond (nat_le (w - min left w) room) w (min w right) - min left w) (width_of-norm line)

holds_norm : (room left right skipped : ℕ) (line part : List ℕ) → HoldsWindow room left right line skipped part
    → HoldsWindow room left right (norm line) skipped (norm part)
holds_norm room left right skipped line part holds =
    let from : window_left left (norm line) ≡ window_left left line = ap (min left) (width_of-norm line) in
    record {
      before = norm holds.before;
      after = norm holds.after;
      text_is = ap norm holds.text_is ∙ norm-append holds.before (part ++ holds.after) ∙ ap (λ cs. norm holds.before ++ cs) (norm-append part holds.after);
      skipped_is = holds.skipped_is ∙ sym (width_of-norm holds.before);
      starts = λ some. omega (arith, holds.starts (norm_some holds.before some), from);
      reaches = λ some. omega (arith, holds.reaches (norm_some holds.after some), from, same_columns room left right line, width_of-norm part);
    }

-- the normalised near text is the part of the line that its window needs
pub part_of_norm : (margin : Margin) (width skipped : ℕ) (line near part : List ℕ) → width ≡ width_of line → part ≡ norm near
    → HoldsWindow margin.term_width margin.computed_left margin.computed_right line skipped near → IsPartOf margin (norm line) width skipped part
part_of_norm margin width skipped line near part is_width is_part holds =
    grind (arith, common_steps, holds_norm, margin.term_width, margin.computed_left, margin.computed_right, width_of-norm)
