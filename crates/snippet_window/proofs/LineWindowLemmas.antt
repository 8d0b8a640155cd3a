-- How the window of a line is found, character by character.
use Rattle.snippet_window.proofs.Common.{common_steps, ◌≡◌, ◌^◌, Option, Some, None, IfSome, unwrap_or, ℕ, ◌+◌, ◌-◌, ◌<◌, ◌≤◌, cond, leb, true, false, List, []}
use Rattle.snippet_window.proofs.Common.{◌∷◌, ◌++◌, length, take, drop, refl, sym, ap, ◌∙◌, arith, encode_utf8, IsUtf8, zero, suc, Bool, reverse, encodes-chars}
use Rattle.snippet_window.proofs.Common.{drop_all, length-drop, length-take, take_all, same_lists, sum_by-cons, fold_push, le-leb, nat_tests, char_width}
use Rattle.snippet_window.proofs.Common.{width_of, reaching, fitting, uncovered_part, reaching_last, length-chars_le, bytes_of}
use Rattle.std.proofs.Common.{chars}
pub use Rattle.snippet_style.proofs.CutLemmas.{text_parts, cut_boundary, cut_front, cut_back, bytes-push, IsNext, take-next, drop-next, bytes_within}
pub use Rattle.snippet_style.proofs.CutLemmas.{bytes_next}

-- one more character
pub width-cons : (c : ℕ) (cs : List ℕ) → width_of (c ∷ cs) ≡ char_width c + width_of cs
width-cons c cs = sum_by-cons char_width c cs

width-push : (cs : List ℕ) (c : ℕ) → width_of (cs ++ c ∷ []) ≡ width_of cs + char_width c
width-push cs c = fold_push (λ a x. a + char_width x) 0 cs c

-- the characters so far don't reach so many columns: what is left is reached after them
pub record ReachesSoFar (columns : ℕ) (cs : List ℕ) (n at width : ℕ) : Type 0 where
  pub bytes : at ≡ bytes_of (take n cs)
  pub width_is : width ≡ width_of (take n cs)
  pub rest : reaching columns cs ≡ n + reaching (columns - width) (drop n cs)

-- a first character more is needed to reach a column past 0
pub reaching-cons : (k c : ℕ) (cs : List ℕ) → 0 < k → reaching k (c ∷ cs) ≡ reaching (k - char_width c) cs + 1
reaching-cons k c cs some = grind (arith, nat_tests, some)

-- no character is needed to reach column 0
pub reaching-none : (cs : List ℕ) → reaching 0 cs ≡ 0
reaching-none [] = refl
reaching-none (c ∷ cs) = refl

-- before any character nothing is reached
pub reaches_start : (columns : ℕ) (cs : List ℕ) → ReachesSoFar columns cs 0 0 0
reaches_start columns cs = grind (arith, common_steps)

-- a character is passed where the column isn't reached yet
pub reaches-next : (columns : ℕ) (cs : List ℕ) (n m at width c len w : ℕ) → IsNext cs n c → m ≡ n + 1 → width < columns → len ≡ length (encode_utf8 c)
    → w ≡ char_width c → ReachesSoFar columns cs n at width → ReachesSoFar columns cs m (at + len) (width + w)
reaches-next columns cs n m at width c len w next one less is_len is_width so_far =
    grind (arith, common_steps, take-next, drop-next, reaching-cons, so_far.bytes, bytes-push, so_far.width_is, width-push, so_far.rest)

-- they are enough, or there are no more
pub reaches_enough : (columns : ℕ) (cs : List ℕ) (n at width : ℕ) → columns ≤ width → ReachesSoFar columns cs n at width → reaching columns cs ≡ n
reaches_enough columns cs n at width enough so_far = grind (arith, common_steps, reaching-none, so_far.rest)

-- a text that ends before the column is passed whole
pub reaches_all : (columns : ℕ) (cs : List ℕ) (n at width : ℕ) → n ≡ length cs → ReachesSoFar columns cs n at width → reaching columns cs ≡ n
reaches_all columns cs n at width all so_far = grind (arith, common_steps, drop_all, so_far.rest)

-- the characters so far fit, and so much is left after them
pub record FitsSoFar (columns : ℕ) (cs : List ℕ) (n at left : ℕ) : Type 0 where
  pub bytes : at ≡ bytes_of (take n cs)
  pub width_is : left + width_of (take n cs) ≡ columns
  pub rest : fitting columns cs ≡ n + fitting left (drop n cs)

-- a first character that fits is one more that fits
pub fitting-cons : (k c : ℕ) (cs : List ℕ) → char_width c ≤ k → fitting k (c ∷ cs) ≡ fitting (k - char_width c) cs + 1
fitting-cons k c cs fits = grind (arith, nat_tests, fits)

-- nothing fits where the first character doesn't
pub fitting-stop : (k c : ℕ) (cs : List ℕ) → k < char_width c → fitting k (c ∷ cs) ≡ 0
fitting-stop k c cs wide = grind (arith, nat_tests, wide)

-- before any character all columns are left
pub fits_start : (columns : ℕ) (cs : List ℕ) → FitsSoFar columns cs 0 0 columns
fits_start columns cs = record { bytes = refl; width_is = omega arith; rest = omega arith }

-- a character that fits is passed
pub fits_next : (columns : ℕ) (cs : List ℕ) (n m at left c len w : ℕ) → IsNext cs n c → m ≡ n + 1 → w ≤ left → len ≡ length (encode_utf8 c) → w ≡ char_width c
    → FitsSoFar columns cs n at left → FitsSoFar columns cs m (at + len) (left - w)
fits_next columns cs n m at left c len w next one less is_len is_width so_far =
    grind (arith, common_steps, take-next, drop-next, fitting-cons, so_far.bytes, bytes-push, so_far.width_is, width-push, so_far.rest)

-- a character that doesn't fit ends what does
pub fits_enough : (columns : ℕ) (cs : List ℕ) (n at left c w : ℕ) → IsNext cs n c → w ≡ char_width c → left < w → FitsSoFar columns cs n at left
    → fitting columns cs ≡ n
fits_enough columns cs n at left c w next is_width wide so_far = grind (arith, common_steps, drop-next, fitting-stop, so_far.rest)

-- a text that is passed whole fits whole
pub fits_all : (columns : ℕ) (cs : List ℕ) (n at left : ℕ) → n ≡ length cs → FitsSoFar columns cs n at left → fitting columns cs ≡ n
fits_all columns cs n at left all so_far = grind (arith, common_steps, drop_all, so_far.rest)

-- a text that is no wider fits whole
pub fitting_all : (n : ℕ) (cs : List ℕ) → width_of cs ≤ n → fitting n cs ≡ length cs
fitting_all n [] fits = refl
fitting_all n (c ∷ cs) fits =
    let wide = width-cons c cs in
    let rest = fitting_all (n - char_width c) cs (omega (arith, fits, wide)) in
    omega (arith, fitting-cons n c cs (omega (arith, fits, wide)), rest)

-- a text no wider than the columns fits whole
pub fitting_whole : (columns : ℕ) (cs : List ℕ) → width_of cs ≤ columns → take (fitting columns cs) cs ≡ cs
fitting_whole columns cs fits = take_all (fitting columns cs) cs (omega (arith, fitting_all columns cs fits))

-- the bytes of what fits are all, where the text is no wider than the columns
pub whole_bytes : (columns : ℕ) (text : List ℕ) → IsUtf8 text → width_of (chars text) ≤ columns
    → length text ≡ bytes_of (take (fitting columns (chars text)) (chars text))
whole_bytes columns text utf8 fits =
    sym (ap bytes_of (fitting_whole columns (chars text) fits) ∙ ap length (encodes-chars text utf8))

-- a text that is narrower doesn't reach so many columns: all of its characters are taken
reaching_all : (n : ℕ) (cs : List ℕ) → width_of cs < n → reaching n cs ≡ length cs
reaching_all n [] less = refl
reaching_all n (c ∷ cs) less =
    let wide = width-cons c cs in
    let rest = reaching_all (n - char_width c) cs (omega (arith, less, wide)) in
    omega (arith, reaching-cons n c cs (omega (arith, less)), rest)

-- a text narrower than the columns is needed whole
pub reaching_whole : (columns : ℕ) (cs : List ℕ) → width_of cs < columns → take (reaching columns cs) cs ≡ cs
reaching_whole columns cs less = take_all (reaching columns cs) cs (omega (arith, reaching_all columns cs less))

-- the last characters, from this one on, reach so many columns: so do those after it, or it is the first that is needed
pub record LastSoFar (columns : ℕ) (cs : List ℕ) (n width count : ℕ) : Type 0 where
  pub width_is : width ≡ width_of (drop n cs)
  pub count_is : count + n ≡ length cs
  pub rest : reaching_last columns cs ≡ reaching_last columns (drop n cs)

reaching_last-more : (k c : ℕ) (cs : List ℕ) → k ≤ width_of cs → reaching_last k (c ∷ cs) ≡ reaching_last k cs
reaching_last-more k c cs more = ap (λ b. cond b (reaching_last k cs) (length cs + 1)) (le-leb k (width_of cs) more)

leb-false : (a b : ℕ) → b < a → leb a b ≡ false
leb-false a b above = grind (arith, nat_tests, above)

reaching_last-here : (k c : ℕ) (cs : List ℕ) → width_of cs < k → reaching_last k (c ∷ cs) ≡ length cs + 1
reaching_last-here k c cs few = ap (λ b. cond b (reaching_last k cs) (length cs + 1)) (leb-false k (width_of cs) few)

-- before any character the whole width and count are left
pub last_start : (columns : ℕ) (cs : List ℕ) (width count : ℕ) → width ≡ width_of cs → count ≡ length cs → LastSoFar columns cs 0 width count
last_start columns cs width count is_width is_count = record { width_is = is_width; count_is = omega arith; rest = refl }

-- the width after a character
pub width_after : (cs : List ℕ) (n c width w : ℕ) → IsNext cs n c → w ≡ char_width c → width ≡ width_of (drop n cs) → width ≡ w + width_of (drop (n + 1) cs)
width_after cs n c width w next is_width is =
    is ∙ ap width_of (drop-next cs n c next) ∙ width-cons c (drop (n + 1) cs) ∙ ap (λ k. k + width_of (drop (n + 1) cs)) (sym is_width)

-- a character is passed where enough columns are left
pub last_next : (columns : ℕ) (cs : List ℕ) (n m width count c w : ℕ) → IsNext cs n c → m ≡ n + 1 → w ≡ char_width c → columns ≤ width - w
    → LastSoFar columns cs n width count → LastSoFar columns cs m (width - w) (count - 1)
last_next columns cs n m width count c w next one is_width more so_far =
    grind (arith, common_steps, width_after, so_far.width_is, so_far.count_is, next.0, so_far.rest, drop-next, reaching_last-more)

-- a character whose passing would leave too few columns is the first of the last
pub last_here : (columns : ℕ) (cs : List ℕ) (n width count c w : ℕ) → IsNext cs n c → w ≡ char_width c → width - w < columns
    → LastSoFar columns cs n width count → count ≡ reaching_last columns cs
last_here columns cs n width count c w next is_width few so_far =
    grind (arith, common_steps, width_after, so_far.width_is, so_far.rest, drop-next, reaching_last-here, so_far.count_is, next.0)

-- where all characters are passed none is left
pub last_all : (columns : ℕ) (cs : List ℕ) (n width count : ℕ) → n ≡ length cs → LastSoFar columns cs n width count → count ≡ reaching_last columns cs
last_all columns cs n width count all so_far = grind (arith, common_steps, drop_all, so_far.rest, so_far.count_is)

-- what stands in a window is no longer than the line
pub uncovered_short : (left : ℕ) (placeholder inner : List ℕ) → length (uncovered_part left placeholder inner) ≤ length inner
uncovered_short left placeholder inner = grind (arith, common_steps)

-- a part of a text has no more characters than the text
pub part_short : (n k : ℕ) (cs rest inner : List ℕ) → rest ≡ drop n cs → inner ≡ take k rest → length inner ≤ length cs
part_short n k cs rest inner rest_is inner_is =
    omega (arith, ap length rest_is, ap length inner_is, length-take k rest, length-drop n cs)

-- what a line's window begins with and what stands after it are few cells
pub start_few : (start : Option ℕ) (columns : ℕ) → columns < 2 ^ 58 + 1 → IfSome start (λ s. s < columns + 4) → unwrap_or start 0 < 2 ^ 59
start_few None columns narrow few = omega arith
start_few (Some s) columns narrow few = omega (arith, narrow, few)

-- a start within the columns is small
pub start_is_few : (start : Option ℕ) (columns : ℕ) → columns < 2 ^ 58 + 1 → IfSome start (λ s. s < columns + 4) → IfSome start (λ s. s < 2 ^ 59)
start_is_few None columns narrow few = few
start_is_few (Some s) columns narrow few = omega (arith, narrow, few)

-- the cells before and of what is shown are few
pub cells_few : (start : Option ℕ) (columns left : ℕ) (placeholder inner shown : List ℕ) (n count : ℕ) → columns < 2 ^ 58 + 1
    → IfSome start (λ s. s < columns + 4) → shown ≡ uncovered_part left placeholder inner → length inner < 2 ^ 60 → n ≡ unwrap_or start 0
    → count ≡ length shown → n + count < 2 ^ 61
cells_few start columns left placeholder inner shown n count narrow few is short n_is count_is =
    omega (arith, start_few start columns narrow few, ap length is, uncovered_short left placeholder inner)

-- ---- the last characters

-- one more character at the end is needed where those before it don't reach so many columns
reaching-push : (k d : ℕ) (cs : List ℕ) → reaching k (cs ++ d ∷ []) ≡ cond (leb k (width_of cs)) (reaching k cs) (length cs + 1)
reaching-push zero d [] = refl
reaching-push (suc k) d [] = grind (arith, nat_tests)
reaching-push zero d (c ∷ cs) =
    sym (ap (λ b. cond b 0 (length (c ∷ cs) + 1)) (le-leb 0 (width_of (c ∷ cs)) (omega arith)))
reaching-push (suc k) d (c ∷ cs) =
    let left : ℕ = suc k - char_width c in
    reaching-cons (suc k) c (cs ++ d ∷ []) (omega arith) ∙ ap (λ n. n + 1) (reaching-push left d cs) ∙ either (leb left (width_of cs))
    ∙ ap (λ b. cond b (reaching left cs + 1) (length (c ∷ cs) + 1)) (same (char_width c) (width_of cs))
    ∙ ap (λ n. cond (leb (suc k) n) (reaching left cs + 1) (length (c ∷ cs) + 1)) (sym (width-cons c cs))
    ∙ ap (λ n. cond (leb (suc k) (width_of (c ∷ cs))) n (length (c ∷ cs) + 1)) (sym (reaching-cons (suc k) c cs (omega arith)))
  where
    same : (w n : ℕ) → leb (suc k - w) n ≡ leb (suc k) (w + n)
    same w n = grind (arith, nat_tests)

    either : (b : Bool) → cond b (reaching (suc k - char_width c) cs) (length cs + 1) + 1
        ≡ cond b (reaching (suc k - char_width c) cs + 1) (length (c ∷ cs) + 1)
    either true = refl
    either false = omega arith

width-reverse : (cs : List ℕ) → width_of (reverse cs) ≡ width_of cs
width-reverse [] = refl
width-reverse (c ∷ cs) = grind (arith, common_steps, width-push, width-reverse cs, width-cons)

-- the last characters that reach so many columns are the first ones of the reverse
pub reaching_last-reverse : (k : ℕ) (cs : List ℕ) → reaching_last k cs ≡ reaching k (reverse cs)
reaching_last-reverse k [] = refl
reaching_last-reverse k (c ∷ cs) = grind (arith, common_steps, reaching_last-reverse k cs, width-reverse, reaching-push)

-- no character is needed to reach no column
pub none_reaching : (cs : List ℕ) → take (reaching 0 cs) cs ≡ []
none_reaching [] = refl
none_reaching (c ∷ cs) = refl

-- an empty text has no character
pub none_fitting : (columns : ℕ) (text : List ℕ) → length text ≡ 0 → take (fitting columns (chars text)) (chars text) ≡ []
none_fitting columns text none = grind (arith, common_steps, length-chars_le, same_lists)
