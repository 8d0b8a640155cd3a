-- Where lines start and end: between characters.
use Rattle.snippet_lines.proofs.Common.{◌≡◌, ℕ, zero, suc, ◌+◌, ◌-◌, ◌<◌, ◌≤◌, ◌==◌, ◌&&◌, ◌||◌, Bool, true, false}
use Rattle.snippet_lines.proofs.Common.{Option, List, [], ◌∷◌, ◌++◌, drop, drop-cons, get_or, length, slice_get, refl, sym, ap, subst, ◌∙◌}
use Rattle.snippet_lines.proofs.Common.{arith, if◌then◌else◌, nat_tests, IsCharBoundary-after_ascii, IsCharBoundary, IsUtf8, begins_with_feed, ends_line}
use Rattle.snippet_lines.proofs.Common.{line_length, line_start_after, starts_after}

-- a byte before which a line ends is a line feed or a carriage return
line_end-small : (b : ℕ) (feed : Bool) → (b == 10 || b == 13 && feed) ≡ true → b ≤ 13
line_end-small b feed ends = grind (arith, nat_tests)

-- so is the byte after a line's text, if there is one
line_length-ends : (bytes : List ℕ) → line_length bytes < length bytes → get_or bytes (line_length bytes) 0 ≤ 13
line_length-ends [] within = absurd (omega (arith, within))
line_length-ends (b ∷ bs) within = by (ends_line (b ∷ bs)) refl (line_length-ends bs)
  where
    by : (ends : Bool) → ends_line (b ∷ bs) ≡ ends → (line_length bs < length bs → get_or bs (line_length bs) 0 ≤ 13)
        → get_or (b ∷ bs) (line_length (b ∷ bs)) 0 ≤ 13
    by true is later =
        let none : line_length (b ∷ bs) ≡ 0 = ap (λ t. if t then 0 else suc (line_length bs)) is in
        subst (λ n. get_or (b ∷ bs) n 0 ≤ 13) (sym none) (line_end-small b (begins_with_feed bs) is)
    by false is later =
        let more : line_length (b ∷ bs) ≡ suc (line_length bs) = ap (λ t. if t then 0 else suc (line_length bs)) is in
        subst (λ n. get_or (b ∷ bs) n 0 ≤ 13) (sym more) (later (omega (arith, within, more)))

line_length-within : (bytes : List ℕ) → line_length bytes ≤ length bytes
line_length-within [] = omega arith
line_length-within (b ∷ bs) = by (ends_line (b ∷ bs)) refl (line_length-within bs)
  where
    by : (ends : Bool) → ends_line (b ∷ bs) ≡ ends → line_length bs ≤ length bs → line_length (b ∷ bs) ≤ length (b ∷ bs)
    by true is later = omega (arith, ap (λ t. if t then 0 else suc (line_length bs)) is)
    by false is later = omega (arith, ap (λ t. if t then 0 else suc (line_length bs)) is, later)

-- a line's text ends between characters
pub line_length-border : (bytes : List ℕ) → IsCharBoundary bytes (line_length bytes)
line_length-border bytes =
    (line_length-within bytes, λ within high. absurd (omega (arith, line_length-ends bytes within, high)))

-- the bytes at which lines start from here on: of this byte, and of those after it
pub starts_after-next : (text : List ℕ) (at : ℕ) → at < length text
    → starts_after at (drop at text) ≡ line_start_after at (get_or text at 0) ++ starts_after (at + 1) (drop (at + 1) text)
starts_after-next text at within =
    let count : at + 1 ≡ suc at = omega arith in
    ap (starts_after at) (drop-cons text at 0 within) ∙ ap (λ n. line_start_after at (get_or text at 0) ++ starts_after (at + 1) (drop n text)) (sym count)

-- the line that is so many lines further on, of those that start at this byte, and from here on
abbrev pub found : List ℕ → ℕ → ℕ → ℕ → Option ℕ
found text at start left = slice_get (start ∷ starts_after at (drop at text)) left

-- past a byte that is no line feed it is the same
pub found-on : (text bytes : List ℕ) (at start left start' left' : ℕ) {o : Option ℕ} → bytes ≡ text → at < length bytes → (get_or bytes at 0 ≡ 10 → ⊥)
    → start' ≡ start → left' ≡ left → found text at start left ≡ o → found text (at + 1) start' left' ≡ o
found-on text bytes at start left start' left' same within other start_is left_is before =
    let inside : at < length text = omega (arith, within, ap length same) in
    let differs : get_or text at 0 ≡ 10 → ⊥ = λ is. other (ap (λ bs. get_or bs at 0) same ∙ is) in
    ap (λ s. found text (at + 1) s left') start_is ∙ ap (found text (at + 1) start) left_is ∙ sym (goes_on inside (no_feed (get_or text at 0) differs)) ∙ before
  where
    no_feed : (b : ℕ) → (b ≡ 10 → ⊥) → (b == 10) ≡ false
    no_feed b differs = grind (arith, nat_tests)

    goes_on : at < length text → (get_or text at 0 == 10) ≡ false → found text at start left ≡ found text (at + 1) start left
    goes_on inside none =
        let later = starts_after (at + 1) (drop (at + 1) text) in
        let step = starts_after-next text at inside ∙ ap (λ t. (if t then (at + 1) ∷ [] else []) ++ later) none in
        ap (λ starts. slice_get (start ∷ starts) left) step

-- past a line feed it is one fewer from the byte after that
pub found-past : (text bytes : List ℕ) (at start left start' left' : ℕ) {o : Option ℕ} → bytes ≡ text → at < length bytes → get_or bytes at 0 ≡ 10
    → (left ≡ 0 → ⊥) → start' ≡ at + 1 → left' ≡ left - 1 → found text at start left ≡ o → found text (at + 1) start' left' ≡ o
found-past text bytes at start left start' left' same within feed some start_is left_is before =
    let inside : at < length text = omega (arith, within, ap length same) in
    let is : get_or text at 0 ≡ 10 = ap (λ bs. get_or bs at 0) (sym same) ∙ feed in
    ap (λ s. found text (at + 1) s left') start_is ∙ ap (found text (at + 1) (at + 1)) left_is ∙ sym (begins left some inside (ap (λ b. b == 10) is)) ∙ before
  where
    begins : (left : ℕ) → (left ≡ 0 → ⊥) → at < length text → (get_or text at 0 == 10) ≡ true
        → found text at start left ≡ found text (at + 1) (at + 1) (left - 1)
    begins zero some inside is = absurd (some refl)
    begins (suc left) some inside is =
        let less : suc left - 1 ≡ left = omega arith in
        let later = starts_after (at + 1) (drop (at + 1) text) in
        let step = starts_after-next text at inside ∙ ap (λ t. (if t then (at + 1) ∷ [] else []) ++ later) is in
        ap (λ starts. slice_get (start ∷ starts) (suc left)) step ∙ ap (found text (at + 1) (at + 1)) (sym less)

-- after a line feed is a border of characters
pub found-border : (text bytes : List ℕ) (at start : ℕ) → IsUtf8 text → bytes ≡ text → at < length bytes → get_or bytes at 0 ≡ 10 → start ≡ at + 1
    → IsCharBoundary text start
found-border text bytes at start utf8 same within feed start_is =
    let inside : at < length text = omega (arith, within, ap length same) in
    let is : get_or text at 0 ≡ 10 = ap (λ bs. get_or bs at 0) (sym same) ∙ feed in
    subst (IsCharBoundary text) (sym start_is) (IsCharBoundary-after_ascii text at utf8 inside (omega (arith, is)))
