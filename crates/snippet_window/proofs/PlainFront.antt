-- A text that begins with printable ASCII: each of these bytes is a character of one column.
use Rattle.snippet_window.proofs.Common.{common_steps, ◌≡◌, ℕ, ◌+◌, ◌-◌, ◌<◌, ◌≤◌, List, [], ◌∷◌, ◌++◌, length, take, drop, IsUtf8, All, sym, ap, ◌∙◌, arith}
use Rattle.snippet_window.proofs.Common.{cond, inl, inr, min, cases_lt, lt-leb, nat_tests, length-take-le, take-append-drop, All-head, All-tail, All-weaker}
use Rattle.snippet_window.proofs.Common.{sum_by-append, IsUtf8-from_ascii, chars-append, encodes-append, encodes-chars, IsAscii-from_all, take-append-add}
use Rattle.snippet_window.proofs.Common.{bytes_of, IsPlain, char_width, width_of, char_width-plain, chars-plain, width_of-all_plain, fitting, reaching}
use Rattle.snippet_window.proofs.Common.{reaching_last}
use Rattle.std.proofs.Common.{chars}
use Rattle.snippet_window.proofs.LineWindowLemmas.{fitting-cons, reaching-cons}

plain_utf8 : (front : List ℕ) → All IsPlain front → IsUtf8 front
plain_utf8 front all =
    IsUtf8-from_ascii front (IsAscii-from_all front (All-weaker IsPlain (λ b. b < 128) (λ b plain. omega (arith, plain.1)) front all))

-- what is printable ASCII takes a byte a character
plain_bytes : (front : List ℕ) → All IsPlain front → bytes_of front ≡ length front
plain_bytes front all =
    ap bytes_of (sym (chars-plain front all)) ∙ ap length (encodes-chars front (plain_utf8 front all))

-- the first bytes are the first characters
pub plain_chars : (text : List ℕ) (k : ℕ) → All IsPlain (take k text) → chars text ≡ take k text ++ chars (drop k text)
plain_chars text k all =
    ap chars (sym (take-append-drop k text)) ∙ chars-append (take k text) (drop k text) (plain_utf8 (take k text) all)
    ∙ ap (λ (l : List ℕ). l ++ chars (drop k text)) (chars-plain (take k text) all)

-- the text may be cut after them
pub plain_cut : (text : List ℕ) (k : ℕ) → k ≤ length text → All IsPlain (take k text) → k ≡ bytes_of (take k (chars text))
plain_cut text k within all = grind (arith, common_steps, within, plain_chars text k all, all, plain_bytes)

-- so many columns are filled by as many of them, and what is left by what stands after them
fitting_front : (columns : ℕ) (front rest : List ℕ) → All IsPlain front → length front ≤ columns
    → fitting columns (front ++ rest) ≡ length front + fitting (columns - length front) rest
fitting_front columns [] rest all room = let same : columns ≡ columns - 0 = omega arith in omega (arith, ap (λ k. fitting k rest) same)
fitting_front columns (c ∷ cs) rest all room =
    let one : char_width c ≡ 1 = char_width-plain c (All-head IsPlain c cs all) in
    let first = fitting-cons columns c (cs ++ rest) (omega (arith, one, room)) in
    let further = fitting_front (columns - char_width c) cs rest (All-tail IsPlain c cs all) (omega (arith, one, room)) in
    let same : columns - char_width c - length cs ≡ columns - length (c ∷ cs) = omega (arith, one) in
    omega (arith, first, further, ap (λ k. fitting k rest) same)

-- what fits of the text: its first bytes, and what fits of those after them in the columns that are left
pub taken_front : (columns : ℕ) (text : List ℕ) (k : ℕ) → k ≤ length text → k ≤ columns → All IsPlain (take k text)
    → take (fitting columns (chars text)) (chars text)
    ≡ take k text ++ take (fitting (columns - k) (chars (drop k text))) (chars (drop k text))
taken_front columns text k within room all =
    let front = take k text in
    let rest = chars (drop k text) in
    let count = length-take-le k text within in
    let is = plain_chars text k all in
    let more : fitting columns (front ++ rest) ≡ length front + fitting (columns - length front) rest = fitting_front columns front rest all (omega
    (arith, count, room)) in
    ap (λ (cs : List ℕ). take (fitting columns cs) cs) is ∙ ap (λ n. take n (front ++ rest)) more
    ∙ take-append-add front rest (fitting (columns - length front) rest) ∙ ap (λ n. front ++ take (fitting (columns - n) rest) rest) count

-- so many columns are reached by as many of them, and what is left by what stands after them
reaching_front : (columns : ℕ) (front rest : List ℕ) → All IsPlain front → length front ≤ columns
    → reaching columns (front ++ rest) ≡ length front + reaching (columns - length front) rest
reaching_front columns [] rest all room = let same : columns ≡ columns - 0 = omega arith in omega (arith, ap (λ k. reaching k rest) same)
reaching_front columns (c ∷ cs) rest all room =
    let one : char_width c ≡ 1 = char_width-plain c (All-head IsPlain c cs all) in
    let first = reaching-cons columns c (cs ++ rest) (omega (arith, room)) in
    let further = reaching_front (columns - char_width c) cs rest (All-tail IsPlain c cs all) (omega (arith, one, room)) in
    let same : columns - char_width c - length cs ≡ columns - length (c ∷ cs) = omega (arith, one) in
    omega (arith, first, further, ap (λ k. reaching k rest) same)

-- what reaches so many columns: the text's first bytes, and what reaches those that are left after them
pub reached_front : (columns : ℕ) (text : List ℕ) (k : ℕ) → k ≤ length text → k ≤ columns → All IsPlain (take k text)
    → take (reaching columns (chars text)) (chars text)
    ≡ take k text ++ take (reaching (columns - k) (chars (drop k text))) (chars (drop k text))
reached_front columns text k within room all =
    let front = take k text in
    let rest = chars (drop k text) in
    let count = length-take-le k text within in
    let is = plain_chars text k all in
    let more : reaching columns (front ++ rest) ≡ length front + reaching (columns - length front) rest = reaching_front columns front rest all (omega
    (arith, count, room)) in
    ap (λ (cs : List ℕ). take (reaching columns cs) cs) is ∙ ap (λ n. take n (front ++ rest)) more
    ∙ take-append-add front rest (reaching (columns - length front) rest) ∙ ap (λ n. front ++ take (reaching (columns - n) rest) rest) count

-- of printable ASCII as many characters as columns reach these, from the last on
pub last_plain : (columns : ℕ) (text : List ℕ) → All IsPlain text → reaching_last columns (chars text) ≡ min columns (length text)
last_plain columns text all = ap (reaching_last columns) (chars-plain text all) ∙ counted columns text all
  where
    counted : (columns : ℕ) (cs : List ℕ) → All IsPlain cs → reaching_last columns cs ≡ min columns (length cs)
    counted columns [] all = omega arith
    counted columns (c ∷ cs) all =
        let later : All IsPlain cs = All-tail IsPlain c cs all in
        let wide : width_of cs ≡ length cs = width_of-all_plain cs later in
        let rest = counted columns cs later in
        elim (cases_lt (length cs) columns) [
          | inl short ↦
              ap (λ b. cond b (reaching_last columns cs) (length cs + 1)) (lt-leb columns (width_of cs) (omega (arith, wide, short))) ∙ omega (arith, short)
          | inr long ↦ grind (arith, nat_tests, wide, long, rest)
        ]

-- the bytes of both, and their columns
pub bytes_front : (text xs : List ℕ) (k : ℕ) → k ≤ length text → All IsPlain (take k text) → bytes_of (take k text ++ xs) ≡ k + bytes_of xs
bytes_front text xs k within all = grind (arith, common_steps, encodes-append, plain_bytes)

pub width_front : (text xs : List ℕ) (k : ℕ) → k ≤ length text → All IsPlain (take k text) → width_of (take k text ++ xs) ≡ k + width_of xs
width_front text xs k within all =
    omega (arith, sum_by-append char_width (take k text) xs, width_of-all_plain (take k text) all, length-take-le k text within)
