-- The line that holds a byte, by the line feeds up to it.
use Rattle.snippet_lines.proofs.Common.{common_steps, ◌≡◌, ◌≢◌, ℕ, ◌+◌, ◌-◌, ◌<◌, ◌≤◌, cond, ltb, List, [], ◌∷◌, ◌++◌, All, length, take, refl}
use Rattle.snippet_lines.proofs.Common.{sym, ap, subst, ◌∙◌, arith, count_by, get_or, min, inl, inr, append_assoc, append-nil, length-append, length-take}
use Rattle.snippet_lines.proofs.Common.{length-take-le, take-append-le, take-take, take_all, take-append-add, sum_by-append, sum_by-cons, All-take, cases_lt}
use Rattle.snippet_lines.proofs.Common.{cond_both, ltb-true, ltb-false, eqb-true, EndLine, Eof, Lf, Crlf, Line, line_bytes, joined, last_byte, lines_of}
use Rattle.snippet_lines.proofs.Common.{source_lines, is_lf, IsLineWithEnd, AreLines, newline_count, line_of}
use Rattle.snippet_lines.proofs.LinesLemmas.{split_last, last_byte-push, lines_of-append, length-lines_of, length-source_lines, ending_newlines, start_of-zero}
use Rattle.snippet_lines.proofs.LinesLemmas.{length-lines_of-pos, AreLines-lines_of, joined-lines_of, source_lines-some}
use Rattle.snippet_lines.proofs.CursorLemmas.{count_by-none}
use Rattle.snippet_lines.proofs.PlaceLemmas.{line_of-start, line_of-within, line_with_end-some}
use Rattle.snippet_lines.proofs.BoundsLemmas.{IsOneLine-line}

-- bytes that are no line feed have none
count-none : (bs : List ℕ) → All (λ b. b ≢ 10) bs → count_by is_lf bs ≡ 0
count-none bs none = count_by-none is_lf bs (λ k l is. none k 0 l (eqb-true (get_or bs k 0) 10 is))

-- bytes that no line feed cuts are one line
length-one : (bs : List ℕ) → 0 < length bs → IsLineWithEnd bs → length (lines_of bs) ≡ 1
length-one [] some one = absurd (omega arith)
length-one (b ∷ bs) some one =
    let front : List ℕ = take (length (b ∷ bs) - 1) (b ∷ bs) in
    let split : b ∷ bs ≡ front ++ last_byte (b ∷ bs) ∷ [] = split_last (b ∷ bs) some in
    let last : count_by is_lf (last_byte (b ∷ bs) ∷ []) ≡ ending_newlines (b ∷ bs) + 0 = sum_by-cons (λ c. cond (is_lf c) 1 0) (last_byte (b ∷ bs)) [] in
    let count : count_by is_lf (b ∷ bs) ≡ count_by is_lf front + count_by is_lf (last_byte (b ∷ bs) ∷ []) = ap (count_by is_lf) split
    ∙ sum_by-append (λ c. cond (is_lf c) 1 0) front (last_byte (b ∷ bs) ∷ []) in
    omega (arith, length-lines_of b bs, count-none front one)

-- nor does one cut a front of these
front-one : (bs : List ℕ) (n : ℕ) → IsLineWithEnd bs → IsLineWithEnd (take n bs)
front-one bs n one =
    elim (cases_lt n (length bs)) [
      | inl short ↦
          let size : length (take n bs) ≡ n = length-take-le n bs (omega arith) in
          let cut : take (length (take n bs) - 1) (take n bs) ≡ take (n - 1) (take (length bs - 1) bs) = ap (λ m. take (m - 1) (take n bs)) size
          ∙ take-take (n - 1) n bs (omega arith) ∙ sym (take-take (n - 1) (length bs - 1) bs (omega arith)) in
          subst (All (λ b. b ≢ 10)) (sym cut) (All-take (λ b. b ≢ 10) (n - 1) (take (length bs - 1) bs) one)
      | inr long ↦ subst IsLineWithEnd (sym (take_all n bs long)) one
    ]

last-closed : (text : List ℕ) (ending : EndLine) → ending ≢ Eof → last_byte (line_bytes (text, ending)) ≡ 10
last-closed text Eof ended = absurd (ended refl)
last-closed text Lf ended = last_byte-push text 10
last-closed text Crlf ended = ap last_byte (sym (append_assoc text (13 ∷ []) (10 ∷ []))) ∙ last_byte-push (text ++ 13 ∷ []) 10

-- a front of some lines that ends in one of them has the lines up to that one
length-front : (ls : List Line) (b : ℕ) → 0 < length ls → AreLines ls → length (lines_of (take (b + 1) (joined ls))) ≡ line_of ls b + 1
unfolding line_of
length-front [] b some are = absurd (omega arith)
length-front (l ∷ []) b some are =
    let bytes : List ℕ = line_bytes l in
    let filled : 0 < length bytes = line_with_end-some l.0 l.1 (λ eof. (are.1 eof).0) in
    let cut : 0 < length (take (b + 1) bytes) = elim (cases_lt (b + 1) (length bytes)) [
      | inl short ↦ omega (arith, length-take-le (b + 1) bytes (omega arith))
      | inr long ↦ omega (arith, ap length (take_all (b + 1) bytes long))
    ] in
    ap (λ bs. length (lines_of (take (b + 1) bs))) (append-nil bytes) ∙ length-one (take (b + 1) bytes) cut (front-one bytes (b + 1) (IsOneLine-line l are.0))
length-front (l ∷ m ∷ ls) b some are =
    let bytes : List ℕ = line_bytes l in
    let n : ℕ = length bytes in
    let rest : List ℕ = joined (m ∷ ls) in
    let closed : l.1 ≢ Eof = λ eof. absurd (omega (arith, ap length (are.1 eof).1)) in
    let filled : 0 < n = line_with_end-some l.0 l.1 (λ eof. (are.1 eof).0) in
    cond_both (ltb b n) 0 (line_of (m ∷ ls) (b - n) + 1) (λ k. length (lines_of (take (b + 1) (bytes ++ rest))) ≡ k + 1)
    (λ is.
    let before : b + 1 ≤ n = omega (arith, ltb-true b n is) in
    ap (λ bs. length (lines_of bs)) (take-append-le (b + 1) bytes rest before)
    ∙ length-one (take (b + 1) bytes) (omega (arith, length-take-le (b + 1) bytes before)) (front-one bytes (b + 1) (IsOneLine-line l are.0)))
    (λ is_not.
    let after : n ≤ b = ltb-false b n is_not in
    let size : b + 1 ≡ n + (b - n + 1) = omega arith in
    let front : List ℕ = take (b - n + 1) rest in
    let first : length (lines_of bytes) ≡ 1 = length-one bytes filled (IsOneLine-line l are.0) in
    let later : length (lines_of front) ≡ line_of (m ∷ ls) (b - n) + 1 = length-front (m ∷ ls) (b - n) (omega arith) are.2 in
    let both : length (lines_of (take (b + 1) (bytes ++ rest))) ≡ length (lines_of bytes ++ lines_of front) = ap (λ k.
    length (lines_of (take k (bytes ++ rest)))) size ∙ ap (λ bs. length (lines_of bs)) (take-append-add bytes rest (b - n + 1))
    ∙ ap length (lines_of-append bytes front (λ _. last-closed l.0 l.1 closed)) in
    omega (arith, both, length-append (lines_of bytes) (lines_of front), first, later))

-- a byte is on the line whose number from 0 is that of the line feeds up to it, itself not counted
pub line_of-count : (source : List ℕ) (b : ℕ) → newline_count (take (b + 1) source) ≡ line_of (source_lines source) b
line_of-count [] b =
    omega (arith, line_of-within [] b, length-source_lines [], ap newline_count (take_all (b + 1) [] (omega arith)))
line_of-count (c ∷ cs) b =
    let source : List ℕ = c ∷ cs in
    let front : length (lines_of (take (b + 1) (joined (lines_of source)))) ≡ line_of (lines_of source) b + 1 = length-front (lines_of source) b
    (length-lines_of-pos source (omega arith)) (AreLines-lines_of source) in
    let whole : joined (lines_of source) ≡ source = joined-lines_of source in
    let size : length (source_lines (take (b + 1) source)) ≡ newline_count (take (b + 1) source) + 1 = length-source_lines (take (b + 1) source) in
    let some : source_lines (take (b + 1) source) ≡ lines_of (take (b + 1) source) = source_lines-some (take (b + 1) source) (filled b) in
    omega (arith, front, ap (λ bs. length (lines_of (take (b + 1) bs))) whole, size, ap length some)
  where
    filled : (n : ℕ) → 0 < length (take (n + 1) (c ∷ cs))
    filled n = omega (arith, length-take (n + 1) (c ∷ cs))

-- so the newlines of a front are as many as lines stand before the one that holds its last byte
pub line_of-last : (source : List ℕ) (end : ℕ) → line_of (source_lines source) (end - 1) ≡ newline_count (take end source)
line_of-last source end =
    grind (
      arith,
      common_steps,
      line_of-count source (end - 1),
      start_of-zero (source_lines source),
      line_of-start,
      line_of-within source 0,
      length-source_lines [],
    )

-- a byte after the source is on the line of its last byte
pub line_of-clamped : (source : List ℕ) (b at : ℕ) → at ≡ min b (length source - 1) → line_of (source_lines source) at ≡ line_of (source_lines source) b
line_of-clamped source b at is = grind (arith, common_steps, is, line_of-count source at, line_of-count source b)
