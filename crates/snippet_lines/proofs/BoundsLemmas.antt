-- The line around a byte, by the line feeds next to it.
use Rattle.snippet_lines.proofs.Common.{common_steps, ◌≡◌, ◌≢◌, ℕ, zero, suc, ◌+◌, ◌-◌, ◌<◌, ◌≤◌, ◌⊎◌, ◌↔◌, inl, inr, cond, List, [], ◌∷◌, ◌++◌, All, count_by}
use Rattle.snippet_lines.proofs.Common.{length, min, take, drop, get_or, sym, ap, subst, ◌∙◌, ⊎_elim, arith, append_assoc, append-nil, length-append, take_at}
use Rattle.snippet_lines.proofs.Common.{take-append-drop, drop-drop, length-take-le, length-drop, get_or-take, get_or-drop, get_or_default, drop_all, drop_more}
use Rattle.snippet_lines.proofs.Common.{IsUtf8, IsCharBoundary, IsCharBoundary-from_drop, flat_map-append, All-nil, All-cons, All-same, All-take, All-push}
use Rattle.snippet_lines.proofs.Common.{sum_by-append, cases_lt, eqb-true, EndLine, Eof, Lf, Crlf, Line, end_bytes, line_bytes, joined, last_byte, lines_of}
use Rattle.snippet_lines.proofs.Common.{source_lines, is_lf, start_of, IsLine, AreLines, AreLinesOf, IsLineWithEnd, HoldsByte, line_of}
use Rattle.snippet_lines.proofs.LinesLemmas.{split_last, joined-lines_of, lines_of-append, length-lines_of, source_lines-some, start_of-end, start_of-le}
use Rattle.snippet_lines.proofs.LinesLemmas.{start_of-next, joined-source_lines, AreLinesOf-source_lines, IsUtf8-line}
use Rattle.snippet_lines.proofs.CursorLemmas.{count_by-none}
use Rattle.snippet_lines.proofs.PlaceLemmas.{HoldsByte-source, line_of-is, line_of-within, start_of-inside}

-- the bytes from `start` up to `end` are the line around byte `at`
pub record IsLineAround (source : List ℕ) (at start end : ℕ) : Type 0 where
  pub before : start ≤ at
  pub after : at < end
  pub within : end ≤ length source
  pub opens : 0 < start → get_or source (start - 1) 0 ≡ 10
  pub closes : (get_or source (end - 1) 0 ≡ 10) ⊎ (end ≡ length source)
  pub none_before : (j : ℕ) → start ≤ j → j < at → get_or source j 0 ≢ 10
  pub none_after : (j : ℕ) → at ≤ j → j + 1 < end → get_or source j 0 ≢ 10

-- what is one line and isn't empty is cut into one line
length-one : (line : List ℕ) → 0 < length line → IsLineWithEnd line → length (lines_of line) ≡ 1
length-one [] some one = absurd (omega arith)
length-one (b ∷ bs) some one =
    let line : List ℕ = b ∷ bs in
    let front : List ℕ = take (length line - 1) line in
    let none : count_by is_lf front ≡ 0 = count_by-none is_lf front (λ k within is. one k 0 within (eqb-true (get_or front k 0) 10 is)) in
    let split : line ≡ front ++ last_byte line ∷ [] = split_last line some in
    let count : count_by is_lf line ≡ count_by is_lf front + count_by is_lf (last_byte line ∷ []) = ap (count_by is_lf) split
    ∙ sum_by-append (λ c. cond (is_lf c) 1 0) front (last_byte line ∷ []) in
    let last : count_by is_lf (last_byte line ∷ []) ≡ cond (is_lf (last_byte line)) 1 0 =
    (let e : 0 + cond {A = ℕ} (is_lf (last_byte line)) 1 0 ≡ cond (is_lf (last_byte line)) 1 0 = omega arith in e) in
    omega (arith, length-lines_of b bs)

module _ (source : List ℕ) (at start end : ℕ) (around : IsLineAround source at start end) where
  before_it : List ℕ
  before_it = take start source

  the_line : List ℕ
  the_line = take (end - start) (drop start source)

  after_it : List ℕ
  after_it = drop end source

  length-before_it : length before_it ≡ start
  unfolding before_it
  length-before_it = length-take-le start source (omega (arith, around.before, around.after, around.within))

  length-the_line : length the_line ≡ end - start
  unfolding the_line
  length-the_line = length-take-le (end - start) (drop start source) (omega (arith, length-drop start source, around.before, around.after, around.within))

  three_parts : source ≡ before_it ++ (the_line ++ after_it)
  unfolding before_it the_line after_it
  three_parts =
      let n : start + (end - start) ≡ end = omega (arith, around.before, around.after) in
      let back : drop (end - start) (drop start source) ≡ drop end source = drop-drop (end - start) start source ∙ ap (λ m. drop m source) n in
      sym (take-append-drop start source) ∙ ap (λ bs. take start source ++ bs)
      (sym (take-append-drop (end - start) (drop start source)) ∙ ap (λ bs. take (end - start) (drop start source) ++ bs) back)

  opens_after_lf : 0 < length before_it → last_byte before_it ≡ 10
  unfolding before_it
  opens_after_lf some = grind (arith, common_steps, length-before_it)

  read : (k : ℕ) → k < end - start → get_or the_line k 0 ≡ get_or source (start + k) 0
  unfolding the_line
  read k within = get_or-take (end - start) (drop start source) k 0 within ∙ get_or-drop start source k 0

  line_is_one : IsLineWithEnd the_line
  line_is_one = λ k d within is.
      let n : length the_line ≡ end - start = length-the_line in
      let m : length (take (length the_line - 1) the_line) ≡ length the_line - 1 = length-take-le (length the_line - 1) the_line (omega arith) in
      let same : get_or the_line k 0 ≡ 10 = get_or_default the_line k 0 d (omega arith)
      ∙ sym (get_or-take (length the_line - 1) the_line k d (omega arith)) ∙ is in
      let lf : get_or source (start + k) 0 ≡ 10 = sym (read k (omega arith)) ∙ same in
      ⊎_elim (λ early. around.none_before (start + k) (omega arith) early lf) (λ late.
      around.none_after (start + k) late (omega arith) lf) (cases_lt (start + k) at)

  closes_with_lf : (last_byte the_line ≡ 10) ⊎ (after_it ≡ [])
  unfolding after_it
  closes_with_lf = grind (arith, length-the_line, read, drop_all)

  some_line : 0 < length the_line
  some_line = omega (arith, length-the_line, around.before, around.after)

  tail_lines : lines_of (the_line ++ after_it) ≡ lines_of the_line ++ lines_of after_it
  tail_lines = grind (arith, common_steps, lines_of-append, closes_with_lf)

  all_lines : source_lines source ≡ lines_of before_it ++ (lines_of the_line ++ lines_of after_it)
  all_lines = grind (arith, source_lines-some, three_parts, lines_of-append, opens_after_lf, tail_lines)

  -- which line it is
  index_of_it : ℕ
  index_of_it = length (lines_of before_it)

  start_is : start_of (source_lines source) index_of_it ≡ start
  unfolding start_of index_of_it
  start_is = grind (arith, common_steps, all_lines, joined-lines_of, length-before_it)

  end_is : start_of (source_lines source) (index_of_it + 1) ≡ end
  unfolding start_of index_of_it
  end_is =
      let one : length (lines_of the_line) ≡ 1 = length-one the_line some_line line_is_one in
      let n : length (lines_of before_it ++ lines_of the_line) ≡ length (lines_of before_it) + 1 = omega
      (arith, length-append (lines_of before_it) (lines_of the_line)) in
      let split : source_lines source ≡ (lines_of before_it ++ lines_of the_line) ++ lines_of after_it = all_lines
      ∙ sym (append_assoc (lines_of before_it) (lines_of the_line) (lines_of after_it)) in
      ap (λ ls. length (joined (take (length (lines_of before_it) + 1) ls))) split
      ∙ ap (λ ls. length (joined ls)) (take_at (lines_of before_it ++ lines_of the_line) (lines_of after_it) (length (lines_of before_it) + 1) n)
      ∙ ap length (flat_map-append line_bytes (lines_of before_it) (lines_of the_line))
      ∙ length-append (joined (lines_of before_it)) (joined (lines_of the_line))
      ∙ (let e : length (joined (lines_of before_it)) + length (joined (lines_of the_line)) ≡ end = omega (
        arith,
        ap length (joined-lines_of before_it),
        ap length (joined-lines_of the_line),
        length-before_it,
        length-the_line,
        around.before,
        around.after,
      ) in e)

  index_within : index_of_it < length (source_lines source)
  unfolding index_of_it
  index_within = grind (arith, common_steps, length-one, some_line, line_is_one, all_lines)

  -- it holds each byte in it, and each after its start if it ends where the source does
  holds : (b : ℕ) → start ≤ b → (b < end) ⊎ (end ≡ length source) → HoldsByte (source_lines source) b index_of_it
  holds b from to = grind (arith, index_within, start_is, end_is, start_of-inside)

  line_of-around : (b : ℕ) → start ≤ b → (b < end) ⊎ (end ≡ length source) → line_of (source_lines source) b ≡ index_of_it
  line_of-around b from to = line_of-is (source_lines source) b index_of_it (holds b from to)

  -- the line starts where the lines of its source say
  pub start-around : (b : ℕ) → start ≤ b → (b < end) ⊎ (end ≡ length source) → start ≡ start_of (source_lines source) (line_of (source_lines source) b)
  start-around b from to = sym start_is ∙ ap (start_of (source_lines source)) (sym (line_of-around b from to))

  -- and ends where the next one starts
  pub end-around : (b : ℕ) → start ≤ b → (b < end) ⊎ (end ≡ length source) → end ≡ start_of (source_lines source) (line_of (source_lines source) b + 1)
  end-around b from to = sym end_is ∙ ap (λ k. start_of (source_lines source) (k + 1)) (sym (line_of-around b from to))

-- which other bytes are on a byte's line
pub same_line : (source : List ℕ) (byte start end : ℕ) → start ≡ start_of (source_lines source) (line_of (source_lines source) byte)
    → end ≡ start_of (source_lines source) (line_of (source_lines source) byte + 1) → (b : ℕ)
    → (line_of (source_lines source) b ≡ line_of (source_lines source) byte) ↔ ((start ≤ b) × ((b < end) ⊎ (end ≡ length source)))
same_line source byte start end start_is end_is b =
    grind (arith, line_of-within, HoldsByte-source, start_of-end, joined-source_lines, line_of-is, start_of-inside)

-- an empty source has its one line from 0 to 0
pub start_of-empty : (source : List ℕ) (k : ℕ) → length source ≡ 0 → start_of (source_lines source) k ≡ 0
start_of-empty source k none =
    let ls : List Line = source_lines source in
    omega (arith, start_of-le ls k (k + length ls) (omega arith), start_of-end ls (k + length ls) (omega arith), ap length (joined-source_lines source))

-- the bounds that are found around the byte `at`, which is `byte` or the last one, are those of the line that holds `byte`
pub bounds-around : (source : List ℕ) (byte at start end : ℕ) → at ≡ min byte (length source - 1) → start ≤ at
    → (0 < start → get_or source (start - 1) 0 ≡ 10) → ((j : ℕ) → start ≤ j → j < at → get_or source j 0 ≢ 10) → end ≤ length source
    → (at < length source → at < end) → (get_or source (end - 1) 0 ≡ 10) ⊎ (end ≡ length source)
    → ((j : ℕ) → at ≤ j → j + 1 < end → get_or source j 0 ≢ 10)
    → (start ≡ start_of (source_lines source) (line_of (source_lines source) byte))
    × (end ≡ start_of (source_lines source) (line_of (source_lines source) byte + 1))
bounds-around source byte at start end at_is before opens none_before within after closes none_after =
    let ls : List Line = source_lines source in
    ⊎_elim (λ some.
    let around : IsLineAround source at start end = record {
      before = before;
      after = after (omega arith);
      within = within;
      opens = opens;
      closes = closes;
      none_before = none_before;
      none_after = none_after;
    } in
    let to : (byte < end) ⊎ (end ≡ length source) = ⊎_elim (λ inside. inl (omega (arith, after (omega arith)))) (λ last.
    inr (omega (arith, after (omega arith)))) (cases_lt byte (length source)) in
    (start-around source at start end around byte (omega arith) to, end-around source at start end around byte (omega arith) to))
    (λ empty.
    let none : length source ≡ 0 = omega arith in
    (omega (arith, start_of-empty source (line_of ls byte) none), omega (arith, start_of-empty source (line_of ls byte + 1) none)))
    (cases_lt 0 (length source))

-- ---- the bytes and the text of a line

-- the lines from line k on are the source from there on
drop_lines : (ls : List Line) (k : ℕ) → drop (start_of ls k) (joined ls) ≡ joined (drop k ls)
unfolding start_of
drop_lines ls k = grind (arith, common_steps, flat_map-append line_bytes (take k ls) (drop k ls))

-- a line's bytes stand from its start to the next line's
pub line_bytes-slice : (source : List ℕ) (k : ℕ) → k < length (source_lines source)
    → take (start_of (source_lines source) (k + 1) - start_of (source_lines source) k) (drop (start_of (source_lines source) k) source)
    ≡ line_bytes (get_or (source_lines source) k ([], Eof))
line_bytes-slice source k within = grind (arith, common_steps, start_of-next, within, joined-source_lines source, drop_lines, drop_more)

IsUtf8-from_line : (ls : List Line) (k : ℕ) → AreLines ls → IsUtf8 (joined ls) → IsUtf8 (joined (drop k ls))
IsUtf8-from_line ls zero lines utf8 = utf8
IsUtf8-from_line [] (suc k) lines utf8 = utf8
IsUtf8-from_line (l ∷ ls) (suc k) lines utf8 = IsUtf8-from_line ls k lines.2 (IsUtf8-line l.0 l.1 (joined ls) (λ is. ap joined (lines.1 is).1) utf8).1

-- a source may be cut where a line starts
pub IsCharBoundary-start_of : (source : List ℕ) (k : ℕ) → IsUtf8 source → IsCharBoundary source (start_of (source_lines source) k)
IsCharBoundary-start_of source k utf8 =
    let ls : List Line = source_lines source in
    let are : AreLinesOf source ls = AreLinesOf-source_lines source in
    let inside : start_of ls k ≤ length source = omega (
      arith,
      start_of-le ls k (k + length ls) (omega arith),
      start_of-end ls (k + length ls)
          (omega arith),
      ap length are.whole,
    ) in
    ⊎_elim (λ one.
    let none : length source ≡ 0 = omega (arith, ap (λ ms. length (joined ms)) one, ap length are.whole) in
    (inside, λ before high. absurd (omega arith)))
    (λ (some, lines). IsCharBoundary-from_drop source (start_of ls k) inside
    (subst IsUtf8 (sym (ap (drop (start_of ls k)) (sym are.whole) ∙ drop_lines ls k)) (IsUtf8-from_line ls k lines (subst IsUtf8 (sym are.whole) utf8))))
    are.lines

IsLine-each : (ls : List Line) → AreLines ls → All IsLine ls
IsLine-each [] lines = All-nil IsLine
IsLine-each (l ∷ ls) lines = All-cons IsLine l ls lines.0 (IsLine-each ls lines.2)

-- each line of a source is a line
pub IsLine-at : (source : List ℕ) (k : ℕ) → k < length (source_lines source) → IsLine (get_or (source_lines source) k ([], Eof))
IsLine-at source k within = grind (arith, common_steps, All-nil, All-same, All-cons, All-nil IsLine, within, IsLine-each, AreLinesOf-source_lines source)

IsOneLine-bytes : (text : List ℕ) (ending : EndLine) → All (λ b. b ≢ 10) text → IsLineWithEnd (text ++ end_bytes ending)
IsOneLine-bytes text Eof none = subst IsLineWithEnd (sym (append-nil text)) (All-take (λ b. b ≢ 10) (length text - 1) text none)
IsOneLine-bytes text Lf none = grind (arith, common_steps)
IsOneLine-bytes text Crlf none = grind (arith, common_steps, All-push)

-- a line's bytes are one line
pub IsOneLine-line : (l : Line) → IsLine l → IsLineWithEnd (line_bytes l)
IsOneLine-line l line = IsOneLine-bytes l.0 l.1 line.no_lf
