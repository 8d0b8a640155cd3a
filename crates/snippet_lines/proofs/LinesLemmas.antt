-- Laws of the cut of a text into lines.
use Rattle.snippet_lines.proofs.Common.{common_steps, ◌≡◌, ◌≢◌, ℕ, zero, suc, ◌+◌, ◌-◌, ◌<◌, ◌≤◌, inl, inr, true, false, cond, eqb, List, [], ◌∷◌, ◌++◌, All}
use Rattle.snippet_lines.proofs.Common.{length, take, drop, get_or, refl, sym, ap, subst, ◌∙◌, ⊎_elim, arith, add-one, append_assoc, count_by, le_refl}
use Rattle.snippet_lines.proofs.Common.{add-zero, length-append, take_at, drop_at, drop_more, get_or_past, get_or_at, take_more, take_all, drop-drop, IsUtf8}
use Rattle.snippet_lines.proofs.Common.{IsUtf8-nil, IsUtf8-take, IsUtf8-drop, IsCharBoundary-before_ascii, IsCharBoundary-after_ascii, sum_by-cons}
use Rattle.snippet_lines.proofs.Common.{count_by-le-length, flat_map-append, All-same, All-head, All-tail, All-nil, All-cons, cases_lt, cond_both, cond-true}
use Rattle.snippet_lines.proofs.Common.{cond-false, ne_eqb, eqb-true, EndLine, Eof, Lf, Crlf, Line, end_bytes, line_bytes, joined, last_byte, line_with_byte}
use Rattle.snippet_lines.proofs.Common.{with_first_byte, IsLine, AreLines, IsCutOf, AreLinesOf, lines_of, source_lines, is_lf, newline_count, text_at, StandsAt}
use Rattle.snippet_lines.proofs.Common.{start_of}

-- a byte in front of a text that isn't empty leaves its last byte
pub last_byte-cons : (b c : ℕ) (bs : List ℕ) → last_byte (b ∷ c ∷ bs) ≡ last_byte (c ∷ bs)
last_byte-cons b c bs = grind arith

-- a text that isn't empty is all but its last byte, and that byte
pub split_last : (text : List ℕ) → 0 < length text → text ≡ take (length text - 1) text ++ last_byte text ∷ []
split_last text some = grind (arith, common_steps, take_more)

-- the last byte of bytes with one more at the end is that one
pub last_byte-push : (front : List ℕ) (b : ℕ) → last_byte (front ++ b ∷ []) ≡ b
last_byte-push [] b = refl
last_byte-push (a ∷ []) b = refl
last_byte-push (a ∷ c ∷ front) b = last_byte-cons a c (front ++ b ∷ []) ∙ last_byte-push (c ∷ front) b

-- ---- a line in front of other lines

line_with_byte-fits : (b : ℕ) (text : List ℕ) (ending : EndLine) → (ending ≡ Lf → last_byte (b ∷ text) ≢ 13) → line_with_byte b text ending ≡ (b ∷ text, ending)
line_with_byte-fits b [] Lf no_cr = cond-false (eqb b 13) ([], Crlf) (b ∷ [], Lf) (ne_eqb b 13 (no_cr refl))
line_with_byte-fits b [] Eof no_cr = refl
line_with_byte-fits b [] Crlf no_cr = refl
line_with_byte-fits b (c ∷ text) ending no_cr = refl

-- a byte in front of a text makes its first line longer
lines_of-longer : (b : ℕ) (bs text : List ℕ) (ending : EndLine) (ls : List Line) → b ≢ 10 → (ending ≡ Lf → last_byte (b ∷ text) ≢ 13)
    → lines_of bs ≡ (text, ending) ∷ ls → lines_of (b ∷ bs) ≡ (b ∷ text, ending) ∷ ls
lines_of-longer b bs text ending ls no_lf no_cr is = grind (arith, cond-false, line_with_byte-fits)

-- a line and the lines of what follows it are the lines of the two together
pub lines_of-line : (text : List ℕ) (ending : EndLine) (rest : List ℕ) → All (λ b. b ≢ 10) text → (ending ≡ Lf → last_byte text ≢ 13)
    → (ending ≡ Eof → (0 < length text) × (rest ≡ [])) → lines_of ((text ++ end_bytes ending) ++ rest) ≡ (text, ending) ∷ lines_of rest
lines_of-line [] Eof rest no_lf no_cr last = absurd (omega (arith, (last refl).0))
lines_of-line [] Lf rest no_lf no_cr last = refl
lines_of-line [] Crlf rest no_lf no_cr last = refl
lines_of-line (b ∷ []) Eof rest no_lf no_cr last =
    let head : b ≢ 10 = All-head (λ b. b ≢ 10) b [] no_lf in
    let none : rest ≡ [] = (last refl).1 in
    rw none (cond-false (eqb b 10) (([], Lf) ∷ []) ((b ∷ [], Eof) ∷ []) (ne_eqb b 10 head))
lines_of-line (b ∷ []) Lf rest no_lf no_cr last =
    lines_of-longer b (10 ∷ rest) [] Lf (lines_of rest) (All-head (λ b. b ≢ 10) b [] no_lf) no_cr refl
lines_of-line (b ∷ []) Crlf rest no_lf no_cr last =
    lines_of-longer b (13 ∷ 10 ∷ rest) [] Crlf (lines_of rest) (All-head (λ b. b ≢ 10) b [] no_lf) no_cr refl
lines_of-line (b ∷ c ∷ text) ending rest no_lf no_cr last =
    let no_cr_after : ending ≡ Lf → last_byte (c ∷ text) ≢ 13 = λ is same. no_cr is (last_byte-cons b c text ∙ same) in
    lines_of-longer b (((c ∷ text) ++ end_bytes ending) ++ rest) (c ∷ text) ending (lines_of rest) (All-head (λ b. b ≢ 10) b (c ∷ text) no_lf) no_cr
    (lines_of-line (c ∷ text) ending rest (All-tail (λ b. b ≢ 10) b (c ∷ text) no_lf) no_cr_after (λ is. (omega arith, (last is).1)))

-- ---- the cut of a text

-- the bytes of a line with a byte in front

-- the bytes of a line with a byte put before it are that byte and the line's bytes
pub line_bytes-line_with_byte : (b : ℕ) (text : List ℕ) (ending : EndLine) → line_bytes (line_with_byte b text ending) ≡ b ∷ line_bytes (text, ending)
line_bytes-line_with_byte b [] Lf = cond_both (eqb b 13) ([], Crlf) (b ∷ [], Lf) (λ l. line_bytes l ≡ b ∷ 10 ∷ []) (λ is.
    ap (λ c. c ∷ 10 ∷ []) (sym (eqb-true b 13 is))) (λ _. refl)
line_bytes-line_with_byte b [] Eof = refl
line_bytes-line_with_byte b [] Crlf = refl
line_bytes-line_with_byte b (c ∷ text) ending = refl

joined-with_first_byte : (b : ℕ) (ls : List Line) → joined (with_first_byte b ls) ≡ b ∷ joined ls
joined-with_first_byte b [] = refl
joined-with_first_byte b (l ∷ ls) = ap (λ bs. bs ++ joined ls) (line_bytes-line_with_byte b l.0 l.1)

-- the lines of a text make up the text
pub joined-lines_of : (text : List ℕ) → joined (lines_of text) ≡ text
joined-lines_of [] = refl
joined-lines_of (b ∷ bs) = grind (arith, joined-lines_of bs, joined-with_first_byte)

IsLine-line_with_byte : (b : ℕ) (text : List ℕ) (ending : EndLine) → b ≢ 10 → IsLine (text, ending) → IsLine (line_with_byte b text ending)
IsLine-line_with_byte b [] Lf no_lf line = grind (arith, All-nil, All-cons)
IsLine-line_with_byte b [] Eof no_lf line =
    record { no_lf = All-cons (λ b. b ≢ 10) b [] no_lf (All-nil (λ b. b ≢ 10)); no_cr = λ e. cc }
IsLine-line_with_byte b [] Crlf no_lf line =
    record { no_lf = All-cons (λ b. b ≢ 10) b [] no_lf (All-nil (λ b. b ≢ 10)); no_cr = λ e. cc }
IsLine-line_with_byte b (c ∷ text) ending no_lf line =
    record { no_lf = All-cons (λ b. b ≢ 10) b (c ∷ text) no_lf line.no_lf; no_cr = λ is same. line.no_cr is (sym (last_byte-cons b c text) ∙ same) }

-- where such a line has no end, it had none
LastIsLast-line_with_byte : (b : ℕ) (text : List ℕ) (ending : EndLine) (ls : List Line) → (ending ≡ Eof → (0 < length text) × (ls ≡ []))
    → (line_with_byte b text ending).1 ≡ Eof → (0 < length (line_with_byte b text ending).0) × (ls ≡ [])
LastIsLast-line_with_byte b [] Lf ls last =
    cond_both {A = Line} (eqb b 13) ([], Crlf) (b ∷ [], Lf) (λ l. l.1 ≡ Eof → (0 < length l.0) × (ls ≡ [])) (λ _ e. cc) (λ _ e. cc)
LastIsLast-line_with_byte b [] Eof ls last = λ e. (omega arith, (last e).1)
LastIsLast-line_with_byte b [] Crlf ls last = λ e. cc
LastIsLast-line_with_byte b (c ∷ text) ending ls last = λ e. (omega arith, (last e).1)

AreLines-with_first_byte : (b : ℕ) (ls : List Line) → b ≢ 10 → AreLines ls → AreLines (with_first_byte b ls)
AreLines-with_first_byte b [] no_lf lines =
    (record { no_lf = All-cons (λ b. b ≢ 10) b [] no_lf (All-nil (λ b. b ≢ 10)); no_cr = λ e. cc }, λ _. (omega arith, refl), tt)
AreLines-with_first_byte b (l ∷ ls) no_lf lines =
    (IsLine-line_with_byte b l.0 l.1 no_lf lines.0, LastIsLast-line_with_byte b l.0 l.1 ls lines.1, lines.2)

-- the lines of a text are lines
pub AreLines-lines_of : (text : List ℕ) → AreLines (lines_of text)
AreLines-lines_of [] = tt
AreLines-lines_of (b ∷ bs) = grind (arith, All-nil, AreLines-lines_of bs, AreLines-with_first_byte)

joined-none : (ls : List Line) → ls ≡ [] → joined ls ≡ []
joined-none ls none = ap joined none

-- lines that are joined are cut into those lines again
pub lines_of-joined : (ls : List Line) → AreLines ls → lines_of (joined ls) ≡ ls
lines_of-joined [] lines = refl
lines_of-joined (l ∷ ls) lines = grind (arith, lines_of-line, l.0, l.1, lines.0.no_lf, lines.0.no_cr, lines.1, joined-none, lines_of-joined ls lines.2, lines.2)

-- each text has its cut
pub IsCutOf-lines_of : (text : List ℕ) → IsCutOf text (lines_of text)
IsCutOf-lines_of text = record { whole = joined-lines_of text; lines = AreLines-lines_of text }

-- and no other
pub lines_of-only : (text : List ℕ) (ls : List Line) → IsCutOf text ls → ls ≡ lines_of text
lines_of-only text ls cut = sym (lines_of-joined ls cut.lines) ∙ ap lines_of cut.whole

length-with_first_byte : (b : ℕ) (ls : List Line) → 0 < length (with_first_byte b ls)
length-with_first_byte b [] = omega arith
length-with_first_byte b (l ∷ ls) = omega arith

-- a text that isn't empty has a line
pub length-lines_of-pos : (text : List ℕ) → 0 < length text → 0 < length (lines_of text)
length-lines_of-pos [] some = absurd (omega arith)
length-lines_of-pos (b ∷ bs) some = grind (arith, length-with_first_byte)

-- each source has its lines
pub AreLinesOf-source_lines : (source : List ℕ) → AreLinesOf source (source_lines source)
AreLinesOf-source_lines [] = record { whole = refl; lines = inl refl }
AreLinesOf-source_lines (b ∷ bs) =
    record { whole = joined-lines_of (b ∷ bs); lines = inr (length-lines_of-pos (b ∷ bs) (omega arith), AreLines-lines_of (b ∷ bs)) }

source_lines-lines_of : (source : List ℕ) (ls : List Line) → 0 < length ls → ls ≡ lines_of source → ls ≡ source_lines source
source_lines-lines_of [] ls some is = absurd (omega (arith, ap length is))
source_lines-lines_of (b ∷ bs) ls some is = is

-- and no others
pub source_lines-only : (source : List ℕ) (ls : List Line) → AreLinesOf source ls → ls ≡ source_lines source
source_lines-only source ls lines = grind (arith, lines.whole, source_lines-lines_of, lines_of-only, lines.lines)

-- the lines of a source make up the source
pub joined-source_lines : (source : List ℕ) → joined (source_lines source) ≡ source
joined-source_lines source = (AreLinesOf-source_lines source).whole

-- ---- texts one after another

-- a text that is empty or ends with LF and what follows it have the lines of both
pub lines_of-append : (xs ys : List ℕ) → (0 < length xs → last_byte xs ≡ 10) → lines_of (xs ++ ys) ≡ lines_of xs ++ lines_of ys
lines_of-append [] ys ends = refl
lines_of-append (b ∷ []) ys ends = grind (arith, cond-true)
lines_of-append (b ∷ c ∷ xs) ys ends =
    let rest : lines_of ((c ∷ xs) ++ ys) ≡ lines_of (c ∷ xs) ++ lines_of ys = lines_of-append (c ∷ xs) ys (λ _.
    sym (last_byte-cons b c xs) ∙ ends (omega arith)) in
    ap (λ ls. cond (eqb b 10) (([], Lf) ∷ ls) (with_first_byte b ls)) rest
    ∙ put-append b (lines_of (c ∷ xs)) (lines_of ys) (length-lines_of-pos (c ∷ xs) (omega arith))
  where
    put-append : (b : ℕ) (ls ms : List Line) → 0 < length ls
        → cond (eqb b 10) (([], Lf) ∷ (ls ++ ms)) (with_first_byte b (ls ++ ms)) ≡ cond (eqb b 10) (([], Lf) ∷ ls) (with_first_byte b ls) ++ ms
    put-append b [] ms some = absurd (omega arith)
    put-append b (l ∷ ls) ms some = elim (eqb b 10) as (λ t. cond t (([], Lf) ∷ ((l ∷ ls) ++ ms)) (with_first_byte b ((l ∷ ls) ++ ms))
        ≡ cond t (([], Lf) ∷ l ∷ ls) (with_first_byte b (l ∷ ls)) ++ ms) [ true ↦ refl | false ↦ refl ]

-- ---- how many lines

-- one where the text ends with an LF, else none
abbrev pub ending_newlines : List ℕ → ℕ
ending_newlines text = cond (is_lf (last_byte text)) 1 0

one_line : (b : ℕ) → length (lines_of (b ∷ [])) + ending_newlines (b ∷ []) ≡ 1 + cond (is_lf b) 1 0
one_line b = cond_both (eqb b 10) (([], Lf) ∷ []) ((b ∷ [], Eof) ∷ []) (λ ls. length ls + cond (is_lf b) 1 0 ≡ 1 + cond (is_lf b) 1 0) (λ _. refl) (λ _. refl)

one_more_line : (b : ℕ) (ls : List Line) → 0 < length ls → length (cond (eqb b 10) (([], Lf) ∷ ls) (with_first_byte b ls)) ≡ cond (is_lf b) 1 0 + length ls
one_more_line b [] some = absurd (omega arith)
one_more_line b (l ∷ ls) some = grind arith

-- a line for each LF, and one more where the text goes on after the last of them
pub length-lines_of : (b : ℕ) (bs : List ℕ) → length (lines_of (b ∷ bs)) + ending_newlines (b ∷ bs) ≡ count_by is_lf (b ∷ bs) + 1
length-lines_of b [] = grind (arith, sum_by-cons, one_line)
length-lines_of b (c ∷ bs) = grind (arith, common_steps, length-lines_of c bs, sum_by-cons, last_byte-cons, one_more_line, length-lines_of-pos)

newline_count-is : (text : List ℕ) → newline_count text ≡ count_by is_lf text - ending_newlines text
unfolding newline_count
newline_count-is text = refl

-- a source has one line more than `newline_count` says
pub length-source_lines : (source : List ℕ) → length (source_lines source) ≡ newline_count source + 1
length-source_lines [] = ap (λ n. n + 1) (sym (newline_count-is []))
length-source_lines (b ∷ bs) = grind (arith, length-lines_of, length-lines_of-pos, newline_count-is)

ending_newlines-open : (text : List ℕ) → last_byte text ≢ 10 → ending_newlines text ≡ 0
ending_newlines-open text is_not = ap (λ t. cond t 1 0) (ne_eqb (last_byte text) 10 is_not)

-- in a text that no LF closes each LF is counted
pub newline_count-open : (text : List ℕ) → ((front : List ℕ) → text ≢ front ++ 10 ∷ []) → newline_count text ≡ count_by is_lf text
newline_count-open [] open_end = newline_count-is []
newline_count-open (b ∷ bs) open_end =
    let none : ending_newlines (b ∷ bs) ≡ 0 = ending_newlines-open (b ∷ bs) (λ is.
    open_end (take (length (b ∷ bs) - 1) (b ∷ bs)) (split_last (b ∷ bs) (omega arith) ∙ ap (λ c. take (length (b ∷ bs) - 1) (b ∷ bs) ++ c ∷ []) is)) in
    omega (arith, newline_count-is (b ∷ bs))

-- ---- where lines begin

-- the first line starts at 0
pub start_of-zero : (ls : List Line) → start_of ls 0 ≡ 0
unfolding start_of
start_of-zero ls = refl

-- a line after the first starts as many bytes later as the first line has
pub start_of-cons : (l : Line) (ls : List Line) (k : ℕ) → start_of (l ∷ ls) (k + 1) ≡ length (line_bytes l) + start_of ls k
unfolding start_of
start_of-cons l ls k = rw add-one (length-append (line_bytes l) (joined (take k ls)))

-- after all lines
pub start_of-end : (ls : List Line) (k : ℕ) → length ls ≤ k → start_of ls k ≡ length (joined ls)
unfolding start_of
start_of-end ls k after = ap (λ ms. length (joined ms)) (take_all k ls after)

-- a line ends where the next begins
pub start_of-next : (ls : List Line) (k : ℕ) (d : Line) → k < length ls → start_of ls (k + 1) ≡ start_of ls k + length (line_bytes (get_or ls k d))
unfolding start_of
start_of-next ls k d within = grind (arith, common_steps, take_more, flat_map-append)

start_of-step : (ls : List Line) (k : ℕ) → start_of ls k ≤ start_of ls (k + 1)
start_of-step ls k =
    ⊎_elim (λ within. omega (arith, start_of-next ls k ([], Eof) within)) (λ after.
    omega (arith, start_of-end ls k after, start_of-end ls (k + 1) (omega arith))) (cases_lt k (length ls))

-- later lines begin later
pub start_of-mono : (ls : List Line) (j n : ℕ) → start_of ls j ≤ start_of ls (j + n)
start_of-mono ls j zero = rw add-zero (le_refl (start_of ls j))
start_of-mono ls j (suc n) = grind (arith, start_of-step, start_of-mono ls j n)

-- a later line starts at the same byte or later
pub start_of-le : (ls : List Line) (j k : ℕ) → j ≤ k → start_of ls j ≤ start_of ls k
start_of-le ls j k le = grind (arith, common_steps, start_of-mono ls j (k - j))

-- the lines before line k, line k, and those after it
pub split_at_line : (ls : List Line) (k : ℕ) (d : Line) → k < length ls
    → joined ls ≡ joined (take k ls) ++ (line_bytes (get_or ls k d) ++ joined (drop (k + 1) ls))
split_at_line ls k d within = grind (arith, common_steps, flat_map-append line_bytes (take k ls) (drop k ls), drop_more ls k d within, within)

-- the text of line k stands in the source where the line begins
pub text_at-slice : (ls : List Line) (k : ℕ) → k < length ls → StandsAt (joined ls) (text_at ls k) (start_of ls k)
unfolding start_of
text_at-slice ls k within = grind (arith, common_steps, split_at_line ls k ([], Eof) within, within)

-- a line's text ends before the next line begins
pub text_at-within : (ls : List Line) (k : ℕ) → k < length ls → start_of ls k + length (text_at ls k) ≤ start_of ls (k + 1)
text_at-within ls k within = grind (arith, common_steps, start_of-next ls k ([], Eof) within, within)

-- no text is longer than the source
pub length-text_at : (ls : List Line) (k : ℕ) → length (text_at ls k) ≤ length (joined ls)
length-text_at ls k =
    ⊎_elim (λ within. omega (
      arith,
      text_at-within ls k within,
      start_of-le ls (k + 1) (k + 1 + length ls) (omega arith),
      start_of-end ls (k + 1 + length ls)
          (omega arith),
    ))
    (λ after. let none : text_at ls k ≡ [] = ap (λ (l : Line). l.0) (get_or_past ls k ([], Eof) after) in omega (arith, ap length none))
    (cases_lt k (length ls))

-- ---- UTF-8

-- an ASCII byte parts a text into two
IsUtf8-around : (xs ys : List ℕ) (b : ℕ) → b < 128 → IsUtf8 (xs ++ b ∷ ys) → IsUtf8 xs × IsUtf8 ys
IsUtf8-around xs ys b ascii utf8 =
    let at : get_or (xs ++ b ∷ ys) (length xs) 0 ≡ b = get_or_at xs b ys 0 (length xs) refl in
    let inside : length xs < length (xs ++ b ∷ ys) = omega (arith, length-append xs (b ∷ ys)) in
    let low : get_or (xs ++ b ∷ ys) (length xs) 0 < 128 = omega (arith, at) in
    let before : IsUtf8 (take (length xs) (xs ++ b ∷ ys)) = IsUtf8-take (xs ++ b ∷ ys) (length xs) utf8
    (IsCharBoundary-before_ascii (xs ++ b ∷ ys) (length xs) inside low) in
    let after : IsUtf8 (drop (length xs + 1) (xs ++ b ∷ ys)) = IsUtf8-drop (xs ++ b ∷ ys) (length xs + 1) utf8
    (IsCharBoundary-after_ascii (xs ++ b ∷ ys) (length xs) utf8 inside low) in
    let back : drop (length xs + 1) (xs ++ b ∷ ys) ≡ ys = sym (drop-drop 1 (length xs) (xs ++ b ∷ ys)) ∙ ap (drop 1) (drop_at xs (b ∷ ys) (length xs) refl) in
    (subst IsUtf8 (take_at xs (b ∷ ys) (length xs) refl) before, subst IsUtf8 back after)

-- a line and what follows it are UTF-8 where both together are
pub IsUtf8-line : (text : List ℕ) (ending : EndLine) (rest : List ℕ) → (ending ≡ Eof → rest ≡ []) → IsUtf8 ((text ++ end_bytes ending) ++ rest)
    → IsUtf8 text × IsUtf8 rest
IsUtf8-line text Eof rest last utf8 = grind (arith, common_steps)
IsUtf8-line text Lf rest last utf8 = IsUtf8-around text rest 10 (omega arith) (subst IsUtf8 (append_assoc text (10 ∷ []) rest) utf8)
IsUtf8-line text Crlf rest last utf8 =
    let cut = IsUtf8-around text (10 ∷ rest) 13 (omega arith) (subst IsUtf8 (append_assoc text (13 ∷ 10 ∷ []) rest) utf8) in
    (cut.0, (IsUtf8-around [] rest 10 (omega arith) cut.1).1)

IsUtf8-lines : (ls : List Line) → AreLines ls → IsUtf8 (joined ls) → All (λ l. IsUtf8 l.0) ls
IsUtf8-lines [] lines utf8 = All-nil (λ (l : Line). IsUtf8 l.0)
IsUtf8-lines (l ∷ ls) lines utf8 =
    let cut = IsUtf8-line l.0 l.1 (joined ls) (λ is. ap joined (lines.1 is).1) utf8 in
    All-cons (λ (l : Line). IsUtf8 l.0) l ls cut.0 (IsUtf8-lines ls lines.2 cut.1)

-- each line's text is UTF-8 where the source is
pub IsUtf8-text_at : (source : List ℕ) (k : ℕ) → IsUtf8 source → IsUtf8 (text_at (source_lines source) k)
IsUtf8-text_at source k utf8 =
    let ls : List Line = source_lines source in
    let are : AreLinesOf source ls = AreLinesOf-source_lines source in
    let each : All (λ (l : Line). IsUtf8 l.0) ls =
    ⊎_elim (λ one. All-same (λ (l : Line). IsUtf8 l.0) ls (([], Eof) ∷ []) one
    (All-cons (λ (l : Line). IsUtf8 l.0) ([], Eof) [] IsUtf8-nil (All-nil (λ (l : Line). IsUtf8 l.0))))
    (λ (some, lines). IsUtf8-lines ls lines (subst IsUtf8 (sym are.whole) utf8)) are.lines in
    ⊎_elim (λ within. each k ([], Eof) within)
    (λ after. subst IsUtf8 (sym (ap (λ (l : Line). l.0) (get_or_past ls k ([], Eof) after))) IsUtf8-nil)
    (cases_lt k (length ls))

-- a source that isn't empty has the lines of its text
pub source_lines-some : (source : List ℕ) → 0 < length source → source_lines source ≡ lines_of source
source_lines-some [] some = absurd (omega arith)
source_lines-some (b ∷ bs) some = refl

-- the text of each line of a source stands there where the line begins
pub text_at-stands : (source : List ℕ) (k : ℕ) → k < length (source_lines source)
    → StandsAt source (text_at (source_lines source) k) (start_of (source_lines source) k)
text_at-stands source k within = grind (arith, joined-source_lines, text_at-slice)

-- no text is longer than the source
pub length-text_at-source : (source : List ℕ) (k : ℕ) → length (text_at (source_lines source) k) ≤ length source
length-text_at-source source k =
    omega (arith, length-text_at (source_lines source) k, ap length (joined-source_lines source))

-- a text has no more LF than bytes
pub newline_count-le : (text : List ℕ) → newline_count text ≤ length text
newline_count-le text = omega (arith, newline_count-is text, count_by-le-length is_lf text)

-- ---- worked

-- `a`, CR, LF, `b` has two lines
worked-crlf : source_lines (97 ∷ 13 ∷ 10 ∷ 98 ∷ []) ≡ (97 ∷ [], Crlf) ∷ (98 ∷ [], Eof) ∷ []
worked-crlf = refl

-- a CR elsewhere is text, an LF at the end closes the last line, and an LF alone makes an empty one
worked-lf : source_lines (13 ∷ 97 ∷ 10 ∷ 10 ∷ []) ≡ (13 ∷ 97 ∷ [], Lf) ∷ ([], Lf) ∷ []
worked-lf = refl

worked-empty : source_lines [] ≡ ([], Eof) ∷ []
worked-empty = refl

-- an LF that ends the text isn't counted
worked-count : (newline_count (10 ∷ 10 ∷ 32 ∷ []) ≡ 2) × (newline_count (97 ∷ 10 ∷ 10 ∷ []) ≡ 1) × (newline_count [] ≡ 0)
unfolding newline_count
worked-count = (refl, refl, refl)
