-- Laws of the line that holds a byte, and of the place of a byte.
use Rattle.snippet_lines.proofs.Common.{common_steps, ◌≡◌, ◌≢◌, ℕ, zero, suc, ◌+◌, ◌-◌, ◌<◌, ◌≤◌, eqb, ltb, min, List, [], ◌∷◌, ◌++◌, length, take, drop}
use Rattle.snippet_lines.proofs.Common.{get_or, refl, sym, ap, subst, ◌∙◌, ⊎_elim, arith, slice_range, IsCharBoundary, IsUtf8, take-add, take_min, IsUtf8-take}
use Rattle.snippet_lines.proofs.Common.{chars-append, cond_both, ltb-true, ltb-false, cond-true, cond-false, ne_eqb, EndLine, Eof, Lf, Crlf, Line, line_bytes}
use Rattle.snippet_lines.proofs.Common.{source_lines, text_at, start_of, Source, AreLines, AreLinesOf, char_width, width_of, HoldsByte, line_of, prefix_at}
use Rattle.snippet_lines.proofs.Common.{place_of, location_of, steps_after_text, start_location, end_location, locations_of, IsSpanBorder}
use Rattle.std.specs.Str.{chars}
use Rattle.snippet_lines.proofs.LinesLemmas.{start_of-zero, start_of-cons, start_of-le, start_of-end, start_of-next, AreLinesOf-source_lines}
use Rattle.snippet_lines.proofs.LinesLemmas.{joined-source_lines, length-source_lines, text_at-stands, text_at-within}

-- a line holds the byte that `line_of` looks for
pub HoldsByte-line_of : (ls : List Line) (b : ℕ) → 0 < length ls → HoldsByte ls b (line_of ls b)
unfolding line_of
HoldsByte-line_of [] b some = absurd (omega arith)
HoldsByte-line_of (l ∷ []) b some = record { within = omega arith; from = omega (arith, start_of-zero (l ∷ [])); to = λ more. absurd (omega arith) }
HoldsByte-line_of (l ∷ m ∷ ls) b some =
    let n : ℕ = length (line_bytes l) in
    let k : ℕ = line_of (m ∷ ls) (b - n) in
    let rest : HoldsByte (m ∷ ls) (b - n) k = HoldsByte-line_of (m ∷ ls) (b - n) (omega arith) in
    cond_both (ltb b n) 0 (k + 1) (HoldsByte (l ∷ m ∷ ls) b)
    (λ is. record {
      within = omega arith;
      from = omega (arith, start_of-zero (l ∷ m ∷ ls));
      to = λ _. let first : start_of (l ∷ m ∷ ls) (0 + 1) ≡ n + start_of (m ∷ ls) 0 = start_of-cons l (m ∷ ls) 0 in omega
          (arith, start_of-zero (m ∷ ls), ltb-true b n is);
    })
    (λ is_not. record {
      within = omega (arith, rest.within);
      from = omega (arith, start_of-cons l (m ∷ ls) k, ltb-false b n is_not, rest.from);
      to = λ more. omega (arith, start_of-cons l (m ∷ ls) (k + 1), ltb-false b n is_not, rest.to (omega arith));
    })

-- and only one line does
pub HoldsByte-only : (ls : List Line) (b j k : ℕ) → HoldsByte ls b j → HoldsByte ls b k → j ≡ k
HoldsByte-only ls b j k left right = grind (arith, left.to, right.within, right.from, start_of-le, right.to, left.within, left.from)

-- the line that holds a byte is the one that `line_of` finds
pub line_of-is : (ls : List Line) (b k : ℕ) → HoldsByte ls b k → line_of ls b ≡ k
line_of-is ls b k holds = HoldsByte-only ls b (line_of ls b) k (HoldsByte-line_of ls b (omega (arith, holds.within))) holds

length-source_lines-pos : (source : List ℕ) → 0 < length (source_lines source)
length-source_lines-pos source = omega (arith, length-source_lines source)

-- each byte of a source is on one of its lines
pub HoldsByte-source : (source : List ℕ) (b : ℕ) → HoldsByte (source_lines source) b (line_of (source_lines source) b)
HoldsByte-source source b = HoldsByte-line_of (source_lines source) b (length-source_lines-pos source)

-- the line of a byte is a line of the source
pub line_of-within : (source : List ℕ) (b : ℕ) → line_of (source_lines source) b < length (source_lines source)
line_of-within source b = (HoldsByte-source source b).within

-- a later byte is on the same line or on a later one
pub line_of-mono : (ls : List Line) (b c : ℕ) → 0 < length ls → b ≤ c → line_of ls b ≤ line_of ls c
line_of-mono ls b c some le = grind (arith, HoldsByte-line_of, start_of-le)

-- a line that isn't empty, and one that ends
pub line_with_end-some : (text : List ℕ) (ending : EndLine) → (ending ≡ Eof → 0 < length text) → 0 < length (line_bytes (text, ending))
line_with_end-some [] Eof some = absurd (omega (arith, some refl))
line_with_end-some [] Lf some = omega arith
line_with_end-some [] Crlf some = omega arith
line_with_end-some (b ∷ text) ending some = omega arith

line_bytes-some : (ls : List Line) (k : ℕ) → AreLines ls → k < length ls → 0 < length (line_bytes (get_or ls k ([], Eof)))
line_bytes-some [] k are within = absurd (omega arith)
line_bytes-some (l ∷ ls) zero are within = line_with_end-some l.0 l.1 (λ eof. (are.1 eof).0)
line_bytes-some (l ∷ ls) (suc k) are within = line_bytes-some ls k are.2 (omega arith)

-- no line but the last ends where the source does
pub start_of-inside : (source : List ℕ) (k : ℕ) → k + 1 < length (source_lines source) → start_of (source_lines source) (k + 1) < length source
start_of-inside source k more =
    let ls : List Line = source_lines source in
    let are : AreLinesOf source ls = AreLinesOf-source_lines source in
    ⊎_elim (λ one. absurd (omega (arith, ap length one)))
    (λ (some, lines). omega (
      arith,
      start_of-next ls (k + 1) ([], Eof) more,
      line_bytes-some ls (k + 1) lines more,
      start_of-le ls (k + 1 + 1)
          (k + 1 + 1 + length ls) (omega arith),
      start_of-end ls (k + 1 + 1 + length ls) (omega arith),
      ap length are.whole,
    ))
    are.lines

-- a line holds the byte at which it starts
pub line_of-start : (source : List ℕ) (k : ℕ) → k < length (source_lines source) → line_of (source_lines source) (start_of (source_lines source) k) ≡ k
line_of-start source k within =
    let ls : List Line = source_lines source in
    let are : AreLinesOf source ls = AreLinesOf-source_lines source in
    line_of-is ls (start_of ls k) k (record {
      within = within;
      from = omega arith;
      to = λ more. ⊎_elim (λ one. absurd (omega (arith, ap length one)))
          (λ (some, lines). omega (arith, start_of-next ls k ([], Eof) within, line_bytes-some ls k lines within)) are.lines;
    })

-- ---- the place of a byte

-- the bytes of a line's text are those of the source from the line's start on
text_at-byte : (source : List ℕ) (k i : ℕ) → k < length (source_lines source) → i < length (text_at (source_lines source) k)
    → get_or (text_at (source_lines source) k) i 0 ≡ get_or source (start_of (source_lines source) k + i) 0
text_at-byte source k i within inside = grind (arith, common_steps, text_at-stands)

-- a line's text ends within the source
pub text_at-end : (source : List ℕ) (k : ℕ) → k < length (source_lines source)
    → start_of (source_lines source) k + length (text_at (source_lines source) k) ≤ length source
text_at-end source k within =
    let ls : List Line = source_lines source in
    omega (
      arith,
      text_at-within ls k within,
      start_of-le ls (k + 1) (k + 1 + length ls) (omega arith),
      start_of-end ls (k + 1 + length ls)
          (omega arith),
      ap length (joined-source_lines source),
    )

-- what stands before a byte on its line ends where a character does, if a span may start or end at the byte
pub IsCharBoundary-prefix : (source : List ℕ) (b : ℕ) → IsSpanBorder source b
    → IsCharBoundary (text_at (source_lines source) (line_of (source_lines source) b))
    (min (b - start_of (source_lines source) (line_of (source_lines source) b))
    (length (text_at (source_lines source) (line_of (source_lines source) b))))
IsCharBoundary-prefix source b border = grind (arith, HoldsByte-source, text_at-end, text_at-byte)

-- the character of a place is how many characters stand before it on its line
pub place_of-character : (source : List ℕ) (b : ℕ)
    → (place_of source b).character ≡ length (chars (prefix_at (source_lines source) (line_of (source_lines source) b) b))
unfolding place_of
place_of-character source b = refl

-- the column of a place is the width of what stands before it on its line
pub place_of-column : (source : List ℕ) (b : ℕ)
    → (place_of source b).column ≡ width_of (chars (prefix_at (source_lines source) (line_of (source_lines source) b) b))
unfolding place_of
place_of-column source b = refl

-- ---- the locations of a span

-- a span's first location is that of its start, whatever its end is
pub locations_of-start : (s : Source) (start end : ℕ) → (locations_of s start end).0 ≡ start_location s start
unfolding locations_of
locations_of-start s start end = refl

-- of a span that isn't empty
pub locations_of-end : (s : Source) (start end : ℕ) → start ≢ end → (locations_of s start end).1 ≡ end_location s start end
unfolding locations_of
locations_of-end s start end some =
    cond-false (eqb start end) (start_location s start) (end_location s start end) (ne_eqb start end some)

-- the line of a start is counted from the source's first number
pub start_location-line : (s : Source) (start : ℕ) → (start_location s start).line ≡ s.first + line_of (source_lines s.text) start
unfolding start_location location_of place_of
start_location-line s start = refl

-- the column of a start is that of its place
pub start_location-column : (s : Source) (start : ℕ) → (start_location s start).display ≡ (place_of s.text start).column
unfolding start_location location_of
start_location-column s start = refl

-- the line of an end is counted from the source's first number
pub end_location-line : (s : Source) (start end : ℕ) → (end_location s start end).line ≡ s.first + line_of (source_lines s.text) end
unfolding end_location location_of place_of
end_location-line s start end = refl

-- a span on one line ends at the column of its end's place
pub end_location_column : (s : Source) (start end : ℕ) → line_of (source_lines s.text) start ≡ line_of (source_lines s.text) end
    → (end_location s start end).display ≡ (place_of s.text end).column
unfolding end_location location_of place_of
end_location_column s start end same = grind (arith, s.first, s.text, cond-true)

-- ---- worked

-- in a tab, CR, LF and a tab, the byte inside CR LF stands at the end of the first line, after the tab's four columns
worked-inside_line_end : place_of (9 ∷ 13 ∷ 10 ∷ 9 ∷ []) 2 ≡ record { line = 0; character = 1; column = 4 }
unfolding place_of line_of start_of chars char_width
worked-inside_line_end = refl

-- a start there is one character further, and the byte after the source is on the last line
worked-start : start_location (record { text = 9 ∷ 13 ∷ 10 ∷ 9 ∷ []; first = 7 }) 2 ≡ record { line = 7; char = 2; display = 4; byte = 2 }
unfolding start_location location_of steps_after_text place_of line_of start_of chars char_width
worked-start = refl

-- of a span over two lines the end after the source is one character and one column further
worked-span : locations_of (record { text = 9 ∷ 13 ∷ 10 ∷ 9 ∷ []; first = 7 }) 0 5
    ≡ (record { line = 7; char = 0; display = 0; byte = 0 }, record { line = 8; char = 2; display = 5; byte = 5 })
unfolding locations_of start_location end_location location_of steps_after_text place_of line_of start_of chars char_width
worked-span = refl

-- the characters before a byte of a line are those before an earlier one, and those between the two
pub chars-later : (text between : List ℕ) (a b from to : ℕ) → IsUtf8 text → IsCharBoundary text (min a (length text)) → a ≤ b → from ≡ min a (length text)
    → to ≡ min b (length text) → between ≡ slice_range text from to
    → chars (take b text) ≡ chars (take a text) ++ chars between
chars-later text between a b from to utf8 border order from_is to_is is =
    let ahead : from + (to - from) ≡ to = grind (arith, from_is, to_is) in
    let first : IsUtf8 (take from text) = IsUtf8-take text from utf8 (subst (IsCharBoundary text) (sym from_is) border) in
    let whole : take b text ≡ take to text = sym (take_min b text) ∙ ap (λ n. take n text) (sym to_is) in
    let parts : take to text ≡ take from text ++ take (to - from) (drop from text) = ap (λ n. take n text) (sym ahead) ∙ take-add from (to - from) text in
    ap chars (whole ∙ parts)
    ∙ chars-append (take from text) (take (to - from) (drop from text)) first
    ∙ ap (λ bytes. chars bytes ++ chars (take (to - from) (drop from text))) (ap (λ n. take n text) from_is ∙ take_min a text)
    ∙ ap (λ bytes. chars (take a text) ++ chars bytes) (sym is)
