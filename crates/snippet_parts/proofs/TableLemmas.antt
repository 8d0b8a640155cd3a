-- What the table of a source's lines says of each of them.
use Rattle.snippet_parts.proofs.Common.{◌≡◌, ℕ, zero, suc, ◌+◌, ◌-◌, ◌<◌, ◌≤◌, cond, leb, ltb, min, take, drop, List, [], ◌∷◌, ◌++◌, map, length, inl, inr}
use Rattle.snippet_parts.proofs.Common.{true, false, Some, get_or, refl, sym, ap, subst, ◌∙◌, arith, map_push, length-append, length-drop, length-take}
use Rattle.snippet_parts.proofs.Common.{take-take, take_all, take-add, flat_map-append, cases_lt, leb-true, leb-false, le-leb, lt-ltb, and_from, cond-true}
use Rattle.snippet_parts.proofs.Common.{HoldsAt, range_with_len, map-range_with_len_more, IsNonDecreasingBy, IsPartitionPoint, LineInfo, Line, line_bytes}
use Rattle.snippet_parts.proofs.Common.{joined, source_lines, text_at, start_of, newline_count, line_at, StandsAt, Source, width_of, Loc, HoldsByte, line_of}
use Rattle.snippet_parts.proofs.Common.{place_of, prefix_at, location_of, steps_after_text, IsSpanBorder, IsCharBoundary, IsUtf8, chars, LineEntry}
use Rattle.snippet_parts.proofs.Common.{IsLineTable, table_entry, entry_at, starts_from, line_starts, TextFits, HasNext, start_of-zero, start_of-cons}
use Rattle.snippet_parts.proofs.Common.{start_of-end, start_of-le, joined-source_lines, length-source_lines, text_at-stands, line_of-is, line_of-within}
use Rattle.snippet_parts.proofs.Common.{HoldsByte-source, start_of-inside, text_at-end, IsCharBoundary-prefix}

same_entry : (text : List ℕ) (number start next number' start' next' : ℕ) → number ≡ number' → start ≡ start' → next ≡ next'
    → ◌≡◌ {A = LineEntry} (record { text = text; number = number; start = start; next = next })
    (record { text = text; number = number'; start = start'; next = next' })
same_entry text number start next number' start' next' a b c = cc

-- where the k-th line starts
pub length-starts_from : (start : ℕ) (ls : List Line) → length (starts_from start ls) ≡ length ls
length-starts_from start [] = refl
length-starts_from start (l ∷ ls) = ap suc (length-starts_from (start + length (line_bytes l)) ls)

pub starts_from-at : (start : ℕ) (ls : List Line) (k d : ℕ) → k < length ls → get_or (starts_from start ls) k d ≡ start + start_of ls k
starts_from-at start [] k d within = absurd (omega arith)
starts_from-at start (l ∷ ls) zero d within = omega (arith, start_of-zero (l ∷ ls))
starts_from-at start (l ∷ ls) (suc k) d within =
    let n : k + 1 ≡ suc k = omega arith in
    let here : start_of (l ∷ ls) (suc k) ≡ length (line_bytes l) + start_of ls k = sym (ap (start_of (l ∷ ls)) n) ∙ start_of-cons l ls k in
    omega (arith, here, starts_from-at (start + length (line_bytes l)) ls k d (omega arith))

-- where lines start among the first of some lines, and among those after the first
start_of-take : (ls : List Line) (n k : ℕ) → k ≤ n → start_of (take n ls) k ≡ start_of ls k
unfolding start_of
start_of-take ls n k le = ap (λ ms. length (joined ms)) (take-take k n ls le)

pub start_of-drop : (ls : List Line) (k n : ℕ) → start_of ls (k + n) ≡ start_of ls k + start_of (drop k ls) n
unfolding start_of
start_of-drop ls k n = grind (arith, take-add, flat_map-append, length-append)

module _ (source starts : List ℕ) (first skipped from end : ℕ) (table : IsLineTable source first skipped from end starts) where
  abbrev kept_lines : List Line
  kept_lines = take (length starts) (drop skipped (source_lines source))

  length-kept : length starts ≡ length kept_lines
  length-kept = ap length table.starts_are ∙ length-starts_from 0 kept_lines

  -- the lines that are kept are lines of the source
  pub table-within : skipped + length starts ≤ length (source_lines source)
  table-within = grind (arith, length-kept, length-take, length-drop)

  -- where they reach to the end of the source, all lines after those that are skipped are kept
  pub table-last : end ≡ length source → skipped + length starts ≡ length (source_lines source)
  table-last ends =
      let ls : List Line = source_lines source in
      let k : ℕ = skipped + length starts in
      elim (cases_lt k (length ls)) [
        | inl less ↦
            let next : k - 1 + 1 ≡ k = omega (arith, table.some) in
            let before : start_of ls k < length source = subst (λ n. start_of ls n < length source) next
            (start_of-inside source (k - 1) (omega (arith, next, less))) in
            absurd (omega (arith, before, table.end_is, ends))
        | inr enough ↦ omega (arith, table-within, enough)
      ]

  -- each start is where its line starts
  pub table-start : (k d : ℕ) → k < length starts → from + get_or starts k d ≡ start_of (source_lines source) (skipped + k)
  table-start k d within = grind (arith, starts_from-at, length-kept, start_of-take, start_of-drop)

  -- lines that follow start later
  pub table-ordered : IsNonDecreasingBy (λ (start : ℕ). start) starts
  table-ordered = grind (arith, table-start, start_of-le)

  -- the first starts where it does
  pub table-first : (byte : ℕ) → HoldsAt (λ (start : ℕ). start ≤ byte) starts 0
  table-first byte = grind (arith, table-start)

  -- the last line that starts at a byte or before it holds the byte, where that stands before the end
  pub table-holding : (byte k : ℕ) → from ≤ byte → byte < end → k < length starts → HoldsAt (λ (start : ℕ). start ≤ byte - from) starts k
      → (k + 1 < length starts → HoldsAt (λ (start : ℕ). byte - from < start) starts (k + 1)) → skipped + k ≡ line_of (source_lines source) byte
  table-holding byte k after before within at next =
      let ls : List Line = source_lines source in
      let ends : byte < start_of ls (skipped + k + 1) = elim (cases_lt (k + 1) (length starts)) [
        | inl inside ↦
            let same : skipped + (k + 1) ≡ skipped + k + 1 = omega arith in
            omega (arith, next inside 0, table-start (k + 1) 0 inside, ap (start_of ls) same)
        | inr last ↦
            let same : skipped + length starts ≡ skipped + k + 1 = omega arith in
            omega (arith, table.end_is, ap (start_of ls) same)
      ] in
      let holds : HoldsByte ls byte (skipped + k) = record {
        within = omega (arith, table-within);
        from = omega (arith, at 0, table-start k 0 within);
        to = λ _. ends;
      } in
      sym (line_of-is ls byte (skipped + k) holds)

-- all lines of a source, which start at the bytes that are lent
pub table-all : (source starts : List ℕ) (first : ℕ) → starts ≡ line_starts source → IsUtf8 source → TextFits source
    → HasNext (first + newline_count source) → IsLineTable source first 0 0 (length source) starts
table-all source starts first is utf8 fits numbers =
    grind (arith, length-starts_from, take_all, length-source_lines, start_of-zero, start_of-end, joined-source_lines)

-- one line, the one that holds a byte
pub table-alone : (source : List ℕ) (first skipped from end byte : ℕ) → skipped ≡ line_of (source_lines source) byte
    → from ≡ start_of (source_lines source) (line_of (source_lines source) byte)
    → end ≡ start_of (source_lines source) (line_of (source_lines source) byte + 1) → IsUtf8 source → TextFits source
    → HasNext (first + newline_count source) → IsLineTable source first skipped from end (0 ∷ [])
table-alone source first skipped from end byte is from_is end_is utf8 fits numbers =
    let ls : List Line = source_lines source in
    let k : ℕ = line_of ls byte in
    record {
      starts_are = alone (drop skipped ls) (omega (arith, length-drop skipped ls, is, line_of-within source byte));
      some = omega arith;
      from_is = from_is ∙ sym (ap (start_of ls) is);
      end_is = end_is ∙ sym (ap (λ m. start_of ls (m + 1)) is);
      utf8 = utf8;
      short = fits;
      numbers = omega (arith, length-source_lines source, numbers);
    }
  where
    alone : (ls : List Line) → 0 < length ls → 0 ∷ [] ≡ starts_from 0 (take 1 ls)
    alone [] some = absurd (omega arith)
    alone (l ∷ ls) some = refl

-- the entry of a line by its parts
pub entry_at-is : (info : LineInfo) (first : ℕ) (ls : List Line) (k : ℕ) → info.line.now ≡ text_at ls k → info.line_index ≡ first + k
    → info.start_byte ≡ start_of ls k → info.end_byte ≡ start_of ls (k + 1) → table_entry info ≡ entry_at first ls k
entry_at-is info first ls k text number start next = grind (arith, same_entry)

-- one more entry of the lines from number i on: that of line k
pub entries-more : (first : ℕ) (ls : List Line) (infos more : List LineInfo) (info : LineInfo) (i k : ℕ) → i ≤ k → more ≡ infos ++ info ∷ []
    → table_entry info ≡ entry_at first ls k → map table_entry infos ≡ map (entry_at first ls) (range_with_len i (k - i))
    → map table_entry more ≡ map (entry_at first ls) (range_with_len i (k + 1 - i))
entries-more first ls infos more info i k low more_is entry before =
    let size : (k - i) + 1 ≡ k + 1 - i = omega arith in
    ap (map table_entry) more_is ∙ map_push table_entry infos info ∙ ap (λ es. es ++ table_entry info ∷ []) before
    ∙ ap (λ e. map (entry_at first ls) (range_with_len i (k - i)) ++ e ∷ []) entry
    ∙ sym (map-range_with_len_more (entry_at first ls) i (k - i) k (omega arith)) ∙ ap (λ n. map (entry_at first ls) (range_with_len i n)) size

-- the place where a binary search parts the starts at a byte or before it from the others
abbrev pub IsParted : List ℕ → ℕ → ℕ → Type 0
IsParted starts byte i = IsPartitionPoint (λ (start : ℕ). leb start byte ≡ true) (λ (start : ℕ). leb start byte ≡ false) starts i

-- at least one line starts at a byte or before it, where the first does
pub parted-some : (starts : List ℕ) (byte i : ℕ) → 0 < length starts → HoldsAt (λ (start : ℕ). start ≤ byte) starts 0 → IsParted starts byte i → 1 ≤ i
parted-some x y z u v w = grind (arith, leb-false)

-- the line before the parting starts at the byte or before it
pub parted-from : (starts : List ℕ) (byte i : ℕ) → 1 ≤ i → IsParted starts byte i → HoldsAt (λ (start : ℕ). start ≤ byte) starts (i - 1)
parted-from starts byte i some parted = λ d. leb-true (get_or starts (i - 1) d) byte (parted.0 (i - 1) d (omega arith) (omega arith))

-- the line after that starts right of the byte
pub parted-to : (starts : List ℕ) (byte i : ℕ) → 1 ≤ i → IsParted starts byte i → (i - 1) + 1 < length starts
    → HoldsAt (λ (start : ℕ). byte < start) starts ((i - 1) + 1)
parted-to starts byte i some parted within = λ d. leb-false (get_or starts ((i - 1) + 1) d) byte (parted.1 ((i - 1) + 1) d (omega arith) within)

-- the line of a number
pub line_at-some : (s : Source) (number index : ℕ) (text : List ℕ) → s.first ≤ number → index ≡ number - s.first
    → index < length (source_lines s.text) → text ≡ text_at (source_lines s.text) index
    → (Some text ≡ line_at s number) × StandsAt s.text text (start_of (source_lines s.text) (number - s.first))
line_at-some s number index text ge index_is within is = grind (arith, and_from, le-leb, lt-ltb, cond-true, text_at-stands)

-- ---- the location of a byte, by the entry of its line

same_parts : (line char display byte line' char' display' byte' : ℕ) → line ≡ line' → char ≡ char' → display ≡ display' → byte ≡ byte'
    → ◌≡◌ {A = Loc} (record { line = line; char = char; display = display; byte = byte })
    (record { line = line'; char = char'; display = display'; byte = byte' })
same_parts line char display byte line' char' display' byte' a b c d = cc

same_location : (location : Loc) (line char display byte : ℕ) → location.line ≡ line → location.char ≡ char → location.display ≡ display → location.byte ≡ byte
    → ◌≡◌ {A = Loc} location (record { line = line; char = char; display = display; byte = byte })
same_location location line char display byte a b c d = grind (arith, same_parts)

module _ (s : Source) (byte : ℕ) (info : LineInfo) (entry : table_entry info
    ≡ entry_at s.first (source_lines s.text) (line_of (source_lines s.text) byte)) where
  located-text : info.line.now ≡ text_at (source_lines s.text) (line_of (source_lines s.text) byte)
  located-text = ap (λ (e : LineEntry). e.text) entry

  located-number : info.line_index ≡ s.first + line_of (source_lines s.text) byte
  located-number = ap (λ (e : LineEntry). e.number) entry

  located-start : info.start_byte ≡ start_of (source_lines s.text) (line_of (source_lines s.text) byte)
  located-start = ap (λ (e : LineEntry). e.start) entry

  -- the line of a byte starts at the byte or before it
  pub located-ordered : info.start_byte ≤ byte
  located-ordered = omega (arith, located-start, (HoldsByte-source s.text byte).from)

  -- the line of a byte ends within the source
  pub located-end : info.start_byte + length info.line.now ≤ length s.text
  located-end = omega (arith, located-start, ap length located-text, text_at-end s.text (line_of (source_lines s.text) byte) (line_of-within s.text byte))

  -- the border of a span is a border of characters in its line
  pub located-border : IsSpanBorder s.text byte → IsCharBoundary info.line.now (min (byte - info.start_byte) (length info.line.now))
  located-border border = grind (arith, located-text, located-start, IsCharBoundary-prefix)

  -- what stands before the byte in its line
  before-byte : take (byte - info.start_byte) info.line.now ≡ prefix_at (source_lines s.text) (line_of (source_lines s.text) byte) byte
  before-byte = grind (arith, located-start, located-text)

  -- the location of a byte is on its line,
  pub located-line : (location : Loc) → location ≡ location_of s byte → location.line ≡ info.line_index
  unfolding location_of place_of
  located-line location is = ap (λ (l : Loc). l.line) is ∙ sym located-number

  -- its character is the number of those before it on the line,
  pub located-char : (location : Loc) → location ≡ location_of s byte → location.char ≡ length (chars (take (byte - info.start_byte) info.line.now))
  unfolding location_of place_of
  located-char location is = ap (λ (l : Loc). l.char) is ∙ ap (λ bs. length (chars bs)) (sym before-byte)

  -- and its column is the width of these
  pub located-display : (location : Loc) → location ≡ location_of s byte → location.display ≡ width_of (chars (take (byte - info.start_byte) info.line.now))
  unfolding location_of place_of
  located-display location is = ap (λ (l : Loc). l.display) is ∙ ap (λ bs. width_of (chars bs)) (sym before-byte)

  -- the location of a byte is made of its line and of what stands before it there
  pub located-is : (location : Loc) → location.line ≡ info.line_index → location.char ≡ length (chars (take (byte - info.start_byte) info.line.now))
      → location.display ≡ width_of (chars (take (byte - info.start_byte) info.line.now)) → location.byte ≡ byte → location ≡ location_of s byte
  unfolding location_of place_of
  located-is location line char display at = grind (arith, same_location, located-number, before-byte)

  -- a byte after a line's text is a step further on
  pub located-steps : (steps : ℕ) → steps ≡ cond (ltb (info.start_byte + length info.line.now) byte) 1 0 → steps ≡ steps_after_text s.text byte
  unfolding steps_after_text
  located-steps steps is = grind (arith, located-start, located-text)

-- the line that holds a byte holds each after it up to its end
pub located-near : (s : Source) (info : LineInfo) (known byte : ℕ)
    → table_entry info ≡ entry_at s.first (source_lines s.text) (line_of (source_lines s.text) known)
    → known ≤ byte → byte < info.end_byte → table_entry info ≡ entry_at s.first (source_lines s.text) (line_of (source_lines s.text) byte)
located-near s info known byte is later before = grind (arith, HoldsByte-source, line_of-is)
