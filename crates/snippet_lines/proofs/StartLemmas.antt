-- Where the lines of a source start: at its first byte, and after each line feed that doesn't end it.
use Rattle.snippet_lines.proofs.Common.{common_steps, ◌≡◌, ℕ, zero, suc, ◌+◌, ◌<◌, ◌≤◌, cond, eqb, ltb, List, [], ◌∷◌, ◌++◌, length, drop, get_or, refl, sym}
use Rattle.snippet_lines.proofs.Common.{ap, ◌∙◌, arith, drop_more, drop_all, nil_from_length, cond-true, cond-false, is_byte, places, places_from, EndLine, Eof}
use Rattle.snippet_lines.proofs.Common.{Line, line_bytes, with_first_byte, lines_of, source_lines, IsLine, starts_from}
use Rattle.snippet_lines.proofs.LinesLemmas.{line_bytes-line_with_byte, lines_of-joined}

-- the places of the line feeds of some bytes, of which the first stands at a place
abbrev feeds : ℕ → List ℕ → List ℕ
feeds i [] = []
feeds i (b ∷ bs) = cond (eqb b 10) (i ∷ feeds (i + 1) bs) (feeds (i + 1) bs)

places_from-feeds : (hay : List ℕ) (i n : ℕ) → i + n ≡ length hay → places_from (is_byte 10) hay i n ≡ feeds i (drop i hay)
unfolding places_from
places_from-feeds hay i zero end = sym (ap (feeds i) (drop_all i hay (omega arith)))
places_from-feeds hay i (suc n) end =
    let rest = places_from-feeds hay (i + 1) n (omega arith) in
    ap (λ ps. cond (eqb (get_or hay i 0) 10) (i ∷ ps) ps) rest ∙ sym (ap (feeds i) (drop_more hay i 0 (omega arith)))

-- the places after these, but for one at the end
abbrev pub starts_after : ℕ → List ℕ → List ℕ
starts_after end [] = []
starts_after end (p ∷ ps) = cond (ltb (p + 1) end) ((p + 1) ∷ starts_after end ps) (starts_after end ps)

-- a byte in front of some lines that isn't a line feed: the first of them starts there, and the others stay
starts_from-longer : (i b : ℕ) (ls : List Line) (later : List ℕ) → starts_from (i + 1) ls ≡ (i + 1) ∷ later → starts_from i (with_first_byte b ls) ≡ i ∷ later
starts_from-longer i b [] later is = cc
starts_from-longer i b (l ∷ ls) later is = grind (arith, l.0, l.1, line_bytes-line_with_byte)

-- the lines of some bytes that stand from a place on
starts_from-feeds : (i b : ℕ) (bs : List ℕ) → starts_from i (lines_of (b ∷ bs)) ≡ i ∷ starts_after (i + length (b ∷ bs)) (feeds i (b ∷ bs))
starts_from-feeds i b [] = grind (arith, cond-true, cond-false)
starts_from-feeds i b (c ∷ cs) = grind (arith, starts_from-feeds (i + 1) c cs, cond-true, cond-false, starts_from-longer)

-- the lines of a source start at 0, and after each line feed but one that ends it
pub starts_from-source : (source : List ℕ) → starts_from 0 (source_lines source) ≡ 0 ∷ starts_after (length source) (places (is_byte 10) source)
unfolding places_from
starts_from-source [] = refl
starts_from-source (b ∷ bs) = grind (arith, places_from-feeds, starts_from-feeds)

-- one more line feed: what starts after it, if anything does
pub starts_after-some : (end p : ℕ) (rest starts more left all : List ℕ) → left ≡ p ∷ rest → p + 1 < end → more ≡ starts ++ (p + 1) ∷ []
    → starts ++ starts_after end left ≡ all → more ++ starts_after end rest ≡ all
starts_after-some end p rest starts more left all left_is inside more_is before = grind (arith, common_steps, cond-true)

-- a line feed that ends the source starts no line after it
pub starts_after-none : (end p : ℕ) (rest starts left all : List ℕ) → left ≡ p ∷ rest → end ≤ p + 1 → starts ++ starts_after end left ≡ all
    → starts ++ starts_after end rest ≡ all
starts_after-none end p rest starts left all left_is outside before = grind (arith, cond-false)

-- ---- the bytes of a line

-- a line without an end that has bytes has a text
open_some : (l : Line) → 0 < length (line_bytes l) → l.1 ≡ Eof → 0 < length l.0
open_some l some is = grind (arith, common_steps, l.1, l.0)

-- what is left of a line's bytes without its end is its text, however the end was found
pub text-only : (l : Line) (text : List ℕ) (ending : EndLine) → IsLine l → IsLine (text, ending) → line_bytes l ≡ line_bytes (text, ending) → text ≡ l.0
text-only l text ending line other same = grind (arith, common_steps, lines_of-joined, open_some, nil_from_length)
