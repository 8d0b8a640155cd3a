-- Where a span starts and ends, from the locations of its two bytes.
use Rattle.snippet_parts.proofs.Common.{◌≡◌, ℕ, ◌+◌, ◌==◌, false, ap, ◌∙◌, arith, cond-false, cond-true, eq-eqb, Source, end_location, location_of}
use Rattle.snippet_parts.proofs.Common.{locations_of, start_location, steps_after_text, Loc}

-- a location that is a character further on, and one that is a column further on too
abbrev pub next_char : Loc → ℕ → Loc
next_char l n = record { line = l.line; char = l.char + n; display = l.display; byte = l.byte }

abbrev pub next_column : Loc → ℕ → Loc
next_column l n = record { line = l.line; char = l.char + n; display = l.display + n; byte = l.byte }

-- a location that is no column further on is itself
no_further : (l : Loc) → next_column l 0 ≡ l
no_further l = grind (arith)

-- what is known of a span that isn't empty: the locations of its two bytes, and how far its start lies after its line's text
module _ (s : Source) (start end steps : ℕ) (at last : Loc) (some : (start == end) ≡ false)
    (at_is : at ≡ location_of s start) (steps_is : steps ≡ steps_after_text s.text start) (last_is : last ≡ location_of s end) where
  start_is : next_char at steps ≡ start_location s start
  unfolding start_location
  start_is = ap (λ l. next_char l steps) at_is ∙ ap (next_char (location_of s start)) steps_is

  both : (to : Loc) → to ≡ end_location s start end → ◌≡◌ {A = Loc × Loc} (next_char at steps, to) (locations_of s start end)
  unfolding locations_of
  both to is = grind (arith, cond-false, start_is)

  -- it ends on the line on which it starts
  pub span_on_line : last.line ≡ at.line → ◌≡◌ {A = Loc × Loc} (next_char at steps, last) (locations_of s start end)
  unfolding end_location
  span_on_line same = grind (arith, cond-true, eq-eqb, both, no_further)

  -- it ends on another line, so far after that line's text
  pub span_below : (further : ℕ) → further ≡ steps_after_text s.text end → (at.line == last.line) ≡ false
      → ◌≡◌ {A = Loc × Loc} (next_char at steps, next_column last further) (locations_of s start end)
  unfolding end_location
  span_below further further_is other = grind (arith, cond-false, both)

-- an empty span ends where it starts
pub span_empty : (s : Source) (start end steps : ℕ) (at : Loc) → start ≡ end → at ≡ location_of s start → steps ≡ steps_after_text s.text start
    → ◌≡◌ {A = Loc × Loc} (next_char at steps, next_char at steps) (locations_of s start end)
unfolding locations_of start_location
span_empty s start end steps at empty at_is steps_is = grind (arith, cond-true, eq-eqb)
