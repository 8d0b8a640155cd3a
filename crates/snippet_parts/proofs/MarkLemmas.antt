-- What is known of the lines and columns of spans, and of the lines that they are marked on.
use Rattle.snippet_parts.proofs.Common.{◌≡◌, ℕ, ◌+◌, true, false, eqb, refl, ap, ◌∙◌, arith, cond_both, eqb-true, eq-eqb, ne_eqb, and_from, and_parts}
use Rattle.snippet_parts.proofs.Common.{false_from_ne_true, Annotation, Loc, Source, source_lines, line_of, location_of, place_of, start_location}
use Rattle.snippet_parts.proofs.Common.{locations_of, first_line, last_line, is_marking, is_marked_on, start_location-line, start_location-column}
use Rattle.snippet_parts.proofs.Common.{end_location-line, end_location_column}
use Rattle.snippet_parts.proofs.PartWords.{entry_of}

-- ---- the locations of a span

-- a span ends on the line of its end, empty or not
pub end-line : (s : Source) (start end : ℕ) → (locations_of s start end).1.line ≡ s.first + line_of (source_lines s.text) end
unfolding locations_of
end-line s start end = grind (arith, cond_both, start_location-line, eqb-true, end_location-line)

-- on one line it ends at the column of its end's place
display-end : (s : Source) (start end : ℕ) → line_of (source_lines s.text) start ≡ line_of (source_lines s.text) end
    → (locations_of s start end).1.display ≡ (place_of s.text end).column
unfolding locations_of
display-end s start end one = grind (arith, cond_both, start_location-column, eqb-true, end_location_column)

-- the line on which a span starts is counted from the source's first number
pub start-line : (s : Source) (start end : ℕ) → (locations_of s start end).0.line ≡ s.first + line_of (source_lines s.text) start
unfolding locations_of
start-line s start end = start_location-line s start

-- the column where a span's first location stands is that of its start
pub start_column-from : (s : Source) (a : Annotation) (at : Loc × Loc) → at ≡ locations_of s a.span.start a.span.end
    → at.0.display ≡ (place_of s.text a.span.start).column
unfolding locations_of
start_column-from s a at is = ap (λ (l : Loc × Loc). l.0.display) is ∙ start_location-column s a.span.start

-- the lines of an annotation, by its locations
pub first_line-from : (s : Source) (a : Annotation) (at : Loc × Loc) → at ≡ locations_of s a.span.start a.span.end → at.0.line ≡ s.first + first_line s.text a
first_line-from s a at is = ap (λ (l : Loc × Loc). l.0.line) is ∙ start-line s a.span.start a.span.end

last-from : (s : Source) (a : Annotation) (at : Loc × Loc) → at ≡ locations_of s a.span.start a.span.end → at.1.line ≡ s.first + last_line s.text a
last-from s a at is = ap (λ (l : Loc × Loc). l.1.line) is ∙ end-line s a.span.start a.span.end

-- the column where a span of one line ends is that of its end
pub end_column-from : (s : Source) (a : Annotation) (at : Loc × Loc) (line : ℕ) → at ≡ locations_of s a.span.start a.span.end → at.0.line ≡ line
    → at.1.line ≡ line → at.1.display ≡ (place_of s.text a.span.end).column
end_column-from s a at line is first last = grind (arith, display-end, first_line-from, last-from)

-- an annotation's entry starts on the annotation's line
pub entry_of-line : (s : Source) (a : Annotation) → (entry_of s a).start.line ≡ s.first + first_line s.text a
unfolding locations_of start_location location_of place_of
entry_of-line s a = refl

-- numbers counted from the same first are the same where their distances from it are
pub eqb-shift : (f m k n : ℕ) → n ≡ f + m → eqb n (f + k) ≡ eqb m k
eqb-shift f m k n is = grind (arith, eq-eqb, eqb-true, ne_eqb)

-- ---- whether a span is marked on a line

-- what it takes
pub record IsOnLine (s : Source) (a : Annotation) (at : Loc × Loc) (line : ℕ) : Type 0 where
  pub marking : is_marking a.kind ≡ true
  pub first : at.0.line ≡ line
  pub last : at.1.line ≡ line

-- an annotation whose locations put it on a line is marked on that line
pub marked-from : (s : Source) (a : Annotation) (at : Loc × Loc) (line k : ℕ) → at ≡ locations_of s a.span.start a.span.end → line ≡ s.first + k
    → IsOnLine s a at line → is_marked_on s.text k a ≡ true
marked-from s a at line k is here on = grind (arith, eq-eqb, first_line-from, last-from, and_from)

-- an annotation whose locations don't put it on a line isn't marked on that line
pub unmarked-from : (s : Source) (a : Annotation) (at : Loc × Loc) (line k : ℕ) → at ≡ locations_of s a.span.start a.span.end → line ≡ s.first + k
    → (IsOnLine s a at line → ⊥) → is_marked_on s.text k a ≡ false
unmarked-from s a at line k is here off = grind (arith, false_from_ne_true, and_parts, eqb-true, first_line-from, last-from)
