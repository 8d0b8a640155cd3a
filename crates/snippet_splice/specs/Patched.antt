-- The text that is shown, and its lines, as parts of the patched source.
use Rattle.std.specs.Prelude.{ℕ, Bool, List, if◌then◌else◌, ◌≡◌, ◌+◌, ◌≤◌, [], ◌∷◌, length, map, take, drop, count_by}
use Rattle.snippet_lines.specs.Lines.{source_lines, Line, start_of, is_lf}
use Rattle.snippet_lines.specs.Place.{line_of}
use Rattle.snippet_splice.specs.Edits.{Edit, in_order, trimmed_edits, edited_from, patched}
use Rattle.snippet_splice.specs.ShownText.{first_start, closes_line, without_final_line_feeds}
use Rattle.std.specs.List.{slice_range, before_first}
use Rattle.snippet_splice.specs.declared.splice.LineRange.{LineRange}
use Rattle.snippet_splice.specs.Spliced.{Stand, stands}

-- the line of the source, from 0, from which on the patched source is shown: folded the one on which the first edit starts
abbrev pub shown_line : Bool → List ℕ → List Edit → ℕ
shown_line fold source es = if fold then line_of (source_lines source) (first_start (in_order es)) else 0

-- where the last of some texts ends
abbrev pub last_end : ℕ → List Stand → ℕ
last_end now [] = now
last_end now (s ∷ ss) = last_end s.to ss

-- where the spliced text ends in the patched source, folded: after the last trimmed text where that ends with LF, else
-- before the first LF from there on
abbrev pub spliced_end : List ℕ → List Edit → ℕ
spliced_end source ts =
    let to = last_end 0 (stands source ts) in
    if closes_line ts then to else to + length (before_first is_lf (drop to (edited_from source 0 ts)))

-- the spliced text: unfolded the patched source; folded the part of it from the start of the line on which the first
-- edit starts; in both cases without the LF that end it
unfoldable pub spliced_text : Bool → List ℕ → List Edit → List ℕ
spliced_text folded source es =
    let start = start_of (source_lines source) (line_of (source_lines source) (first_start (in_order es))) in
    without_final_line_feeds (if folded then slice_range (patched source es) start (spliced_end source (trimmed_edits source es)) else patched source es)

-- the texts of some lines
abbrev pub texts_of : List Line → List (List ℕ)
texts_of ls = map (λ l. l.0) ls

-- some lines are those of a list from number k on
pub record AreFrom (k : ℕ) (some all : List (List ℕ)) : Type 0 where
  pub within : k + length some ≤ length all
  pub are : some ≡ take (length some) (drop k all)

-- the lines of a text from the one on which a text begins in it to the one on which that ends, by the LF before
abbrev pub lines_of_stand : List ℕ → Stand → LineRange
lines_of_stand text s = record { first = count_by is_lf (take s.from text); last = count_by is_lf (take s.to text) }

-- for each trimmed text the lines of the patched source from the one on which it begins to the one on which it ends
abbrev pub line_ranges : List ℕ → List Edit → List LineRange
line_ranges source es = map (lines_of_stand (patched source es)) (stands source (trimmed_edits source es))

-- ranges of lines counted from a line on, by their numbers from the first line
abbrev pub ranges_from : ℕ → List LineRange → List LineRange
ranges_from base ranges = map (λ r. record { first = base + r.first; last = base + r.last }) ranges
