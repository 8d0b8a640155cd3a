-- Words for what the bounds of a window are computed from, which proofs cite.
use Rattle.snippet_window.proofs.Common.{List, ℕ, cond, eqb, map, filter_map, width_of, margin_bounds, leading_whitespace, Margin}

-- the columns of a character of leading whitespace: four of a tab, one of any other
abbrev pub whitespace_width : ℕ → ℕ
whitespace_width c = cond (eqb c 9) 4 1

-- the widths of the whitespace that those lines begin with which aren't blank, and the widths of all lines
abbrev pub whitespaces_of : List (List ℕ) → List ℕ
whitespaces_of texts = filter_map leading_whitespace texts

abbrev pub widths_of : List (List ℕ) → List ℕ
widths_of texts = map width_of texts

-- the margin of lines that reach so far, in a room of so many columns
abbrev pub margin_by : ℕ → ℕ → ℕ → ℕ → ℕ → ℕ → Margin
margin_by whitespace first last label_end room widest =
    margin_bounds room (record { whitespace = whitespace; widest = widest; first = first; last = last; label_end = label_end })
