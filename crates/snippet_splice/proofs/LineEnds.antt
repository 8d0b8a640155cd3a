-- Which bytes stand in a line end.
use Rattle.snippet_splice.proofs.Common.{ℕ, ◌-◌, ◌==◌, ◌&&◌, nat_lt, Bool, List, length, slice_index}

-- whether a byte stands between the CR and the LF of a line end
abbrev pub is_inside_line_end : List ℕ → ℕ → Bool
is_inside_line_end source b =
    nat_lt 0 b && nat_lt b (length source) && slice_index source b == 10 && slice_index source (b - 1) == 13
