-- Which of some edits overlap.
use Rattle.std.specs.Prelude.{ℕ, ◌+◌, nat_lt, Bool, Option, None, List, [], ◌∷◌, if◌then◌else◌}
use Rattle.std.specs.List.{position_from}
use Rattle.std.specs.Option.{option_map, option_or}
use Rattle.snippet_splice.specs.Edits.{Edit, precedes}

-- whether two edits overlap, the first given before the second: in their order, by start, then end, else as given, the
-- first ends after the second's start
abbrev pub overlap : Edit → Edit → Bool
overlap d e = if precedes e d then nat_lt d.start e.end else nat_lt e.start d.end

-- the pair of overlapping edits that is named, where the edits have the numbers from n on: of the first edit that overlaps with a later one,
-- and the first later one with which it does
abbrev pub first_overlap_from : ℕ → List Edit → Option (ℕ × ℕ)
first_overlap_from n [] = None
first_overlap_from n (e ∷ es) =
    option_or (option_map (λ k. (n, k)) (position_from (overlap e) (n + 1) es)) (first_overlap_from (n + 1) es)

-- the pair that is named, by their numbers, if any two edits overlap
unfoldable pub first_overlap : List Edit → Option (ℕ × ℕ)
first_overlap es = first_overlap_from 0 es
