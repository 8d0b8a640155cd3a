-- How many runs can show small rows, computed, and two counts that none of them has.
use Rattle.snippet_grid.proofs.Common.{◌≡◌, ◌≤◌, List, [], ◌∷◌, ◌++◌, codes, refl, arith, num_cells, fewest_runs, most_runs, Cell}
use Rattle.snippet_grid.proofs.Common.{text_cells, LineNumber, NoStyle, Quotation}

-- three words of two roles: `10`, `ab` and `|`
abbrev words : List (List Cell)
words = (text_cells LineNumber (codes "10") ++ text_cells Quotation (codes "ab") ++ text_cells LineNumber (codes "|")) ∷ []

three_needed : fewest_runs words ≡ 3
three_needed = refl

three_at_most : most_runs words ≡ 3
three_at_most = refl

-- `a b` without a role is one run or two: the space is in it, or stands between
abbrev spaced : List (List Cell)
spaced = text_cells NoStyle (codes "a b") ∷ []

one_needed : fewest_runs spaced ≡ 1
one_needed = refl

two_at_most : most_runs spaced ≡ 2
two_at_most = refl

-- spaces need no run; of three the first and the last can be one each
abbrev blank : List (List Cell)
blank = text_cells NoStyle (codes "   ") ∷ []

none_needed : fewest_runs blank ≡ 0
none_needed = refl

every_second : most_runs blank ≡ 2
every_second = refl

-- a grid that holds the three words has runs, and has not one for each cell
pub no_run_kept : fewest_runs words ≤ 0 → ⊥
no_run_kept few = omega (arith, few, three_needed)

pub a_run_for_each_cell : num_cells words ≤ most_runs words → ⊥
a_run_for_each_cell many = omega (arith, many, three_at_most, five)
  where
    five : num_cells words ≡ 5
    five = refl
