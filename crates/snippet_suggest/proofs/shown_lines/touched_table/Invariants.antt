use Rattle.snippet_suggest.proofs.Common.{◌≡◌, ◌<◌, ℕ, Bool, false, List, length, take, get_or, LineRange, is_touched}
use Rattle.snippet_suggest.proofs.shown_lines.touched_table.Given as goal

-- the lines of the ranges so far are marked
pub record IsTable (fold : Bool) (ranges : List LineRange) (count : ℕ) (table : List Bool) : Type 0 where
  pub size : length table ≡ count
  pub marks : (k : ℕ) → k < count → get_or table k false ≡ is_touched fold ranges k

abbrev pub invariant-loop-range : goal.invariant-loop-range
invariant-loop-range l = IsTable l.fold (take l.range-index l.ranges) l.count l.touched.items
