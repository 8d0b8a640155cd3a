-- The characters so far are added, of cells of the first one's role.
use Rattle.snippet_grid.proofs.Common.{◌≡◌, ◌++◌, ◌-◌, ◌<◌, ◌≤◌, ℕ, drop, encode_utf8_all, length, map, string_bytes, take, ch_of}
use Rattle.snippet_grid.proofs.Common.{StyledChar}
use Rattle.std.specs.List.{slice_index_or}
use Rattle.snippet_grid.proofs.added_row.spell.Given as goal

abbrev pub invariant-loop-to : goal.invariant-loop-to
invariant-loop-to l =
    record {
      from : l.fn.from ≤ l.to;
      within : l.to ≤ length l.cells;
      role : (k : ℕ) (d : StyledChar) → l.fn.from ≤ k → k < l.to → (slice_index_or l.cells k d).role ≡ l.role;
      spelt : string_bytes l.text ≡ string_bytes l.fn.text ++ encode_utf8_all (map ch_of (take (l.to - l.fn.from) (drop l.fn.from l.cells)));
    }

abbrev pub decreases-loop-to : goal.decreases-loop-to
decreases-loop-to l = length l.cells - l.to
