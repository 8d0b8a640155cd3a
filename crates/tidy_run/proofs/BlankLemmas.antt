-- Where blanks that end a line stand.
use Rattle.std.proofs.Common.{◌≡◌, ◌≤◌, ℕ, arith, ◌&&◌, not, nat_lt, Some, None, List, length, slice_index_or, drop, ◌+◌, ◌-◌, [], ap, if◌then◌else◌}
use Rattle.std.specs.List.{prefix_len}
use Rattle.std.proofs.lemmas.List.{get_or_past}
use Rattle.tidy_run.specs.Rules.{line_ends_before, first_from, is_space_or_tab, trailing_blanks_at}
use Rattle.tidy_run.proofs.FirstLemmas.{first-none}

-- none begin from a source's end on
pub blanks-past : (source : List ℕ) → (from : ℕ) → length source ≤ from → first_from trailing_blanks_at source from ≡ None
blanks-past source from past =
    first-none trailing_blanks_at source from (λ i after.
    ap (λ b. if is_space_or_tab b && not (nat_lt 0 i && is_space_or_tab (slice_index_or source (i - 1) 0))
    && line_ends_before (drop (i + prefix_len is_space_or_tab (drop i source)) source)
    then Some record { start = i; end = i + prefix_len is_space_or_tab (drop i source); text = [] } else None)
    (get_or_past source i 0 (omega (arith, past, after))))
