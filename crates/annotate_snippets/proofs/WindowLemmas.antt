-- Where lines aren't cut on the left, nothing is dropped.
use Rattle.annotate_snippets.proofs.Common.{◌≡◌, ℕ, List, refl, width_of, dropped_part, reaching-none, left_none}

-- nothing is dropped
pub dropped-none : (text : List ℕ) → width_of (dropped_part 0 text) ≡ 0
dropped-none text = rw (left_none text, reaching-none text) refl
