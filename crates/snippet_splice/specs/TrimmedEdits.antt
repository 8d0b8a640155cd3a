-- What is known of patches once they are trimmed: the edits that they stand for, where those stood before, and that they stand apart.
use Rattle.std.specs.Prelude.{ℕ, ◌≤◌, List, [], ◌∷◌}
use Rattle.snippet_splice.specs.declared.patches.TrimmedPatch.{TrimmedPatch}
use Rattle.snippet_splice.specs.Edits.{Edit}

-- the edit that a trimmed patch stands for
abbrev pub trimmed_edit_of : TrimmedPatch → Edit
trimmed_edit_of p = record { start = p.span.start; end = p.span.end; text = p.replacement.now }

-- where an edit starts and ends, and where the patch did that was trimmed
abbrev pub edit_bounds : Edit → ℕ × ℕ
edit_bounds e = (e.start, e.end)

abbrev pub original_bounds_of : TrimmedPatch → ℕ × ℕ
original_bounds_of p = (p.original_span.start, p.original_span.end)

-- edits stand after a byte and one after the other
abbrev pub AreApart : ℕ → List Edit → Type 0
AreApart at [] = Unit {0}
AreApart at (e ∷ es) = (at ≤ e.start) × (e.start ≤ e.end) × AreApart e.end es
