-- What a replacement keeps of the text that it replaces.
use Rattle.std.specs.Prelude.{ℕ, zero, suc, ◌-◌, nat_le, Bool, ◌&&◌, Option, Some, None, List, length, take, drop, if◌then◌else◌}
use Rattle.std.specs.List.{slice_range}
use Rattle.std.specs.Option.{option_map}
use Rattle.std.specs.Str.{bytes_eq}
use Rattle.snippet_lines.specs.Span.{is_character_border}

-- whether a replacement is the original with a text in the middle of it, before which stand so many of the original's bytes, up to a
-- character's border
abbrev pub is_sandwiched : List ℕ → List ℕ → ℕ → Bool
is_sandwiched original replacement before =
    is_character_border original before && nat_le (length original) (length replacement) && bytes_eq (take before replacement) (take before original)
    && bytes_eq (drop (length replacement - (length original - before)) replacement) (drop before original)

-- the greatest number up to n that passes a test, if there is one
abbrev pub greatest_passing : (ℕ → Bool) → ℕ → Option ℕ
greatest_passing passes zero = if passes zero then Some zero else None
greatest_passing passes (suc n) = if passes (suc n) then Some (suc n) else greatest_passing passes n

-- the way that is taken, by how many of the original's bytes stand before the middle: all, if they can; else none, if all can stand after it;
-- else as many as can
unfoldable pub kept_before : List ℕ → List ℕ → Option ℕ
kept_before original replacement =
    if is_sandwiched original replacement (length original) then Some (length original)
    else if is_sandwiched original replacement 0 then Some 0
    else greatest_passing (is_sandwiched original replacement) (length original)

-- the way that is taken, computed
unfoldable pub sandwich : List ℕ → List ℕ → Option (ℕ × List ℕ × ℕ)
sandwich original replacement =
    option_map (λ before. (before, slice_range replacement before (length replacement - (length original - before)), length original - before))
    (kept_before original replacement)
