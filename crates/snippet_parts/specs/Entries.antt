-- What those who draw entries know of them.
use Rattle.std.specs.Prelude.{ℕ, ◌<◌, ◌&&◌, Bool, List, length, slice_index_or}
use Rattle.snippet_parts.specs.declared.entries.LineAnnotation.{LineAnnotation}
use Rattle.snippet_parts.specs.declared.entries.LineAnnotationType.{LineAnnotationType}
use Rattle.snippet_parts.specs.declared.entries.LineAnnotationType.TheVariants.{Singleline, MultilineLine}
use Rattle.std.specs.Prelude.{◌+◌, ◌-◌, ◌*◌, nat_lt, true, false}

-- each number is below those after it
abbrev pub Ascends : List ℕ → Type 0
Ascends ks = (i j d : ℕ) → i < j → j < length ks → slice_index_or ks i d < slice_index_or ks j d

-- whether an entry stands for a bar, which has no columns of its own
abbrev pub is_bar : LineAnnotationType → Bool
is_bar (MultilineLine depth) = true
is_bar other = false

-- whether an entry stands for a whole span, and not for the start, the end or a bar of one of several lines
abbrev pub is_single_part : LineAnnotationType → Bool
is_single_part Singleline = true
is_single_part other = false

-- whether an entry stands for a whole span that is wide, in a room of so many columns: it covers more than twice as many,
-- and more than ten beside those of the placeholder
abbrev pub is_wide_entry : ℕ → ℕ → LineAnnotation → Bool
is_wide_entry room placeholder_width e =
    let width = e.end.display - e.start.display in
    is_single_part e.annotation_type && nat_lt (2 * room) width && nat_lt (10 + placeholder_width) width
