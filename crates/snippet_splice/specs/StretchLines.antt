-- Over how many lines the stretches of some edits go, and how a table of lines holds them.
use Rattle.std.specs.Prelude.{ℕ, ◌+◌, max, Bool, Vec, List, [], ◌∷◌, ◌++◌, length, map, drop, count_by, if◌then◌else◌}
use Rattle.std.specs.List.{slice_index_or, slice_range}
use Rattle.std.specs.declared.alloc.Global.{Global}
use Rattle.snippet_lines.specs.Lines.{is_lf, source_lines}
use Rattle.snippet_splice.specs.declared.stretches.PatchExtent.{PatchExtent}
use Rattle.snippet_splice.specs.declared.stretches.SubstitutionHighlight.{SubstitutionHighlight}
use Rattle.snippet_splice.specs.Copied.{in_text, written_from, end_from}
use Rattle.snippet_splice.specs.Edits.{Edit, in_order, trimmed_edits}
use Rattle.snippet_splice.specs.TrimmedEdits.{edit_bounds}
use Rattle.snippet_splice.specs.ShownText.{first_start, shown_start, shown_rest, closes_line}
use Rattle.snippet_splice.specs.EditStretches.{capped, Extent, extents_from}

-- the stretches of line k in a table of lines; none of a line that isn't there
abbrev pub line_stretches : List (Vec SubstitutionHighlight Global) → ℕ → List SubstitutionHighlight
line_stretches lines k = slice_index_or (map (λ v. v.items) lines) k []

-- where the edit of a trimmed patch stands in its lines, as the code has it
abbrev pub extent_of : PatchExtent → Extent
extent_of p =
    record { feeds = p.feeds; before = p.text_start; start = p.start; end = p.end; under = p.inside.now; text = p.replacement.now }

-- how many LF stand in the lines that some edits make: between one edit and the next, and in their texts
abbrev pub feeds_made : List Extent → ℕ
feeds_made [] = 0
feeds_made (x ∷ xs) = x.feeds + count_by is_lf x.text + feeds_made xs

-- how many lines the text that is shown has, before the LF that end it are taken away
unfoldable pub num_shown_lines : Bool → List ℕ → List Edit → ℕ
num_shown_lines fold source es =
    let ts = trimmed_edits source es in
    let from = shown_start fold source (first_start (in_order es)) in
    capped (count_by is_lf (written_from source from ts ++ shown_rest fold (closes_line ts) (drop (end_from from ts) source)) + 1)

-- how many lines there are from the first to the last on which some edits stand, if they are looked for from line `line` on
abbrev pub lines_over : ℕ → List Extent → ℕ
lines_over line [] = 0
lines_over line (x ∷ xs) =
    let last = capped (capped (line + x.feeds) + count_by is_lf x.under) in max (capped (last + 1)) (lines_over last xs)

-- the greatest of a byte and the ends of some bounds
abbrev pub last_end_of : ℕ → List (ℕ × ℕ) → ℕ
last_end_of at [] = at
last_end_of at (bounds ∷ others) = last_end_of (max at bounds.1) others

-- how many lines of the source the text that is shown replaces, if edits had these bounds as they were given: folded, those
-- from the byte on at which its first line starts to the greatest end; unfolded all
abbrev pub source_lines_shown : Bool → List ℕ → ℕ → List (ℕ × ℕ) → ℕ
source_lines_shown fold source start bounds =
    let end = last_end_of start bounds in
    if fold then count_by is_lf (slice_range source (in_text source start) (in_text source end)) + 1 else length (source_lines source)

-- how many lines of the source have a list of stretches that are replaced: those that the text replaces
unfoldable pub num_replaced_lines : Bool → List ℕ → List Edit → ℕ
num_replaced_lines fold source es =
    let from = shown_start fold source (first_start (in_order es)) in
    max (lines_over 0 (extents_from source from from (trimmed_edits source es))) (source_lines_shown fold source from (map edit_bounds (in_order es)))
