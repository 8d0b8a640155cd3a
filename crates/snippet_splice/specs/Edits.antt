-- Edits of a source: their order, the source with them applied, and what is left of them once they are trimmed.
use Rattle.std.specs.Prelude.{ℕ, ◌+◌, ◌-◌, nat_lt, nat_le, ◌==◌, ◌&&◌, ◌||◌, Bool, Option, Some, None, List, [], ◌∷◌, ◌++◌, length, map, drop}
use Rattle.std.specs.Prelude.{if◌then◌else◌}
use Rattle.std.specs.List.{slice_range}
use Rattle.std.specs.Cow.{cow_str_bytes}
use Rattle.snippet_model.specs.declared.snippet.Patch.{Patch}
use Rattle.snippet_lines.specs.OrderedBy.{ordered_by}
use Rattle.snippet_splice.specs.Trim.{sandwich}

-- an edit: the bytes from `start` to `end` of a source are replaced by a text
pub record Edit : Type 0 where
  pub start : ℕ
  pub end : ℕ
  pub text : List ℕ

-- the edit that a patch stands for
abbrev pub edit_of : Patch → Edit
edit_of p = record { start = p.span.start; end = p.span.end; text = cow_str_bytes p.replacement }

-- whether an edit comes before another whatever the order given: by start, then by end
abbrev pub precedes : Edit → Edit → Bool
precedes d e = nat_lt d.start e.start || (d.start == e.start && nat_lt d.end e.end)

-- edits in order: by start, then by end, else as given
abbrev pub in_order : List Edit → List Edit
in_order es = ordered_by precedes es

-- the source from a byte on, with these edits applied, each at its place in the source
abbrev pub edited_from : List ℕ → ℕ → List Edit → List ℕ
edited_from source at [] = drop at source
edited_from source at (e ∷ es) = slice_range source at e.start ++ (e.text ++ edited_from source e.end es)

-- the patched source: with the edits in order, the bytes of the source between them and their texts, joined
abbrev pub patched : List ℕ → List Edit → List ℕ
patched source es = edited_from source 0 (in_order es)

-- an edit shrunk by what its text keeps of the source: so many bytes before its middle, and so many after it
abbrev pub shrunk : Edit → Option (ℕ × List ℕ × ℕ) → Edit
shrunk e None = e
shrunk e (Some kept) = record { start = e.start + kept.0; end = e.end - kept.2; text = kept.1 }

-- the trimmed edit; one whose text is empty or that reaches past the source stays
unfoldable pub trimmed_edit : List ℕ → Edit → Edit
trimmed_edit source e =
    if nat_lt 0 (length e.text) && nat_le e.end (length source) then shrunk e (sandwich (slice_range source e.start e.end) e.text)
    else e

-- the trimmed edits, in the order of the untrimmed ones
abbrev pub trimmed_edits : List ℕ → List Edit → List Edit
trimmed_edits source es = map (trimmed_edit source) (in_order es)
