-- How source is copied beside patches: by the text of its lines, and with an LF for each line end.
use Rattle.std.specs.Prelude.{ℕ, ◌+◌, ◌-◌, nat_lt, min, ◌==◌, ◌&&◌, List, [], ◌∷◌, ◌++◌, length, slice_index, count_by, fold, if◌then◌else◌}
use Rattle.std.specs.List.{slice_range}
use Rattle.snippet_lines.specs.Lines.{last_byte}
use Rattle.snippet_splice.specs.declared.splice.LineRange.{LineRange}
use Rattle.snippet_splice.specs.Edits.{Edit}

-- a byte moved out of the line end that it stands in or after, where that isn't followed by a line: from between CR and LF to before the CR,
-- and from after a final line end to before it
abbrev pub in_text : List ℕ → ℕ → ℕ
in_text source b =
    let at = min b (if last_byte source == 10 then length source - 1 else length source) in
    if nat_lt 0 at && nat_lt at (length source) && slice_index source at == 10 && slice_index source (at - 1) == 13 then at - 1 else at

-- a text with an LF in place of each CR LF
abbrev pub with_line_feeds : List ℕ → List ℕ
with_line_feeds [] = []
with_line_feeds (b ∷ bs) =
    if b == 13 && slice_index bs 0 == 10 then with_line_feeds bs else b ∷ with_line_feeds bs

-- what is copied of a source from one byte to another
abbrev pub copied : List ℕ → ℕ → ℕ → List ℕ
copied source from to =
    with_line_feeds (slice_range source (in_text source from) (in_text source to))

-- what is written from a byte of the source on for some edits: before the text of each what is copied of the source
abbrev pub written_from : List ℕ → ℕ → List Edit → List ℕ
written_from source at [] = []
written_from source at (e ∷ es) = copied source at e.start ++ (e.text ++ written_from source e.end es)

-- on which lines the text of each of these edits stands, where so many line feeds were written before
abbrev pub written_ranges : List ℕ → ℕ → ℕ → List Edit → List LineRange
written_ranges source feeds at [] = []
written_ranges source feeds at (e ∷ es) =
    let first = feeds + count_by (λ b. b == 10) (copied source at e.start) in
    let last = first + count_by (λ b. b == 10) e.text in
    record { first = first; last = last } ∷ written_ranges source last e.end es

-- the byte of the source after the last of some edits, from a byte on
abbrev pub end_from : ℕ → List Edit → ℕ
end_from at es = fold (λ before e. e.end) at es
