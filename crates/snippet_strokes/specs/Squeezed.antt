-- Lines of which the middles of wide spans are cut out before anything is placed, where labels are broken: each column then stands where it is
-- on the page, and a label has the room that it has there.
use Rattle.std.specs.Prelude.{ℕ, ◌+◌, ◌-◌, ◌==◌, ◌&&◌, ◌||◌, ◌++◌, ◌∷◌, [], nat_le, nat_lt, Bool, List, fold, length, map, if◌then◌else◌}
use Rattle.std.specs.List.{list_all, range_with_len, slice_get}
use Rattle.std.specs.Option.{option_map_or}
use Rattle.snippet_style.specs.Cell.{Cell}
use Rattle.snippet_style.specs.declared.glyphs.DecorStyle.{DecorStyle}
use Rattle.snippet_style.specs.Glyphs.{placeholder_of}
use Rattle.snippet_grid.specs.Layout.{Layout}
use Rattle.snippet_parts.specs.declared.entries.LineAnnotation.{LineAnnotation}
use Rattle.snippet_parts.specs.Entries.{is_wide_entry}
use Rattle.snippet_labels.specs.Pieces.{breaks_labels}
use Rattle.snippet_strokes.specs.Cuts.{end_columns, middle_replaced}

-- whether neither the first nor the last column of an entry lies in the middle of another
abbrev pub is_clear_of : ℕ → LineAnnotation → LineAnnotation → Bool
is_clear_of room e f =
    let from = e.start.display + end_columns room in
    let to = e.end.display - end_columns room in
    (nat_lt f.start.display from || nat_le to f.start.display) && (nat_le f.end.display from || nat_lt to f.end.display)

-- whether the middle of an entry is cut out of a line of these: the entry is wide, each of its characters takes a column, and none begins or
-- ends there
abbrev pub gives_way : DecorStyle → ℕ → List LineAnnotation → LineAnnotation → Bool
gives_way decor room es e =
    is_wide_entry room (length (placeholder_of decor)) e && e.end.display - e.start.display == e.end.char - e.start.char
    && list_all (is_clear_of room e) es

-- an entry of a line where the placeholder stands in place of the middle of another: what begins or ends right of that does so farther left
abbrev pub past_middle : DecorStyle → ℕ → LineAnnotation → LineAnnotation → LineAnnotation
past_middle decor room e f =
    let from = e.start.display + end_columns room + length (placeholder_of decor) in
    let to = e.end.display - end_columns room in
    let column : ℕ → ℕ = λ c. if nat_lt c to then c else c - to + from in
    record f { start = record f.start { display = column f.start.display }; end = record f.end { display = column f.end.display } }

-- the entries of a line, and those of which the middle is cut out of it, with one more where that at this place gives way
abbrev pub without_middle : Layout → ℕ → List LineAnnotation × List LineAnnotation → ℕ → List LineAnnotation × List LineAnnotation
without_middle layout room line k =
    let cut : LineAnnotation → List LineAnnotation × List LineAnnotation = λ e. (map (past_middle layout.decor room e) line.0, line.1 ++ e ∷ []) in
    option_map_or (λ e. if gives_way layout.decor room line.0 e then cut e else line) (slice_get line.0 k) line

-- the entries of a line as they are drawn, where labels are broken without the middles of those that give way, one after another; and each that
-- gave way, as it stood before it did
abbrev pub squeezed : Layout → ℕ → List LineAnnotation → List LineAnnotation × List LineAnnotation
squeezed layout room es =
    if breaks_labels layout then fold (without_middle layout room) (es, []) (range_with_len 0 (length es)) else (es, [])

-- a source row, where the placeholder stands in place of the middles of these entries, one after another
abbrev pub middles_replaced : Layout → ℕ → List LineAnnotation → List Cell → List Cell
middles_replaced layout room cut source = fold (λ cells e. middle_replaced layout room e cells) source cut
