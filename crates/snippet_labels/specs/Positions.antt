-- Where the labels of a line stand, and the lines that lead to bars.
use Rattle.std.specs.Prelude.{ℕ, ◌+◌, ◌-◌, ◌==◌, ◌&&◌, ◌||◌, nat_le, nat_lt, not, Bool, true, false, List, [], ◌∷◌, length}
use Rattle.std.specs.Prelude.{map, if◌then◌else◌}
use Rattle.std.specs.List.{list_all, list_any, position, zip}
use Rattle.std.specs.Option.{option_map_or}
use Rattle.snippet_parts.specs.declared.entries.LineAnnotation.{LineAnnotation}
use Rattle.snippet_parts.specs.declared.entries.LineAnnotationType.{LineAnnotationType}
use Rattle.snippet_parts.specs.declared.entries.LineAnnotationType.TheVariants.{MultilineStart}
use Rattle.snippet_lines.specs.OrderedBy.{ordered_by}
use Rattle.snippet_parts.specs.Least.{greatest}
use Rattle.snippet_labels.specs.declared.positions.PlacedEntry.{PlacedEntry}
use Rattle.snippet_grid.specs.Layout.{Layout}
use Rattle.snippet_labels.specs.Pieces.{beside_column, label_at, label_of_entry, label_width, shows_any}
use Rattle.snippet_labels.specs.PlacedEntries.{is_end_part}

-- whether an entry has a label that shows anything
abbrev pub has_label : PlacedEntry → Bool
has_label e = shows_any e.label.beside || shows_any e.label.below

-- whether an entry is the start or the end of a span of several lines, so that a line leads from its mark to a bar
abbrev pub takes_space : PlacedEntry → Bool
takes_space e = is_end_part e.entry.annotation_type

-- whether a stem leads down from its mark: to its label, or to the line to its bar
abbrev pub has_stem : PlacedEntry → Bool
has_stem e = nat_lt 0 e.position && (has_label e || takes_space e)

-- whether one of two entries starts in the columns of the other, those of the first being `more` more
abbrev pub do_overlap : PlacedEntry → ℕ → PlacedEntry → Bool
do_overlap e more f =
    (nat_le f.entry.start.display e.entry.start.display && nat_lt e.entry.start.display f.entry.end.display)
    || (nat_le e.entry.start.display f.entry.start.display && nat_lt f.entry.start.display (e.entry.end.display + more))

-- whether two entries have the same start and the same end, in columns and in characters
abbrev pub is_same_place : PlacedEntry → PlacedEntry → Bool
is_same_place e f =
    e.entry.start.display == f.entry.start.display && e.entry.start.char == f.entry.start.char && e.entry.end.display == f.entry.end.display
    && e.entry.end.char == f.entry.end.char

-- whether an entry ends no later than another: at a lesser column, or at the same one and no greater character
abbrev pub ends_no_later : PlacedEntry → PlacedEntry → Bool
ends_no_later e f =
    nat_lt e.entry.end.display f.entry.end.display || (e.entry.end.display == f.entry.end.display && nat_le e.entry.end.char f.entry.end.char)

-- whether another entry's mark stands in the way of a label after its mark: they overlap, and aren't one mark of which
-- the other has no label
abbrev pub crosses : PlacedEntry → PlacedEntry → Bool
crosses e other = do_overlap other 0 e && (has_label other || not (is_same_place e other))

-- whether the lines to bars of two entries, or such a line and a label, would meet in one row: one of the two is a start or
-- an end, and the other is too, or has a label
abbrev pub blocks : PlacedEntry → PlacedEntry → Bool
blocks e other = (takes_space e && (has_label other || takes_space other)) || (has_label e && takes_space other)

-- whether another entry's label, and the two columns after it, would reach into this entry, or nothing may stand right of it; and this entry
-- has a label too, or stands at position 0 and ends no earlier
abbrev pub is_near : ℕ → PlacedEntry → PlacedEntry → Bool
is_near p e other =
    (other.label.last || do_overlap other (label_width other.label + 2) e) && (has_label e || (p == 0 && ends_no_later other e))

-- whether that is so of an entry with a label; or the label would stand in the row of this entry's mark, which goes past where labels are to end
abbrev pub reaches : ℕ → PlacedEntry → PlacedEntry → Bool
reaches p e other = has_label other && (is_near p e other || (p == 0 && e.label.past))

-- the position of an entry in front of others, where p is the one reached: position 0 isn't taken where a mark stands in
-- the way
abbrev pub position_at : ℕ → PlacedEntry → List PlacedEntry → ℕ
position_at p e others = if p == 0 && (has_label e && list_any (crosses e) others) then 1 else p

-- the position reached after it: where an entry after needs a row of its own, as many more as its label has pieces there
abbrev pub position_after : ℕ → PlacedEntry → List PlacedEntry → ℕ
position_after p e others = if list_any (λ other. blocks e other || reaches p e other) others then p + length (label_at p e.label) else p

-- how many of the entries after one are looked at, where this position is reached: all, or where its label may still stand beside
-- the mark, those up to the first one that is in its way
abbrev pub looked_after : ℕ → PlacedEntry → List PlacedEntry → ℕ
looked_after p e others = if p == 0 && has_label e then option_map_or (λ k. k + 1) (position (crosses e) others) (length others) else length others

-- the positions of entries, in their order, from the one reached on
abbrev pub positions : ℕ → List PlacedEntry → List ℕ
positions p [] = []
positions p (e ∷ others) = position_at p e others ∷ positions (position_after (position_at p e others) e others) others

-- for each entry how many of those after it are looked at while these positions are sought
abbrev pub look_counts : ℕ → List PlacedEntry → List ℕ
look_counts p [] = []
look_counts p (e ∷ others) = looked_after p e others ∷ look_counts (position_after (position_at p e others) e others) others

-- whether a part of a span is the start of one of several lines
abbrev pub is_start_part : LineAnnotationType → Bool
is_start_part (MultilineStart depth) = true
is_start_part other = false

-- whether all entries of a line are such starts, and have no label that shows anything
abbrev pub are_starts : List PlacedEntry → Bool
are_starts es = list_all (λ e. is_start_part e.entry.annotation_type && not (has_label e)) es

-- the positions of the entries of a line: flipped where all are starts, so that the greatest becomes 0, and 0 the greatest
abbrev pub line_positions : List PlacedEntry → List ℕ
line_positions es =
    let ps = positions 0 es in
    if are_starts es then map (λ p. greatest ps - p) ps else ps

-- where the label of an entry begins: how many rows below the row of the marks, and at which column. Each further piece stands below the one
-- before it
abbrev pub label_place : PlacedEntry → ℕ × ℕ
label_place e = if e.position == 0 then (0, beside_column e.entry) else (e.position + 1, e.entry.start.display)

-- the pieces of its label as they stand there
abbrev pub pieces_of : PlacedEntry → List (List ℕ)
pieces_of e = label_at e.position e.label

-- whether an entry is placed before another: it starts farther right, or at the same column and a greater character
abbrev pub is_placed_before : LineAnnotation → LineAnnotation → Bool
is_placed_before e f = nat_lt f.start.display e.start.display || (e.start.display == f.start.display && nat_lt f.start.char e.start.char)

-- the entries of a line from right to left, each with its label, at the positions of that order
abbrev pub placed_of : Layout → List LineAnnotation → List PlacedEntry
placed_of layout es =
    let ordered = ordered_by is_placed_before es in
    let bare : List PlacedEntry = map (λ e. record { entry = e; label = label_of_entry layout e; position = 0; looked = 0 }) ordered in
    map (λ found. record found.0 { position = found.1.0; looked = found.1.1 }) (zip bare (zip (line_positions bare) (look_counts 0 bare)))
