-- Which stretches of a line give their place to the placeholder, because the entries there are wide.
use Rattle.std.specs.Prelude.{ℕ, map, ◌+◌, ◌-◌, ◌/◌, ◌==◌, ◌&&◌, ◌||◌, nat_le, nat_lt, not, max, Bool, List, length}
use Rattle.std.specs.Prelude.{if◌then◌else◌}
use Rattle.std.specs.List.{enumerate_from, list_any, zip}
use Rattle.snippet_style.specs.Cell.{Cell, text_cells}
use Rattle.snippet_style.specs.declared.glyphs.DecorStyle.{DecorStyle}
use Rattle.snippet_style.specs.Glyphs.{placeholder_of}
use Rattle.snippet_style.specs.declared.role.ElementStyle.TheVariants.{LineNumber}
use Rattle.snippet_grid.specs.Grid.{replaced_within}
use Rattle.snippet_parts.specs.declared.entries.LineAnnotation.{LineAnnotation}
use Rattle.snippet_parts.specs.Entries.{is_wide_entry}
use Rattle.snippet_grid.specs.Layout.{Layout, code_cell}
use Rattle.snippet_labels.specs.declared.positions.PlacedEntry.{PlacedEntry}
use Rattle.snippet_labels.specs.Pieces.{breaks_labels}
use Rattle.snippet_labels.specs.Positions.{do_overlap, pieces_of}

-- ---- which entries are overlapped: the original's rule

-- whether entry e sees entry f, where they stand at places i and j of their line, from right to left: they overlap, and f is none after the
-- last that is looked at while the place of e's label is sought, so many after e. The two farthest right are seen by none
abbrev pub sees : ℕ → PlacedEntry → ℕ → PlacedEntry → Bool
sees i e j f = nat_le 2 j && (nat_lt j (i + 1 + e.looked) && do_overlap f 0 e)

-- for each entry of a line whether it is overlapped: it sees one, or one sees it
abbrev pub overlapped : List PlacedEntry → List Bool
overlapped placed =
    let numbered = enumerate_from 0 placed in
    map (λ x. list_any (λ y. sees x.0 x.1 y.0 y.1 || sees y.0 y.1 x.0 x.1) numbered) numbered

-- the same flags for these entries, where one counts as overlapped too if a label of several pieces stands after its mark, or after one that
-- starts right of where it does: the pieces below the first one would not move with the row of the marks. Where labels are broken each does,
-- since what is cut is so before labels have their places
abbrev pub with_blocks : Layout → List PlacedEntry → List Bool → List Bool
with_blocks layout order flags =
    map (λ pair. pair.1 || (breaks_labels layout
    || list_any (λ f. f.position == 0 && (nat_le pair.0.entry.start.display f.entry.start.display && nat_lt 1 (length (pieces_of f)))) order))
    (zip order flags)

-- ---- what is cut

-- how many columns stay at each end of an entry of which the middle is cut, in a room of so many: a third of it, and five at least
abbrev pub end_columns : ℕ → ℕ
end_columns room = max 5 (room / 3)

-- a row with the placeholder in place of the middle of an entry. A stretch that the row doesn't hold stays
abbrev pub middle_replaced : Layout → ℕ → LineAnnotation → List Cell → List Cell
middle_replaced layout room e row =
    replaced_within (code_cell layout e.start.display + end_columns room) (code_cell layout e.end.display - end_columns room)
    (text_cells LineNumber (placeholder_of layout.decor)) row

-- whether the middle of an entry is cut, in a room of so many columns: the entry is wide and, as the flag beside it says, not overlapped
abbrev pub is_cut : ℕ → DecorStyle → PlacedEntry × Bool → Bool
is_cut room decor pair = is_wide_entry room (length (placeholder_of decor)) pair.0.entry && not pair.1

-- the same of an entry that is cut
abbrev pub cut_middle : Layout → ℕ → List Cell → PlacedEntry × Bool → List Cell
cut_middle layout room row pair = if is_cut room layout.decor pair then middle_replaced layout room pair.0.entry row else row
