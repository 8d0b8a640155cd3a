-- What the code of the cuts finds, step by step, as its contracts say it: the same as the rules in `Cuts`.
use Rattle.std.specs.Prelude.{ℕ, ◌+◌, ◌&&◌, ◌||◌, nat_le, nat_lt, Bool, List, [], ◌∷◌, drop, take, length}
use Rattle.std.specs.List.{list_any, slice_index_or, zip}
use Rattle.snippet_style.specs.Glyphs.{placeholder_of}
use Rattle.snippet_style.specs.declared.glyphs.DecorStyle.{DecorStyle}
use Rattle.snippet_parts.specs.Entries.{is_wide_entry}
use Rattle.snippet_labels.specs.declared.positions.PlacedEntry.{PlacedEntry}
use Rattle.snippet_labels.specs.Positions.{do_overlap}

-- for each of these entries, the first of which stands at place i, before which place those stand that are looked at, from the first of
-- the line on
abbrev pub look_ends : ℕ → List PlacedEntry → List ℕ
look_ends i [] = []
look_ends i (e ∷ es) = (i + 1 + e.looked) ∷ look_ends (i + 1) es

-- whether an entry overlaps one of those that are looked at for it, the two farthest right left out
abbrev pub meets : PlacedEntry → List PlacedEntry → Bool
meets e looked = list_any (λ other. do_overlap other 0 e) (drop 2 looked)

-- whether the entry at place k is looked at for one of these, and overlaps it
abbrev pub is_met : ℕ → PlacedEntry → List PlacedEntry → List ℕ → Bool
is_met k e placed ends = list_any (λ pair. nat_lt k pair.1 && do_overlap e 0 pair.0) (zip placed ends)

-- whether the entry at place k is overlapped, where those before these places are looked at
abbrev pub is_overlapped : List PlacedEntry → List ℕ → ℕ → PlacedEntry → Bool
is_overlapped placed ends k e = meets e (take (slice_index_or ends k 0) placed) || (nat_le 2 k && is_met k e placed ends)

-- for each of these entries, the first of which stands at place k of the line, whether it is
abbrev pub overlapped_by : List PlacedEntry → List ℕ → ℕ → List PlacedEntry → List Bool
overlapped_by placed ends k [] = []
overlapped_by placed ends k (e ∷ es) = is_overlapped placed ends k e ∷ overlapped_by placed ends (k + 1) es

-- ---- which entries are wide

-- whether an entry is wide, in a room of so many columns
abbrev pub is_wide_at : ℕ → DecorStyle → PlacedEntry → Bool
is_wide_at room decor e = is_wide_entry room (length (placeholder_of decor)) e.entry
