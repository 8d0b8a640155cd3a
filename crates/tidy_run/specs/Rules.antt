-- What the linter's own rules find: for each rule, the finding that begins at a byte, where one does.
use Rattle.std.specs.Prelude.{ℕ, zero, suc, ◌+◌, ◌-◌, Bool, true, false, not, ◌==◌, ◌&&◌, ◌||◌, nat_lt, Option, Some, None, List, [], ◌∷◌, drop, length}
use Rattle.std.specs.Prelude.{slice_index_or, codes, if◌then◌else◌}
use Rattle.std.specs.List.{prefix_len}
use Rattle.std.specs.Option.{option_or}
use Rattle.tidy_run.specs.Findings.{Finding}

-- the first finding that begins at byte `from`, or at one of so many bytes in all
abbrev pub first_finding : (ℕ → Option Finding) → ℕ → ℕ → Option Finding
first_finding begins zero from = None
first_finding begins (suc more) from = option_or (begins from) (first_finding begins more (from + 1))

-- the first finding in a source that begins at byte `from` or after it, the place at the source's end counted
unfoldable pub first_from : (List ℕ → ℕ → Option Finding) → List ℕ → ℕ → Option Finding
first_from begins source from = first_finding (begins source) (length source + 1 - from) from

-- a tab: four spaces stand in its place
abbrev pub tab_at : List ℕ → ℕ → Option Finding
tab_at source at =
    if slice_index_or source at 0 == 9 then Some record { start = at; end = at + 1; text = codes "    " } else None

-- the end of a source that isn't empty, and whose last byte is no line feed: a line feed is put in
abbrev pub missing_end_at : List ℕ → ℕ → Option Finding
missing_end_at source at =
    if at == length source && nat_lt 0 at && not (slice_index_or source (at - 1) 0 == 10)
    then Some record { start = at; end = at; text = 10 ∷ [] } else None

-- spaces and tabs are blanks
abbrev pub is_space_or_tab : ℕ → Bool
is_space_or_tab b = b == 32 || b == 9

-- whether bytes begin with a line feed
abbrev pub begins_with_line_feed : List ℕ → Bool
begins_with_line_feed [] = false
begins_with_line_feed (b ∷ bs) = b == 10

-- whether a line ends before these bytes: there are none, or they begin with a line feed, or with a carriage return and that
abbrev pub line_ends_before : List ℕ → Bool
line_ends_before [] = true
line_ends_before (b ∷ bs) = b == 10 || b == 13 && begins_with_line_feed bs

-- blanks that end a line, from the first of them on: they go
abbrev pub trailing_blanks_at : List ℕ → ℕ → Option Finding
trailing_blanks_at source at =
    if is_space_or_tab (slice_index_or source at 0) && not (nat_lt 0 at && is_space_or_tab (slice_index_or source (at - 1) 0))
    && line_ends_before (drop (at + prefix_len is_space_or_tab (drop at source)) source)
    then Some record { start = at; end = at + prefix_len is_space_or_tab (drop at source); text = [] } else None
