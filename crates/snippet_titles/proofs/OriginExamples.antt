-- Rows of paths, computed.
use Rattle.snippet_titles.proofs.Common.{◌≡◌, ℕ, true, false, None, Some, codes, refl, Ascii, Unicode, plain_text, row_text, norm, Alone, First, file_row}
use Rattle.snippet_titles.proofs.Common.{origin_row, origin_text, snippet_head, DecorStyle, Layout}
use Rattle.std.specs.Fmt.{digits}
use Rattle.std.specs.Str.{chars}
use Rattle.snippet_titles.proofs.PaddingWords.{padding_row}

-- a layout, by its parts
abbrev laid : ℕ → ℕ → DecorStyle → Layout
laid gutter code decor = record { gutter = gutter; code = code; decor = decor; label_lines = false; label_end = 0 }

-- the first element's path, in both styles, and with its line anonymized
primary : row_text (origin_row (record { base = laid 1 4 Ascii; anonymized = false }) First (codes "a.rs")
    (record { line = Some 1; column = Some 5 })) ≡ codes " --> a.rs:1:5"
unfolding digits chars norm file_row origin_row origin_text
primary = refl

primary_unicode : row_text (origin_row (record { base = laid 1 4 Unicode; anonymized = false }) First (codes "a.rs")
    (record { line = Some 1; column = Some 5 })) ≡ codes "  ╭▸ a.rs:1:5"
unfolding digits chars norm file_row origin_row origin_text
primary_unicode = refl

anonymized : row_text (origin_row (record { base = laid 1 4 Ascii; anonymized = true }) First (codes "a.rs")
    (record { line = Some 1; column = Some 5 })) ≡ codes " --> a.rs:LL:5"
unfolding digits chars norm file_row origin_row origin_text
anonymized = refl

-- a path that is all that a group shows
alone : row_text (origin_row (record { base = laid 0 3 Ascii; anonymized = false }) Alone (codes "$DIR/mismatched-types.rs")
    (record { line = None; column = None })) ≡ codes "--> $DIR/mismatched-types.rs"
unfolding digits chars norm file_row origin_row origin_text
alone = refl

-- a column without a line isn't shown, and a tab in a path is four spaces
column_alone : row_text (origin_row (record { base = laid 0 3 Unicode; anonymized = false }) Alone (codes "a\tb")
    (record { line = None; column = Some 7 })) ≡ codes " ─▸ a    b"
unfolding digits chars norm file_row origin_row origin_text
column_alone = refl

-- the heads of snippets
later_file : plain_text (snippet_head (record { base = laid 1 4 Unicode; anonymized = false }) true false (Some (codes "a.rs"))
    (record { line = Some 12; column = Some 1 })) ≡ codes "  ├▸ a.rs:12:1\n  │"
unfolding digits chars norm file_row origin_row origin_text
later_file = refl

other_file : plain_text (snippet_head (record { base = laid 1 4 Ascii; anonymized = false }) false false (Some (codes "b.rs"))
    (record { line = Some 1; column = Some 1 })) ≡ codes "  |\n ::: b.rs:1:1\n  |"
unfolding digits chars norm file_row origin_row origin_text
other_file = refl

no_file : plain_text (snippet_head (record { base = laid 1 4 Unicode; anonymized = false }) false false None
    (record { line = None; column = None })) ≡ codes "  │\n  ⸬  "
unfolding file_row
no_file = refl

-- a padding that is the last element, and one that isn't
padding_last : row_text (padding_row Unicode 1 true) ≡ codes "  ╰╴"
padding_last = refl

padding : row_text (padding_row Ascii 1 false) ≡ codes "  |"
padding = refl
