-- Which of a result's places are the point of the report.
use Rattle.std.specs.Prelude.{string_bytes, nat_eq, ℕ, Bool, true, false, ◌==◌, ◌&&◌, List, [], ◌∷◌, Option, Some, map, if◌then◌else◌}
use Rattle.std.specs.List.{list_all, list_any}
use lib.Pointwise.{pointwise}
use Rattle.redraw_report.specs.declared.diagnostic.FileSpan.{FileSpan}
use Rattle.redraw_report.specs.declared.diagnostic.Region.{Region}
use Rattle.redraw_report.specs.declared.diagnostic.Region.TheVariants as region

-- whether two columns are given and the same
abbrev pub same_column : Option ℕ → Option ℕ → Bool
same_column (Some start) (Some end) = start == end
same_column start end = false

-- whether a region is one column of a line, and no part of it
abbrev pub is_caret : Region → Bool
is_caret (region.Bytes start end) = false
is_caret (region.Chars start end unit) = false
is_caret (region.Lines r) = r.start_line == r.end_line && same_column r.start_column r.end_column

-- whether a place is in the file of this name
abbrev pub is_in : List ℕ → FileSpan → Bool
is_in file span = pointwise nat_eq (string_bytes span.file) file

-- whether some places are all in one file
abbrev pub is_one_file : List FileSpan → Bool
is_one_file [] = true
is_one_file (span ∷ spans) = list_all (is_in (string_bytes span.file)) spans

-- a place that is the point of the report where it is a column, and else helps to see it
abbrev pub by_caret : FileSpan → FileSpan
by_caret span = record span { is_primary = is_caret span.region }

-- some places, of which those that are columns are the point of the report, if there are such and all are in one file
abbrev pub chosen : List FileSpan → List FileSpan
chosen spans =
    if is_one_file spans && list_any (λ span. is_caret span.region) spans then map by_caret spans else spans
