-- When two sources that are shown are one.
use Rattle.std.specs.Prelude.{◌==◌, ◌&&◌, Bool, false, nat_eq}
use Rattle.std.specs.Option.{option_eq}
use Rattle.std.specs.Str.{bytes_eq}
use Rattle.redraw_report.specs.declared.finding.Content.{Content}
use Rattle.redraw_report.specs.declared.finding.Content.TheVariants.{Lines, Nothing, Blank}
use Rattle.redraw_report.specs.declared.finding.Shown.{Shown}
use Rattle.redraw_report.specs.ShownText.{shown_text}

-- whether the same is shown of two files
abbrev pub same_content : Content → Content → Bool
same_content (Lines text first) (Lines other_text other_first) = first == other_first && bytes_eq (shown_text text) (shown_text other_text)
same_content (Lines text first) (Nothing line column) = false
same_content (Lines text first) (Blank line column) = false
same_content (Nothing line column) (Lines text first) = false
same_content (Nothing line column) (Nothing other_line other_column) =
    option_eq nat_eq line other_line && option_eq nat_eq column other_column
same_content (Nothing line column) (Blank other_line other_column) = false
same_content (Blank line column) (Lines text first) = false
same_content (Blank line column) (Nothing other_line other_column) = false
same_content (Blank line column) (Blank other_line other_column) = line == other_line && column == other_column

-- whether two sources are of the same path and show the same
abbrev pub same_source : Shown → Shown → Bool
same_source s t = bytes_eq s.path.now t.path.now && same_content s.content t.content
