-- What is shown of a part of a file.
use Rattle.std.specs.Prelude.{ℕ, List, Option}
use Rattle.redraw_report.specs.declared.finding.Content.{Content}
use Rattle.redraw_report.specs.declared.finding.Content.TheVariants as content
use Rattle.redraw_report.specs.ShownText.{shown_text}

-- what is shown of a part of a file: lines; its line and column alone; or blanks up to its column
pub data Sight : Type 0 where
  Lines : (text : List ℕ) (first_line : ℕ) → Sight
  Nothing : (line column : Option ℕ) → Sight
  Blank : (line column : ℕ) → Sight

abbrev pub sight_of : Content → Sight
sight_of (content.Lines text first_line) = Lines (shown_text text) first_line
sight_of (content.Nothing line column) = Nothing line column
sight_of (content.Blank line column) = Blank line column
