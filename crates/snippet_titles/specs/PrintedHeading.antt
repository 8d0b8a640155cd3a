-- Headings as they are printed: the rows of a title, and which headings stand in one row.
use Rattle.std.specs.Prelude.{◌<◌, Bool, All, length, List}
use Rattle.snippet_model.specs.Heading.{Heading, heading_of_title}
use Rattle.snippet_text.specs.Plain.{IsPlain}
use Rattle.snippet_style.specs.Cell.{Cell}
use Rattle.snippet_model.specs.declared.snippet.Title.{Title}
use Rattle.snippet_titles.specs.HeadingRows.{heading_rows}
use Rattle.snippet_titles.specs.declared.style.TitleStyle.TheVariants as style

-- the text of a heading is of printable ASCII, so that the heading has one row
pub record IsPlainHeading (heading : Heading) : Type 0 where
  pub some : 0 < length heading.text
  pub plain : All IsPlain heading.text

-- the rows of a title, with links or without
abbrev pub title_rows : Bool → Title → List (List Cell)
title_rows hyperlink title = heading_rows hyperlink style.Title (heading_of_title title)
