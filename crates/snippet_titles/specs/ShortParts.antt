-- What a title in the short form is made of, and the rows that it makes.
use Rattle.std.specs.Prelude.{List, chars, string_bytes}
use Rattle.snippet_model.specs.Heading.{heading_of_title}
use Rattle.snippet_style.specs.Cell.{Cell}
use Rattle.snippet_titles.specs.ShortRows.{short_rows}
use Rattle.snippet_titles.specs.declared.short.ShortParts.{ShortParts}

-- the rows of a title that is made of these parts
abbrev pub rows_of : ShortParts → List (List Cell)
rows_of parts =
    short_rows parts.hyperlink (chars (string_bytes parts.before)) (chars (string_bytes parts.after)) (heading_of_title parts.title.now)
