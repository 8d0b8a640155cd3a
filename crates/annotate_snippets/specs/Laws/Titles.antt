-- What the rows of a title or a message show.
use Rattle.std.specs.Prelude.{◌≡◌, Bool, not, List, [], ◌++◌, All, Option, Some, None}
use Rattle.snippet_style.specs.Cell.{Cell}
use Rattle.snippet_model.specs.Heading.{Heading, heading_of_message, heading_of_title}
use Rattle.snippet_model.specs.declared.snippet.Title.{Title}
use Rattle.snippet_titles.specs.HeadingRows.{heading_rows}
use Rattle.snippet_titles.specs.ShownHeading.{IsFreeButText}
use Rattle.snippet_titles.specs.declared.style.TitleStyle.{TitleStyle}
use Rattle.annotate_snippets.specs.declared.renderer.Renderer.{Renderer}
use Rattle.snippet_grid.specs.Layout.{Layout}
use Rattle.annotate_snippets.specs.declared.renderer.element_context.GroupPosition.{GroupPosition}
use Rattle.annotate_snippets.specs.declared.renderer.element_context.Next.{Next}
use Rattle.annotate_snippets.specs.declared.renderer.element_context.ElementContext.{ElementContext}
use Rattle.annotate_snippets.specs.ElementContext.{is_end}
use Rattle.annotate_snippets.specs.Page.{NamedRow, cells_of, others}
use Rattle.annotate_snippets.specs.RowsWithoutSource.{rows_after_title}
use Rattle.snippet_model.specs.declared.snippet.Message as message
use Rattle.snippet_titles.specs.declared.style.TitleStyle.TheVariants as style

-- the rows show a title or a message, which answers this: level, identifier, text, and whether that is trusted. They are its rows
-- cell by cell; so the row of each line of its text is the text of that line as it is drawn, the first after the label; the text of
-- its id links to the id's address where links are on and it has one, and nothing else links; and each listed character is one
-- of its own text, which is trusted
pub record ShowsHeading (hyperlink : Bool) (place : TitleStyle) (heading : Heading) (rows : List (List Cell)) : Type 0 where
  pub rows_are : rows ≡ heading_rows hyperlink place heading
  pub free : All (IsFreeButText heading) rows

-- the rows show a group's title, if it has one: after its own rows stands what sets off a message that follows, or closes the
-- group
pub record ShowsTitle (r : Renderer) (layout : Layout) (place : GroupPosition) (follows : Next) (title : Title) (rows : List (List Cell)) : Type 0 where
  pub own : List (List Cell)
  pub rows_are : rows ≡ own ++ rows_after_title r layout place follows title.allows_styling
  pub shows : ShowsHeading r.hyperlink style.Title (heading_of_title title) own

-- the same, where there may be no title: then there are no rows
abbrev pub ShowsTitlePart : Renderer → Layout → GroupPosition → Next → Option Title → List (List Cell) → Type 0
ShowsTitlePart r layout place follows None rows = rows ≡ []
ShowsTitlePart r layout place follows (Some title) rows = ShowsTitle r layout place follows title rows

-- the rows show a message
pub record ShowsMessage (r : Renderer) (layout : Layout) (around : ElementContext) (m : message.Message) (rows : List NamedRow) : Type 0 where
  pub named : rows ≡ others (cells_of rows)
  pub shows : ShowsHeading r.hyperlink (style.Message (record { layout = layout; followed = not (is_end around.next) })) (heading_of_message m) (cells_of rows)
