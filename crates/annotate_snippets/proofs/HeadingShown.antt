-- The rows of messages, origins, paddings and titles show them.
use Rattle.std.proofs.Common.{arith}
use Rattle.annotate_snippets.proofs.Common.{◌≡◌, ◌∙◌, ℕ, Bool, true, false, None, Option, Some, List, [], ◌∷◌, if◌then◌else◌, refl}
use Rattle.annotate_snippets.proofs.Common.{sym, ap, subst, cow_str_bytes, All-cons, All-nil, slice_index_or, row_at, Cell, row_text, Heading}
use Rattle.annotate_snippets.proofs.Common.{heading_of_message, Message, Origin, Padding, Title, IsFree, All-unmapped, heading_rows, origin_row, padding_row}
use Rattle.annotate_snippets.proofs.Common.{IsFreeButText, heading_texts, LinksId, TitleStyle, heading_rows-free, origin_row-text, closing_row-free}
use Rattle.annotate_snippets.proofs.Common.{origin_row-free, padding_row-free, heading_rows-places, heading_rows-texts, closes_after, is_end, NamedRow}
use Rattle.annotate_snippets.proofs.Common.{cells_of, others, origin_layout, origin_rows, title_part, ShowsHeading, ShowsTitlePart, Renderer, Layout}
use Rattle.annotate_snippets.proofs.Common.{GroupPosition, Next, ElementContext, HasNoFeed, closing_row}
use Rattle.std.specs.List.{All}
use Rattle.snippet_model.specs.declared.snippet.Message as the_message
use Rattle.snippet_model.specs.declared.snippet.Origin as the_origin
use Rattle.snippet_model.specs.declared.snippet.Padding as the_padding
use Rattle.annotate_snippets.proofs.PageWords.{message_rows, message_style, origin_start, place_given}
use Rattle.annotate_snippets.proofs.ElementShown.{ElementShown}
use Rattle.annotate_snippets.proofs.HeadingFeedLaws.{heading_one_line}
use Rattle.annotate_snippets.proofs.NamedRows.{cells_of-others}
use Rattle.annotate_snippets.proofs.PathFeedLaws.{origin_one_line, padding_one_line}

-- what holds of rows holds of them with names
pub others-each : (P : List Cell → Type 0) (rows : List (List Cell)) → All P rows → All (λ (row : NamedRow). P row.cells) (others rows)
others-each P rows each = All-unmapped P (λ (row : NamedRow). row.cells) (others rows) (subst (All P) (sym (cells_of-others rows)) each)

-- the rows of a heading show it
heading_shown : (hyperlink : Bool) (place : TitleStyle) (heading : Heading) → ShowsHeading hyperlink place heading (heading_rows hyperlink place heading)
heading_shown hyperlink place heading = grind (arith, heading_rows-free)

-- so the text of each is that of the line that it shows, the first after the label
pub texts_of : {hyperlink : Bool} {place : TitleStyle} {heading : Heading} {rows : List (List Cell)} → ShowsHeading hyperlink place heading rows → (i : ℕ)
    → row_text (row_at rows i) ≡ slice_index_or (heading_texts place heading) i []
texts_of {hyperlink} {place} {heading} shown i = ap (λ rs. row_text (row_at rs i)) shown.rows_are ∙ heading_rows-texts hyperlink place heading i

-- and the text of its id links to the id's address, where links are on and it has one, and nothing else links
pub links_of_heading : {hyperlink : Bool} {place : TitleStyle} {heading : Heading} {rows : List (List Cell)} → ShowsHeading hyperlink place heading rows
    → LinksId hyperlink place heading rows
links_of_heading {hyperlink} {place} {heading} shown =
    subst (LinksId hyperlink place heading) (sym shown.rows_are) (heading_rows-places hyperlink place heading)

-- those of a message show it too
pub message_shown : (r : Renderer) (layout : Layout) (around : ElementContext) (found : List Cell) (message : the_message.Message)
    → ElementShown r layout around found (Message message)
message_shown r layout around found message =
    let heading : Heading = heading_of_message message in
    let rows : List (List Cell) = message_rows r layout around message in
    let same : cells_of (others rows) ≡ rows = cells_of-others rows in
    let shows : ShowsHeading r.hyperlink (message_style r layout around) heading rows = heading_shown r.hyperlink (message_style r layout around) heading in
    record {
      shows = record { named = ap others (sym same); shows = subst (ShowsHeading r.hyperlink (message_style r layout around) heading) (sym same) shows };
      free = others-each (IsFreeButText heading) rows shows.free;
      one_line = λ plain. subst (All HasNoFeed) (sym same) (heading_one_line r.hyperlink (message_style r layout around) heading (plain, tt));
    }

-- those of an origin
closing-free : (r : Renderer) (layout : Layout) (closes : Bool) → All IsFree (if closes then (closing_row layout.decor layout.gutter ∷ []) else [])
closing-free r layout true = All-cons IsFree _ [] (closing_row-free layout.decor layout.gutter) (All-nil IsFree)
closing-free r layout false = All-nil IsFree

-- the rows of an origin show it
pub origin_shown : (r : Renderer) (layout : Layout) (around : ElementContext) (found : List Cell) (origin : the_origin.Origin)
    → ElementShown r layout around found (Origin origin)
origin_shown r layout around found origin =
    let path : List ℕ = cow_str_bytes origin.path in
    let row : List Cell = origin_row (origin_layout r layout) (origin_start around) path (place_given origin) in
    let rows : List (List Cell) = origin_rows r layout around origin in
    let free : All IsFree rows = All-cons IsFree row _
    (origin_row-free (origin_layout r layout) (origin_start around) path (place_given origin)) (closing-free r layout (closes_after around)) in
    record {
      shows = record { rows_are = refl; text = origin_row-text (origin_layout r layout) (origin_start around) path (place_given origin) };
      free = others-each IsFree rows free;
      one_line = λ plain. subst (All HasNoFeed) (sym (cells_of-others rows)) (origin_one_line r layout around origin plain);
    }

-- and that of a padding
pub padding_shown : (r : Renderer) (layout : Layout) (around : ElementContext) (found : List Cell) (padding : the_padding.Padding)
    → ElementShown r layout around found (Padding padding)
padding_shown r layout around found padding =
    let row : List Cell = padding_row layout.decor layout.gutter (is_end around.next) in
    let free : All IsFree (row ∷ []) = All-cons IsFree row [] (padding_row-free layout.decor layout.gutter (is_end around.next)) (All-nil IsFree) in
    record { shows = refl; free = others-each IsFree (row ∷ []) free; one_line = λ plain. padding_one_line r layout (is_end around.next) }

-- the title's part of a group shows the title
pub title_shown : (r : Renderer) (layout : Layout) (place : GroupPosition) (follows : Next) (title : Option Title)
    → ShowsTitlePart r layout place follows title (title_part r layout place follows title)
title_shown r layout place follows None = refl
title_shown r layout place follows (Some title) = grind (arith, heading_shown, r.hyperlink)
