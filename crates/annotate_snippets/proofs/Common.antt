-- What most proofs of this crate cite, given on from one place.
pub use Rattle.annotate_snippets.specs.Article.{linked_html, address_of, id_html, title_html, bracketed_html, article}
pub use Rattle.annotate_snippets.specs.AsSet.{IsAsSet, wraps, adds_context, IsStep, IsRemade, IsMaskedFor, shows_as_given, IsShownFor}
pub use Rattle.annotate_snippets.specs.Drawable.{IsGroupWithinBounds, IsDrawableAsSet}
pub use Rattle.annotate_snippets.specs.DrawnReport.{suggestion_layout, last_row, suggestion_lines}
pub use Rattle.annotate_snippets.specs.ElementContext.{path_bytes, is_end, drawn_elements, first_two_share, next_of, context_at, file_of_group}
pub use Rattle.annotate_snippets.specs.ElementContext.{is_before_message, closes_with, closes_after, position_of_group, suggestion_rows, file_of_element}
pub use Rattle.annotate_snippets.specs.ElementContext.{primary_path, share_file, is_first_of_several, suggestion_start, is_same_file}
pub use Rattle.annotate_snippets.specs.ElementRoom.{HasRoomFor, begins_in_row_above, code_after, CanStandIn, shared_row, drawn_rows, is_next_start, HasPathFor}
pub use Rattle.annotate_snippets.specs.ElementRoom.{path_head}
pub use Rattle.annotate_snippets.specs.Fault.{number_after_lines, missing_title, added_lines, element_faults, faults_from, span_faults, form_of, number_faults}
pub use Rattle.annotate_snippets.specs.Fault.{group_faults, overlap_faults, refusal_of, first_of, refusal_in, IsWithinBounds, first_refusal}
unfoldable pub use Rattle.annotate_snippets.specs.Fault.{first_fault}
pub use Rattle.annotate_snippets.specs.Forms.{ShowsReport, links_in, ShowsForm, ShortShown, AreFree, plain_in, short_links, TextShown, TextsShown}
pub use Rattle.annotate_snippets.specs.GraphicForm.{graphic_form, margin_in, rows_of_lines, element_rows, group_page, named_line, rows_of_line, gap_below}
pub use Rattle.annotate_snippets.specs.GraphicForm.{name_of_row}
pub use Rattle.annotate_snippets.specs.Gutter.{numbered_source, line_numbers, number_text, gutter_of_report, width_wanted, layout_of_group, depth_of_element}
pub use Rattle.annotate_snippets.specs.Html.{page_chars, report_html, IsReportHtml, AddsGroupHtml, HtmlLaws, further_chars, further_groups, page_html}
pub use Rattle.annotate_snippets.specs.Html.{HasHtmlLaws}
pub use Rattle.annotate_snippets.specs.HtmlStylesheet.{IsClassOfRole}
pub use Rattle.annotate_snippets.specs.Laws.Bars.{bar_of_span, line_beside, bar_beside, BarStarts, ShowsBars, part_of_bar}
pub use Rattle.annotate_snippets.specs.Laws.Context.{ShowsLinesAround, lines_with_context}
pub use Rattle.annotate_snippets.specs.Laws.Feeds.{HasNoFeed, HasOneLineTexts, text_lines, page_lines, or_empty_line, row_texts_of_element, row_texts_of_title}
pub use Rattle.annotate_snippets.specs.Laws.Forms.{LawsIn, HasLaws, FormLaws, ShowsShort, BeginsWithPlace, ShortLaws, TextLaws}
pub use Rattle.annotate_snippets.specs.Laws.Free.{IsFreeBut, IsFreeElement}
pub use Rattle.annotate_snippets.specs.Laws.Groups.{AreElementsShown, ShowsElement, ShowsGroup, AreGroupsShown}
pub use Rattle.annotate_snippets.specs.Laws.Labels.{ShowsLabels, HasStem, ShowsLabel, ShownLabel, SpanLabel, is_in_label, labels_ending_on, promoted_spans}
pub use Rattle.annotate_snippets.specs.Laws.Lines.{IsRowBelow, cells_left, ShowsSourceLine, wide_spans, is_uncut_line}
pub use Rattle.annotate_snippets.specs.Laws.Marks.{shown_label, ShowsMarksOf, cell_of}
pub use Rattle.annotate_snippets.specs.Laws.Masked.{HasNoControls, IsClean, IsCleanElement, IsCleanTitle}
pub use Rattle.annotate_snippets.specs.Laws.Numbers.{begins_with_number, shows_a_line, IsTitleOfWords, begins_with_word}
pub use Rattle.annotate_snippets.specs.Laws.Page.{PageLaws}
pub use Rattle.annotate_snippets.specs.Laws.Paths.{NamesLocation, ShowsOrigin}
pub use Rattle.annotate_snippets.specs.Laws.Snippets.{AreRowsOf, IsRowOf, ShowsSnippet, ShowsLineAndMarks}
pub use Rattle.annotate_snippets.specs.Laws.Suggestions.{IsSuggestionRow, ShowsSuggestion, HasStrokes, IsOfferedRow}
pub use Rattle.annotate_snippets.specs.Laws.TextLines.{report_paragraphs, element_paragraphs, elements_paragraphs, group_paragraphs, title_paragraphs}
pub use Rattle.annotate_snippets.specs.Laws.Titles.{ShowsTitlePart, ShowsTitle, ShowsHeading, ShowsMessage}
pub use Rattle.annotate_snippets.specs.Laws.Wrapped.{AreRewrapped, IsTextRewrapped, IsTitleRewrapped, IsElementRewrapped, IsGroupRewrapped}
pub use Rattle.annotate_snippets.specs.Lent.{held}
pub use Rattle.annotate_snippets.specs.Levels.{error_level}
pub use Rattle.annotate_snippets.specs.Markdown.{escaped_text, linked_text, unlinked, bold_line, escaped, id_in_markdown, title_above, unwrapped, bare_marks}
pub use Rattle.annotate_snippets.specs.Markdown.{bracketed_link, fence, link_of, longest_run, MarkdownLaws, plain_page, title_bytes, markdown}
pub use Rattle.annotate_snippets.specs.Page.{NamedRow, cells_of, Other, Elision, RowName, SourceRow, others, GroupPage, group_rows, RemovedLine, OfferedLine}
pub use Rattle.annotate_snippets.specs.Page.{lines_named, rows_below, page_text, PrintsPage, shows_lines, line_named, lines_offered, line_offered}
pub use Rattle.annotate_snippets.specs.PageSink.{Takes, Stops}
pub use Rattle.annotate_snippets.specs.PreparedReport.{element_of, IsGroupDrawable, IsElementPrepared, IsDrawable, IsElementDrawable, IsGroupPrepared}
pub use Rattle.annotate_snippets.specs.PreparedReport.{IsCausePrepared}
pub use Rattle.annotate_snippets.specs.Printing.{rows_of_elements, IsPrinting}
pub use Rattle.annotate_snippets.specs.RowsWithoutSource.{cause_head, rows_after_cause, rows_after_title, title_part, origin_layout, suggestion_head, path_row}
pub use Rattle.annotate_snippets.specs.RowsWithoutSource.{origin_rows, place_found}
pub use Rattle.annotate_snippets.specs.Settings.{plain_settings}
pub use Rattle.annotate_snippets.specs.ShortForm.{place_named, joined_labels, primary_labels, first_cause, place_of_cause, short_form, short_label}
pub use Rattle.annotate_snippets.specs.ShortForm.{labels_of_cause, place_of_path, before_title, after_title, short_page}
pub use Rattle.annotate_snippets.specs.ShownPage.{report_links}
pub use Rattle.annotate_snippets.specs.TextForm.{text_form, PreviousSuggestion, before_next, element_form, elements_form, group_form, suggestion_place}
pub use Rattle.annotate_snippets.specs.TextForm.{suggestion_settings, is_other_file, element_texts, group_texts, report_texts, whole_text, option_number}
pub use Rattle.annotate_snippets.specs.Walk.{is_drawn, is_first_group, before_seen, IsShortForm, IsWalkAt}
pub use Rattle.annotate_snippets.specs.WithLaws.{IsTextUnder}
pub use Rattle.annotate_snippets.specs.Written.{IsEmptyPage, IsTextIn, ShowsIn, WritesPart, WritesText, AddsGroup, PrintsGroup, AddsToPage, IsStop}
pub use Rattle.annotate_snippets.specs.Written.{StopsAtGroup, WritesGroup, blames_writer, is_write}
pub use Rattle.annotate_snippets.specs.declared.renderer.Renderer.{Renderer}
pub use Rattle.annotate_snippets.specs.declared.renderer.element_context.ContextWalk.{ContextWalk}
pub use Rattle.annotate_snippets.specs.declared.renderer.element_context.ElementContext.{ElementContext}
pub use Rattle.annotate_snippets.specs.declared.renderer.element_context.GroupPosition.{GroupPosition}
pub use Rattle.annotate_snippets.specs.declared.renderer.element_context.GroupPosition.TheVariants.{Only}
pub use Rattle.annotate_snippets.specs.declared.renderer.element_context.Next.{Next}
pub use Rattle.annotate_snippets.specs.declared.renderer.error.RenderError.{RenderError}
pub use Rattle.annotate_snippets.specs.declared.renderer.error.RenderError.TheVariants.{PatchesOverlap, LineNumberTooLarge, NoTitle, SpanOffBoundary, Memory}
pub use Rattle.annotate_snippets.specs.declared.renderer.form.Form.{Form}
pub use Rattle.annotate_snippets.specs.declared.renderer.form.Form.TheVariants.{Graphic, Short, Text}
pub use Rattle.annotate_snippets.specs.declared.renderer.html.HtmlPage.{HtmlPage}
pub use Rattle.annotate_snippets.specs.declared.renderer.page.SheetPage.{SheetPage}
pub use Rattle.annotate_snippets.specs.declared.renderer.pages.SheetPages.{SheetPages}
pub use Rattle.annotate_snippets.specs.declared.renderer.preprocess.PreparedCause.{PreparedCause}
pub use Rattle.annotate_snippets.specs.declared.renderer.preprocess.PreparedElement.{PreparedElement}
pub use Rattle.annotate_snippets.specs.declared.renderer.preprocess.PreparedGroup.{PreparedGroup}
pub use Rattle.annotate_snippets.specs.declared.renderer.printing.Printing.{Printing}
pub use Rattle.annotate_snippets.specs.declared.renderer.report_writer.ReportWriter.{ReportWriter}
pub use Rattle.annotate_snippets.specs.declared.renderer.short.ShortForm.{ShortForm}
pub use Rattle.annotate_snippets.specs.declared.renderer.to_writer.RenderToError.{RenderToError}
pub use Rattle.annotate_snippets.specs.declared.renderer.to_writer.RenderToError.TheVariants.{Refused}
pub use Rattle.snippet_grid.proofs.HtmlLaws.{made-append, chars_read, made_rows, rows_chars, says_rows, Prints-from_pieces}
pub use Rattle.snippet_grid.proofs.HtmlReads.{adds_both, adds_piece, adds_three, text_html, adds_text, html_says_pieces, is_made, piece_says, tags_are}
pub use Rattle.snippet_grid.proofs.HtmlStands.{html_reads_pieces}
pub use Rattle.snippet_grid.proofs.RunLemmas.{on_ok_value}
pub use Rattle.snippet_grid.proofs.PrintsOnce.{Prints-unique}
pub use Rattle.snippet_grid.proofs.ReplaceLemmas.{row_text-text_cells}
pub use Rattle.snippet_grid.proofs.WeaveLemmas.{some_same, Url, none≢some, further-append}
pub use Rattle.snippet_grid.proofs.WovenLemmas.{plain_woven, IsWoven-from_prints, ended-append, links_of-unlinked}
pub use Rattle.snippet_grid.specs.Calls.{WritesCells}
pub use Rattle.snippet_grid.specs.Grid.{row_at, cell_at, linked}
unfoldable pub use Rattle.snippet_grid.specs.Grid.{replaced_within}
pub use Rattle.snippet_grid.specs.Html.{AddsHtml, HtmlPiece, html_bytes, html_text, plain_look, rows_html, link_address, AnchorEnd, AnchorStart, class_of}
pub use Rattle.snippet_grid.specs.HtmlRead.{as_read, CharInTags, html_reads, html_says, piece_tag, tags_of}
pub use Rattle.snippet_grid.specs.Layout.{Layout, bar_cell}
pub use Rattle.snippet_grid.specs.Print.{row_text, plain_text, further_text}
pub use Rattle.snippet_grid.specs.Weaving.{WeavesRows, PrintsFurther, PrintsRows}
pub use Rattle.snippet_grid.specs.Woven.{IsWoven, links_of, Prints, Char, Piece, piece_text, Reset, next_style, IsOfSheet, LinkEnd, LinkTo, PrintsCells}
pub use Rattle.snippet_grid.specs.Woven.{next_link, links_after}
pub use Rattle.snippet_labels.proofs.CharLemmas.{is_empty-chars}
pub use Rattle.snippet_labels.proofs.PlacedLemmas.{label_text, placed_at, label_chars, line_positions_low, entries_all, placed_of-at}
pub use Rattle.snippet_labels.specs.PlacedEntries.{shifted, label_role, is_end_part}
pub use Rattle.snippet_labels.specs.Placing.{HasPlace}
pub use Rattle.snippet_labels.specs.Pieces.{label_pieces}
pub use Rattle.snippet_labels.specs.Positions.{are_starts, line_positions, look_counts, placed_of, positions, is_start_part}
pub use Rattle.snippet_labels.specs.declared.positions.PlacedEntry.{PlacedEntry}
pub use Rattle.snippet_lines.proofs.BoundsLemmas.{IsLine-at}
pub use Rattle.snippet_lines.proofs.CountLemmas.{newline_count-take}
pub use Rattle.snippet_lines.proofs.LinesLemmas.{length-source_lines, newline_count-le, IsUtf8-text_at, joined-source_lines, AreLines-lines_of, split_at_line}
pub use Rattle.snippet_lines.proofs.NumberLemmas.{length-decimal_monotone, length-decimal_more, length-decimal_last}
pub use Rattle.snippet_lines.proofs.PlaceLemmas.{locations_of-start, line_of-within, HoldsByte-source}
pub use Rattle.snippet_lines.specs.Controls.{is_masked}
pub use Rattle.snippet_lines.specs.CutLines.{AreLines}
pub use Rattle.snippet_lines.specs.IsSpan.{IsSpan, IsSpanBorder}
pub use Rattle.snippet_lines.specs.Lines.{source_lines, Source, Line, lines_of, text_at, last_byte, is_lf, with_first_byte, joined, line_bytes}
unfoldable pub use Rattle.snippet_lines.specs.Lines.{start_of, newline_count}
pub use Rattle.snippet_lines.specs.Number.{shown_number, number_width, set_right}
pub use Rattle.snippet_lines.specs.OrderedBy.{put_in}
unfoldable pub use Rattle.snippet_lines.specs.Place.{line_of, start_location, place_of, locations_of, location_of, end_location, steps_after_text}
pub use Rattle.snippet_lines.specs.Span.{is_span_border, is_character_border}
unfoldable pub use Rattle.snippet_lines.specs.Span.{span_fault}
pub use Rattle.snippet_lines.specs.declared.lines.EndLine.{EndLine}
pub use Rattle.snippet_lines.specs.declared.lines.EndLine.TheVariants.{Lf, Eof, Crlf}
pub use Rattle.snippet_lines.specs.declared.number.LineNumbers.{LineNumbers}
pub use Rattle.snippet_lines.specs.declared.number.LineNumbers.TheVariants.{Shown, Anonymized, Hidden}
pub use Rattle.snippet_lines.specs.declared.place.Loc.{Loc}
pub use Rattle.snippet_lines.specs.declared.span.SpanFault.{SpanFault}
pub use Rattle.snippet_lines.specs.declared.span.SpanFault.TheVariants.{Reversed, PastEnd, OffBoundary}
pub use Rattle.snippet_model.proofs.ZipLemmas.{AllZip-weaker, AllZip-last}
pub use Rattle.snippet_model.specs.AnnotationKind.{is_primary}
pub use Rattle.snippet_model.specs.Fits.{ReportFits, ElementFits, AnnotationFits, GroupFits, TitleFits, SnippetFits, TextFits}
pub use Rattle.snippet_model.specs.FreeRows.{IsFree, HasNoNumber, IsFreeCell}
pub use Rattle.snippet_model.specs.Heading.{heading_of_message, heading_of_title, Heading, is_hidden}
pub use Rattle.snippet_model.specs.Level.{name_of, shown_name}
pub use Rattle.snippet_model.specs.Same.{SameOption, SamePatch, SameText}
pub use Rattle.snippet_model.specs.Source.{SourceSeen, unindexed}
pub use Rattle.snippet_model.specs.StandardName.{standard_name_of}
pub use Rattle.snippet_model.specs.Trusted.{trusted_of_element, trusted_texts, trusted_of_title}
pub use Rattle.snippet_model.specs.declared.level.Level.{Level}
pub use Rattle.snippet_model.specs.declared.level.LevelName.{LevelName}
pub use Rattle.snippet_model.specs.declared.level.LevelName.TheVariants.{Standard, Own}
pub use Rattle.snippet_model.specs.declared.snippet.Annotation.{Annotation}
pub use Rattle.snippet_model.specs.declared.snippet.AnnotationKind.{AnnotationKind}
pub use Rattle.snippet_model.specs.declared.snippet.AnnotationKind.TheVariants.{Primary, Context, Visible}
pub use Rattle.snippet_model.specs.declared.snippet.Element.{Element}
pub use Rattle.snippet_model.specs.declared.snippet.Element.TheVariants.{Cause, Suggestion, Message, Origin, Padding}
pub use Rattle.snippet_model.specs.declared.snippet.Group.{Group}
pub use Rattle.snippet_model.specs.declared.snippet.Id.{Id}
pub use Rattle.snippet_model.specs.declared.snippet.Patch.{Patch}
pub use Rattle.snippet_model.specs.declared.snippet.Snippet.{Snippet}
pub use Rattle.snippet_model.specs.declared.snippet.Title.{Title}
pub use Rattle.snippet_parts.proofs.AmongLemmas.{any_cases, map_cases, Among, among_filter, among_in_order, among_map, any_among, filter_cases, in_order_cases}
pub use Rattle.snippet_parts.proofs.AmongLemmas.{among_left, among_right, append_cases, among_filter_map}
pub use Rattle.snippet_parts.proofs.CountedWords.{reached_source}
pub use Rattle.snippet_parts.proofs.EntryFacts.{places-fit, depths-fit, each-line, labels-fit, texts-fit, untouched-parts, wide-count, singles-on}
pub use Rattle.snippet_parts.proofs.EntryFacts.{depth-within, characters-fit}
pub use Rattle.snippet_parts.proofs.KeptPartLemmas.{none-unkept, lines_ordered}
pub use Rattle.snippet_parts.proofs.LineCounts.{length-in_order, parts_on-few}
pub use Rattle.snippet_parts.proofs.LocationLaws.{primary_place-location}
pub use Rattle.snippet_parts.proofs.LongStarts.{promoted-end, promoted-start}
pub use Rattle.snippet_parts.proofs.MarkLemmas.{end-line, start-line}
pub use Rattle.snippet_parts.proofs.PartLemmas.{All-unmapped, made-all, filter-none}
pub use Rattle.snippet_parts.proofs.PartWords.{long_places, stands_before, entry_of, is_short, stands_among, is_promoted}
pub use Rattle.snippet_parts.proofs.RawDepthLemmas.{same-refl, same-true, greatest-bound, places-bound}
pub use Rattle.snippet_parts.proofs.ShownFacts.{shown_lines-first_line, last-shown, shown-ascends, shown-within}
pub use Rattle.snippet_parts.proofs.ShownLemmas.{annotations-distinct}
pub use Rattle.snippet_parts.proofs.ShownLineLemmas.{infos_all}
pub use Rattle.snippet_parts.proofs.TableLemmas.{length-starts_from}
pub use Rattle.snippet_parts.specs.Annotated.{annotated_lines, KeptLine, is_long, kept_line, parts_on, long_place, long_entry, long_spans, single_part}
pub use Rattle.snippet_parts.specs.Annotated.{made_parts, depth_of, end_part, long_parts, start_part, deepest, promoted, span_parts, bar_part}
pub use Rattle.snippet_parts.specs.Chains.{IsChainOf, IsLongestChain, SharesWithFirst}
pub use Rattle.snippet_parts.specs.Counted.{counted_number}
pub use Rattle.snippet_parts.specs.Depths.{depth_among, places_of, same_place, share_line}
pub use Rattle.snippet_parts.specs.Entries.{Ascends, is_wide_entry, is_bar, is_single_part}
pub use Rattle.snippet_parts.specs.EntryBounds.{HasColumnRoom, HasDepthWithin, AllEntries}
pub use Rattle.snippet_parts.specs.Kept.{shown_lines, kept_lines, keeps, with_between}
pub use Rattle.snippet_parts.specs.Location.{IsLocation, primary_place, start_at}
pub use Rattle.snippet_parts.specs.LongSpans.{bar_lines}
pub use Rattle.snippet_parts.specs.Mark.{is_marking, touches, is_single_line, is_marked_on, end_column, start_column, is_wide, qualifies_for_marks, span_width}
pub use Rattle.snippet_parts.specs.Mark.{IsMarkedAt, IsMarkOf}
pub use Rattle.snippet_parts.specs.Marked.{first_line, last_line}
pub use Rattle.snippet_parts.specs.NamingStart.{place_at}
pub use Rattle.snippet_parts.specs.OnLine.{seen_kept}
pub use Rattle.snippet_parts.specs.ShownLines.{infos_of, kept_of}
pub use Rattle.snippet_parts.specs.declared.depths.LongExtent.{LongExtent}
pub use Rattle.snippet_parts.specs.declared.entries.AnnotatedLineInfo.{AnnotatedLineInfo}
pub use Rattle.snippet_parts.specs.declared.entries.LineAnnotation.{LineAnnotation}
pub use Rattle.snippet_parts.specs.declared.entries.LineAnnotationType.{LineAnnotationType}
pub use Rattle.snippet_parts.specs.declared.entries.LineAnnotationType.TheVariants.{MultilineEnd, MultilineStart, Singleline, MultilineLine}
pub use Rattle.snippet_parts.specs.declared.location.Location.{Location}
pub use Rattle.snippet_shown.proofs.DrawnLemmas.{message-within, title-within}
pub use Rattle.snippet_shown.proofs.KeptAround.{keeps-around}
pub use Rattle.snippet_shown.proofs.WrapLemmas.{wrapped-chars, wrapped-laws}
pub use Rattle.snippet_shown.specs.AsMasked.{IsGroupMasked, IsElementMasked, IsTitleMasked, IsAnnotationMasked, IsIdMasked, IsNameMasked, IsPatchMasked}
pub use Rattle.snippet_shown.specs.AsMasked.{IsLevelMasked, IsSnippetMasked}
pub use Rattle.snippet_shown.specs.AsSet.{IsElementAsSet, IsTitleAsSet, IsGroupAsSet, IsAnnotationAsSet, IsSnippetAsSet, IsIdAsSet, IsNameAsSet}
pub use Rattle.snippet_shown.specs.AsWrapped.{IsGroupWrapped, IsElementWrapped, IsTitleWrapped, IsTextWrapped, room_of_message, room_of_title}
pub use Rattle.snippet_shown.specs.Asked.{IsAnyTitle, IsElementSound, IsGroupSound, IsElementWrappable}
pub use Rattle.snippet_shown.specs.Context.{context_spans, lines_around, visible_mark}
pub use Rattle.snippet_shown.specs.Letters.{letters_of, Letter}
pub use Rattle.snippet_shown.specs.LineFeeds.{with_line_feeds_shown, picture_of, IsTextAsSet, IsOptionAsSet}
pub use Rattle.snippet_shown.specs.Masked.{IsTextMasked, mask_of, masked, IsAligned, byte_class, masked_in}
pub use Rattle.snippet_shown.specs.Remade.{Stays, IsGroupTaken, IsGroupMade}
pub use Rattle.snippet_shown.specs.WithContext.{IsElementWithContext, IsGroupWithContext, IsSnippetWithContext, HoldsSpan}
pub use Rattle.snippet_shown.specs.WrapLaws.{AreWithin, IsRewrapped, lines_in, columns_of, words_of, AreRowsWithin}
pub use Rattle.snippet_splice.proofs.RangeLemmas.{feeds-append}
pub use Rattle.snippet_splice.specs.Edits.{Edit, edit_of, in_order, precedes, trimmed_edits, patched}
unfoldable pub use Rattle.snippet_splice.specs.Edits.{trimmed_edit}
pub use Rattle.snippet_splice.specs.FirstOverlap.{AreDisjoint, no_edit}
pub use Rattle.snippet_splice.specs.Overlap.{first_overlap_from, overlap}
unfoldable pub use Rattle.snippet_splice.specs.Overlap.{first_overlap}
pub use Rattle.snippet_splice.specs.Patched.{texts_of, shown_line}
unfoldable pub use Rattle.snippet_splice.specs.Patched.{spliced_text}
pub use Rattle.snippet_splice.specs.ShownText.{first_start, without_final_line_feeds}
pub use Rattle.snippet_splice.specs.Spliced.{HasNoCr, IsTouched}
unfoldable pub use Rattle.snippet_splice.specs.Trim.{kept_before, sandwich}
pub use Rattle.snippet_splice.specs.TrimmedEdits.{AreApart, trimmed_edit_of}
pub use Rattle.snippet_splice.specs.declared.patches.TrimmedPatch.{TrimmedPatch}
pub use Rattle.snippet_strokes.proofs.AmongLaws.{all_from_among, among_contains, contains_among, filter_map_cases}
pub use Rattle.snippet_strokes.proofs.BarFacts.{BarBegins, end_corner}
pub use Rattle.snippet_strokes.proofs.BarRows.{bar_past}
pub use Rattle.snippet_strokes.proofs.BegunLemmas.{same_front, from_map}
pub use Rattle.snippet_strokes.proofs.CellLemmas.{above_zero, drawn_strokes, cut_row, begun_rows}
pub use Rattle.snippet_strokes.proofs.CrossedLaws.{line_clear, highlighted_left, highlighted_text}
pub use Rattle.snippet_strokes.proofs.CutWords.{Stretch, cuts_of}
pub use Rattle.snippet_strokes.proofs.DrawnCells.{StandsFrom}
pub use Rattle.snippet_strokes.proofs.SourceCellLaws.{gap_drawn, line_seen, infos_free, begins, gap_space, line_source}
pub use Rattle.snippet_strokes.proofs.EndBarLaws.{bar_ends, elision_stands}
pub use Rattle.snippet_strokes.proofs.WriteLaws.{IsSourceRow, CanBeShown, ShowsLine, AreLineRows, AreOwnRows, StrokesPainted, IsHighlighted, painted-cell}
pub use Rattle.snippet_strokes.proofs.LineFromValue.{info_rows_show}
pub use Rattle.snippet_strokes.proofs.OpenLemmas.{room_below}
pub use Rattle.snippet_strokes.proofs.SeenRows.{IsEntryMark, are_plain, has_column, is_single, wide_entries, EntryCovers, AreSeen, IsStrokeRow, ShowsMarks}
pub use Rattle.snippet_strokes.proofs.PieceWrites.{label_write}
pub use Rattle.snippet_strokes.proofs.PositionLemmas.{positions_sole}
pub use Rattle.snippet_strokes.proofs.RowLemmas.{bare_row_left}
pub use Rattle.snippet_strokes.proofs.SeenLabels.{IsLabelledAtEnd, IsLedTo, LabelsStand, PlacedLabel, StandsIn, is_cell_of}
pub use Rattle.snippet_strokes.proofs.StemCells.{stroke_rows-count, row_text-window_cells}
pub use Rattle.snippet_strokes.proofs.WholeLemmas.{left_none, window_cells-whole}
pub use Rattle.snippet_strokes.specs.Bars.{Bar, ends_of_bars, open_past, bars_apart, bar_at}
pub use Rattle.snippet_strokes.specs.Cuts.{overlapped, with_blocks}
pub use Rattle.snippet_strokes.specs.Drawable.{AreDrawable, HasBarCell, HasBarCellAt, IsDrawableLine}
pub use Rattle.snippet_strokes.specs.Drawing.{row_count}
pub use Rattle.snippet_strokes.specs.DrawnBars.{HasOwnDepth, is_whole_line, HasBarRoom, open_below, has_depth}
pub use Rattle.snippet_strokes.specs.EndBars.{IsNoBar, BarEnds}
pub use Rattle.snippet_strokes.specs.EntryMarks.{is_mark_role, IsMarkCell, IsBarCell}
pub use Rattle.snippet_strokes.specs.InfoRows.{infos_rows, gap_rows, info_rows}
pub use Rattle.snippet_strokes.specs.LineRows.{line_rows, own_rows}
pub use Rattle.snippet_strokes.specs.Painting.{painting_order}
pub use Rattle.snippet_strokes.specs.Snippet.{gap_row, shown_rows}
pub use Rattle.snippet_strokes.specs.SourceRows.{window_cells, bare_row}
pub use Rattle.snippet_strokes.specs.StrokeRows.{IsElisionRow, bare_elision_row}
pub use Rattle.snippet_strokes.specs.Strokes.{stroke_rows, is_uncut}
pub use Rattle.snippet_strokes.specs.Writes.{Write, painted}
pub use Rattle.snippet_strokes.specs.declared.snippet.LineView.{LineView}
pub use Rattle.snippet_style.proofs.CellLemmas.{length-text_cells, length-chars_le, slice_index_or-written_inside, All-text_cells}
pub use Rattle.snippet_style.proofs.StyleLemmas.{cases_style}
pub use Rattle.snippet_style.specs.Bounds.{max_usize}
pub use Rattle.snippet_style.specs.Cell.{Cell, SPACE, text_cells, unlinked_cell}
unfoldable pub use Rattle.snippet_style.specs.Cell.{written}
pub use Rattle.snippet_style.specs.Glyphs.{separator_of, placeholder_of, strokes_of, underline_role, suggestion_glyph_of, added_mark_of, char_of, elision_of}
pub use Rattle.snippet_style.specs.Glyphs.{removed_sign_of, note_sign_of, suggestion_role_of, bar_glyphs, closing_of, IsMarkGlyph, changed_mark_of}
pub use Rattle.snippet_style.specs.Separators.{separator_row, closing_row}
pub use Rattle.snippet_style.specs.Style.{emboldened, is_plain_style, plain_style}
pub use Rattle.snippet_style.specs.Stylesheet.{plain_sheet, is_plain_sheet, default_sheet, style_of}
pub use Rattle.snippet_style.specs.declared.glyphs.DecorStyle.{DecorStyle}
pub use Rattle.snippet_style.specs.declared.glyphs.DecorStyle.TheVariants.{Ascii, Unicode}
pub use Rattle.snippet_style.specs.declared.glyphs.SuggestionGlyph.{SuggestionGlyph}
pub use Rattle.snippet_style.specs.declared.glyphs.SuggestionGlyph.TheVariants.{Leading, Closing, Kept, Changed, Added}
pub use Rattle.snippet_style.specs.declared.role.ElementStyle.{ElementStyle}
pub use Rattle.snippet_style.specs.declared.role.ElementStyle.TheVariants.{LineNumber, Quotation, NoStyle, UnderlinePrimary, Addition, MainHeaderMsg}
pub use Rattle.snippet_style.specs.declared.role.ElementStyle.TheVariants.{LabelPrimary, UnderlineSecondary, Removal, LabelSecondary}
pub use Rattle.snippet_style.specs.declared.role.LevelInner.{LevelInner}
pub use Rattle.snippet_style.specs.declared.role.LevelInner.TheVariants.{Error, Note, Warning, Info, Help}
pub use Rattle.snippet_style.specs.declared.style.Style.{Style}
pub use Rattle.snippet_style.specs.declared.stylesheet.Stylesheet.{Stylesheet}
pub use Rattle.snippet_suggest.proofs.BareLemmas.{stroke_led}
pub use Rattle.snippet_suggest.proofs.BodyLaws.{zip_append, body_all, body_shows, last_shows}
pub use Rattle.snippet_suggest.proofs.CellExamples.{ascii, put_in_cells, stroke, unfolded_cells}
pub use Rattle.snippet_suggest.proofs.Examples.{text_of, one_word, one_word_gives, text_put_in, third_unfolded}
pub use Rattle.snippet_suggest.proofs.GutterFits.{folded_small}
pub use Rattle.snippet_suggest.proofs.LeftOver.{IsBeforeSign, IsLeftOver}
pub use Rattle.snippet_suggest.proofs.NumberLaws.{numbers-bound}
pub use Rattle.snippet_suggest.proofs.OfferLaws.{HaveSpans, given-part, offered-ascends, given-is-patched}
pub use Rattle.snippet_suggest.proofs.OrderLaws.{rows-offer, rows-own, rows-take}
pub use Rattle.snippet_suggest.proofs.PreparedLemmas.{some_left, last-fits}
pub use Rattle.snippet_suggest.proofs.RepaintLemmas.{same_ch, without_role}
pub use Rattle.snippet_suggest.proofs.RowLaws.{with_same}
pub use Rattle.snippet_suggest.proofs.SignLaws.{body_signs}
pub use Rattle.snippet_suggest.proofs.SpanLemmas.{trimmed_spans}
pub use Rattle.snippet_suggest.proofs.TouchLaws.{touched-offered}
unfoldable pub use Rattle.snippet_suggest.specs.Cells.{sign_of, line_cells, offered_cells, put, with_stretches}
pub use Rattle.snippet_suggest.specs.Given.{first_given, given_lines, trimmed_of, edits_of, given_text, shown_kind, counted_line, IsOfferable, last_reached}
pub use Rattle.snippet_suggest.specs.Given.{removed_lines}
pub use Rattle.snippet_suggest.specs.Kind.{is_blank_text}
pub use Rattle.snippet_suggest.specs.Offered.{lines_taken, numbers_offered, AreRising, IsAsItWas, numbers_given, offered_lines, line_taken, number_offered}
pub use Rattle.snippet_suggest.specs.PreparedSuggestion.{IsSuggestible, IsPrepared}
pub use Rattle.snippet_suggest.specs.RowOrder.{Ends, SuggestionRow, rows_of_suggestion, Begins, Offers, Removes, Empty, Skips, removed_number}
pub use Rattle.snippet_suggest.specs.ShownRows.{Shows, HasSign, HasGutter, IsEdgeRow, IsUnder, rows_shared}
unfoldable pub use Rattle.snippet_suggest.specs.ShownRows.{suggestion_cells}
pub use Rattle.snippet_suggest.specs.Suggested.{new_on}
unfoldable pub use Rattle.snippet_suggest.specs.Suggested.{body_cells}
pub use Rattle.snippet_suggest.specs.SuggestionRows.{is_stroke, IsBareRow, IsRemovedRow, IsMarkOrSpace, begin_glyph, beside_gutter, end_glyph}
pub use Rattle.snippet_suggest.specs.contracts.SuggestionStart.{the_type}
pub use Rattle.snippet_suggest.specs.declared.SuggestionLayout.{SuggestionLayout}
pub use Rattle.snippet_suggest.specs.declared.SuggestionStart.{SuggestionStart}
pub use Rattle.snippet_suggest.specs.declared.SuggestionStart.TheVariants.{Opening, Path}
pub use Rattle.snippet_suggest.specs.declared.prepared.PreparedSuggestion.{PreparedSuggestion}
pub use Rattle.snippet_text.proofs.NormLemmas.{length-norm, list_any-norm, shown-unlisted, width_of-norm}
unfoldable pub use Rattle.snippet_text.proofs.WidthLemmas.{unicode_width}
pub use Rattle.snippet_text.specs.Normalized.{is_listed, normalized_chars, shown}
unfoldable pub use Rattle.snippet_text.specs.Normalized.{norm}
pub use Rattle.snippet_text.specs.OneLine.{IsOneLine}
pub use Rattle.snippet_text.specs.Width.{width_of}
unfoldable pub use Rattle.snippet_text.specs.Width.{char_width}
pub use Rattle.snippet_text_form.proofs.CauseLemmas.{All-named_spans}
pub use Rattle.snippet_text_form.proofs.Examples.{offer, patch}
pub use Rattle.snippet_text_form.proofs.FreeLaws.{cause-free, heading-free, origin-free, suggestion-free}
pub use Rattle.snippet_text_form.proofs.LineLaws.{IsTextOf, cause-text, heading-text, lines-of_text, no_text, origin-text, suggestion-text, text-append}
pub use Rattle.snippet_text_form.proofs.LineLaws.{text-each}
pub use Rattle.snippet_text_form.proofs.LinkLaws.{cause-links, heading-links, origin-links, suggestion-links}
pub use Rattle.snippet_text_form.proofs.OrderLaws.{cause-holds, heading_stays, plain-append, stand-append}
pub use Rattle.snippet_text_form.proofs.PlaceParts.{PathIs, before_added-each, before_id-each, before_name-each, decimal-each, edit_indent-each}
pub use Rattle.snippet_text_form.proofs.PlaceParts.{edit_place-each, further_indent-each, is_odd, known-each, place_in_file-each, span_text-each}
pub use Rattle.snippet_text_form.specs.Cause.{further_indent, is_labelled, named_spans, span_text}
unfoldable pub use Rattle.snippet_text_form.specs.Cause.{cause_form}
pub use Rattle.snippet_text_form.specs.Form.{form_text, FormPiece, form_bytes, begun_after, plain_from}
pub use Rattle.snippet_text_form.specs.FormLinks.{form_links, piece_links}
pub use Rattle.snippet_text_form.specs.HeadingForm.{before_id, before_name, heading_label, id_label, label_of_id}
unfoldable pub use Rattle.snippet_text_form.specs.HeadingForm.{heading_form}
pub use Rattle.snippet_text_form.specs.Lines.{lines_of_paragraphs, added_words, edit_line, heading_paragraph, line_paragraph, lines_after, option_lines}
pub use Rattle.snippet_text_form.specs.Lines.{span_lines, suggestion_paragraphs}
pub use Rattle.snippet_text_form.specs.Position.{place, place_in_file}
pub use Rattle.snippet_text_form.specs.Suggestion.{added_text, before_added, edit_indent, edit_place, named_path}
unfoldable pub use Rattle.snippet_text_form.specs.Suggestion.{suggestion_form, origin_form}
pub use Rattle.snippet_text_form.specs.TextOrder.{StandInOrder}
pub use Rattle.snippet_text_form.specs.declared.heading.HeadingKind.{HeadingKind}
pub use Rattle.snippet_text_form.specs.declared.suggestion.SuggestionContext.{SuggestionContext}
pub use Rattle.snippet_text_form.specs.declared.suggestion.SuggestionSettings.{SuggestionSettings}
pub use Rattle.snippet_titles.proofs.DigitLemmas.{IsDigit, decimal-all}
pub use Rattle.snippet_titles.proofs.FreeLemmas.{heading_rows-free, IsUnlisted, norm-free, All-trimmed}
pub use Rattle.snippet_titles.proofs.HeadFacts.{origin_row-text, opening_rows-each, message_rows-unnumbered, snippet_head-unnumbered, snippet_head-free}
pub use Rattle.snippet_titles.proofs.HeadFacts.{message_rows-unlinked}
pub use Rattle.snippet_titles.proofs.HeadLemmas.{nameless_head-each, primary_head-each, secondary_head-each}
pub use Rattle.snippet_titles.proofs.LinkLemmas.{title_rows-links}
pub use Rattle.snippet_titles.proofs.OriginFree.{each-fails, closing_row-free, origin_row-free, separator_row-free, padding_row-free, digit_unlisted}
pub use Rattle.snippet_titles.proofs.OriginNumbers.{closing_row-unnumbered, separator_row-unnumbered, origin_row-unnumbered, padding_row-unnumbered}
pub use Rattle.snippet_titles.proofs.OriginText.{place-each}
pub use Rattle.snippet_titles.proofs.PaddingWords.{padding_row}
pub use Rattle.snippet_titles.proofs.PlaceLemmas.{heading_rows-places}
pub use Rattle.snippet_titles.proofs.PrintedLemmas.{one_row}
pub use Rattle.snippet_titles.proofs.ShortLaws.{short-free, links_of-short_rows, row_text-short_rows}
pub use Rattle.snippet_text.proofs.SplitLemmas.{lines_at, lines_at-chars}
pub use Rattle.snippet_titles.proofs.TextLemmas.{heading_rows-texts, row_text-label}
pub use Rattle.snippet_titles.specs.HeadingRows.{colon_of, heading_lines, label_width, closing_bracket_of, opening_bracket_of, heading_label_text, indent_cells}
pub use Rattle.snippet_titles.specs.HeadingRows.{is_set, roles_of, sign_cells, bracketed_cells, id_cells, linked_to, lines_below, note_bar_of, id_text}
unfoldable pub use Rattle.snippet_titles.specs.HeadingRows.{heading_rows, label_cells}
pub use Rattle.snippet_titles.specs.LinkedId.{LinksId}
pub use Rattle.snippet_titles.specs.Origin.{primary_start, line_text, snippet_head, file_glyph, column_text, line_name}
unfoldable pub use Rattle.snippet_titles.specs.Origin.{origin_text, origin_row, file_row}
pub use Rattle.snippet_titles.specs.PrintedHeading.{title_rows, IsPlainHeading}
pub use Rattle.snippet_titles.specs.ShortRows.{with_end}
unfoldable pub use Rattle.snippet_titles.specs.ShortRows.{short_rows}
pub use Rattle.snippet_titles.specs.ShownHeading.{IsFreeButText, heading_texts, texts_below}
pub use Rattle.snippet_titles.specs.Title.{id_links, text_links, id_chars}
pub use Rattle.snippet_titles.specs.declared.origin.FileStart.{FileStart}
pub use Rattle.snippet_titles.specs.declared.origin.FileStart.TheVariants.{Alone, Secondary, First, Later}
pub use Rattle.snippet_titles.specs.declared.origin.OriginLayout.{OriginLayout}
pub use Rattle.snippet_titles.specs.declared.origin.OriginLocation.{OriginLocation}
pub use Rattle.snippet_titles.specs.declared.style.HeadingRoles.{HeadingRoles}
pub use Rattle.snippet_titles.specs.declared.style.MessageContext.{MessageContext}
pub use Rattle.snippet_titles.specs.declared.style.TitleStyle.{TitleStyle}
pub use Rattle.snippet_window.proofs.LineWindowLemmas.{reaching-none}
pub use Rattle.snippet_window.proofs.MarginFacts.{margin_of-room, margin_of_lines, margin_seen, lines_clear, lines_sound}
pub use Rattle.snippet_window.proofs.UncutLaws.{margin_whole}
pub use Rattle.snippet_window.specs.Margin.{capped_sum}
pub use Rattle.snippet_window.specs.Measures.{margin_of, StandsClear}
pub use Rattle.snippet_window.specs.Window.{chars_at, dropped_part, stands_whole, AreReplaced, window, covered_columns, covered_end, inner_part, reaching}
pub use Rattle.snippet_window.specs.Window.{uncovered_part}
pub use Rattle.snippet_window.specs.declared.margin.Margin.{Margin}
pub use Rattle.std.proofs.Common.{◌≡◌, List, ap, ◌∙◌, sym, [], ℕ, ◌∷◌, refl, subst, true, arith, ◌++◌, length, false, Bool, map}
pub use Rattle.std.proofs.Common.{◌+◌, Some, None, ◌<◌, Option, ◌==◌, All, string_bytes, not, ◌≤◌, take, cond, ◌&&◌, get_or, inl, inr}
pub use Rattle.std.proofs.Common.{codes, suc, drop, if◌then◌else◌, ◌-◌, zero, IfSome, ap₂, encode_utf8_all, ◌⊎◌, ◌^◌, ◌≢◌}
pub use Rattle.std.proofs.Common.{replicate, fold, Vec, ◌||◌, nat_lt, count_by, max, nat_le, rules, nat_eq, Ok, Err, alloc_error, Result, slice_index, Bor}
pub use Rattle.std.proofs.Common.{eqb, leb, String, OnErr, ◌↔◌, IsNone, ◌/◌, lit<, ◌*◌, encode_utf8, set, is_none}
pub use Rattle.std.proofs.KnownBytes.{Appends-nil, Appends-trans}
pub use Rattle.std.proofs.Math.Nat.{zero-add}
pub use Rattle.std.proofs.Math.Seq.{take-append_seam, drop-cons, take-append-add}
pub use Rattle.std.proofs.lemmas.Bool.{false≢true, cases_Bool, cases_lt, eqb-true, and_parts, eq-eqb, cases_eq, and_from, le-leb, cond-true, cond-false}
pub use Rattle.std.proofs.lemmas.Bool.{cond_both, both_ways, or_parts, le-ltb, and_left, and_right, lt-ltb, false_from_ne_true, not-true}
pub use Rattle.std.proofs.lemmas.Bool.Decides.{nat_tests}
pub use Rattle.std.proofs.lemmas.Cmp.{nat_list_eq_equiv}
pub use Rattle.std.proofs.lemmas.Fmt.{decimal_digit, length-decimal-le}
pub use Rattle.std.proofs.lemmas.Grind.{flat_map-append}
pub use Rattle.std.proofs.lemmas.Iterator.{YieldsList-from_chars}
pub use Rattle.std.proofs.lemmas.Iterator.Adapters.{YieldsList-from_vec}
pub use Rattle.std.proofs.lemmas.Iterator.Consumers.{YieldsList-end, YieldsList-from_enumerate, YieldsList-turn}
pub use Rattle.std.proofs.lemmas.List.{append-nil, take_all, append_assoc, length-map, length-append, take_more, append_cancel_left, map-append, get_or_past}
pub use Rattle.std.proofs.lemmas.List.{get_or-map, get_or-take, append_cancel_right, length_push, length-replicate, length-take, length-drop, take-take}
pub use Rattle.std.proofs.lemmas.List.{get_or_append_left, take-append-le, get_or-drop, drop-map, drop_all, map-id, get_or-append_right, get_or-replicate}
pub use Rattle.std.proofs.lemmas.List.{take-append-drop, nil_from_length, drop_more}
pub use Rattle.std.proofs.lemmas.List.Concat.{flat_map-cons}
pub use Rattle.std.proofs.lemmas.List.Elements.{All-nil, All-cons, All-head, All-tail, All-append, All-weaker, All-contains, All-map, All-filter, All-same}
pub use Rattle.std.proofs.lemmas.List.Elements.{All-from_get_or, filter_map-append, All-get_or, All-replicate, Contains-append_left, filter_passes}
pub use Rattle.std.proofs.lemmas.List.Elements.{Contains-get_or, Contains-append_right, All-drop, All-take, filter-append, All-push, All-contains_itself}
pub use Rattle.std.proofs.lemmas.List.Elements.{filter_agree, filter_more, Contains-append_cases}
pub use Rattle.std.proofs.lemmas.List.Folds.{list_any-append, fold-map, flat_map-map}
pub use Rattle.std.proofs.lemmas.List.FromFn.{get_or-range_with_len, length-range_with_len, get_or-enumerate_from, length-enumerate_from}
pub use Rattle.std.proofs.lemmas.List.Splits.{slice_split_none, length-slice_split, slice_split-cons_no, slice_split-cons_yes, slice_split_at}
pub use Rattle.std.proofs.lemmas.List.Sums.{sum_by-cons, count_by-le-length, AllPass-from_list_all, fold-append, sum_by-le-sum_by, sum_by-take-le, fold_push}
pub use Rattle.std.proofs.lemmas.List.Sums.{length-filter, list_all-from_AllPass, fold_more}
pub use Rattle.std.proofs.lemmas.Option.{get_or_from_slice_get, slice_get_within, slice_get-get_or, slice_get_cases, slice_get-map, slice_get_read, IfSome_then}
pub use Rattle.std.proofs.lemmas.Result.{on_ok_weaker, IfOk-weaker, on_err_weaker}
pub use Rattle.std.proofs.lemmas.Slice.Zip.{AllZip-long}
pub use Rattle.std.proofs.lemmas.Str.{chars-nil, IsUtf8-string_bytes, IsUtf8-from_ascii, IsUtf8-nil, encode_ascii, IsUtf8-append, chars-append, chars-IsAscii}
pub use Rattle.std.proofs.lemmas.Str.{encodes-append}
pub use Rattle.std.proofs.lemmas.Str.Ascii.{IsAscii-cons, IsAscii-nil}
pub use Rattle.std.specs.Char.{is_ascii_alphanumeric, is_whitespace, is_ascii_punctuation, is_ascii_digit}
pub use Rattle.std.specs.Cmp.Lexicographic.{same_text}
pub use Rattle.std.specs.Cow.{cow_str_bytes, cow_slice_items}
pub use Rattle.std.specs.Fmt.{decimal}
pub use Rattle.std.specs.Int.{is_in_range}
pub use Rattle.std.specs.Io.KnownBytes.{Appends}
pub use Rattle.std.specs.List.{flat_map, AllZip, Contains, slice_get, filter, list_any, slice_index_or, list_all, filter_map, range_with_len, cons_option}
pub use Rattle.std.specs.List.{join_with_byte, enumerate_from, position_from, onto_first, zip, sum_by, slice_split}
pub use Rattle.std.specs.Option.{option_copied, option_map, option_to_list, option_or, is_some, option_map_or, IsSomeAnd}
pub use Rattle.std.specs.Result.{OnOk, IfOk, IsErrAnd, IfErr, is_ok, MatchResult}
pub use Rattle.std.specs.Str.{IsUtf8, IsCharBoundary, IsAscii, trim}
pub use Rattle.std.specs.declared.alloc.AllocError.{AllocError}
pub use Rattle.std.specs.declared.alloc.Global.{Global}
pub use Rattle.std.specs.declared.borrow.CowStr.{CowStr}
pub use Rattle.std.specs.declared.ops.Range.{Range}
