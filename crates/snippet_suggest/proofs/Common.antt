-- What most proofs of this crate cite, given on from one place.
pub use Rattle.snippet_grid.proofs.ReplaceLemmas.{changed_within_one, row_text-text_cells}
pub use Rattle.snippet_grid.proofs.GridShown.{cells_written_last, cells_written_below}
pub use Rattle.snippet_grid.specs.Calls.{cells_restyled}
pub use Rattle.snippet_grid.specs.Grid.{cells_written, row_at, restyled}
unfoldable pub use Rattle.snippet_grid.specs.Grid.{changed_within}
pub use Rattle.snippet_grid.specs.Layout.{Layout, separator_cell}
pub use Rattle.snippet_grid.specs.Print.{row_text}
pub use Rattle.snippet_lines.proofs.LinesLemmas.{length-source_lines}
pub use Rattle.snippet_lines.proofs.NumberLemmas.{chars-shown_number, shown_number_unlisted, length-shown_number, number_width_monotone}
pub use Rattle.snippet_lines.proofs.OrderLemmas.{All-put_in}
pub use Rattle.snippet_lines.proofs.PlaceLemmas.{line_of-within, line_of-mono}
pub use Rattle.snippet_lines.specs.IsSpan.{IsSpan, IsSpanBorder}
pub use Rattle.snippet_lines.specs.Lines.{source_lines, lines_of, Source, text_at}
unfoldable pub use Rattle.snippet_lines.specs.Lines.{newline_count, start_of}
pub use Rattle.snippet_lines.specs.Number.{shown_number, set_right, number_width}
unfoldable pub use Rattle.snippet_lines.specs.Place.{line_of, end_location, location_of, locations_of, place_of, start_location, steps_after_text}
pub use Rattle.snippet_lines.specs.declared.number.LineNumbers.{LineNumbers}
pub use Rattle.snippet_lines.specs.declared.number.LineNumbers.TheVariants.{Shown, Anonymized, Hidden}
pub use Rattle.snippet_model.proofs.RowLemmas.{free_drawn, each_fails, free_written, free_led}
pub use Rattle.snippet_model.specs.FreeRows.{IsFree}
pub use Rattle.snippet_model.specs.Source.{unindexed}
pub use Rattle.snippet_model.specs.declared.snippet.Patch.{Patch}
pub use Rattle.snippet_model.specs.declared.snippet.Snippet.{Snippet}
pub use Rattle.snippet_parts.proofs.MarkLemmas.{start-line, end-line}
pub use Rattle.snippet_parts.proofs.PartLemmas.{All-unmapped}
pub use Rattle.snippet_parts.specs.LineTable.{table_entry, touched_entries, LineEntry, entry_at}
pub use Rattle.snippet_parts.specs.Numbered.{numbered_source}
pub use Rattle.snippet_parts.specs.declared.source_map.LineInfo.{LineInfo}
pub use Rattle.snippet_splice.proofs.EditLemmas.{trimmed_edit-shrunk, trimmed-apart}
pub use Rattle.snippet_splice.proofs.FeedLemmas.{shown-bound, text_feeds}
pub use Rattle.snippet_splice.proofs.LineLemmas.{AreFrom-shown}
pub use Rattle.snippet_splice.proofs.OverlapLemmas.{apart-in_order, ordered-spans}
pub use Rattle.snippet_splice.proofs.RangeLemmas.{ranges_from-written_ranges}
pub use Rattle.snippet_splice.proofs.ShownLemmas.{none_given, some-edits}
pub use Rattle.snippet_splice.proofs.SpliceLemmas.{IsShownPart, IsShownPart-plain}
pub use Rattle.snippet_splice.proofs.TouchLemmas.{IsHeld, shown-touched, touched-held}
pub use Rattle.snippet_splice.proofs.TrimLemmas.{sandwich-sandwiched}
pub use Rattle.snippet_splice.specs.Copied.{end_from, written_ranges}
pub use Rattle.snippet_splice.specs.EditStretches.{capped}
unfoldable pub use Rattle.snippet_splice.specs.EditStretches.{new_stretches, replaced_stretches}
pub use Rattle.snippet_splice.specs.Edits.{Edit, in_order, edit_of, trimmed_edits, patched, precedes, shrunk}
unfoldable pub use Rattle.snippet_splice.specs.Edits.{trimmed_edit}
pub use Rattle.snippet_splice.specs.FirstOverlap.{AreDisjoint}
pub use Rattle.snippet_splice.specs.Patched.{texts_of, line_ranges, ranges_from, AreFrom}
unfoldable pub use Rattle.snippet_splice.specs.Patched.{spliced_text}
pub use Rattle.snippet_splice.specs.ShownText.{first_start, without_final_line_feeds, shown_start}
unfoldable pub use Rattle.snippet_splice.specs.ShownText.{shown_text}
pub use Rattle.snippet_splice.specs.Splice.{IsSplice}
pub use Rattle.snippet_splice.specs.Spliced.{IsTouched}
unfoldable pub use Rattle.snippet_splice.specs.Spliced.{last_line_reached}
pub use Rattle.snippet_splice.specs.StretchLines.{line_stretches}
unfoldable pub use Rattle.snippet_splice.specs.Trim.{sandwich, kept_before}
pub use Rattle.snippet_splice.specs.TrimmedEdits.{trimmed_edit_of, edit_bounds, original_bounds_of, AreApart}
pub use Rattle.snippet_splice.specs.declared.patches.TrimmedPatch.{TrimmedPatch}
pub use Rattle.snippet_splice.specs.declared.splice.LineRange.{LineRange}
pub use Rattle.snippet_splice.specs.declared.stretches.SubstitutionHighlight.{SubstitutionHighlight}
pub use Rattle.snippet_style.proofs.CellLemmas.{length-text_cells, length-chars_le, All-text_cells, length-written, drop-written, slice_index_or-written_after}
pub use Rattle.snippet_style.proofs.CellLemmas.{slice_index_or-written_before, slice_index_or-written_inside, text_cells-append}
pub use Rattle.snippet_style.proofs.RowLemmas.{written-nil}
pub use Rattle.snippet_style.specs.Bounds.{max_column, max_usize}
pub use Rattle.snippet_style.specs.Cell.{Cell, text_cells, SPACE, unlinked_cell}
unfoldable pub use Rattle.snippet_style.specs.Cell.{written}
pub use Rattle.snippet_style.specs.Glyphs.{suggestion_glyph_of, removed_sign_of, suggestion_role_of, placeholder_of, char_of}
pub use Rattle.snippet_style.specs.declared.glyphs.DecorStyle.{DecorStyle}
pub use Rattle.snippet_style.specs.declared.glyphs.DecorStyle.TheVariants.{Ascii, Unicode}
pub use Rattle.snippet_style.specs.declared.glyphs.SuggestionGlyph.{SuggestionGlyph}
pub use Rattle.snippet_style.specs.declared.glyphs.SuggestionGlyph.TheVariants.{Leading, Closing, Kept, Alone, Changed, Added}
pub use Rattle.snippet_style.specs.declared.role.ElementStyle.{ElementStyle}
pub use Rattle.snippet_style.specs.declared.role.ElementStyle.TheVariants.{NoStyle, Addition, Removal, LineNumber}
pub use Rattle.snippet_suggest.specs.Cells.{left_out_cells, stretch_cell, sign_alone, sign_among}
unfoldable pub use Rattle.snippet_suggest.specs.Cells.{with_stretches, put, begin_cells, offered_cells, end_cells, removed_cells, line_cells, on_last, sign_of}
unfoldable pub use Rattle.snippet_suggest.specs.Cells.{gap_cells}
pub use Rattle.snippet_suggest.specs.Cursor.{IsCursor}
pub use Rattle.snippet_suggest.specs.Given.{shown_kind, given_lines, edits_of, first_given, trimmed_of, is_left_out, given_ranges, last_reached, given_text}
pub use Rattle.snippet_suggest.specs.Given.{first_end, removed_lines, emptied_lines, replaced_lines, counted_line, lines_touched, IsOfferable, added_lines}
pub use Rattle.snippet_suggest.specs.InOrder.{AreInOrder}
pub use Rattle.snippet_suggest.specs.Kind.{is_blank_text, takes_away, kind_of}
pub use Rattle.snippet_suggest.specs.Marks.{edit_columns, mark_start, patch_mark_end, left_of, mark_glyph_of, inner_width, lead_of}
unfoldable pub use Rattle.snippet_suggest.specs.Marks.{with_marks, with_mark}
pub use Rattle.snippet_suggest.specs.Moves.{shift_of, AreMoves}
pub use Rattle.snippet_suggest.specs.Offered.{numbers_shown, numbers_given, numbers_of, offered_lines, AreRising, IsAsItWas, lines_taken, numbers_offered}
pub use Rattle.snippet_suggest.specs.Offered.{number_of, texts_of_source}
pub use Rattle.snippet_suggest.specs.OfferedRows.{row_shown, suggestion_row, lines_shown}
unfoldable pub use Rattle.snippet_suggest.specs.OfferedRows.{opened_cells}
pub use Rattle.snippet_suggest.specs.PreparedSuggestion.{first_original, IsPrepared, IsSuggestible, first_original_end}
pub use Rattle.snippet_suggest.specs.RemovedRows.{numbered_at, last_removed, unless_stays, removed_from, gone_of, counted_from, texts_at}
unfoldable pub use Rattle.snippet_suggest.specs.RemovedRows.{taken_cells, diff_cells, emptied_cells}
pub use Rattle.snippet_suggest.specs.RowOrder.{SuggestionRow, Begins, Offers, Removes, Empty, Ends, rows_of_suggestion, Skips, removed_number}
pub use Rattle.snippet_suggest.specs.ShownRows.{IsEdgeRow, NumberFits, rows_shared, IsLineRow, IsRowOfRemoved, IsUnder, HasGutter, Shows, HasSign}
unfoldable pub use Rattle.snippet_suggest.specs.ShownRows.{suggestion_cells}
pub use Rattle.snippet_suggest.specs.Suggested.{new_on, suggested_stretches, cells_over, marked_edits, removed_in, with_left_out}
unfoldable pub use Rattle.snippet_suggest.specs.Suggested.{suggested_cells, body_cells}
pub use Rattle.snippet_suggest.specs.SuggestedLines.{is_touched, shown_from, shown_run}
pub use Rattle.snippet_suggest.specs.SuggestionRows.{is_stroke, IsMarkOrSpace, IsBareRow, IsSign, beside_gutter, end_glyph, begin_glyph, gap_left, IsOfNumber}
pub use Rattle.snippet_suggest.specs.SuggestionRows.{IsRemovedRow, HasLeft}
pub use Rattle.snippet_suggest.specs.contracts.kind.DisplaySuggestion.{the_type}
pub use Rattle.snippet_suggest.specs.declared.kind.DisplaySuggestion.{DisplaySuggestion}
pub use Rattle.snippet_suggest.specs.declared.kind.DisplaySuggestion.TheVariants.{Diff, Underline, Plain, Add}
pub use Rattle.snippet_suggest.specs.declared.layout.SuggestionLayout.{SuggestionLayout}
pub use Rattle.snippet_suggest.specs.declared.layout.SuggestionStart.{SuggestionStart}
pub use Rattle.snippet_suggest.specs.declared.layout.SuggestionStart.TheVariants.{Opening, Next, Path}
pub use Rattle.snippet_suggest.specs.declared.lines.SuggestedText.{SuggestedText}
pub use Rattle.snippet_suggest.specs.declared.marks.PatchColumns.{PatchColumns}
pub use Rattle.snippet_suggest.specs.declared.marks.Shift.{Shift}
pub use Rattle.snippet_suggest.specs.declared.prepared.PreparedSuggestion.{PreparedSuggestion}
pub use Rattle.snippet_suggest.specs.declared.roles.TabCursor.{TabCursor}
pub use Rattle.snippet_suggest.specs.declared.shown_lines.SuggestionLine.{SuggestionLine}
pub use Rattle.snippet_suggest.specs.declared.shown_lines.SuggestionLine.TheVariants.{Line, Gap}
pub use Rattle.snippet_text.proofs.NormLemmas.{list_any-norm, norm-unlisted}
pub use Rattle.snippet_text.proofs.PlainLemmas.{chars-plain, list_any-plain}
unfoldable pub use Rattle.snippet_text.proofs.WidthLemmas.{unicode_width}
pub use Rattle.snippet_text.specs.Normalized.{is_listed}
unfoldable pub use Rattle.snippet_text.specs.Normalized.{norm}
pub use Rattle.snippet_text.specs.Plain.{IsPlain}
pub use Rattle.snippet_text.specs.Width.{width_of}
unfoldable pub use Rattle.snippet_text.specs.Width.{char_width}
pub use Rattle.snippet_window.specs.Margin.{capped_sum}
pub use Rattle.std.proofs.Common.{◌≡◌, ◌∙◌, List, ℕ, length, ap, [], arith, ◌∷◌, sym, ◌++◌, ◌+◌, ◌<◌, ◌≤◌, map, refl}
pub use Rattle.std.proofs.Common.{◌-◌, false, Bool, true, subst, take, if◌then◌else◌, All, get_or, inl, inr, ◌^◌, ◌≢◌, drop, replicate}
pub use Rattle.std.proofs.Common.{◌&&◌, suc, ◌==◌, append_assoc, zero, nat_le, count_by, min, None, Some, max, ◌||◌, leb, Vec, ltb, rules}
pub use Rattle.std.proofs.Common.{◌⊎◌, not, Contains, codes, Option, ⊎_elim, ◌%◌, fold, eqb, set}
pub use Rattle.std.proofs.Math.Bool.{and-false, or-true}
pub use Rattle.std.proofs.lemmas.Bool.{cases_Bool, cond-true, cond_both, cases_lt, cond-false, true≢false, and_from, or_right, le-leb, and_parts, leb-true}
pub use Rattle.std.proofs.lemmas.Bool.{cases_eq}
pub use Rattle.std.proofs.lemmas.Bool.Decides.{nat_tests}
pub use Rattle.std.proofs.lemmas.Fmt.{decimal_by_steps}
pub use Rattle.std.proofs.lemmas.Iterator.{YieldsList-from_chars}
pub use Rattle.std.proofs.lemmas.Iterator.Consumers.{YieldsList-end}
pub use Rattle.std.proofs.lemmas.List.{length-map, append-nil, length-append, places, same_lists, take_all, map-append, take_more, get_or-map, length-replicate}
pub use Rattle.std.proofs.lemmas.List.{drop_all, get_or_past, take-map, length-drop, drop_more, get_or-drop, get_or-take, length-take, take_at, length-take-le}
pub use Rattle.std.proofs.lemmas.List.{get_or_at, drop-map, get_or-append_right, get_or_append_left, map-id, get_or_default}
pub use Rattle.std.proofs.lemmas.List.Elements.{All-nil, All-append, All-cons, All-replicate, All-map, filter_map-append, All-head, All-tail, All-push}
pub use Rattle.std.proofs.lemmas.List.Elements.{Contains-append_right}
pub use Rattle.std.proofs.lemmas.List.Folds.{list_any_at}
pub use Rattle.std.proofs.lemmas.List.FromFn.{length-range_with_len, get_or-range_with_len, get_or-map-range_with_len}
pub use Rattle.std.proofs.lemmas.List.Sums.{sum_by-cons, count_by_more_no, count_by_more_yes, AllPass-from_list_all, sum_by-append}
pub use Rattle.std.proofs.lemmas.Result.{on_ok_weaker}
pub use Rattle.std.proofs.lemmas.Str.{chars-nil, encodes-chars, IsCharBoundary-end, IsCharBoundary-start, IsUtf8-past_char, chars_past_char}
pub use Rattle.std.proofs.lemmas.Grind.{common_steps}
pub use Rattle.std.specs.Char.{is_ascii_alphanumeric, encode_utf8}
pub use Rattle.std.specs.Cow.{cow_str_bytes}
pub use Rattle.std.specs.Fmt.{decimal}
unfoldable pub use Rattle.std.specs.Fmt.{digits}
pub use Rattle.std.specs.List.{slice_index_or, range_with_len, list_all, list_any, AllZip, slice_get, slice_range, sum_by}
pub use Rattle.std.specs.Str.{bytes_eq, IsUtf8, IsCharBoundary}
pub use Rattle.std.specs.Str.Iter.{chars_rest}
pub use Rattle.std.specs.String.{string_bytes}
pub use Rattle.std.specs.declared.alloc.Global.{Global}
pub use Rattle.std.specs.declared.borrow.CowStr.{CowStr}
pub use Rattle.std.specs.declared.borrow.CowStr.TheVariants.{Borrowed}
