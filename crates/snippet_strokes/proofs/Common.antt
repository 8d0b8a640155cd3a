-- What most proofs of this crate cite, given on from one place.
pub use Rattle.snippet_grid.proofs.ReplaceLemmas.{length-changed_within, slice_index_or-changed_within_after, slice_index_or-changed_within_before}
pub use Rattle.snippet_grid.proofs.ReplaceLemmas.{slice_index_or-changed_within_inside, changed_within_one, replaced_there, replaced_empty, replaced_past}
pub use Rattle.snippet_grid.proofs.ReplaceLemmas.{row_text-text_cells, begun_by_text, texted, text_put, separator_row-begun}
pub use Rattle.snippet_grid.proofs.GridShown.{row_at-cells_written_same, WritesCells-cells_written, row_at-cells_written_other, cells_written_last}
pub use Rattle.snippet_grid.proofs.GridShown.{WritesCells-from_equal, chars_some}
pub use Rattle.snippet_grid.proofs.RunLemmas.{on_ok_two, if_ok_weaker, on_ok_value}
pub use Rattle.snippet_grid.specs.Calls.{WritesCells, cells_replaced, cells_restyled, cells_changed}
pub use Rattle.snippet_grid.specs.Grid.{row_at, cell_at, cells_written, restyled}
unfoldable pub use Rattle.snippet_grid.specs.Grid.{changed_within, replaced_within}
pub use Rattle.snippet_grid.specs.Layout.{Layout, code_cell, inner_cell, separator_cell, bar_cell, space_cell}
pub use Rattle.snippet_grid.specs.LayoutOf.{layout_of}
pub use Rattle.snippet_grid.specs.Print.{row_text}
pub use Rattle.snippet_grid.specs.StyledChars.{cell_of}
pub use Rattle.snippet_grid.specs.declared.styled_char.StyledChar.{StyledChar}
pub use Rattle.snippet_labels.proofs.CharLemmas.{norm_short, is_empty-chars}
pub use Rattle.snippet_labels.proofs.PlacedLemmas.{label_text, crowds, label_chars, labelled, placed_at, entries_all, placed_of-at, ArePlaced-from}
pub use Rattle.snippet_labels.proofs.PlacedLemmas.{is_start}
pub use Rattle.snippet_labels.proofs.PlacedLemmas.{line_positions-changed, look_counts-changed}
pub use Rattle.snippet_labels.proofs.RowLemmas.{sorted_same, stable_same}
pub use Rattle.snippet_labels.specs.PlacedEntries.{shifted, label_role, is_end_part, entry_width}
pub use Rattle.snippet_labels.specs.Pieces.{LabelPieces, beside_column, broken, label_at, label_pieces, label_width, pieces_width, shows_any}
pub use Rattle.snippet_labels.specs.Pieces.{stands_last, text_pieces}
pub use Rattle.snippet_labels.specs.Placing.{ArePlaced, HasPlace, HasItsLabel, unplaced, IsFromRight, StandsLeft}
pub use Rattle.snippet_labels.specs.Positions.{has_label, has_stem, label_place, pieces_of, is_start_part, takes_space, placed_of, line_positions, do_overlap}
pub use Rattle.snippet_labels.specs.Positions.{position_at}
pub use Rattle.snippet_labels.specs.Positions.{position_after, positions, look_counts, is_placed_before, crosses, are_starts}
pub use Rattle.snippet_labels.specs.declared.positions.PlacedEntry.{PlacedEntry}
pub use Rattle.snippet_lines.proofs.NumberLemmas.{shown_number_unlisted, chars-shown_number}
pub use Rattle.snippet_lines.proofs.OrderLemmas.{All-put_in, map-ordered_by, sorted-only}
pub use Rattle.snippet_lines.specs.Number.{shown_number}
pub use Rattle.snippet_lines.specs.OrderedBy.{ordered_by, put_in}
pub use Rattle.snippet_lines.specs.declared.number.LineNumbers.{LineNumbers}
pub use Rattle.snippet_model.proofs.RowLemmas.{each_fails, free_drawn, free_separator_row, free_written}
pub use Rattle.snippet_model.specs.AnnotationKind.{is_primary}
pub use Rattle.snippet_model.specs.FreeRows.{IsFreeCell, IsFree}
pub use Rattle.snippet_model.specs.declared.snippet.AnnotationKind.{AnnotationKind}
pub use Rattle.snippet_model.specs.declared.snippet.AnnotationKind.TheVariants.{Primary, Context, Visible}
pub use Rattle.snippet_parts.proofs.AmongLemmas.{all_among, among_filter_map, Among, all_pass, any_among}
pub use Rattle.snippet_parts.proofs.EntryFacts.{count-map}
pub use Rattle.snippet_parts.proofs.PartLemmas.{list_any-map}
pub use Rattle.snippet_parts.proofs.ShownFacts.{contains-here, contains-there, contains-cases}
pub use Rattle.snippet_parts.proofs.ShownLineLemmas.{infos_of-at, infos_of-drop, infos_of-length}
pub use Rattle.snippet_parts.specs.Entries.{is_wide_entry, is_bar, is_single_part}
pub use Rattle.snippet_parts.specs.Least.{greatest}
pub use Rattle.snippet_parts.specs.ShownLines.{infos_of}
pub use Rattle.snippet_parts.specs.declared.entries.AnnotatedLineInfo.{AnnotatedLineInfo}
pub use Rattle.snippet_parts.specs.declared.entries.LineAnnotation.{LineAnnotation}
pub use Rattle.snippet_parts.specs.declared.entries.LineAnnotationType.{LineAnnotationType}
pub use Rattle.snippet_parts.specs.declared.entries.LineAnnotationType.TheVariants.{Singleline, MultilineStart, MultilineLine, MultilineEnd}
pub use Rattle.snippet_parts.specs.declared.shown_line.ShownLine.{ShownLine}
pub use Rattle.snippet_strokes.specs.Bars.{ends_of_bars, bars_apart, Bar, bar_at, is_beside, with_bars}
pub use Rattle.snippet_strokes.specs.BegunRow.{begun_cells, ended_cells}
pub use Rattle.snippet_strokes.specs.CellRows.{cells_of}
pub use Rattle.snippet_strokes.specs.Cuts.{overlapped, is_cut, cut_middle, sees, with_blocks}
pub use Rattle.snippet_strokes.specs.Drawable.{HasBarCell, AreDrawable, IsReady, HasBarCellAt}
pub use Rattle.snippet_strokes.specs.Drawing.{row_count, rows_below}
pub use Rattle.snippet_strokes.specs.DrawnBars.{bar_cell_part, is_whole_line, HasBarRoom, barred, has_depth, bar_of, StandsBeside, bar_glyph, open_below}
pub use Rattle.snippet_strokes.specs.DrawnBars.{HasOwnDepth, changed_from, part_glyph}
pub use Rattle.snippet_strokes.specs.DrawnStems.{stems_of, is_stem_covered}
pub use Rattle.snippet_strokes.specs.EndBars.{IsNoBar, BarEnds}
pub use Rattle.snippet_strokes.specs.EntryMarks.{IsBarCell, is_mark_role, IsMarkCell}
pub use Rattle.snippet_strokes.specs.InfoRows.{infos_rows, gap_rows, info_rows}
pub use Rattle.snippet_strokes.specs.Labels.{IsStrokeCell, IsStemCell, stroke_glyphs, stem_glyphs}
pub use Rattle.snippet_strokes.specs.LineRows.{own_rows, line_rows}
pub use Rattle.snippet_strokes.specs.LookedCuts.{is_wide_at, look_ends, overlapped_by, is_met, meets}
pub use Rattle.snippet_strokes.specs.PaintedStrokes.{mark_end, labels_of, connectors_of, corners_of, first_glyph, foot_glyph, tops_of, strokes_under_marks}
pub use Rattle.snippet_strokes.specs.PaintedStrokes.{top_of}
pub use Rattle.snippet_strokes.specs.Painting.{painting_order, stroke_role, mark_of, is_painted_before}
pub use Rattle.snippet_strokes.specs.Places.{HasRows, AreEnough, HasPlaceAmong}
pub use Rattle.snippet_strokes.specs.Snippet.{gap_row}
pub use Rattle.snippet_strokes.specs.Squeezed.{middles_replaced, past_middle, squeezed}
pub use Rattle.snippet_strokes.specs.SourceRows.{bare_row, window_cells, source_row, with_cells}
pub use Rattle.snippet_strokes.specs.StrokeRows.{highlighted_row, highlights, bare_elision_row, IsElisionRow}
pub use Rattle.snippet_strokes.specs.Strokes.{label_of, column_of, corner_of, connector_of, stem_of, is_uncut, stroke_rows, line_strokes, cut_pairs, piece_at}
pub use Rattle.snippet_strokes.specs.Strokes.{pieces_at}
pub use Rattle.snippet_strokes.specs.Writes.{painted, Write, glyph_at, stretch_of}
pub use Rattle.snippet_strokes.specs.declared.bars.BarStroke.{BarStroke}
pub use Rattle.snippet_strokes.specs.declared.bars.BarStroke.TheVariants.{Solid, Top, Dotted}
pub use Rattle.snippet_strokes.specs.declared.bars.OpenBar.{OpenBar}
pub use Rattle.snippet_strokes.specs.declared.snippet.LineView.{LineView}
pub use Rattle.snippet_style.proofs.CellLemmas.{length-text_cells, length-written, slice_index_or-written_before, slice_index_or-written_after}
pub use Rattle.snippet_style.proofs.CellLemmas.{slice_index_or-written_inside, take-written_past, drop-written, slice_index_or-text_cells}
pub use Rattle.snippet_style.proofs.CellLemmas.{text_cells-append}
pub use Rattle.snippet_style.proofs.RowLemmas.{led_before, closing_some}
pub use Rattle.snippet_style.proofs.StrokeLemmas.{bars_among, EachCode, each_code, EachStem, each_stem}
pub use Rattle.snippet_style.specs.Bounds.{FitsRow}
pub use Rattle.snippet_style.specs.Cell.{Cell, SPACE, text_cells, unlinked_cell, gives_way}
unfoldable pub use Rattle.snippet_style.specs.Cell.{written}
pub use Rattle.snippet_style.specs.Glyphs.{strokes_of, placeholder_of, underline_role, separator_of, bar_glyphs, elision_of, closing_of, char_of, IsMarkGlyph}
pub use Rattle.snippet_style.specs.Separators.{separator_row, closing_row}
pub use Rattle.snippet_style.specs.declared.glyphs.DecorStyle.{DecorStyle}
pub use Rattle.snippet_style.specs.declared.glyphs.DecorStyle.TheVariants.{Ascii, Unicode}
pub use Rattle.snippet_style.specs.declared.glyphs.Strokes.{Strokes}
pub use Rattle.snippet_style.specs.declared.role.ElementStyle.{ElementStyle}
pub use Rattle.snippet_style.specs.declared.role.ElementStyle.TheVariants.{LineNumber, Quotation, UnderlinePrimary, UnderlineSecondary, NoStyle, LabelPrimary}
pub use Rattle.snippet_style.specs.declared.role.ElementStyle.TheVariants.{LabelSecondary}
pub use Rattle.snippet_text.proofs.NormLemmas.{list_any-norm}
pub use Rattle.snippet_text.proofs.WidthBounds.{char_width-bound, width_of-chars}
pub use Rattle.snippet_text.specs.Normalized.{is_listed, shown}
unfoldable pub use Rattle.snippet_text.specs.Normalized.{norm}
pub use Rattle.snippet_text.specs.Width.{width_of}
unfoldable pub use Rattle.snippet_text.proofs.WidthLemmas.{unicode_width}
unfoldable pub use Rattle.snippet_text.specs.Width.{char_width}
pub use Rattle.snippet_window.proofs.LineWindowLemmas.{reaching-none, uncovered_short, part_short, fitting_all, reaching-cons, width-cons}
pub use Rattle.snippet_window.proofs.NearLemmas.{part_of_norm}
pub use Rattle.snippet_window.specs.Measures.{StandsClear}
pub use Rattle.snippet_window.specs.Window.{AreReplaced, inner_part, covered_columns, uncovered_part, covered_end, dropped_part, reaching, window_left}
pub use Rattle.snippet_window.specs.Window.{window_right, window}
pub use Rattle.snippet_window.specs.declared.margin.Margin.{Margin}
pub use Rattle.std.proofs.Common.{◌≡◌, ◌∙◌, ap, arith, length, sym, ℕ, List, ◌+◌, [], ◌∷◌, ◌<◌, ◌++◌, ◌-◌, refl, ◌≤◌}
pub use Rattle.std.proofs.Common.{false, true, All, map, Bool, subst, inl, inr, take, get_or, replicate, ◌==◌, drop, cond, suc, ◌&&◌, zero, nat_lt, not}
pub use Rattle.std.proofs.Common.{◌||◌, None, ◌^◌, max, ◌≢◌, Some, Option, nat_le, Contains, ◌⊎◌, fold, reverse, IfSome, IsUtf8, filter}
pub use Rattle.std.proofs.Common.{string_bytes, count_by, nat_cmp, codes, set, is_lt, add-zero, min, ltb, rules}
pub use Rattle.std.proofs.Math.Bool.{and-false, and-true}
pub use Rattle.std.proofs.Math.Seq.{drop-append_seam, get_or-append_seam, set-append_seam}
pub use Rattle.std.proofs.lemmas.Bool.{cases_lt, cases_Bool, cases_eq, false≢true, and_parts, eq-eqb, cond-false, cond-true, or_parts, eqb-true, both_ways}
pub use Rattle.std.proofs.lemmas.Bool.{and_from, and_left, and_right, le-leb, lt-leb, false_from_ne_true, not-true, leb-true, ltb-true, le-ltb, lt-ltb}
pub use Rattle.std.proofs.lemmas.Bool.Decides.{nat_tests}
pub use Rattle.std.proofs.lemmas.Grind.{common_steps}
pub use Rattle.std.proofs.lemmas.Iterator.{YieldsList-from_chars}
pub use Rattle.std.proofs.lemmas.Iterator.Consumers.{YieldsList-turn, YieldsList-end}
pub use Rattle.std.proofs.lemmas.List.{length-map, length-replicate, take_all, get_or-map, length-append, length-drop, length_push, get_or_past, append-nil}
pub use Rattle.std.proofs.lemmas.List.{ext_get_or, append_assoc, same_lists, get_or-drop, places, drop_all, get_or_append_left, get_or-replicate, map-append}
pub use Rattle.std.proofs.lemmas.List.{get_or_push, take_more, drop_more, take-append-drop, get_or-take, get_or_default, length-take-le, replicate_more}
pub use Rattle.std.proofs.lemmas.List.{take-map, drop-map, take-take, map-set, replicate-append-replicate, length-take, nil_from_length, reverse-append}
pub use Rattle.std.proofs.lemmas.List.{set_split, drop-drop, get_or_at, take_at, take-append-le, at_drop_all, at_drop_more, get_or-append_right, take-replicate}
pub use Rattle.std.proofs.lemmas.List.{take_rest, map-id}
pub use Rattle.std.proofs.lemmas.List.Concat.{flat_map-append, flat_map-cons}
pub use Rattle.std.proofs.lemmas.List.Elements.{All-nil, All-cons, All-tail, All-head, All-append, All-map, All-weaker, All-take, All-get_or, All-same}
pub use Rattle.std.proofs.lemmas.List.Elements.{All-from_get_or, All-replicate, All-filter, All-drop, filter_passes, filter_map-append, filter-append}
pub use Rattle.std.proofs.lemmas.List.Elements.{All-contains, Contains-get_or}
pub use Rattle.std.proofs.lemmas.List.Folds.{list_any_none, list_any_at, list_all_at, list_any-append}
pub use Rattle.std.proofs.lemmas.List.FromFn.{get_or-range_with_len, length-range_with_len, get_or-map-range_with_len, length-map-range_with_len}
pub use Rattle.std.proofs.lemmas.List.FromFn.{map-range_with_len_more}
pub use Rattle.std.proofs.lemmas.List.Sorted.{All-permutation, IsPermutation-trans, IsPermutation-map, IsPermutation-sym, length_permutation}
pub use Rattle.std.proofs.lemmas.List.Sorted.{Contains-permutation, sum_by-IsPermutation, list_any-IsPermutation, IsPermutation-refl, IsPermutation-cons}
pub use Rattle.std.proofs.lemmas.List.Sorted.{IsPermutation-middle, IsPermutation-keeps, IsPermutation-swap, answers_always}
pub use Rattle.std.proofs.lemmas.List.Sums.{fold-append, sum_by-cons, AllPass-from_list_all}
pub use Rattle.std.proofs.lemmas.Result.{on_ok_weaker, IfOk-weaker}
pub use Rattle.std.proofs.lemmas.Str.{chars-nil, chars-IsAscii, chars_from_encodes, IsUtf8-string_bytes}
pub use Rattle.std.proofs.lemmas.Str.{IsCharBoundary-from_ascii}
pub use Rattle.std.proofs.lemmas.Str.Ascii.{IsAscii-from_all}
pub use Rattle.std.specs.Char.{is_whitespace}
pub use Rattle.std.specs.Cmp.{IsStrictWeakOrder}
pub use Rattle.std.specs.Cow.{cow_str_bytes}
pub use Rattle.std.specs.Global.{Vec}
pub use Rattle.std.specs.List.{list_any, flat_map, slice_index_or, range_with_len, list_all, zip, filter_map, repeat, enumerate_from, swap, cons_option}
pub use Rattle.std.specs.List.{slice_range}
pub use Rattle.std.specs.List.Sorted.{IsPermutation, IsSortedBy, IsStableBy}
pub use Rattle.std.specs.Option.{option_to_list, option_map_or}
pub use Rattle.std.specs.Ordering.{ord_max, ordering_then, bool_cmp}
pub use Rattle.std.specs.Prelude.{if◌then◌else◌, ◌/◌, encode_utf8}
pub use Rattle.std.specs.Str.{IsAscii, IsCharBoundary}
pub use Rattle.std.specs.Vec.{vec_len}
pub use Rattle.std.specs.declared.cmp.Reverse.{Reverse}
