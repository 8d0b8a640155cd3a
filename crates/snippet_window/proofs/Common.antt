-- What most proofs of this crate cite, given on from one place.
pub use Rattle.snippet_lines.proofs.PlaceLemmas.{line_of-mono, line_of-within, locations_of-start, locations_of-end}
pub use Rattle.snippet_lines.specs.IsSpan.{IsSpan}
pub use Rattle.snippet_lines.specs.Lines.{Source, source_lines}
unfoldable pub use Rattle.snippet_lines.specs.Lines.{start_of}
pub use Rattle.snippet_lines.specs.Place.{prefix_at}
unfoldable pub use Rattle.snippet_lines.specs.Place.{start_location, line_of, place_of, location_of, end_location, locations_of, steps_after_text}
unfoldable pub use Rattle.snippet_lines.specs.Span.{span_fault}
pub use Rattle.snippet_lines.specs.declared.lines.EndLine.TheVariants.{Eof, Lf, Crlf}
pub use Rattle.snippet_lines.specs.declared.place.Loc.{Loc}
pub use Rattle.snippet_lines.specs.declared.span.SpanFault.TheVariants.{Reversed, PastEnd, OffBoundary}
pub use Rattle.snippet_model.specs.declared.snippet.Annotation.{Annotation}
pub use Rattle.snippet_model.specs.declared.snippet.AnnotationKind.{AnnotationKind}
pub use Rattle.snippet_model.specs.declared.snippet.AnnotationKind.TheVariants.{Primary, Context, Visible}
pub use Rattle.snippet_parts.proofs.AmongLemmas.{Among, among_flat_map, among_left, among_right, append_cases, map_cases, flat_map_cases, among_map, any_cases}
pub use Rattle.snippet_parts.proofs.AmongLemmas.{filter_cases, in_order_cases, all_among, among_filter, among_in_order, among_range, any_among, least_same}
pub use Rattle.snippet_parts.proofs.AmongLemmas.{greatest_same, least_le, greatest_most, all_pass, among_filter_map}
pub use Rattle.snippet_parts.proofs.LeastLemmas.{least_below, least-push, greatest-push, least-push_two, greatest-push_two}
pub use Rattle.snippet_parts.proofs.MarkLemmas.{start-line, end-line, entry_of-line, start_column-from}
pub use Rattle.snippet_parts.proofs.PartWords.{is_promoted, is_short, long_places, stands_among, stands_before}
pub use Rattle.snippet_parts.proofs.ShownLineLemmas.{kept_of-next, kept_of-past}
pub use Rattle.snippet_parts.proofs.StartByte.{start_byte}
pub use Rattle.snippet_parts.specs.Annotated.{annotated_lines, long_entry, single_part, KeptLine, long_place, is_long, long_spans, bar_part, start_part}
pub use Rattle.snippet_parts.specs.Annotated.{end_part, span_parts, promoted, long_parts, made_parts, parts_on, kept_line}
pub use Rattle.snippet_parts.specs.Depths.{depth_among, same_place}
pub use Rattle.snippet_parts.specs.Entries.{is_bar}
pub use Rattle.snippet_parts.specs.EntryBounds.{AllEntries, HasColumnRoom}
pub use Rattle.snippet_parts.specs.Kept.{kept_lines, keeps, is_trivial}
pub use Rattle.snippet_parts.specs.Least.{least, greatest}
pub use Rattle.snippet_parts.specs.Location.{primary_place, secondary_place}
pub use Rattle.snippet_parts.specs.LongSpans.{bar_lines}
pub use Rattle.snippet_parts.specs.Mark.{is_marking, is_single_line, is_marked_on, is_wide, start_column}
pub use Rattle.snippet_parts.specs.Marked.{first_line, last_line}
pub use Rattle.snippet_parts.specs.OnLine.{seen_kept}
pub use Rattle.snippet_parts.specs.ShownLines.{kept_of}
pub use Rattle.snippet_parts.specs.declared.depths.LongExtent.{LongExtent}
pub use Rattle.snippet_parts.specs.declared.entries.AnnotatedLineInfo.{AnnotatedLineInfo}
pub use Rattle.snippet_parts.specs.declared.entries.LineAnnotation.{LineAnnotation}
pub use Rattle.snippet_parts.specs.declared.entries.LineAnnotationType.{LineAnnotationType}
pub use Rattle.snippet_parts.specs.declared.entries.LineAnnotationType.TheVariants.{Singleline, MultilineEnd}
pub use Rattle.snippet_parts.specs.declared.shown_line.ShownLine.{ShownLine}
pub use Rattle.snippet_style.proofs.CellLemmas.{length-chars_le}
pub use Rattle.snippet_style.specs.Bounds.{max_usize}
pub use Rattle.snippet_style.specs.Cell.{bytes_of}
unfoldable pub use Rattle.snippet_style.specs.Cell.{written}
pub use Rattle.snippet_text.proofs.NormLemmas.{width_of-norm}
pub use Rattle.snippet_text.proofs.PlainLemmas.{char_width-plain, chars-plain, width_of-all_plain}
pub use Rattle.snippet_text.proofs.WidthBounds.{width_of-chars}
unfoldable pub use Rattle.snippet_text.proofs.WidthLemmas.{unicode_width}
pub use Rattle.snippet_text.specs.Normalized.{shown}
unfoldable pub use Rattle.snippet_text.specs.Normalized.{norm}
pub use Rattle.snippet_text.specs.Plain.{IsPlain}
pub use Rattle.snippet_text.specs.Width.{width_of}
unfoldable pub use Rattle.snippet_text.specs.Width.{char_width}
pub use Rattle.snippet_window.specs.Extent.{entries_of, ReachesLines, columns_of, line_texts, ends_of, with_columns, ReachesEntries}
pub use Rattle.snippet_window.specs.Margin.{capped_sum, margin_bounds}
pub use Rattle.snippet_window.specs.Measures.{end_with, margin_of, StandsClear}
pub use Rattle.snippet_window.specs.NearPart.{reaching_last, IsPartOf, falling_short, HoldsWindow, window_columns}
pub use Rattle.snippet_window.specs.Window.{leading_whitespace, reaching, fitting, chars_at, window_left, uncovered_part, window_right, covered_columns}
pub use Rattle.snippet_window.specs.Window.{end_mark_column, is_near_span, dropped_part, inner_part, covered_end, window, is_near_left, stands_whole}
pub use Rattle.snippet_window.specs.declared.extent.Extent.{Extent}
pub use Rattle.snippet_window.specs.declared.margin.Margin.{Margin}
pub use Rattle.std.proofs.Common.{◌∙◌, ap, ◌≡◌, sym, arith, ℕ, length, List, ◌+◌, ◌-◌, take, ◌++◌, Option, cond, true, [], ◌∷◌}
pub use Rattle.std.proofs.Common.{subst, ◌≤◌, drop, false, ◌<◌, refl, min, inl, inr, None, unwrap_or, Some, map, Bool, eqb, not, max, All, leb}
pub use Rattle.std.proofs.Common.{◌&&◌, ◌^◌, IfSome, rules, ◌||◌, suc, nat_le, nat_lt, reverse, encode_utf8_all, le_refl, IsUtf8, ◌*◌}
pub use Rattle.std.proofs.Common.{encode_utf8, ◌⊎◌, replicate, codes, get_or, add_assoc, add-zero, ◌/◌, fold, zero, ltb}
pub use Rattle.std.proofs.Math.Seq.{take-append-add, drop-append-add, take-append_seam}
pub use Rattle.std.proofs.lemmas.Bool.{and_parts, cases_Bool, cases_lt, not-true, and_from, or_right, eq-eqb, eqb-true, lt-leb, le-leb, cond-true, cond-false}
pub use Rattle.std.proofs.lemmas.Bool.{eqb-false, leb-true, or_cases}
pub use Rattle.std.proofs.lemmas.Bool.Decides.{nat_tests}
pub use Rattle.std.proofs.lemmas.Grind.{common_steps}
pub use Rattle.std.proofs.lemmas.Grind.{flat_map-append}
pub use Rattle.std.proofs.lemmas.Iterator.{YieldsList-from_chars}
pub use Rattle.std.proofs.lemmas.Iterator.Consumers.{YieldsList-turn, YieldsList-end}
pub use Rattle.std.proofs.lemmas.List.{take_all, length_push, length-drop, take-append-drop, append-nil, drop_all, length-append, take-append-le}
pub use Rattle.std.proofs.lemmas.List.{drop-append-le, at_drop_more, map-append, map_push, length-take-le, length-take, length-reverse, places, reverse-append}
pub use Rattle.std.proofs.lemmas.List.{same_lists}
pub use Rattle.std.proofs.lemmas.List.Elements.{All-head, All-tail, All-nil, All-cons, All-weaker, filter-append, filter_map-append, All-append}
pub use Rattle.std.proofs.lemmas.List.Sums.{sum_by-append, sum_by-cons, fold_push}
pub use Rattle.std.proofs.lemmas.Str.{encodes-chars, IsUtf8-from_ascii, chars-append, encodes-append, length-encode, len_utf8_bounds}
pub use Rattle.std.proofs.lemmas.Str.Ascii.{IsAscii-from_all}
pub use Rattle.std.specs.Char.{is_whitespace}
pub use Rattle.std.specs.List.{flat_map, filter, filter_map, list_any, range_with_len, cons_option, list_all}
pub use Rattle.std.specs.Option.{option_map, option_map_or, option_to_list, is_none, option_copied}
