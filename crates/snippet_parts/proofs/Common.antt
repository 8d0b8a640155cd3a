-- What most proofs of this crate cite, given on from one place.
pub use Rattle.snippet_lines.proofs.BoundsLemmas.{IsCharBoundary-start_of, IsLine-at, IsOneLine-line, line_bytes-slice}
pub use Rattle.snippet_lines.proofs.IndexLemmas.{line_of-last, line_of-clamped}
pub use Rattle.snippet_lines.proofs.LinesLemmas.{length-source_lines, newline_count-le, start_of-le, joined-source_lines, start_of-zero, start_of-end}
pub use Rattle.snippet_lines.proofs.LinesLemmas.{length-text_at-source, AreLinesOf-source_lines, source_lines-only, start_of-cons, text_at-stands}
pub use Rattle.snippet_lines.proofs.LinesLemmas.{IsUtf8-text_at}
pub use Rattle.snippet_lines.proofs.OrderLemmas.{All-put_in, map-ordered_by, sorted-only}
pub use Rattle.snippet_lines.proofs.PlaceLemmas.{line_of-within, line_of-mono, IsCharBoundary-prefix, start_location-line, start_location-column, line_of-is}
pub use Rattle.snippet_lines.proofs.PlaceLemmas.{HoldsByte-source, start_of-inside, text_at-end, locations_of-start, place_of-character, place_of-column}
pub use Rattle.snippet_lines.proofs.PlaceLemmas.{end_location-line, end_location_column, line_of-start}
pub use Rattle.snippet_lines.proofs.StartLemmas.{text-only}
pub use Rattle.snippet_lines.specs.CutLines.{AreLines, AreLinesOf, IsLineWithEnd}
pub use Rattle.snippet_lines.specs.IsSpan.{IsSpan, IsSpanBorder}
pub use Rattle.snippet_lines.specs.Lines.{Source, source_lines, Line, text_at, line_bytes, joined, line_at, StandsAt}
unfoldable pub use Rattle.snippet_lines.specs.Lines.{start_of, newline_count}
pub use Rattle.snippet_lines.specs.OrderedBy.{ordered_by, put_in}
pub use Rattle.snippet_lines.specs.Place.{prefix_at, HoldsByte}
unfoldable pub use Rattle.snippet_lines.specs.Place.{line_of, location_of, locations_of, start_location, place_of, steps_after_text, end_location}
pub use Rattle.snippet_lines.specs.Starts.{starts_from, line_starts}
pub use Rattle.snippet_lines.specs.declared.lines.EndLine.TheVariants.{Eof}
pub use Rattle.snippet_lines.specs.declared.place.Loc.{Loc}
pub use Rattle.snippet_model.specs.AnnotationKind.{is_primary}
pub use Rattle.snippet_model.specs.Fits.{AnnotationFits}
pub use Rattle.snippet_model.specs.contracts.snippet.AnnotationKind.{the_type}
pub use Rattle.snippet_model.specs.declared.snippet.Annotation.{Annotation}
pub use Rattle.snippet_model.specs.declared.snippet.AnnotationKind.{AnnotationKind}
pub use Rattle.snippet_model.specs.declared.snippet.AnnotationKind.TheVariants.{Primary, Context, Visible}
pub use Rattle.snippet_model.specs.declared.snippet.Snippet.{Snippet}
pub use Rattle.snippet_parts.specs.Annotated.{long_place, KeptLine, single_part, long_parts, long_spans, is_long, long_entry, parts_on, kept_line}
pub use Rattle.snippet_parts.specs.Annotated.{annotated_lines, made_parts, span_parts, promoted, depth_of, bar_part, start_part, end_part, deepest}
pub use Rattle.snippet_parts.specs.Between.{lines_between}
pub use Rattle.snippet_parts.specs.Chains.{raw_depths, IsLongestChain, SharesWithFirst, IsChainOf}
pub use Rattle.snippet_parts.specs.Depths.{same_place, depth_among, greatest_depth, places_of, share_line, raw_depth, raw_depth_among, greatest_raw_depth}
pub use Rattle.snippet_parts.specs.Entries.{Ascends, is_single_part, is_wide_entry}
pub use Rattle.snippet_parts.specs.EntryBounds.{AllEntries, HasCharacterRoom, HasColumnRoom, HasShortLabel, HasDepthWithin}
pub use Rattle.snippet_parts.specs.Kept.{keeps, is_trivial_line, has_bar, kept_lines, shown_lines, with_between, is_bracket, is_comment, is_trivial}
pub use Rattle.snippet_parts.specs.KeptEntries.{line_with}
pub use Rattle.snippet_parts.specs.Least.{least, greatest}
pub use Rattle.snippet_parts.specs.LinePlaces.{IsLinePlace}
pub use Rattle.snippet_parts.specs.LineStretches.{is_seen, is_held, holds_line}
pub use Rattle.snippet_parts.specs.LineTable.{entry_at, table_entry, IsLineTable, LineEntry}
pub use Rattle.snippet_parts.specs.Located.{IsLocated, annotations_of, is_long_span, is_short_span, short_part, span_entry, AreBars, is_alone_on}
pub use Rattle.snippet_parts.specs.Location.{primary_place, secondary_place, least_place, start_at, IsLocation}
pub use Rattle.snippet_parts.specs.LongSpans.{seen_long, HasFit, bar_lines}
pub use Rattle.snippet_parts.specs.MapStarts.{starts_of}
pub use Rattle.snippet_parts.specs.Mark.{is_marking, touches, is_single_line, is_marked_on, span_width, is_wide, start_column, IsMarkedAt, IsMarkOf}
pub use Rattle.snippet_parts.specs.Marked.{first_line, last_line}
pub use Rattle.snippet_parts.specs.NamingStart.{marked_starts, primary_starts, naming_start, place_at}
pub use Rattle.snippet_parts.specs.OnLine.{seen_kept, is_untouched, numbers_of_lines, AreEntriesOn}
pub use Rattle.snippet_parts.specs.ShownLines.{infos_of, kept_of}
pub use Rattle.snippet_parts.specs.Trivial.{step, is_trivial_whole}
pub use Rattle.snippet_parts.specs.declared.depths.LongExtent.{LongExtent}
pub use Rattle.snippet_parts.specs.declared.entries.AnnotatedLineInfo.{AnnotatedLineInfo}
pub use Rattle.snippet_parts.specs.declared.entries.LineAnnotation.{LineAnnotation}
pub use Rattle.snippet_parts.specs.declared.entries.LineAnnotationType.TheVariants.{Singleline, MultilineEnd, MultilineStart}
pub use Rattle.snippet_parts.specs.declared.kept.Stretch.{Stretch}
pub use Rattle.snippet_parts.specs.declared.located.LocatedSpan.{LocatedSpan}
pub use Rattle.snippet_parts.specs.declared.location.Location.{Location}
pub use Rattle.snippet_parts.specs.declared.long_spans.LongSpan.{LongSpan}
pub use Rattle.snippet_parts.specs.declared.mark.Mark.{Mark}
pub use Rattle.snippet_parts.specs.declared.shown_line.ShownLine.{ShownLine}
pub use Rattle.snippet_parts.specs.declared.source_map.LineInfo.{LineInfo}
pub use Rattle.snippet_parts.specs.declared.trivial_lines.Seen.{Seen}
pub use Rattle.snippet_parts.specs.declared.trivial_lines.Seen.TheVariants.{Comment, Telling, Nothing, Bracket, Slash, Slashes}
pub use Rattle.snippet_splice.specs.Edits.{edit_of}
pub use Rattle.snippet_splice.specs.Splice.{IsSplice}
pub use Rattle.snippet_style.proofs.CellLemmas.{length-chars_le}
pub use Rattle.snippet_style.specs.Bounds.{HasNext}
pub use Rattle.snippet_text.proofs.WidthBounds.{width_of-chars}
pub use Rattle.snippet_text.specs.TextBounds.{TextFits}
pub use Rattle.snippet_text.specs.Width.{width_of}
pub use Rattle.std.proofs.Common.{◌≡◌, ◌∙◌, ap, sym, arith, ℕ, ◌+◌, List, length, map, [], ◌-◌, take, ◌<◌, ◌≤◌, subst}
pub use Rattle.std.proofs.Common.{◌∷◌, true, false, ◌++◌, refl, Bool, get_or, inl, inr, not, eqb, ◌||◌, ◌&&◌, cond, drop, leb, ltb, suc, min}
pub use Rattle.std.proofs.Common.{zero, Some, None, Option, max, ◌⊎◌, rules, ◌^◌, fold, set, append_assoc, Err, nat_cmp, ◌*◌, ◌==◌, ⊎_elim}
pub use Rattle.std.proofs.Common.{unwrap_or, add-one, ◌≢◌, add-zero, reverse, Result, Ok, IfOk}
pub use Rattle.std.proofs.Math.Bool.{and-false, and-true, or-false}
pub use Rattle.std.proofs.Math.Nat.{zero-add}
pub use Rattle.std.proofs.Math.Seq.{take-add}
pub use Rattle.std.proofs.lemmas.Bool.{cases_Bool, and_parts, cond-true, cases_lt, cond-false, eq-eqb, ne_eqb, and_from, eqb-true, le-leb, or_right, both_ways}
pub use Rattle.std.proofs.lemmas.Bool.{or_left, cases_eq, false_from_ne_true, cond_both, lt-leb, leb-true, lt-ltb, le-ltb, or_cases, not-true, leb-false}
pub use Rattle.std.proofs.lemmas.Bool.{ltb-true, and_right, or_parts, eqb-false, ltb-false, false≢true, and_left, or_from}
pub use Rattle.std.proofs.lemmas.Bool.Decides.{nat_tests}
pub use Rattle.std.proofs.lemmas.Grind.{common_steps}
pub use Rattle.std.proofs.lemmas.Iterator.{YieldsList-from_chars}
pub use Rattle.std.proofs.lemmas.Iterator.Consumers.{YieldsList-turn, YieldsList-end}
pub use Rattle.std.proofs.lemmas.List.{append-nil, length-map, get_or-map, take_more, map_push, length-take, take_all, length-drop, map-append, drop_more}
pub use Rattle.std.proofs.lemmas.List.{take_at, length-append, length-set, map_more, drop-map, drop_all, get_or-take, take_rest, get_or_default, take-take}
pub use Rattle.std.proofs.lemmas.List.{ext_get_or, get_or-set_same, get_or-set_other, places, same_lists, take-map, get_or-drop, drop-set, length-take-le}
pub use Rattle.std.proofs.lemmas.List.{map-id, reverse-append, drop_at, take-append-drop, map-set, nil_from_length, length_push}
pub use Rattle.std.proofs.lemmas.List.Concat.{flat_map-append}
pub use Rattle.std.proofs.lemmas.List.Elements.{All-tail, All-head, All-nil, filter-append, All-cons, All-weaker, All-contains, All-filter, All-map, All-same}
pub use Rattle.std.proofs.lemmas.List.Elements.{All-append, filter_agree, All-contains_itself, Contains-append_left, All-push, Contains-append_right}
pub use Rattle.std.proofs.lemmas.List.Elements.{Contains-get_or, filter_passes, All-from_get_or, Contains-push, Contains-push_cases}
pub use Rattle.std.proofs.lemmas.List.Folds.{list_any_none, list_any_at, list_all_at, list_any_more}
pub use Rattle.std.proofs.lemmas.List.FromFn.{length-range_with_len, get_or-range_with_len, map-range_with_len_more}
pub use Rattle.std.proofs.lemmas.List.Kept.{AllPairs-filter, IsNonDecreasingBy-filter}
pub use Rattle.std.proofs.lemmas.List.Sorted.{IsPartitionedBy-leb, IsPartitionPoint-from_clause, searched, sorted_far, list_any-IsPermutation, answers_always}
pub use Rattle.std.proofs.lemmas.List.Sorted.{All-permutation, IsPartitionedBy-ltb, IsNonDecreasingBy-from_sort_by_key}
pub use Rattle.std.proofs.lemmas.List.Sums.{sum_by-cons, sum_by-append, count_by-le-length, length-filter, fold_push}
pub use Rattle.std.proofs.lemmas.Map.Views.{any-filter_same}
pub use Rattle.std.proofs.lemmas.Result.{IfOk-weaker}
pub use Rattle.std.proofs.lemmas.Simd.{map-map}
pub use Rattle.std.proofs.lemmas.Str.{IsUtf8-take, chars-append}
pub use Rattle.std.specs.Char.{is_whitespace}
pub use Rattle.std.specs.Cmp.{IsStrictWeakOrder}
pub use Rattle.std.specs.Cow.{cow_str_bytes}
pub use Rattle.std.specs.List.{list_any, All, range_with_len, filter, Contains, HoldsAt, AllPairs, count_by, list_all, cons_option, filter_map, slice_get}
pub use Rattle.std.specs.List.{flat_map}
pub use Rattle.std.specs.List.Sorted.{IsNonDecreasingBy, IsPartitionPoint, IsBinarySearchResult, IsSortedBy, IsPermutation}
pub use Rattle.std.specs.Option.{option_map, option_or, IfSome, option_map_or, IsSomeAnd, is_some, option_to_list, IfNone}
pub use Rattle.std.specs.Ordering.{is_lt, ordering_then}
pub use Rattle.std.specs.Result.{is_ok}
pub use Rattle.std.specs.Str.{IsCharBoundary, IsUtf8, chars, drop_trailing_whitespace, skip_leading_whitespace}
pub use Rattle.std.specs.Vec.Iter.{into_iter_items, into_iter_len}
