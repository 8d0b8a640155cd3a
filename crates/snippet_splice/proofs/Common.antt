-- What most proofs of this crate cite, given on from one place.
pub use Rattle.snippet_lines.proofs.BoundsLemmas.{IsLine-at, line_bytes-slice, IsOneLine-line, IsCharBoundary-start_of}
pub use Rattle.snippet_lines.proofs.CursorLemmas.{last_byte-not}
pub use Rattle.snippet_lines.proofs.LinesLemmas.{joined-source_lines, length-source_lines, AreLinesOf-source_lines, text_at-stands, start_of-next, start_of-end}
pub use Rattle.snippet_lines.proofs.LinesLemmas.{split_last, newline_count-open, source_lines-some, last_byte-push, length-lines_of, start_of-zero}
pub use Rattle.snippet_lines.proofs.LinesLemmas.{lines_of-append, lines_of-joined, last_byte-cons}
pub use Rattle.snippet_lines.proofs.OrderLemmas.{sorted-only, map-ordered_by, All-put_in}
pub use Rattle.snippet_lines.proofs.PlaceLemmas.{line_of-within, text_at-end, start_of-inside, HoldsByte-source}
pub use Rattle.snippet_lines.specs.CutLines.{AreLines, IsLineWithEnd, IsLine}
pub use Rattle.snippet_lines.specs.IsSpan.{IsSpanBorder, IsSpan}
pub use Rattle.snippet_lines.specs.Lines.{is_lf, source_lines, last_byte, lines_of, Line, line_bytes, text_at, with_first_byte, end_bytes, joined}
unfoldable pub use Rattle.snippet_lines.specs.Lines.{start_of, newline_count}
pub use Rattle.snippet_lines.specs.OrderedBy.{put_in, ordered_by}
unfoldable pub use Rattle.snippet_lines.specs.Place.{line_of}
pub use Rattle.snippet_lines.specs.Span.{is_character_border}
pub use Rattle.snippet_lines.specs.declared.lines.EndLine.{EndLine}
pub use Rattle.snippet_lines.specs.declared.lines.EndLine.TheVariants.{Eof, Lf, Crlf}
pub use Rattle.snippet_model.specs.declared.snippet.Patch.{Patch}
pub use Rattle.snippet_splice.specs.Copied.{in_text, written_from, copied, end_from, with_line_feeds, written_ranges}
pub use Rattle.snippet_splice.specs.EditStretches.{capped, extents_from, characters_before, Extent, start_character, taken_on, after_last_lf, replaced_on}
pub use Rattle.snippet_splice.specs.EditStretches.{stretches_on, without_cr, pieces_on, end_character, stretch_width}
unfoldable pub use Rattle.snippet_splice.specs.EditStretches.{new_stretches, replaced_stretches}
pub use Rattle.snippet_splice.specs.Edits.{Edit, in_order, edit_of, trimmed_edits, patched, edited_from, precedes, shrunk}
unfoldable pub use Rattle.snippet_splice.specs.Edits.{trimmed_edit}
pub use Rattle.snippet_splice.specs.FirstOverlap.{overlap_at, no_edit, AreDisjoint, AreOverlapping, IsFirstOverlap}
pub use Rattle.snippet_splice.specs.Overlap.{overlap, first_overlap_from}
unfoldable pub use Rattle.snippet_splice.specs.Overlap.{first_overlap}
pub use Rattle.snippet_splice.specs.Patched.{shown_line, line_ranges, last_end, lines_of_stand, ranges_from, texts_of, AreFrom, spliced_end}
unfoldable pub use Rattle.snippet_splice.specs.Patched.{spliced_text}
pub use Rattle.snippet_splice.specs.Sandwich.{IsSandwiched, IsSandwich}
pub use Rattle.snippet_splice.specs.ShownText.{first_start, shown_start, without_final_line_feeds, closes_line, shown_rest, unless_lone_line_feed}
unfoldable pub use Rattle.snippet_splice.specs.ShownText.{shown_text}
pub use Rattle.snippet_splice.specs.Splice.{IsPlainSplice}
pub use Rattle.snippet_splice.specs.Spliced.{HasNoCr, stands_from, stands, IsBeforeFinalLf, Stand, IsInLine, IsTouchedBy, IsTouched}
unfoldable pub use Rattle.snippet_splice.specs.Spliced.{last_line_reached}
pub use Rattle.snippet_splice.specs.StretchLines.{line_stretches, extent_of, feeds_made, lines_over, last_end_of, source_lines_shown}
unfoldable pub use Rattle.snippet_splice.specs.StretchLines.{num_replaced_lines, num_shown_lines}
pub use Rattle.snippet_splice.specs.Trim.{is_sandwiched, greatest_passing}
unfoldable pub use Rattle.snippet_splice.specs.Trim.{sandwich, kept_before}
pub use Rattle.snippet_splice.specs.TrimmedEdits.{AreApart, trimmed_edit_of, original_bounds_of, edit_bounds}
pub use Rattle.snippet_splice.specs.declared.patches.TrimmedPatch.{TrimmedPatch}
pub use Rattle.snippet_splice.specs.declared.splice.LineRange.{LineRange}
pub use Rattle.snippet_splice.specs.declared.stretches.PatchExtent.{PatchExtent}
pub use Rattle.snippet_splice.specs.declared.stretches.SubstitutionHighlight.{SubstitutionHighlight}
pub use Rattle.snippet_style.proofs.CellLemmas.{length-chars_le}
pub use Rattle.snippet_style.specs.Bounds.{IsUsize}
pub use Rattle.std.proofs.Common.{◌≡◌, ℕ, length, sym, ap, List, ◌∙◌, ◌++◌, arith, map, ◌+◌, [], ◌∷◌, ◌<◌, drop, ◌≤◌}
pub use Rattle.std.proofs.Common.{get_or, subst, refl, take, false, Bool, ◌-◌, ◌≢◌, count_by, true, append_assoc, Some, None, cond, ⊎_elim, eqb}
pub use Rattle.std.proofs.Common.{if◌then◌else◌, All, suc, ◌==◌, ◌&&◌, inl, inr, ltb, min, zero, lit<, max, ◌⊎◌, nat_lt, Option, ◌||◌}
pub use Rattle.std.proofs.Common.{leb, Vec, rules, slice_index, Contains, le_refl, IfSome, IfNone, set, zero-add}
pub use Rattle.std.proofs.Math.Seq.{take-add, take-append-add}
pub use Rattle.std.proofs.lemmas.Bool.{cond-false, cond-true, eqb-true, cases_Bool, cases_lt, cond_both, cases_eq, false_from_ne_true, and_parts, ne_eqb}
pub use Rattle.std.proofs.lemmas.Bool.{eq-eqb, leb-true, ltb-true, both_ways, lt-ltb, or_cases, or_left, or_right, and_from, le-leb, ltb-false}
pub use Rattle.std.proofs.lemmas.Bool.{eqb-false, and_left}
pub use Rattle.std.proofs.lemmas.Bool.Decides.{nat_tests}
pub use Rattle.std.proofs.lemmas.Grind.{common_steps}
pub use Rattle.std.proofs.lemmas.List.{append-nil, length-append, length-drop, take-append-drop, take_at, length-take-le, take-take, take_all, length-map}
pub use Rattle.std.proofs.lemmas.List.{drop_at, length-take, get_or-drop, get_or-map, drop_min, drop_more, map-append, drop-drop, get_or-take, get_or_past}
pub use Rattle.std.proofs.lemmas.List.{drop_all, drop-take, take-append-le, get_or-append_right, get_or_append_left, nil_from_length, take_min, drop-append-le}
pub use Rattle.std.proofs.lemmas.List.{map_more, map_push, get_or_default, get_or-set_other, get_or-set_same, map-set, places, same_lists, get_or_at}
pub use Rattle.std.proofs.lemmas.List.{length_push, length-set}
pub use Rattle.std.proofs.lemmas.List.Concat.{flat_map-append}
pub use Rattle.std.proofs.lemmas.List.Elements.{All-head, All-tail, All-cons, All-take, All-nil, All-push, All-same, All-drop, All-weaker, All-contains}
pub use Rattle.std.proofs.lemmas.List.Elements.{All-from_get_or, All-map, All-append}
pub use Rattle.std.proofs.lemmas.List.Sorted.{answers_always, All-permutation}
pub use Rattle.std.proofs.lemmas.List.Splits.{slice_split_at, slice_split_none}
pub use Rattle.std.proofs.lemmas.List.Sums.{sum_by-cons, sum_by-append, sum_by-take-le, sum_by_more}
pub use Rattle.std.proofs.lemmas.Result.{on_ok_weaker}
pub use Rattle.std.proofs.lemmas.Slice.Eq.{bytes_eq-Decides}
pub use Rattle.std.proofs.lemmas.Str.{IsCharBoundary-start, IsUtf8-take, IsCharBoundary-after_ascii, IsCharBoundary-from_take, IsUtf8-append, IsUtf8-nil}
pub use Rattle.std.proofs.lemmas.Str.{IsCharBoundary-end, chars-append, IsUtf8-drop, IsCharBoundary-before_ascii, encode_ascii}
pub use Rattle.std.proofs.lemmas.Str.Pattern.{split_parts, strip_suffix_char, starts_char}
pub use Rattle.std.specs.Bool.{Decides}
pub use Rattle.std.specs.Cmp.{IsStrictWeakOrder}
pub use Rattle.std.specs.List.{slice_range, slice_split, slice_get, before_first, position_or_len, position_from, onto_first, sum_by}
pub use Rattle.std.specs.List.Sorted.{IsSortedBy, IsStableBy}
pub use Rattle.std.specs.Option.{option_map, option_or}
pub use Rattle.std.specs.Ordering.{is_lt, nat_cmp, ordering_then}
pub use Rattle.std.specs.Str.{IsUtf8, IsCharBoundary}
pub use Rattle.std.specs.String.{string_bytes}
pub use Rattle.std.specs.declared.alloc.Global.{Global}
pub use Rattle.std.specs.declared.ops.Range.{Range}
