-- What most proofs of this crate cite, given on from one place.
pub use Rattle.memchr.proofs.lemmas.CallerLemmas.{All-places}
pub use Rattle.memchr.specs.Find.{is_byte, places}
unfoldable pub use Rattle.memchr.specs.Find.{places_from}
pub use Rattle.snippet_lines.specs.CutLines.{IsLine, AreLines, IsLineWithEnd, AreLinesOf, IsCutOf}
pub use Rattle.snippet_lines.specs.IsSpan.{IsSpanBorder}
pub use Rattle.snippet_lines.specs.Lines.{line_bytes, source_lines, is_lf, Line, lines_of, last_byte, end_bytes, joined, text_at, line_with_byte}
pub use Rattle.snippet_lines.specs.Lines.{with_first_byte, Source, StandsAt}
unfoldable pub use Rattle.snippet_lines.specs.Lines.{start_of, newline_count}
pub use Rattle.snippet_lines.specs.Number.{number_width, shown_number}
pub use Rattle.snippet_lines.specs.OrderedBy.{put_in, ordered_by}
pub use Rattle.snippet_lines.specs.Place.{HoldsByte, prefix_at}
unfoldable pub use Rattle.snippet_lines.specs.Place.{line_of, place_of, location_of, steps_after_text, start_location, end_location, locations_of}
pub use Rattle.snippet_lines.specs.Places.{place_from, units_of, begins_char, border_before, is_border}
pub use Rattle.snippet_lines.specs.Starts.{starts_from, line_starts}
pub use Rattle.snippet_lines.specs.TextLines.{line_length, ends_line, starts_after, start_bytes, begins_with_feed, line_start_after}
pub use Rattle.snippet_lines.specs.declared.clamp.Place.{Place}
pub use Rattle.snippet_lines.specs.declared.columns.ColumnUnit.{ColumnUnit}
pub use Rattle.snippet_lines.specs.declared.lines.EndLine.{EndLine}
pub use Rattle.snippet_lines.specs.declared.lines.EndLine.TheVariants.{Eof, Lf, Crlf}
pub use Rattle.snippet_lines.specs.declared.number.LineNumbers.{LineNumbers}
pub use Rattle.snippet_lines.specs.declared.number.LineNumbers.TheVariants.{Shown, Anonymized, Hidden}
pub use Rattle.snippet_style.proofs.CellLemmas.{length-chars_le}
pub use Rattle.snippet_text.proofs.PlainLemmas.{chars-plain, width_of-plain}
pub use Rattle.snippet_text.proofs.WidthBounds.{width_of-chars}
pub use Rattle.snippet_text.specs.Normalized.{is_listed}
pub use Rattle.snippet_text.specs.Width.{width_of}
unfoldable pub use Rattle.snippet_text.specs.Width.{char_width}
pub use Rattle.std.proofs.Common.{◌≡◌, length, ap, ◌∙◌, arith, ℕ, List, sym, ◌+◌, ◌≤◌, ◌<◌, ◌∷◌, ◌-◌, ◌++◌, subst, []}
pub use Rattle.std.proofs.Common.{suc, drop, get_or, refl, take, false, true, All, zero, cond, inl, inr, ◌≢◌, min, count_by, ⊎_elim, Bool, replicate}
pub use Rattle.std.proofs.Common.{ltb, ◌==◌, if◌then◌else◌, eqb, ◌⊎◌, append_assoc, ◌&&◌, ◌||◌, add-zero, drop-cons, slice_get, ◌*◌}
pub use Rattle.std.proofs.Common.{string_bytes, ◌^◌, ◌/◌, ◌%◌, add-one, le_refl, Option, nat_lt, not, map, filter, ◌↔◌, Some, None, rules}
pub use Rattle.std.proofs.Math.Seq.{take-add, take-append-add}
pub use Rattle.std.proofs.lemmas.Bool.{cases_lt, cond-false, cond_both, cond-true, eqb-true, cases_Bool, ltb-true, ltb-false, eq-eqb, ne_eqb}
pub use Rattle.std.proofs.lemmas.Bool.{false_from_ne_true, lt-ltb, le-ltb, cases_order, eqb-false, and_from, and_parts, both_ways, not-true, not_from_false}
pub use Rattle.std.proofs.lemmas.Bool.{false≢true}
pub use Rattle.std.proofs.lemmas.Bool.Decides.{nat_tests}
pub use Rattle.std.proofs.lemmas.Fmt.{decimal_digit, decimal_step, decimal_by_steps, IsAscii-decimal, length-decimal-le}
pub use Rattle.std.proofs.lemmas.Grind.{common_steps}
pub use Rattle.std.proofs.lemmas.Iterator.{YieldsList-from_chars}
pub use Rattle.std.proofs.lemmas.Iterator.Consumers.{YieldsList-end}
pub use Rattle.std.proofs.lemmas.List.{length-append, append-nil, get_or-take, length-take-le, take_all, drop_more, get_or-drop, take_min, take_at, drop_all}
pub use Rattle.std.proofs.lemmas.List.{get_or_default, drop_at, take-append-drop, drop-drop, length-take, length-drop, nil_from_length, length-replicate}
pub use Rattle.std.proofs.lemmas.List.{length_push, get_or_past, get_or_at, take_more, take-append-le, take-take, take_rest, map-id, replicate_more}
pub use Rattle.std.proofs.lemmas.List.Concat.{flat_map-append}
pub use Rattle.std.proofs.lemmas.List.Elements.{All-nil, All-cons, All-push, All-take, All-head, All-tail, All-same, All-append, All-replicate}
pub use Rattle.std.proofs.lemmas.List.Sorted.{sorted_far}
pub use Rattle.std.proofs.lemmas.List.Sums.{sum_by-cons, sum_by-append, count_by-le-length, sum_by-take-le}
pub use Rattle.std.proofs.lemmas.Str.{IsCharBoundary-after_ascii, IsUtf8-take, IsCharBoundary-start, chars-append, chars-IsAscii, IsAscii-append, IsUtf8-nil}
pub use Rattle.std.proofs.lemmas.Str.{IsUtf8-drop, IsCharBoundary-before_ascii, chars-nil, IsCharBoundary-from_drop, encode_ascii, IsUtf8-past_char}
pub use Rattle.std.proofs.lemmas.Str.{chars_past_char, length-encode}
pub use Rattle.std.proofs.lemmas.Str.Ascii.{IsAscii-from_all}
pub use Rattle.std.proofs.lemmas.Str.Pattern.{strip_suffix_char}
pub use Rattle.std.specs.Bool.{IsTrue}
pub use Rattle.std.specs.Char.{len_utf8}
pub use Rattle.std.specs.Cmp.{IsStrictWeakOrder}
pub use Rattle.std.specs.Fmt.{decimal}
pub use Rattle.std.specs.List.{slice_index_or, slice_range, repeat}
pub use Rattle.std.specs.List.Sorted.{IsSortedBy, IsStableBy, ties}
pub use Rattle.std.specs.Prelude.{codes}
pub use Rattle.std.specs.Str.{IsCharBoundary, IsUtf8, IsAscii}
