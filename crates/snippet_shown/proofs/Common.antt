-- What most proofs of this crate cite, given on from one place.
pub use Rattle.snippet_grid.proofs.ReplaceLemmas.{row_text-text_cells}
pub use Rattle.snippet_grid.specs.Layout.{separator_cell}
pub use Rattle.snippet_grid.specs.Print.{row_text}
pub use Rattle.snippet_lines.proofs.BoundsLemmas.{IsCharBoundary-start_of, line_bytes-slice}
pub use Rattle.snippet_lines.proofs.LinesLemmas.{AreLinesOf-source_lines, joined-source_lines, last_byte-push, start_of-end, start_of-le, start_of-next}
pub use Rattle.snippet_lines.proofs.PlaceLemmas.{HoldsByte-source, line_of-is, line_of-start, start_of-inside}
pub use Rattle.snippet_lines.specs.Controls.{is_masked}
pub use Rattle.snippet_lines.specs.CutLines.{AreLines, AreLinesOf}
pub use Rattle.snippet_lines.specs.Lines.{source_lines, Source, Line, last_byte, line_bytes}
unfoldable pub use Rattle.snippet_lines.specs.Lines.{start_of}
pub use Rattle.snippet_lines.specs.OrderedBy.{ordered_by}
pub use Rattle.snippet_lines.specs.Place.{HoldsByte}
unfoldable pub use Rattle.snippet_lines.specs.Place.{line_of}
pub use Rattle.snippet_lines.specs.Starts.{line_starts}
pub use Rattle.snippet_lines.specs.declared.lines.EndLine.{EndLine}
pub use Rattle.snippet_lines.specs.declared.lines.EndLine.TheVariants.{Eof, Lf, Crlf}
pub use Rattle.snippet_model.proofs.RowLemmas.{each_fails}
pub use Rattle.snippet_model.proofs.ZipLemmas.{all_zip_more}
pub use Rattle.snippet_model.specs.Heading.{Heading}
pub use Rattle.snippet_model.specs.Same.{SamePatch}
pub use Rattle.snippet_model.specs.Source.{SourceSeen}
pub use Rattle.snippet_model.specs.declared.snippet.Annotation.{Annotation}
pub use Rattle.snippet_model.specs.declared.snippet.AnnotationKind.{AnnotationKind}
pub use Rattle.snippet_model.specs.declared.snippet.AnnotationKind.TheVariants.{Visible}
pub use Rattle.snippet_model.specs.declared.snippet.Snippet.{Snippet}
pub use Rattle.snippet_parts.proofs.KeptLemmas.{kept-within, among-kept}
pub use Rattle.snippet_parts.proofs.PartWords.{is_short, stands_before}
pub use Rattle.snippet_parts.proofs.TableLemmas.{length-starts_from, starts_from-at}
pub use Rattle.snippet_parts.specs.Annotated.{kept_line, is_long, long_entry, long_parts, long_place, made_parts, single_part, KeptLine, annotated_lines}
pub use Rattle.snippet_parts.specs.Kept.{kept_lines, keeps, has_bar}
pub use Rattle.snippet_parts.specs.Mark.{touches}
pub use Rattle.snippet_parts.specs.Marked.{first_line, last_line}
pub use Rattle.snippet_parts.specs.Numbered.{numbered_source}
pub use Rattle.snippet_parts.specs.OnLine.{seen_kept}
pub use Rattle.snippet_parts.specs.declared.entries.AnnotatedLineInfo.{AnnotatedLineInfo}
pub use Rattle.snippet_parts.specs.declared.entries.LineAnnotation.{LineAnnotation}
pub use Rattle.snippet_shown.specs.AsMasked.{IsPatchMasked, IsAnnotationMasked}
pub use Rattle.snippet_shown.specs.AsSet.{IsAnnotationAsSet, IsElementAsSet, IsGroupAsSet}
pub use Rattle.snippet_shown.specs.Asked.{lines_fit}
pub use Rattle.snippet_shown.specs.Context.{visible_mark, spans_around, context_spans, reach_after, span_around, is_line_near, lines_around, close_of}
pub use Rattle.snippet_shown.specs.Letters.{Letter, is_feed, letters, letter_width, letter, place_after, is_blank, is_before_word, letters_of, is_code}
pub use Rattle.snippet_shown.specs.Letters.{first_place}
pub use Rattle.snippet_shown.specs.LineFeeds.{with_line_feeds_shown, picture_of}
pub use Rattle.snippet_shown.specs.Masked.{masked, mask_of, IsAligned, byte_class}
pub use Rattle.snippet_shown.specs.Remade.{IsGroupMade, IsGroupTaken}
pub use Rattle.snippet_shown.specs.WithContext.{HoldsSpan, IsSnippetWithContext, KeepsLinesAround}
pub use Rattle.snippet_shown.specs.WrapLaws.{columns_of, AreWithin, IsAmong, is_gap, is_inside, is_empty, lines_in, parts_from, words_of, IsRewrapped, IsRowEnd}
pub use Rattle.snippet_shown.specs.WrapLaws.{columns_from, AreRowsWithin, empty_lines}
pub use Rattle.snippet_shown.specs.Wrapped.{rows, columns_ahead, next_width, row_start, shown_at, at_blank, in_word, kept, inside_after, ended, step, feed}
pub use Rattle.snippet_shown.specs.Wrapped.{wrapped, ends_ahead, shown_by, shown_letters}
pub use Rattle.snippet_shown.specs.declared.wrap.code.Place.{Place}
pub use Rattle.snippet_shown.specs.declared.wrap.code.Place.TheVariants.{Untrusted, Outside, Escape, Bracket, Command, CommandEscape}
pub use Rattle.snippet_shown.specs.declared.wrap.row.Row.{Row}
pub use Rattle.snippet_shown.specs.declared.wrap.row.Stage.{Stage}
pub use Rattle.snippet_shown.specs.declared.wrap.row.Stage.TheVariants.{Indentation, Gap, Word}
pub use Rattle.snippet_shown.specs.declared.wrap.row.Step.{Step}
pub use Rattle.snippet_style.specs.Cell.{SPACE, text_cells}
pub use Rattle.snippet_style.specs.Glyphs.{note_sign_of}
pub use Rattle.snippet_style.specs.declared.glyphs.DecorStyle.{DecorStyle}
pub use Rattle.snippet_style.specs.declared.glyphs.DecorStyle.TheVariants.{Ascii, Unicode}
pub use Rattle.snippet_style.specs.declared.role.ElementStyle.TheVariants.{LineNumber}
pub use Rattle.snippet_text.proofs.NormLemmas.{width_of-norm}
pub use Rattle.snippet_text.proofs.WidthBounds.{char_width-bound}
unfoldable pub use Rattle.snippet_text.proofs.WidthLemmas.{unicode_width}
pub use Rattle.snippet_text.specs.Normalized.{has_control_picture, is_bidirectional_control, is_listed, shown}
unfoldable pub use Rattle.snippet_text.specs.Normalized.{norm}
pub use Rattle.snippet_text.specs.Width.{width_of}
unfoldable pub use Rattle.snippet_text.specs.Width.{char_width}
pub use Rattle.snippet_titles.proofs.FreeLemmas.{IsUnlisted, indent-all, label-all}
pub use Rattle.snippet_text.proofs.SplitLemmas.{lines_at-after}
pub use Rattle.snippet_titles.proofs.TextLemmas.{row_text-append, row_text-spaces}
pub use Rattle.snippet_titles.specs.HeadingRows.{heading_label_text, heading_lines, indent_cells, label_width, note_bar_of, sign_cells}
pub use Rattle.snippet_titles.specs.ShownHeading.{heading_texts, texts_below}
pub use Rattle.snippet_titles.specs.declared.style.MessageContext.{MessageContext}
pub use Rattle.snippet_titles.specs.declared.style.TitleStyle.TheVariants.{Message, Title}
pub use Rattle.std.proofs.Common.{sym, ◌≡◌, ◌∙◌, ℕ, List, ap, ◌++◌, arith, length, [], refl, chars, true, ◌∷◌, false, subst, ◌<◌}
pub use Rattle.std.proofs.Common.{◌+◌, Bool, map, ◌-◌, ◌≤◌, if◌then◌else◌, encode_utf8_all, nat_le, All, Option, None, Some, inl, inr}
pub use Rattle.std.proofs.Common.{◌==◌, unwrap_or, ap₂, take, ◌&&◌, ◌||◌, filter, min, append-nil, drop, string_bytes, ◌⊎◌, is_some, zero}
pub use Rattle.std.proofs.Common.{suc, nat_lt, get_or, append_assoc, not, cond, eqb, leb, ◌≢◌, ltb, replicate, ◌/◌, ◌%◌}
pub use Rattle.std.proofs.Math.Nat.{mod-lt}
pub use Rattle.std.proofs.lemmas.Bool.{false≢true, eqb-true, cases_lt, cond-false, and_parts, le-leb, leb-true, lt-leb, or_cases, or_left, or_right}
pub use Rattle.std.proofs.lemmas.Bool.{cond-true, lt-ltb, le-ltb}
pub use Rattle.std.proofs.lemmas.Bool.Decides.{nat_tests}
pub use Rattle.std.proofs.lemmas.Grind.{common_steps}
pub use Rattle.std.proofs.lemmas.Iterator.{YieldsList-from_chars}
pub use Rattle.std.proofs.lemmas.Iterator.Adapters.{YieldsList-from_vec}
pub use Rattle.std.proofs.lemmas.Iterator.Consumers.{YieldsList-end, YieldsList-turn}
pub use Rattle.std.proofs.lemmas.List.{map-id, length-map, nil_from_length, drop-map, drop_all, get_or-drop, get_or-map, get_or-take, drop_more, length-drop}
pub use Rattle.std.proofs.lemmas.List.{take_all}
pub use Rattle.std.proofs.lemmas.List.Elements.{All-nil, All-cons, All-head, All-tail, All-weaker, All-contains_itself, filter-append, All-map, All-get_or}
pub use Rattle.std.proofs.lemmas.List.Elements.{All-append, All-replicate}
pub use Rattle.std.proofs.lemmas.List.Folds.{list_any-append}
pub use Rattle.std.proofs.lemmas.List.Splits.{length-slice_split, slice_split-cons_no, slice_split-cons_yes}
pub use Rattle.std.proofs.lemmas.List.Sums.{sum_by-cons, sum_by-append}
pub use Rattle.std.proofs.lemmas.Result.{IfOk-weaker}
pub use Rattle.std.proofs.lemmas.Str.{IsUtf8-past_char, chars_past_char, chars_from_encodes, encodes-append, IsUtf8-string_bytes, chars-nil}
pub use Rattle.std.proofs.lemmas.Str.{IsCharBoundary-before_ascii, IsCharBoundary-end, encodes-chars}
pub use Rattle.std.specs.Bool.{⊤}
pub use Rattle.std.specs.Cow.{cow_str_bytes}
pub use Rattle.std.specs.List.{AllZip, list_any, onto_first, Contains, range_with_len, slice_split}
pub use Rattle.std.specs.Option.{option_map}
pub use Rattle.std.specs.Str.{IsUtf8, IsCharBoundary}
pub use Rattle.std.specs.Vec.Iter.{into_iter_items, into_iter_len}
pub use Rattle.std.specs.declared.alloc.Global.{Global}
pub use Rattle.std.specs.declared.borrow.CowStr.{CowStr}
pub use Rattle.std.specs.declared.ops.Range.{Range}
