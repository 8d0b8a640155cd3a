-- What most proofs of this crate cite, given on from one place.
pub use Rattle.snippet_grid.proofs.RunLemmas.{BeginsWith-added, stretch, IsUtf8-stretch, length-stretch_of, stretch_joined, stretch_grown, stretch_added}
pub use Rattle.snippet_grid.proofs.RunLemmas.{BeginsWith-same, boundary, front_grown, is_utf8-end}
pub use Rattle.snippet_grid.specs.Runs.{BeginsWith}
pub use Rattle.snippet_grid.specs.Woven.{Piece, Reset, IsWoven, piece_text, link_start, link_stop, Opening, LinkTo, LinkEnd, plain_piece, piece_link, IsOfSheet}
pub use Rattle.snippet_grid.specs.Woven.{AreLinksEnded, IsStyleOf}
pub use Rattle.snippet_lines.proofs.OrderLemmas.{sorted-only, map-ordered_by}
pub use Rattle.snippet_lines.specs.IsSpan.{IsSpan}
pub use Rattle.snippet_lines.specs.Lines.{Source, line_at}
unfoldable pub use Rattle.snippet_lines.specs.Lines.{newline_count, start_of}
pub use Rattle.snippet_lines.specs.OrderedBy.{ordered_by}
unfoldable pub use Rattle.snippet_lines.specs.Place.{locations_of, end_location, line_of, location_of, place_of, start_location, steps_after_text}
pub use Rattle.snippet_lines.specs.declared.place.Loc.{Loc}
pub use Rattle.snippet_model.specs.Heading.{Heading, is_hidden}
pub use Rattle.snippet_model.specs.Level.{name_of}
pub use Rattle.snippet_model.specs.Source.{unindexed}
pub use Rattle.snippet_model.specs.declared.level.Level.{Level}
pub use Rattle.snippet_model.specs.declared.level.LevelName.{LevelName}
pub use Rattle.snippet_model.specs.declared.level.LevelName.TheVariants.{Hidden, Standard}
pub use Rattle.snippet_model.specs.declared.snippet.Annotation.{Annotation}
pub use Rattle.snippet_model.specs.declared.snippet.AnnotationKind.{AnnotationKind}
pub use Rattle.snippet_model.specs.declared.snippet.AnnotationKind.TheVariants.{Primary, Context}
pub use Rattle.snippet_model.specs.declared.snippet.Id.{Id}
pub use Rattle.snippet_model.specs.declared.snippet.Origin.{Origin}
pub use Rattle.snippet_model.specs.declared.snippet.Patch.{Patch}
pub use Rattle.snippet_model.specs.declared.snippet.Snippet.{Snippet}
pub use Rattle.snippet_parts.proofs.PartLemmas.{All-order}
pub use Rattle.snippet_parts.specs.Mark.{is_marking}
pub use Rattle.snippet_parts.specs.Numbered.{numbered_source}
pub use Rattle.snippet_shown.specs.LineFeeds.{picture_of, with_line_feeds_shown}
pub use Rattle.snippet_splice.proofs.WriteLemmas.{utf8-front, without_final-push, without_final-stays}
pub use Rattle.snippet_splice.specs.Edits.{Edit}
unfoldable pub use Rattle.snippet_splice.specs.Edits.{trimmed_edit}
pub use Rattle.snippet_splice.specs.ShownText.{without_final_line_feeds}
unfoldable pub use Rattle.snippet_splice.specs.Trim.{kept_before, sandwich}
pub use Rattle.snippet_splice.specs.TrimmedEdits.{trimmed_edit_of}
pub use Rattle.snippet_splice.specs.declared.patches.TrimmedPatch.{TrimmedPatch}
pub use Rattle.snippet_style.specs.Codes.{opening, reset}
pub use Rattle.snippet_style.specs.Stylesheet.{default_sheet}
pub use Rattle.snippet_style.specs.declared.role.ElementStyle.{ElementStyle}
pub use Rattle.snippet_style.specs.declared.role.ElementStyle.TheVariants.{Addition}
pub use Rattle.snippet_style.specs.declared.role.LevelInner.{LevelInner}
pub use Rattle.snippet_style.specs.declared.role.LevelInner.TheVariants.{Error, Help, Info, Note}
pub use Rattle.snippet_style.specs.declared.style.Style.{Style}
pub use Rattle.snippet_style.specs.declared.stylesheet.Stylesheet.{Stylesheet}
pub use Rattle.snippet_suggest.proofs.KnownLemmas.{known_spans}
pub use Rattle.snippet_suggest.specs.Given.{trimmed_of}
pub use Rattle.snippet_suggest.specs.Kind.{is_blank_text}
pub use Rattle.snippet_suggest.specs.PreparedSuggestion.{IsPrepared}
pub use Rattle.snippet_suggest.specs.declared.PreparedSuggestion.{PreparedSuggestion}
pub use Rattle.snippet_text.proofs.NormLemmas.{width_of-norm}
pub use Rattle.snippet_text.proofs.WidthLemmas.{width_of-colon}
pub use Rattle.snippet_text.specs.Normalized.{normalized_chars, is_listed, shown}
unfoldable pub use Rattle.snippet_text.specs.Normalized.{norm}
pub use Rattle.snippet_text.specs.Plain.{IsPlain}
pub use Rattle.snippet_text.specs.Width.{width_of}
unfoldable pub use Rattle.snippet_text.specs.Width.{char_width}
pub use Rattle.snippet_text_form.specs.Cause.{further_indent, span_form, is_labelled, named_spans, spans_form, label_characters, span_text, column_unless}
pub use Rattle.snippet_text_form.specs.Cause.{after_place, span_place, is_blank_after, is_named_before, end_in_file, end_on_line, is_blank_before}
unfoldable pub use Rattle.snippet_text_form.specs.Cause.{cause_form}
pub use Rattle.snippet_text_form.specs.Form.{bare, FormPiece, Break, styled, plain_from, Styled, begun_after, Char, form_bytes, form_text, role_style}
pub use Rattle.snippet_text_form.specs.Form.{woven_from, in_style}
pub use Rattle.snippet_text_form.specs.FormLinks.{form_links, link_codes_before, link_codes_after}
pub use Rattle.snippet_text_form.specs.FormMarks.{piece_of_kind, pieces_from, AreMarks, before_line, IsPlace, IsMark, chars_between}
pub use Rattle.snippet_text_form.specs.HeadingForm.{lines_form, before_name, label_form, heading_label, text_roles_of, before_id, colon_form, further_line}
pub use Rattle.snippet_text_form.specs.HeadingForm.{id_form, id_text_form, link_for, linking, name_form, id_label, label_of_id}
unfoldable pub use Rattle.snippet_text_form.specs.HeadingForm.{heading_form}
pub use Rattle.snippet_text_form.specs.Lines.{added_words, cause_paragraphs, edit_line, heading_paragraph, line_paragraph, lines_after, lines_of_paragraphs}
pub use Rattle.snippet_text_form.specs.Lines.{option_lines, origin_paragraph, span_lines, suggestion_paragraphs}
pub use Rattle.snippet_text_form.specs.Position.{place, place_in_file, column_words, to_line, after_path, place_on_line}
pub use Rattle.snippet_text_form.specs.Suggestion.{edit_form, edit_indent, edit_place, before_added, option_form, added_form, added_text, named_path}
pub use Rattle.snippet_text_form.specs.Suggestion.{overwrites, replaced_to, replaces, replaces_whole_line}
unfoldable pub use Rattle.snippet_text_form.specs.Suggestion.{origin_form, suggestion_form}
pub use Rattle.snippet_text_form.specs.TextOrder.{StandInOrder}
pub use Rattle.snippet_text_form.specs.declared.cause.NamedSpan.{NamedSpan}
pub use Rattle.snippet_text_form.specs.declared.form.FormMark.{FormMark}
pub use Rattle.snippet_text_form.specs.declared.form.MarkKind.{MarkKind}
pub use Rattle.snippet_text_form.specs.declared.heading.HeadingKind.{HeadingKind}
pub use Rattle.snippet_text_form.specs.declared.heading.HeadingKind.TheVariants.{Title, Message}
pub use Rattle.snippet_text_form.specs.declared.suggestion.SuggestionContext.{SuggestionContext}
pub use Rattle.snippet_text_form.specs.declared.suggestion.SuggestionSettings.{SuggestionSettings}
pub use Rattle.snippet_titles.proofs.DigitLemmas.{IsDigit, decimal-all}
pub use Rattle.snippet_titles.proofs.FreeLemmas.{IsUnlisted, IsOwn, norm-free, own_text, own_unlisted, All-slice_split}
pub use Rattle.snippet_titles.proofs.HeadingLemmas.{plain_shown}
pub use Rattle.snippet_titles.proofs.LineLemmas.{lines_at-plain, number_is}
pub use Rattle.snippet_titles.proofs.OriginFree.{each-fails}
pub use Rattle.snippet_titles.proofs.SignLemmas.{chars-colon}
pub use Rattle.snippet_text.proofs.SplitLemmas.{lines_at, lines_at-after, lines_at-chars}
pub use Rattle.snippet_titles.specs.HeadingRows.{heading_lines, address_of, is_set, shown_text, colon_of}
pub use Rattle.snippet_titles.specs.Origin.{line_name, column_text}
pub use Rattle.snippet_titles.specs.Title.{id_links, text_links}
pub use Rattle.snippet_titles.specs.declared.style.HeadingRoles.{HeadingRoles}
pub use Rattle.std.proofs.Common.{ap, ◌∙◌, ◌++◌, ◌≡◌, sym, List, ℕ, [], ◌∷◌, codes, refl, length, false, true, Option, subst, arith}
pub use Rattle.std.proofs.Common.{Bool, None, map, Some, ◌+◌, string_bytes, ◌==◌, not, All, replicate, if◌then◌else◌, filter, nat_lt, take}
pub use Rattle.std.proofs.Common.{◌<◌, ◌&&◌, Result, ltb, drop, eqb, encode_utf8_all, get_or, suc, cond, ◌≢◌, ◌-◌, ◌≤◌, lit<, rules}
pub use Rattle.std.proofs.Common.{Global, ◌^◌, Vec, zero, ◌||◌, encode_utf8, Ok, Err, IfSome, eq-eqb}
pub use Rattle.std.proofs.lemmas.Bool.{cond-false, cond-true, ne_eqb, and_from, and_left, and_right}
pub use Rattle.std.proofs.lemmas.Bool.Decides.{nat_tests}
pub use Rattle.std.proofs.lemmas.Grind.{flat_map-append}
pub use Rattle.std.proofs.lemmas.Iterator.Consumers.{YieldsList-end, YieldsList-from_enumerate, YieldsList-turn}
pub use Rattle.std.proofs.lemmas.Iterator.Splits.{YieldsList-from_str_split}
pub use Rattle.std.proofs.lemmas.List.{append-nil, append_assoc, map-append, take_all, drop_more, length-map, flat_map_more, map_more, drop_all, replicate_more}
pub use Rattle.std.proofs.lemmas.List.{nil_from_length}
pub use Rattle.std.proofs.lemmas.List.Elements.{All-nil, All-cons, All-tail, All-weaker, All-head, All-append, All-replicate, All-filter}
pub use Rattle.std.proofs.lemmas.List.Sorted.{answers_always}
pub use Rattle.std.proofs.lemmas.List.Splits.{slice_split_none, slice_split-cons_no, slice_split-cons_yes, length-slice_split, slice_split_at}
pub use Rattle.std.proofs.lemmas.List.Sums.{sum_by-append}
pub use Rattle.std.proofs.lemmas.Result.{on_ok_weaker}
pub use Rattle.std.proofs.lemmas.Str.{chars-nil, chars-encodes, IsUtf8-string_bytes, encodes-chars, chars-IsAscii, length-le-encodes, IsUtf8-from_ascii}
pub use Rattle.std.proofs.lemmas.Str.{chars-append, is_utf8-from_IsUtf8, encode_ascii}
pub use Rattle.std.proofs.lemmas.Str.Ascii.{IsAscii-from_all}
pub use Rattle.std.proofs.lemmas.Str.Pattern.{strip_suffix_char}
pub use Rattle.std.specs.Borrow.{Bor}
pub use Rattle.std.specs.Cmp.{IsStrictWeakOrder}
pub use Rattle.std.specs.Cow.{cow_str_bytes}
pub use Rattle.std.specs.Fmt.{decimal}
pub use Rattle.std.specs.List.{flat_map, list_any, Contains, enumerate_from, onto_first, slice_split}
pub use Rattle.std.specs.List.Sorted.{IsSortedBy, IsStableBy}
pub use Rattle.std.specs.Option.{option_copied, option_map, option_to_list}
pub use Rattle.std.specs.Ordering.{is_lt, ordering_then, nat_cmp}
pub use Rattle.std.specs.Result.{OnOk, is_ok}
pub use Rattle.std.specs.Str.{IsUtf8, IsCharBoundary}
pub use Rattle.std.specs.declared.borrow.CowStr.{CowStr}
pub use Rattle.std.specs.declared.borrow.CowStr.TheVariants.{Borrowed}
