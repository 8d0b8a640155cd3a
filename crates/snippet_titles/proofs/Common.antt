-- What most proofs of this crate cite, given on from one place.
pub use Rattle.snippet_grid.proofs.ReplaceLemmas.{changed_within_none, changed_within_one}
pub use Rattle.snippet_grid.proofs.GridShown.{cells_written_last}
pub use Rattle.snippet_grid.proofs.GridShown.{chars_some}
pub use Rattle.snippet_grid.proofs.OpenRowLemmas.{adds_none}
pub use Rattle.snippet_grid.proofs.RunLemmas.{on_ok_value}
pub use Rattle.snippet_grid.proofs.ReplaceLemmas.{row_text-text_cells, begun_by_text}
pub use Rattle.snippet_grid.proofs.RowWoven.{rows_one}
pub use Rattle.snippet_grid.proofs.ReplaceLemmas.{stretch_printed, codes_added}
pub use Rattle.snippet_grid.proofs.WeaveLemmas.{Goes, Url, row_closed}
pub use Rattle.snippet_grid.specs.Calls.{cells_linked}
pub use Rattle.snippet_grid.specs.Grid.{row_at, cells_written, linked, cell_at}
unfoldable pub use Rattle.snippet_grid.specs.Grid.{changed_within}
pub use Rattle.snippet_grid.specs.Layout.{separator_cell, Layout}
pub use Rattle.snippet_grid.specs.GridRow.{AddsToRow, appended}
pub use Rattle.snippet_grid.specs.OpenRow.{AddsCells, IsPrinted, cells_alike}
pub use Rattle.snippet_grid.specs.Print.{row_text, plain_text}
pub use Rattle.snippet_grid.specs.Stretch.{PrintsStretch}
pub use Rattle.snippet_grid.specs.Weaving.{WeavesRow, WeavesRows}
pub use Rattle.snippet_grid.specs.Woven.{links_after, links_of, Prints, link_begun, piece_text}
pub use Rattle.snippet_grid.specs.declared.grid_row.GridRow.{GridRow}
pub use Rattle.snippet_grid.specs.declared.printed_row.PrintedRow.{PrintedRow}
pub use Rattle.snippet_model.specs.Fits.{LevelFits}
pub use Rattle.snippet_model.specs.FreeRows.{HasNoNumber, IsFree, IsFreeCell}
pub use Rattle.snippet_model.specs.Heading.{Heading, is_hidden, heading_of_title}
pub use Rattle.snippet_model.specs.Level.{name_of}
pub use Rattle.snippet_model.specs.StandardName.{standard_name_of}
pub use Rattle.snippet_model.specs.declared.level.Level.{Level}
pub use Rattle.snippet_model.specs.declared.level.LevelName.{LevelName}
pub use Rattle.snippet_model.specs.declared.level.LevelName.TheVariants.{Hidden, Standard}
pub use Rattle.snippet_model.specs.declared.snippet.Id.{Id}
pub use Rattle.snippet_style.proofs.CellLemmas.{length-text_cells, written_end, length-chars_le, All-text_cells, text_cells-append}
pub use Rattle.snippet_style.proofs.CellLemmas.{slice_index_or-written_inside, length-written}
pub use Rattle.snippet_style.proofs.StyleLemmas.{differs_told, same_told}
pub use Rattle.snippet_style.specs.Cell.{Cell, text_cells, SPACE, unlinked_cell}
unfoldable pub use Rattle.snippet_style.specs.Cell.{written}
pub use Rattle.snippet_style.specs.Codes.{reset, opening}
pub use Rattle.snippet_style.specs.Glyphs.{note_sign_of, closing_of, separator_of}
pub use Rattle.snippet_style.specs.Separators.{separator_row, closing_row}
pub use Rattle.snippet_style.specs.Stylesheet.{style_of}
pub use Rattle.snippet_style.specs.declared.glyphs.DecorStyle.{DecorStyle}
pub use Rattle.snippet_style.specs.declared.glyphs.DecorStyle.TheVariants.{Ascii, Unicode}
pub use Rattle.snippet_style.specs.declared.role.ElementStyle.{ElementStyle}
pub use Rattle.snippet_style.specs.declared.role.ElementStyle.TheVariants.{LineAndColumn, LineNumber, NoStyle, MainHeaderMsg}
pub use Rattle.snippet_style.specs.declared.role.LevelInner.{LevelInner}
pub use Rattle.snippet_style.specs.declared.role.LevelInner.TheVariants.{Error, Help, Info, Note, Warning}
pub use Rattle.snippet_style.specs.declared.style.Style.{Style}
pub use Rattle.snippet_style.specs.declared.stylesheet.Stylesheet.{Stylesheet}
pub use Rattle.snippet_text.proofs.NormLemmas.{list_any-norm, length-norm, width_of-norm, norm-unlisted}
pub use Rattle.snippet_text.proofs.PlainLemmas.{norm-plain}
pub use Rattle.snippet_text.proofs.WidthLemmas.{width_of-opening, width_of-closing}
unfoldable pub use Rattle.snippet_text.proofs.WidthLemmas.{unicode_width}
pub use Rattle.snippet_text.specs.Normalized.{is_listed}
unfoldable pub use Rattle.snippet_text.specs.Normalized.{norm}
pub use Rattle.snippet_text.specs.Plain.{IsPlain}
pub use Rattle.snippet_text.specs.Width.{width_of}
unfoldable pub use Rattle.snippet_text.specs.Width.{char_width}
pub use Rattle.snippet_titles.specs.LastRow.{IsAtEnd}
pub use Rattle.snippet_titles.specs.HeadingRows.{indent_cells, lines_below, colon_of, heading_lines, id_cells, label_width, roles_of, without_empty_end}
pub use Rattle.snippet_titles.specs.HeadingRows.{closing_bracket_of, linked_to, opening_bracket_of, sign_cells, address_of, bracketed_cells, on_top, shown_text}
pub use Rattle.snippet_titles.specs.HeadingRows.{heading_label_text, bracketed_text, id_text, note_bar_of, is_set}
unfoldable pub use Rattle.snippet_titles.specs.HeadingRows.{label_cells, heading_rows}
pub use Rattle.snippet_titles.specs.LinkedId.{LinksId, id_start, is_id_cell}
pub use Rattle.snippet_titles.specs.Origin.{file_glyph, snippet_head, line_text, line_name, column_text, primary_start}
unfoldable pub use Rattle.snippet_titles.specs.Origin.{file_row, origin_row, origin_text}
pub use Rattle.snippet_titles.specs.PrintedHeading.{IsPlainHeading, title_rows}
pub use Rattle.snippet_titles.specs.ShortRows.{with_end, short_texts}
unfoldable pub use Rattle.snippet_titles.specs.ShortRows.{short_rows}
pub use Rattle.snippet_titles.specs.ShownHeading.{IsFreeButText, heading_texts, texts_below}
pub use Rattle.snippet_titles.specs.Title.{id_address, id_links, id_chars, text_links}
pub use Rattle.snippet_titles.specs.declared.origin.FileStart.{FileStart}
pub use Rattle.snippet_titles.specs.declared.origin.FileStart.TheVariants.{First, Alone, Later, Secondary}
pub use Rattle.snippet_titles.specs.declared.origin.OriginLayout.{OriginLayout}
pub use Rattle.snippet_titles.specs.declared.origin.OriginLocation.{OriginLocation}
pub use Rattle.snippet_titles.specs.declared.style.HeadingRoles.{HeadingRoles}
pub use Rattle.snippet_titles.specs.declared.style.MessageContext.{MessageContext}
pub use Rattle.snippet_titles.specs.declared.style.TitleStyle.{TitleStyle}
pub use Rattle.snippet_titles.specs.declared.style.TitleStyle.TheVariants.{Short, Message, Title}
pub use Rattle.std.proofs.Common.{◌∙◌, ap, ◌≡◌, List, ℕ, ◌++◌, [], sym, arith, refl, ◌∷◌, length, Bool, false, ◌+◌, Some, true}
pub use Rattle.std.proofs.Common.{None, ◌<◌, All, Option, map, replicate, take, ◌≤◌, subst, ◌==◌, get_or, string_bytes, codes, suc, ◌-◌, inl}
pub use Rattle.std.proofs.Common.{inr, drop, ◌^◌, encode_utf8_all, ◌&&◌, if◌then◌else◌, zero, ◌≢◌, sum_by, nat_le, nat_lt, cond, ◌/◌}
pub use Rattle.std.proofs.Common.{◌%◌, encode_utf8, max, set, take-suc, not, lit<}
pub use Rattle.std.proofs.Math.ListN.{drop_of_length-le}
pub use Rattle.std.proofs.Math.Seq.{drop-append_seam, take-append_seam, get_or-append_seam}
pub use Rattle.std.proofs.Math.Utf8.{scalars, encodes}
pub use Rattle.std.proofs.lemmas.Bool.{cases_lt, cases_eq, and_parts, cases_Bool, eqb-true, leb-true, ltb-true}
pub use Rattle.std.proofs.lemmas.Bool.Decides.{nat_tests}
pub use Rattle.std.proofs.lemmas.Grind.{common_steps}
pub use Rattle.std.proofs.lemmas.Cmp.{nat_list_eq_equiv}
pub use Rattle.std.proofs.lemmas.Grind.{flat_map-append}
pub use Rattle.std.proofs.lemmas.Iterator.Consumers.{YieldsList-end, YieldsList-from_enumerate, YieldsList-turn}
pub use Rattle.std.proofs.lemmas.Iterator.Splits.{YieldsList-from_str_split}
pub use Rattle.std.proofs.lemmas.List.{length-append, append-nil, append_assoc, get_or_past, places, same_lists, length-map, length-replicate, get_or-map}
pub use Rattle.std.proofs.lemmas.List.{get_or_append_left, length-take, take_all, map-append, get_or-set_same, get_or-set_other, set-get_or, length-drop}
pub use Rattle.std.proofs.lemmas.List.{length-set, get_or_default, nil_from_length}
pub use Rattle.std.proofs.lemmas.List.Elements.{All-nil, All-append, All-cons, All-replicate, All-head, All-tail, All-get_or, All-from_get_or, All-weaker}
pub use Rattle.std.proofs.lemmas.List.Elements.{All-map}
pub use Rattle.std.proofs.lemmas.List.FromFn.{get_or-enumerate_from, length-enumerate_from}
pub use Rattle.std.proofs.lemmas.List.Splits.{length-slice_split, slice_split-cons_yes, slice_split-cons_no, slice_split_none, slice_split_at}
pub use Rattle.std.proofs.lemmas.List.Sums.{sum_by-append, sum_by_more, sum_by-take-le}
pub use Rattle.std.proofs.lemmas.Result.{on_ok_weaker, IfOk-weaker}
pub use Rattle.std.proofs.lemmas.Str.{chars-nil, encodes-chars, chars-append, chars-encodes, chars-IsAscii, IsUtf8-encode, chars_past_char, encode_ascii}
pub use Rattle.std.proofs.lemmas.Str.{inside_one, scalars-chars, IsUtf8-string_bytes}
pub use Rattle.std.proofs.lemmas.Str.Ascii.{IsAscii-from_all}
pub use Rattle.std.proofs.lemmas.Str.Pattern.{split_parts}
pub use Rattle.std.specs.Borrow.{Bor}
pub use Rattle.std.specs.Char.{is_ascii_alphanumeric, IsScalar}
pub use Rattle.std.specs.Cow.{cow_str_bytes}
pub use Rattle.std.specs.Fmt.{decimal, digits_onto, digit_glyph}
pub use Rattle.std.specs.List.{list_any, slice_split, onto_first, flat_map, slice_index_or, enumerate_from, Contains}
pub use Rattle.std.specs.Option.{option_map, option_copied}
pub use Rattle.std.specs.Str.{IsUtf8}
pub use Rattle.std.specs.declared.alloc.Global.{Global}
pub use Rattle.std.specs.declared.borrow.CowStr.{CowStr}
