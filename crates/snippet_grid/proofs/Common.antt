-- What most proofs of this crate cite, given on from one place.
pub use Rattle.snippet_grid.specs.AddedRow.{AddsRow, AddsStretch}
pub use Rattle.snippet_grid.specs.Calls.{cells_replaced, cells_changed, WritesCells, ChangesCells, num_cells, ReplacesCells, EachCell, cells_restyled}
pub use Rattle.snippet_grid.specs.Changes.{RowAt, ShowsSpan, changed_by, IsBlankRun, IsPartOfRow, num_touched, ShowsReplaced, is_within, IsChanged}
pub use Rattle.snippet_grid.specs.Grid.{row_at, cells_written, cell_at, restyled, linked}
unfoldable pub use Rattle.snippet_grid.specs.Grid.{changed_within, replaced_within}
pub use Rattle.snippet_grid.specs.Html.{Text, tags_between, HtmlLook, escaped, AnchorStart, HtmlPiece, SpanStart, escape, plain_look, AddsHtml, anchor_started}
pub use Rattle.snippet_grid.specs.Html.{span_started, html_text, look_at, row_html, rows_html, SpanEnd, AnchorEnd, cells_html, ended, further_html, piece_html}
pub use Rattle.snippet_grid.specs.Html.{same_html_look, started, html_bytes, anchor_ended, class_of, level_class, html_look_of, span_ended}
pub use Rattle.snippet_grid.specs.HtmlLooks.{look_seen}
pub use Rattle.snippet_grid.specs.HtmlRead.{unescaped, html_says, piece_tag, tags_of, without_tags, CharInTags, InTags, InText, InTag, InEscape, after_tag}
pub use Rattle.snippet_grid.specs.HtmlRead.{as_read, html_reads, quoted, reads, tags_in, ReadChar, chars_of_cells, chars_of_rows, feed_read}
pub use Rattle.snippet_grid.specs.GridRow.{AddsToRow, GainsRows, appended}
pub use Rattle.snippet_grid.specs.OpenHtml.{AddsHtmlCells, HtmlGoes, IsHtml, IsHtmlBegun}
pub use Rattle.snippet_grid.specs.OpenRow.{AddsCells, IsBegun, IsPrinted, Goes, cells_alike}
pub use Rattle.snippet_grid.specs.Print.{row_text, plain_text, further_text}
pub use Rattle.snippet_grid.specs.RunBounds.{most_runs, fewest_runs, Look, look_of, goes_on, fewest_after, most_after, same_level, same_role, same_look}
pub use Rattle.snippet_grid.specs.RunBounds.{is_bare}
pub use Rattle.snippet_grid.specs.Runs.{IsRun, BeginsWith, shown_cell, IsRow, EndsBy, Precedes, run_cell, run_chars, FitIn, run_bytes, holds, painted_over}
pub use Rattle.snippet_grid.specs.Runs.{cells_to, IsPart, IsGrid, ShowsMore, Differ, IsPut, Continues, AddsRun, Touches, IsWord, IsWidened, IsJoined}
pub use Rattle.snippet_grid.specs.Runs.{BeginsAfter, BeginsRow, IsClear, AreTouchedRuns, ArePieces, BeginsBy, IsFront, IsBack, ShowsCopy, IsLast}
unfoldable pub use Rattle.snippet_grid.specs.Runs.{grid_shown}
pub use Rattle.snippet_grid.specs.SheetCodes.{style_at, opening_bytes, styles_in}
pub use Rattle.snippet_grid.specs.Stored.{Stored, stored}
pub use Rattle.snippet_grid.specs.Stretch.{PrintsStretch}
pub use Rattle.snippet_grid.specs.StyledChars.{ch_of, cell_of}
pub use Rattle.snippet_grid.specs.UsualCodes.{IsCodeOf, usual_bytes}
pub use Rattle.snippet_grid.specs.Weaving.{PrintsFurther, WeavesRow, PrintsRows, WeavesRows}
pub use Rattle.snippet_grid.specs.Woven.{piece_text, Piece, Char, Opening, Reset, PrintsRow, Prints, LinkTo, LinkEnd, PrintsCells, next_style, next_link}
pub use Rattle.snippet_grid.specs.Woven.{links_of, plain_piece, piece_link, IsStyleOf, IsOfSheet, AreLinksEnded, IsWoven, link_begun, links_after}
pub use Rattle.snippet_grid.specs.declared.change.Change.{Change}
pub use Rattle.snippet_grid.specs.declared.grid_row.GridRow.{GridRow}
pub use Rattle.snippet_grid.specs.declared.html_row.HtmlRow.{HtmlRow}
pub use Rattle.snippet_grid.specs.declared.printed_row.PrintedRow.{PrintedRow}
pub use Rattle.snippet_grid.specs.declared.runs.Run.{Run}
pub use Rattle.snippet_grid.specs.declared.styled_char.StyledChar.{StyledChar}
pub use Rattle.snippet_grid.specs.declared.usual_codes.StyleCode.{StyleCode}
pub use Rattle.snippet_grid.specs.declared.usual_codes.StyleCode.TheVariants.{Nothing, Usual, Other}
pub use Rattle.snippet_grid.specs.declared.usual_codes.UsualCode.{UsualCode}
pub use Rattle.snippet_style.proofs.CellLemmas.{length-chars_le, length-text_cells, slice_index_or-text_cells, length-written, slice_index_or-written_before}
pub use Rattle.snippet_style.proofs.CellLemmas.{slice_index_or-written_inside, slice_index_or-written_after, written_end, written_last}
pub use Rattle.snippet_style.proofs.CodeLemmas.{encode-opening, reset-bytes}
pub use Rattle.snippet_style.proofs.CodeSteps.{bold-alone}
pub use Rattle.snippet_style.proofs.RowLemmas.{written-nil}
pub use Rattle.snippet_style.proofs.StyleLemmas.{plain_is_plain, same_told, cases_style, differs_told}
pub use Rattle.snippet_style.specs.Cell.{Cell, SPACE, text_cells, bytes_of}
unfoldable pub use Rattle.snippet_style.specs.Cell.{written}
pub use Rattle.snippet_style.specs.Codes.{reset, opening, code, color_code, effect_code, effect_codes}
pub use Rattle.snippet_style.specs.Glyphs.{separator_of}
pub use Rattle.snippet_style.specs.Separators.{separator_row}
pub use Rattle.snippet_style.specs.Style.{is_plain_style, plain_style, no_effects, colored, emboldened}
pub use Rattle.snippet_style.specs.Stylesheet.{style_of, level_style, is_plain_sheet}
pub use Rattle.snippet_style.specs.declared.glyphs.DecorStyle.{DecorStyle}
pub use Rattle.snippet_style.specs.declared.role.ElementStyle.{ElementStyle}
pub use Rattle.snippet_style.specs.declared.role.ElementStyle.TheVariants.{MainHeaderMsg, NoStyle, LineNumber, Quotation, HeaderMsg, LineAndColumn}
pub use Rattle.snippet_style.specs.declared.role.ElementStyle.TheVariants.{UnderlinePrimary, LabelPrimary, UnderlineSecondary, LabelSecondary, Level, Addition}
pub use Rattle.snippet_style.specs.declared.role.ElementStyle.TheVariants.{Removal}
pub use Rattle.snippet_style.specs.declared.role.LevelInner.{LevelInner}
pub use Rattle.snippet_style.specs.declared.role.LevelInner.TheVariants.{Error, Warning, Info, Note, Help}
pub use Rattle.snippet_style.specs.declared.style.Color.{Color}
pub use Rattle.snippet_style.specs.declared.style.Effects.{Effects}
pub use Rattle.snippet_style.specs.declared.style.Style.{Style}
pub use Rattle.snippet_style.specs.declared.stylesheet.Stylesheet.{Stylesheet}
pub use Rattle.std.proofs.Common.{◌∙◌, ap, ℕ, arith, ◌≡◌, List, sym, length, string_bytes, refl, ◌++◌, subst, ◌<◌, ◌≤◌, ◌-◌}
pub use Rattle.std.proofs.Common.{◌+◌, [], ◌∷◌, get_or, inl, inr, take, All, drop, None, map, false, true, rules, Some, encode_utf8_all}
pub use Rattle.std.proofs.Common.{if◌then◌else◌, Option, encode_utf8, replicate, suc, Bool, ◌≢◌, set, ◌^◌, nat_eq, slice_index_or, min, zero}
pub use Rattle.std.proofs.Common.{◌&&◌, max, codes, IfSome, not, Result, ◌*◌, ◌⊎◌, OnOk, Ok, Err, OnErr, ◌==◌, ◌||◌, nat_lt, nat_le, IfOk}
pub use Rattle.std.proofs.Common.{◌/◌}
pub use Rattle.std.proofs.Math.Nat.{div-lt_self}
pub use Rattle.std.proofs.lemmas.Bool.{cases_lt, cases_eq, false≢true, and_parts, cases_Bool, lt-ltb, le-ltb, and_from, and_left, and_right, le-leb, lt-leb}
pub use Rattle.std.proofs.lemmas.Bool.{eqb-true, true≢false, eq-eqb, ne_eqb, leb-true}
pub use Rattle.std.proofs.lemmas.Grind.{common_steps}
pub use Rattle.std.proofs.lemmas.Cmp.{nat_list_eq_equiv}
pub use Rattle.std.proofs.lemmas.Grind.{flat_map-append}
pub use Rattle.std.proofs.lemmas.Iterator.{YieldsList-from_chars}
pub use Rattle.std.proofs.lemmas.Iterator.Consumers.{YieldsList-end, YieldsList-turn}
pub use Rattle.std.proofs.lemmas.List.{get_or_default, length-drop, append-nil, get_or-drop, append_assoc, same_lists, get_or_past, get_or-take, length-take}
pub use Rattle.std.proofs.lemmas.List.{length-set, places, get_or-set_same, get_or-set_other, length-map, length-append, take_all, take_more, get_or-map}
pub use Rattle.std.proofs.lemmas.List.{length-replicate, set-get_or, get_or-replicate, get_or_append_left, length_push, get_or_push, take-append-drop}
pub use Rattle.std.proofs.lemmas.List.{get_or-append_right, nil_from_length, drop_more, take-take, take_more_set, drop-take, length-take-le, drop_all}
pub use Rattle.std.proofs.lemmas.List.{ext_get_or, replicate-append-replicate, map-id, map-append, take-replicate}
pub use Rattle.std.proofs.lemmas.List.Elements.{All-append, All-nil, All-take, All-cons, All-push, All-drop, All-set, All-head, All-tail}
pub use Rattle.std.proofs.lemmas.List.FromFn.{length-map-range_with_len, get_or-map-range_with_len}
pub use Rattle.std.proofs.lemmas.Result.{on_ok_weaker, on_err_weaker, IfOk-weaker}
pub use Rattle.std.proofs.lemmas.Str.{IsUtf8-string_bytes, encodes-append, encodes-chars, IsUtf8-append, IsUtf8-from_is_utf8, is_utf8-from_IsUtf8, chars-nil}
pub use Rattle.std.proofs.lemmas.Str.{chars-append, IsCharBoundary-from_take, IsUtf8-between, chars-IsAscii, chars_from_encodes, length-le-encodes, IsUtf8-take}
pub use Rattle.std.proofs.lemmas.Str.{IsCharBoundary-from_ascii}
pub use Rattle.std.proofs.lemmas.Str.Ascii.{IsAscii-from_all}
pub use Rattle.std.specs.Cmp.Lexicographic.{same_text}
pub use Rattle.std.specs.List.{flat_map, range_with_len, AllPairs, list_all, AllZip, join_with_byte, slice_range}
pub use Rattle.std.specs.Option.{option_copied, option_eq}
pub use Rattle.std.specs.Result.{is_ok}
pub use Rattle.std.specs.Str.{IsUtf8, is_utf8, IsCharBoundary}
