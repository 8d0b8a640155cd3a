-- What most proofs of this crate cite, given on from one place.
pub use Rattle.snippet_grid.proofs.GridShown.{chars_some}
pub use Rattle.snippet_labels.specs.PlacedEntries.{shifted, is_end_part}
pub use Rattle.snippet_labels.specs.Placing.{unplaced, HasItsLabel, BeginLeftOf, StandInRow, ArePlaced, asks, IsFromRight, StandsLeft, FitsLeftOf}
pub use Rattle.snippet_labels.specs.Pieces.{LabelPieces, beside_column, broken, broken_in, text_pieces, label_at, label_of_entry, label_pieces, label_width}
pub use Rattle.snippet_labels.specs.Pieces.{pieces_width, shows_any, goes_past, stands_last}
pub use Rattle.snippet_grid.specs.Layout.{Layout, code_cell}
pub use Rattle.snippet_labels.specs.Placing.{label_reach}
pub use Rattle.snippet_labels.specs.Positions.{position_after, look_counts, position_at, positions, crosses, line_positions, is_placed_before, looked_after}
pub use Rattle.snippet_labels.specs.Positions.{blocks, has_label, is_start_part, reaches, do_overlap, ends_no_later, takes_space, are_starts, placed_of}
pub use Rattle.snippet_labels.specs.Positions.{pieces_of, label_place}
pub use Rattle.snippet_labels.specs.Positions.{is_same_place}
pub use Rattle.snippet_labels.specs.declared.positions.PlacedEntry.{PlacedEntry}
pub use Rattle.snippet_lines.proofs.OrderLemmas.{map-ordered_by, sorted-only}
pub use Rattle.snippet_lines.specs.OrderedBy.{ordered_by, put_in}
pub use Rattle.snippet_parts.proofs.KeptLemmas.{range-pushed}
pub use Rattle.snippet_parts.proofs.PartLemmas.{list_any-map}
pub use Rattle.snippet_parts.specs.Least.{greatest}
pub use Rattle.snippet_parts.specs.declared.entries.LineAnnotation.{LineAnnotation}
pub use Rattle.snippet_parts.specs.declared.entries.LineAnnotationType.{LineAnnotationType}
pub use Rattle.snippet_parts.specs.declared.entries.LineAnnotationType.TheVariants.{Singleline, MultilineStart, MultilineEnd, MultilineLine}
pub use Rattle.snippet_text.proofs.NormLemmas.{length-norm}
pub use Rattle.snippet_text.specs.Normalized.{normalized_chars}
unfoldable pub use Rattle.snippet_text.specs.Normalized.{norm}
pub use Rattle.std.proofs.Common.{◌∙◌, ap, ◌≡◌, sym, drop, length, ◌-◌, arith, map, ℕ, ◌+◌, subst, ◌<◌, ◌^◌, List, ◌∷◌}
pub use Rattle.std.proofs.Common.{refl, [], ◌≤◌, ◌++◌, take, get_or, All, ◌==◌, false, not, reverse, inl, inr, ◌&&◌, ◌||◌, Bool, suc}
pub use Rattle.std.proofs.Common.{cond, nat_lt, true, set, zero, chars, IsUtf8, Option, None, Some, nat_cmp, is_lt, nat_le, rules, max, fold, lit<}
pub use Rattle.std.proofs.Math.Bool.{and-false}
pub use Rattle.std.proofs.Math.Seq.{map-set_same}
pub use Rattle.std.proofs.lemmas.Bool.{cases_lt, lt-ltb, cond-true}
pub use Rattle.std.proofs.lemmas.Bool.Decides.{nat_tests}
pub use Rattle.std.proofs.lemmas.Grind.{drop_more_same}
pub use Rattle.std.proofs.lemmas.List.{drop_more, length-map, map_push, get_or-map, drop_all, take_all, append_assoc, append-nil, take_more_set}
pub use Rattle.std.proofs.lemmas.List.{reverse-reverse, drop-set-lt, length-set, nil_from_length, take_more, length-reverse, reverse-append, get_or-drop}
pub use Rattle.std.proofs.lemmas.List.{get_or_default, length-drop, length_push}
pub use Rattle.std.proofs.lemmas.List.Elements.{All-append, All-cons, All-nil, All-map, filter_agree, All-head, All-tail}
pub use Rattle.std.proofs.lemmas.List.Folds.{list_all-map, list_any_none}
pub use Rattle.std.proofs.lemmas.List.Sorted.{IsPermutation-reverse, All-permutation, IsPermutation-map, IsPermutation-sym, answers_always}
pub use Rattle.std.proofs.lemmas.Result.{IfOk-weaker, on_ok_weaker}
pub use Rattle.std.proofs.lemmas.Simd.{map-map}
pub use Rattle.snippet_text.proofs.SplitLemmas.{lines_at, lines_at-chars}
pub use Rattle.std.proofs.lemmas.Iterator.Consumers.{YieldsList-end, YieldsList-turn}
pub use Rattle.std.proofs.lemmas.Iterator.Splits.{YieldsList-from_str_split}
pub use Rattle.std.proofs.lemmas.Str.{chars-nil, encodes-chars}
pub use Rattle.std.specs.Cmp.{IsStrictWeakOrder}
pub use Rattle.std.specs.List.{range_with_len, list_any, list_all, position, position_or_len, zip}
pub use Rattle.std.specs.List.Sorted.{IsPermutation, IsSortedBy, IsStableBy, ties}
pub use Rattle.std.specs.Option.{option_map_or, option_copied}
pub use Rattle.std.specs.Ordering.{ordering_then}
pub use Rattle.std.specs.Prelude.{encode_utf8_all}
pub use Rattle.std.specs.declared.cmp.Reverse.{Reverse}
