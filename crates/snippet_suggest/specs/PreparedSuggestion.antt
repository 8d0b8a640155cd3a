-- What is known of a suggestion before any row is drawn.
use Rattle.std.specs.Prelude.{◌≡◌, ◌≢◌, ℕ, ◌+◌, ◌≤◌, [], All, length, map, List, ◌∷◌}
use Rattle.std.specs.String.{string_bytes}
use Rattle.std.specs.Cow.{cow_str_bytes}
use Rattle.std.specs.Str.{IsUtf8}
use Rattle.snippet_model.specs.declared.snippet.Snippet.{Snippet}
use Rattle.snippet_model.specs.declared.snippet.Patch.{Patch}
use Rattle.snippet_lines.specs.Lines.{source_lines}
use Rattle.snippet_lines.specs.IsSpan.{IsSpan}
use Rattle.snippet_splice.specs.Edits.{in_order}
use Rattle.snippet_splice.specs.EditStretches.{new_stretches, replaced_stretches}
use Rattle.snippet_splice.specs.StretchLines.{line_stretches}
use Rattle.snippet_splice.specs.FirstOverlap.{AreDisjoint}
use Rattle.snippet_splice.specs.TrimmedEdits.{edit_bounds, original_bounds_of, trimmed_edit_of}
use Rattle.snippet_suggest.specs.declared.prepared.PreparedSuggestion.{PreparedSuggestion}
use Rattle.snippet_suggest.specs.Given.{counted_line, edits_of, first_given, given_lines, given_ranges, given_text, shown_kind, trimmed_of}
use Rattle.snippet_parts.specs.Numbered.{numbered_source}
use Rattle.snippet_text.specs.TextBounds.{TextFits}
use Rattle.snippet_style.specs.Bounds.{IsUsize, max_usize}
use Rattle.snippet_splice.specs.declared.patches.TrimmedPatch.{TrimmedPatch}

-- what preparing a snippet of patches asks of it: that its source fits, that each patch has a span, that no two of them
-- overlap, and that there are numbers for the lines that it gives
pub record IsSuggestible (s : Snippet Patch) : Type 0 where
  pub source : TextFits (cow_str_bytes s.source.text)
  pub lines : IsUsize (s.line_start + length (source_lines (cow_str_bytes s.source.text)))
  pub spans : All (λ p. IsSpan (cow_str_bytes s.source.text) p.span.start p.span.end) s.markers.items
  pub disjoint : AreDisjoint (edits_of s)
  pub numbers : s.line_start + first_given s + length (given_lines s) ≤ max_usize + 1

-- what was prepared is that of its snippet, which has patches, and whose source is UTF-8, as each `str` is
pub record IsPrepared (p : PreparedSuggestion) : Type 0 where
  pub suggestible : IsSuggestible p.snippet.now
  pub utf8 : IsUtf8 (cow_str_bytes p.snippet.now.source.text)
  pub some : p.snippet.now.markers.items ≢ []
  pub lines : p.map ≡ numbered_source p.snippet.now
  pub text : string_bytes p.splice.complete ≡ given_text p.snippet.now
  pub edits : map trimmed_edit_of p.splice.patches.items ≡ trimmed_of p.snippet.now
  pub originals : map original_bounds_of p.splice.patches.items ≡ map edit_bounds (in_order (edits_of p.snippet.now))
  pub ranges : p.splice.ranges.items ≡ given_ranges p.snippet.now
  pub new : (k : ℕ)
      → line_stretches p.splice.highlights.items k ≡ new_stretches p.snippet.now.fold (cow_str_bytes p.snippet.now.source.text) (edits_of p.snippet.now) k
  pub replaced : (k : ℕ)
      → line_stretches p.splice.replaced_highlights.items k ≡ replaced_stretches p.snippet.now.fold (cow_str_bytes p.snippet.now.source.text)
      (edits_of p.snippet.now) k
  pub kind : p.kind ≡ shown_kind p.snippet.now
  pub counted : p.counted ≡ counted_line p.snippet.now

-- where the first of some patches started before it was trimmed, and where it ended
abbrev pub first_original : List TrimmedPatch → ℕ
first_original [] = 0
first_original (p ∷ ps) = p.original_span.start

abbrev pub first_original_end : List TrimmedPatch → ℕ
first_original_end [] = 0
first_original_end (p ∷ ps) = p.original_span.end
