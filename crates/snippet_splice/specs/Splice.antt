-- What is known of the part of a source that is shown with edits applied.
use Rattle.std.specs.Prelude.{◌≡◌, ◌≢◌, ℕ, ◌+◌, ◌<◌, ◌≤◌, Bool, List, [], All, length, map}
use Rattle.std.specs.String.{string_bytes}
use Rattle.snippet_lines.specs.Lines.{lines_of, source_lines, text_at}
use Rattle.snippet_lines.specs.IsSpan.{IsSpan}
use Rattle.snippet_splice.specs.declared.splice.SplicedLines.{SplicedLines}
use Rattle.snippet_splice.specs.Copied.{written_ranges}
use Rattle.snippet_splice.specs.Edits.{Edit, edited_from, in_order, patched, trimmed_edits}
use Rattle.snippet_splice.specs.ShownText.{first_start, shown_start, shown_text, without_final_line_feeds}
use Rattle.snippet_splice.specs.EditStretches.{new_stretches, replaced_stretches}
use Rattle.snippet_splice.specs.Spliced.{HasNoCr, IsBeforeFinalLf, IsTouched}
use Rattle.snippet_splice.specs.StretchLines.{line_stretches, num_replaced_lines, num_shown_lines}
use Rattle.snippet_splice.specs.Patched.{shown_line, AreFrom, line_ranges, ranges_from, spliced_text, texts_of}
use Rattle.snippet_splice.specs.TrimmedEdits.{edit_bounds, original_bounds_of, trimmed_edit_of}

-- the source holds no carriage return, and no edit, once it is trimmed, starts after a final line feed
pub record IsPlainSplice (source : List ℕ) (es : List Edit) : Type 0 where
  pub no_cr : HasNoCr source
  pub before : All (λ e. IsBeforeFinalLf source e.start) (trimmed_edits source es)

-- s is what is shown of the source, folded or not, with these edits applied
pub record IsSplice (source : List ℕ) (es : List Edit) (fold : Bool) (s : SplicedLines) : Type 0 where
  -- its patches are the trimmed edits, each with the bounds that it had, in order, and all of them spans of the source
  pub edits : map trimmed_edit_of s.patches.items ≡ trimmed_edits source es
  pub originals : map original_bounds_of s.patches.items ≡ map edit_bounds (in_order es)
  pub spans : All (λ p. IsSpan source p.span.start p.span.end) s.patches.items
  pub original_spans : All (λ p. IsSpan source p.original_span.start p.original_span.end) s.patches.items
  -- the trimmed patches, applied as they stand, give the patched source
  pub law : edited_from source 0 (map trimmed_edit_of s.patches.items) ≡ patched source es
  -- the text, also of sources with carriage returns
  pub value : string_bytes s.complete ≡ shown_text fold source es
  pub ended : without_final_line_feeds (string_bytes s.complete) ≡ string_bytes s.complete
  -- the lines of the text on which the replacements stand, also of sources with carriage returns
  pub written : s.ranges.items ≡ written_ranges source 0 (shown_start fold source (first_start (in_order es))) (trimmed_edits source es)
  -- the stretches of these lines that are written anew, also of sources with carriage returns
  pub stretches : (k : ℕ) → line_stretches s.highlights.items k ≡ new_stretches fold source es k
  -- of as many lines as the text has before the line feeds that end it are taken away
  pub highlighted : length s.highlights.items ≡ num_shown_lines fold source es
  -- and those of the source's lines, from the first that is shown on, that are replaced
  pub replaced : (k : ℕ) → line_stretches s.replaced_highlights.items k ≡ replaced_stretches fold source es k
  pub replaced_lines : length s.replaced_highlights.items ≡ num_replaced_lines fold source es
  -- the same in the words of the patched source
  pub text : IsPlainSplice source es → string_bytes s.complete ≡ spliced_text fold source es
  pub ranges : IsPlainSplice source es → ranges_from (shown_line fold source es) s.ranges.items ≡ line_ranges source es
  -- its lines are lines of the patched source, one after the other from the first that is shown on
  pub lines : IsPlainSplice source es → All (λ e. HasNoCr e.text) es
      → AreFrom (shown_line fold source es) (texts_of (lines_of (string_bytes s.complete))) (texts_of (source_lines (patched source es)))
  -- each line of the patched source that an edit touches is among them, if it isn't empty
  pub touched : IsPlainSplice source es → (j : ℕ) → IsTouched source es j → text_at (source_lines (patched source es)) j ≢ []
      → (shown_line fold source es ≤ j) × (j < shown_line fold source es + length (lines_of (string_bytes s.complete)))
