-- What a snippet of patches gives: the lines that are shown of the patched source, the lines of the source that are removed, and the
-- number that it counts for the gutter's width.
use Rattle.std.specs.Prelude.{ℕ, ◌+◌, ◌-◌, ◌==◌, ◌||◌, Bool, false, List, [], ◌∷◌, All, count_by, fold, length, map, sum_by, take, if◌then◌else◌}
use Rattle.std.specs.Cow.{cow_str_bytes}
use Rattle.std.specs.List.{range_with_len, slice_index_or}
use Rattle.std.specs.Str.{bytes_eq}
use Rattle.snippet_model.specs.declared.snippet.Snippet.{Snippet}
use Rattle.snippet_model.specs.declared.snippet.Patch.{Patch}
use Rattle.snippet_lines.specs.Lines.{lines_of, source_lines, start_of, text_at, newline_count}
use Rattle.snippet_lines.specs.Place.{line_of}
use Rattle.snippet_splice.specs.declared.splice.LineRange.{LineRange}
use Rattle.snippet_splice.specs.Copied.{written_ranges}
use Rattle.snippet_splice.specs.Edits.{Edit, in_order, trimmed_edit}
use Rattle.snippet_splice.specs.ShownText.{first_start, shown_text}
use Rattle.snippet_splice.specs.Spliced.{HasNoCr, IsBeforeFinalLf, last_line_reached}
use Rattle.snippet_suggest.specs.declared.kind.DisplaySuggestion.{DisplaySuggestion}
use Rattle.snippet_suggest.specs.declared.kind.DisplaySuggestion.TheVariants.{Underline, Diff}
use Rattle.snippet_suggest.specs.Kind.{is_blank_text, kind_of}
use Rattle.snippet_suggest.specs.SuggestedLines.{is_touched}

-- how many lines some patches may add: the line feeds of their replacements
abbrev pub added_lines : List Patch → ℕ
added_lines patches = sum_by (λ p. count_by (λ b. b == 10) (cow_str_bytes p.replacement)) patches

-- the edits that its patches stand for, as they are given, and trimmed
abbrev pub edits_of : Snippet Patch → List Edit
edits_of s = map (λ (p : Patch). record { start = p.span.start; end = p.span.end; text = cow_str_bytes p.replacement }) s.markers.items

abbrev pub trimmed_of : Snippet Patch → List Edit
trimmed_of s = map (trimmed_edit (cow_str_bytes s.source.text)) (in_order (edits_of s))

-- the text that is shown of the patched source
abbrev pub given_text : Snippet Patch → List ℕ
given_text s = shown_text s.fold (cow_str_bytes s.source.text) (edits_of s)

-- the lines of the text that is shown of the patched source
abbrev pub given_lines : Snippet Patch → List (List ℕ)
given_lines s = map (λ l. l.0) (lines_of (given_text s))

-- which line of the patched source the first of them is: where lines are folded that on which the first edit starts
abbrev pub first_given : Snippet Patch → ℕ
first_given s = if s.fold then line_of (source_lines (cow_str_bytes s.source.text)) (first_start (in_order (edits_of s))) else 0

-- for each trimmed patch the lines among them on which its text stands; they begin where the first of them does
abbrev pub given_ranges : Snippet Patch → List LineRange
given_ranges s =
    let lines = source_lines (cow_str_bytes s.source.text) in
    let start = if s.fold then start_of lines (line_of lines (first_start (in_order (edits_of s)))) else 0 in
    written_ranges (cow_str_bytes s.source.text) 0 start (trimmed_of s)

-- how they are shown
abbrev pub shown_kind : Snippet Patch → DisplaySuggestion
shown_kind s = kind_of (cow_str_bytes s.source.text) (trimmed_of s) (given_text s)

-- the text of the last source line that is reached
abbrev pub last_reached : Snippet Patch → List ℕ
last_reached s =
    text_at (source_lines (cow_str_bytes s.source.text)) (last_line_reached (cow_str_bytes s.source.text) (edits_of s))

-- whether one line, in place of the lines that are removed, isn't shown: it is blank, or the same as the last of them
abbrev pub is_left_out : DisplaySuggestion → List (List ℕ) → List ℕ → Bool
is_left_out Diff lines last =
    is_blank_text (slice_index_or lines 0 []) || bytes_eq (slice_index_or lines 0 []) last
is_left_out kind lines last = false

-- the lines of a source from the one that holds a byte to the one that holds another
abbrev pub lines_touched : List ℕ → ℕ → ℕ → List ℕ
lines_touched source start end =
    let ls = source_lines source in
    range_with_len (line_of ls start) (line_of ls end + 1 - line_of ls start)

-- where the first of some edits ends
abbrev pub first_end : List Edit → ℕ
first_end [] = 0
first_end (e ∷ es) = e.end

-- the lines that are removed where nothing stands in their place: folded those of the first span, as it is given; unfolded all
abbrev pub emptied_lines : Snippet Patch → List ℕ
emptied_lines s =
    let source = cow_str_bytes s.source.text in
    if s.fold then lines_touched source (first_start (in_order (edits_of s))) (first_end (in_order (edits_of s))) else lines_touched source 0 (length source)

-- the lines that are removed where one line stands in their place: from the one on which the first trimmed patch starts to the one on which
-- the last ends, without this if it is the same as the line in their place; but none if no patch touches that
abbrev pub replaced_lines : Snippet Patch → List ℕ
replaced_lines s =
    let lines = lines_touched (cow_str_bytes s.source.text) (first_start (trimmed_of s)) (fold (λ before e. e.end) 0 (trimmed_of s)) in
    let stays = bytes_eq (slice_index_or (given_lines s) 0 []) (last_reached s) in
    if is_touched s.fold (given_ranges s) 0 then (if stays then take (length lines - 1) lines else lines) else []

-- which lines of the source a suggestion shows as removed: where none is given in their place, those of the first span, or all; in a diff
-- those in whose place one line stands; and else none
abbrev pub removed_lines : Snippet Patch → List ℕ
removed_lines s =
    elim (given_lines s) [ [] ↦ emptied_lines s | line ∷ lines ↦ elim (shown_kind s) [ Diff ↦ replaced_lines s | kind ↦ [] ] ]

-- what the promise on offered lines asks of a snippet: no CR in its source and its replacements, and no trimmed patch that
-- starts after an LF that ends the source
pub record IsOfferable (s : Snippet Patch) : Type 0 where
  pub no_cr : HasNoCr (cow_str_bytes s.source.text)
  pub no_cr_in : All (λ e. HasNoCr e.text) (edits_of s)
  pub before : All (λ e. IsBeforeFinalLf (cow_str_bytes s.source.text) e.start) (trimmed_of s)

-- the line number that a suggestion counts for the gutter's width: that of the last line; but where lines are folded, of one line its own,
-- and in a diff that of the last line that the first patch takes away
abbrev pub counted_line : Snippet Patch → ℕ
counted_line s =
    let first = s.line_start + first_given s in
    let removed = s.line_start + line_of (source_lines (cow_str_bytes s.source.text)) (first_end (trimmed_of s)) in
    let last = first + newline_count (given_text s) in
    if s.fold then elim (shown_kind s) [ Underline ↦ first | Diff ↦ removed | kind ↦ last ] else last
