-- How a suggestion is shown: as a value, by what its patches do.
use Rattle.std.specs.Prelude.{ℕ, nat_lt, nat_le, ◌==◌, ◌&&◌, ◌||◌, not, Bool, Option, Some, None, is_none, List, length, chars}
use Rattle.std.specs.Prelude.{if◌then◌else◌}
use Rattle.std.specs.Char.{is_whitespace}
use Rattle.std.specs.List.{list_all, list_any, slice_range}
use Rattle.std.specs.Str.{bytes_eq, trim}
use Rattle.snippet_lines.specs.Lines.{last_byte, lines_of}
use Rattle.snippet_splice.specs.Edits.{Edit}
use Rattle.snippet_splice.specs.Trim.{sandwich}
use Rattle.snippet_suggest.specs.declared.kind.DisplaySuggestion.{DisplaySuggestion}
use Rattle.snippet_suggest.specs.declared.kind.DisplaySuggestion.TheVariants.{Underline, Diff, Plain, Add}

-- whether a text is nothing but whitespace
abbrev pub is_blank_text : List ℕ → Bool
is_blank_text text = list_all is_whitespace (chars text)

-- whether a trimmed edit deletes or destroys text that isn't blank: its text is blank, or keeps less than all of that text, whitespace around
-- both apart. A span that isn't inside the source counts as such text, unless it is empty
abbrev pub takes_away : List ℕ → Edit → Bool
takes_away source e =
    let destroys : List ℕ → Bool = λ text. not (is_blank_text text) && (is_blank_text e.text || is_none (sandwich (trim text) (trim e.text))) in
    if nat_le e.end (length source) then destroys (slice_range source e.start e.end) else not (e.start == e.end)

-- the text of the source that an edit stands over, if its span is inside the source
abbrev pub text_under : List ℕ → Edit → Option (List ℕ)
text_under source e = if nat_le e.end (length source) then Some (slice_range source e.start e.end) else None

-- whether an edit stands over text that isn't blank, or over a span that isn't inside the source and isn't empty
abbrev pub is_under_text : Edit → Option (List ℕ) → Bool
is_under_text e None = not (e.start == e.end)
is_under_text e (Some text) = not (is_blank_text text)

-- whether a trimmed edit adds text, and stands over nothing but whitespace
abbrev pub adds_text : List ℕ → Edit → Bool
adds_text source e =
    nat_lt 0 (length e.text) && not (is_under_text e (text_under source e))

-- how these trimmed edits of a source are shown, if they give this text: as removed lines and one in their place where something
-- is taken away and there is at most one line; where just one edit gives all of it, whitespace around both apart, as new lines if it
-- ends with LF, and else as they are; as one line with marks where several edits or a part of one give that; else as the lines that
-- there are
abbrev pub kind_of : List ℕ → List Edit → List ℕ → DisplaySuggestion
kind_of source ts text =
    if nat_le (length (lines_of text)) 1 && list_any (takes_away source) ts then Diff
    else if length ts == 1 && list_all (λ e. bytes_eq (trim e.text) (trim text)) ts then (if list_any (λ e. last_byte e.text == 10) ts then Add else Plain)
    else if nat_le (length (lines_of text)) 1 then Underline
    else Plain
