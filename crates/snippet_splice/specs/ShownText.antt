-- The text that is shown of the patched source, as it is written.
use Rattle.std.specs.Prelude.{ℕ, ◌==◌, Bool, false, None, List, [], ◌∷◌, ◌++◌, drop, if◌then◌else◌}
use Rattle.std.specs.List.{last_or}
use Rattle.std.specs.Option.{option_map_or}
use Rattle.snippet_lines.specs.Lines.{source_lines, start_of, text_at, last_byte, is_lf}
use Rattle.snippet_lines.specs.Place.{line_of}
use Rattle.snippet_splice.specs.Edits.{Edit, in_order, trimmed_edits}
use Rattle.snippet_splice.specs.Copied.{written_from, end_from}

-- where the first of some edits starts
abbrev pub first_start : List Edit → ℕ
first_start [] = 0
first_start (e ∷ es) = e.start

-- whether the last of some edits closes its line: its text ends with LF
abbrev pub closes_line : List Edit → Bool
closes_line es = option_map_or (λ e. last_byte e.text == 10) (last_or None es) false

-- the byte of the source from which on the patched source is shown, if the first edit starts at this one: folded the start of its line
abbrev pub shown_start : Bool → List ℕ → ℕ → ℕ
shown_start fold source first =
    if fold then start_of (source_lines source) (line_of (source_lines source) first) else 0

-- what is shown of the source after the last edit: folded the rest of its line, if the edit doesn't close it
abbrev pub shown_rest : Bool → Bool → List ℕ → List ℕ
shown_rest fold closed rest = if fold then (if closed then [] else text_at (source_lines rest) 0) else rest

-- a byte in front of a text, but nothing where it is a line feed and the text is empty
abbrev pub unless_lone_line_feed : ℕ → List ℕ → List ℕ
unless_lone_line_feed b [] = if is_lf b then [] else b ∷ []
unless_lone_line_feed b (c ∷ cs) = b ∷ c ∷ cs

-- a text without the LF that end it
abbrev pub without_final_line_feeds : List ℕ → List ℕ
without_final_line_feeds [] = []
without_final_line_feeds (b ∷ bs) = unless_lone_line_feed b (without_final_line_feeds bs)

-- the text that is shown
unfoldable pub shown_text : Bool → List ℕ → List Edit → List ℕ
shown_text fold source es =
    let ts = trimmed_edits source es in
    let start = shown_start fold source (first_start (in_order es)) in
    without_final_line_feeds (written_from source start ts ++ shown_rest fold (closes_line ts) (drop (end_from start ts) source))
