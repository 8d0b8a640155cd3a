-- Which lines of a snippet are kept, so that they are shown.
use Rattle.std.specs.Prelude.{ℕ, ◌+◌, ◌-◌, ◌==◌, ◌&&◌, ◌||◌, nat_lt, min, Bool, false, not, List, [], ◌∷◌, chars, length, filter, if◌then◌else◌}
use Rattle.std.specs.List.{list_any, range_with_len}
use Rattle.std.specs.Str.{drop_trailing_whitespace, skip_leading_whitespace}
use Rattle.snippet_model.specs.declared.snippet.Annotation.{Annotation}
use Rattle.snippet_lines.specs.Lines.{source_lines, text_at}
use Rattle.snippet_parts.specs.Marked.{first_line, last_line}
use Rattle.snippet_parts.specs.Mark.{is_marking, touches}

-- whether a text is one of the six brackets ( ) [ ] { }
abbrev pub is_bracket : List ℕ → Bool
is_bracket (c ∷ []) = c == 40 || c == 41 || c == 91 || c == 93 || c == 123 || c == 125
is_bracket cs = false

-- whether a text begins with two slashes, and then neither a third one nor an exclamation mark
abbrev pub is_comment : List ℕ → Bool
is_comment (c ∷ d ∷ []) = c == 47 && d == 47
is_comment (c ∷ d ∷ e ∷ cs) = c == 47 && d == 47 && not (e == 47 || e == 33)
is_comment cs = false

-- whether a line says little: without the whitespace at either end it is nothing, a bracket, or a comment
abbrev pub is_trivial : List ℕ → Bool
is_trivial line =
    let text = drop_trailing_whitespace (skip_leading_whitespace line) in
    length text == 0 || is_bracket text || is_comment text

-- whether line k of a source is trivial
abbrev pub is_trivial_line : List ℕ → ℕ → Bool
is_trivial_line source k = is_trivial (chars (text_at (source_lines source) k))

-- whether a span from a first line to a last one has a bar beside line k between them: of the three lines after the first those up
-- to the last one that isn't trivial have one, and so has the line before the last, if it isn't trivial and stands five lines or
-- more after the first
abbrev pub has_bar : List ℕ → ℕ → ℕ → ℕ → Bool
has_bar source first last k =
    list_any (λ j. not (is_trivial_line source j)) (range_with_len k (min (first + 4) last - k))
    || (k + 1 == last && nat_lt (first + 4) k && not (is_trivial_line source k))

-- whether a span keeps line k: its first and its last line, each line of a `Visible` span, and else those with a bar
abbrev pub keeps : List ℕ → ℕ → Annotation → Bool
keeps source k a =
    let first = first_line source a in
    let last = last_line source a in
    touches source a k && (k == first || k == last || not (is_marking a.kind) || has_bar source first last k)

-- the lines of a snippet that are kept: those that a span keeps, and all where lines aren't folded
abbrev pub kept_lines : Bool → List ℕ → List Annotation → List ℕ
kept_lines fold source marks = filter (λ k. not fold || list_any (keeps source k) marks) (range_with_len 0 (length (source_lines source)))

-- some lines, and each single line between two of them
abbrev pub with_between : List ℕ → List ℕ
with_between (j ∷ k ∷ ks) = if k == j + 2 then j ∷ (j + 1) ∷ with_between (k ∷ ks) else j ∷ with_between (k ∷ ks)
with_between ks = ks

-- the lines of a snippet that are shown: those that are kept, and each single line between two of them
abbrev pub shown_lines : Bool → List ℕ → List Annotation → List ℕ
shown_lines fold source marks = with_between (kept_lines fold source marks)
