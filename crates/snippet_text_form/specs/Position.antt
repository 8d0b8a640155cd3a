-- How the text form names a place.
use Rattle.std.specs.Prelude.{ℕ, Bool, List, ◌++◌, Option, None, Some, chars, codes}
use Rattle.std.specs.Fmt.{decimal}
use Rattle.snippet_text.specs.Normalized.{norm}
use Rattle.snippet_titles.specs.Origin.{column_text, line_name}

-- a column in words, where there is one
abbrev pub column_words : Option ℕ → List ℕ
column_words None = codes ""
column_words (Some column) = codes ", column " ++ decimal column

-- what stands after a path: the line, and after that the column; without a line the column in words
abbrev pub after_path : Bool → Option ℕ → Option ℕ → List ℕ
after_path anonymized None column = column_words column
after_path anonymized (Some line) column = codes ":" ++ line_name anonymized line ++ column_text column

-- a place in a file: `at`, the path, normalised, and the line and the column, as far as they are there
abbrev pub place_in_file : Bool → List ℕ → Option ℕ → Option ℕ → List ℕ
place_in_file anonymized path line column =
    codes "at " ++ norm (chars path) ++ after_path anonymized line column

-- a place without a path: `on line`, the line, and the column, where there is one
abbrev pub place_on_line : Bool → ℕ → Option ℕ → List ℕ
place_on_line anonymized line column =
    codes "on line " ++ line_name anonymized line ++ column_words column

-- a later line at which something ends, after the place at which it starts, and the column there, if it is named
abbrev pub to_line : Bool → ℕ → Option ℕ → List ℕ
to_line anonymized line column =
    codes " to line " ++ line_name anonymized line ++ column_words column

-- a place on a line: in a file, if there is a path
abbrev pub place : Bool → Option (List ℕ) → ℕ → Option ℕ → List ℕ
place anonymized None line column = place_on_line anonymized line column
place anonymized (Some path) line column = place_in_file anonymized path (Some line) column
